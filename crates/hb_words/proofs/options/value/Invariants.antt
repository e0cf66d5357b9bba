use Rattle.std.proofs.Common.{◌≡◌, length, map, string_bytes}
use Rattle.hb_words.specs.Options as spec
use Rattle.hb_words.proofs.options.value.Given as goal

-- the rest has the value that all options have
abbrev pub invariant-loop-rest : goal.invariant-loop-rest
invariant-loop-rest l = record { same : spec.value l.name (map string_bytes l.rest) ≡ spec.value l.name (map string_bytes l.options) }

abbrev pub decreases-loop-rest : goal.decreases-loop-rest
decreases-loop-rest l = length l.rest
