-- What the words of a command mean.
use Rattle.std.specs.Prelude.{ℕ, ◌&&◌, nat_le, List, [], ◌∷◌, codes, bytes_eq, Option, Some, None, option_map, if◌then◌else◌}
use Rattle.hb_api.specs.declared.request.GetFlowsRequest.{GetFlowsRequest}
use Rattle.hb_words.specs.declared.job.Job.{Job}
use Rattle.hb_words.specs.declared.job.Job.TheVariants as means
use Rattle.hb_words.specs.declared.job.Observe.{Observe}
use Rattle.hb_words.specs.Limits.{largest_ring, ring_size}
use Rattle.hb_words.specs.Options.{are_options, value}
use Rattle.hb_words.specs.Values.{capacity, slot, node, request, is_frames}

-- FILE with what its options say, where each says something and the ring is not too large
abbrev pub observe_of :
    List ℕ → Option ℕ → Option ℕ → Option (List ℕ) → Option GetFlowsRequest → Option Observe
observe_of file (Some capacity) (Some slot) (Some node) (Some request) =
    if nat_le (ring_size capacity slot) largest_ring
    then Some (record {
      file = file;
      capacity = capacity;
      slot = slot;
      node = node;
      request = request;
    })
    else None
observe_of file _ _ _ _ = None

-- FILE with these options
abbrev pub observe_with : List ℕ → List (List ℕ) → Option Observe
observe_with file options = observe_of file
    (capacity (value (codes "--capacity") options)) (slot (value (codes "--slot") options))
    (node (value (codes "--node") options))
    (request (value (codes "--last") options) (value (codes "--first") options))

-- FILE, and options among which --output frames stands
abbrev pub observe : List (List ℕ) → Option Observe
observe [] = None
observe (file ∷ options) = if are_options options && is_frames (value (codes "--output") options)
    then observe_with file options else None

-- the job of a command's words, or none
abbrev pub job : List (List ℕ) → Option Job
job [] = None
job (command ∷ words) =
    if bytes_eq command (codes "observe") then option_map means.Observe (observe words) else None
