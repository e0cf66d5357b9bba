use Rattle.std.proofs.Common.{◌≡◌, Some, ◌↔◌, decimal, subst, sym, ◌∙◌}
use Rattle.hb_ip.specs.Blocks.{IsPlain}
use Rattle.hb_ip.proofs.Lengths.{plain_decimal, exact_length}
use Rattle.hb_ip.proofs.cidr.read_length.Goals as goal

pub returns-then-not-is_plain : goal.returns-then-not-is_plain
returns-then-not-is_plain c = record {
  exact = λ n fits. (
    λ e. absurd cc,
    λ e.
        let plain = subst IsPlain (sym (c.as_bytes.ensures.value ∙ e)) (plain_decimal n fits) in
        let kept = c.is_plain.ensures.1 plain in
        let refused = c.if-not-is_plain.true in
        absurd cc,
  );
}

pub returns : goal.returns
returns c = record {
  exact = λ n fits.
      let plain = subst IsPlain c.as_bytes.ensures.value (c.is_plain.ensures.0 c.if-not-is_plain.false) in
      subst (λ r. (r ≡ Some n) ↔ (c.args.text.now ≡ decimal n)) (sym c.ok.ensures.value)
      (exact_length c.args.text.now c.parse.result plain c.parse.ensures.value.0 n fits);
}
