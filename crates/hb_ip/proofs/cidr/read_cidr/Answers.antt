use Rattle.std.proofs.Common.{◌≡◌, arith, ap, ◌∙◌, lit≤, refl, None, ◌<◌}
use Rattle.std.proofs.lemmas.Str.Pattern.{split_parts}
use Rattle.hb_ip.specs.Blocks.{width}
use Rattle.hb_ip.proofs.Blocks.{parts_of, no_block, one_block}
use Rattle.hb_ip.proofs.cidr.read_cidr.Goals as goal

pub returns-in_err-front : goal.returns-in_err-front
returns-in_err-front c = record {
  exact =
      no_block c.args.text.now c.from_residual.result c.from_residual.ensures
      (λ block k. rw c.in_err-front.was at (parts_of c.args.text.now block c.split_once.result c.split_once.ensures.cases k).parts);
}

pub returns-in_err-addr : goal.returns-in_err-addr
returns-in_err-addr c = record {
  exact =
      no_block c.args.text.now c.from_residual-in_err-addr.result c.from_residual-in_err-addr.ensures
      (λ block k.
      let parts = rw c.in_ok-front.was at (parts_of c.args.text.now block c.split_once.result c.split_once.ensures.cases k).parts in
      let e = (c.read_addr.ensures.exact block.addr).1 parts.0 in
      let none = c.in_err-addr.was in absurd cc);
}

pub returns-in_err-length : goal.returns-in_err-length
returns-in_err-length c = record {
  exact =
      no_block c.args.text.now c.from_residual-in_err-length.result c.from_residual-in_err-length.ensures
      (λ block k.
      let h = parts_of c.args.text.now block c.split_once.result c.split_once.ensures.cases k in
      let parts = rw c.in_ok-front.was at h.parts in
      let e = (c.read_length.ensures.exact block.length h.small).1 parts.1 in
      let none = c.in_err-length.was in absurd cc);
}

pub returns-then-length-width_of : goal.returns-then-length-width_of
returns-then-length-width_of c = record {
  exact =
      no_block c.args.text.now None refl
      (λ block k.
      let h = parts_of c.args.text.now block c.split_once.result c.split_once.ensures.cases k in
      let parts = rw c.in_ok-front.was at h.parts in
      let a = (c.read_addr.ensures.exact block.addr).1 parts.0 in
      let l = (c.read_length.ensures.exact block.length h.small).1 parts.1 in
      let addr = c.in_ok-addr.was in
      let length = c.in_ok-length.was in
      let same : c.in_ok-addr.addr ≡ block.addr = cc in
      let long : c.in_ok-length.length ≡ block.length = cc in
      let within = k.within in
      let wide = c.width_of.ensures ∙ ap width same in
      let over = c.if-length-width_of.true in
      absurd (omega arith));
}

pub returns : goal.returns
returns c =
    let cut = rw c.in_ok-front.was at (split_parts 47 c.args.text.now c.split_once.result c.split_once.ensures.cases (lit≤ tt)) in
    let addr = c.in_ok-addr.was in
    let length = c.in_ok-length.was in
    let fits : c.in_ok-length.length < 256 = omega arith in
    let wide = c.width_of.ensures in
    let most = c.if-length-width_of.false in
    record {
      exact =
          one_block c.args.text.now c.in_ok-front.front c.in_ok-front.back (record { addr = c.in_ok-addr.addr; length = c.in_ok-length.length }) cut.0
          ((c.read_addr.ensures.exact c.in_ok-addr.addr).0 addr) ((c.read_length.ensures.exact c.in_ok-length.length fits).0 length) (omega arith)
          (λ other k.
          let h = parts_of c.args.text.now other c.split_once.result c.split_once.ensures.cases k in
          let parts = rw c.in_ok-front.was at h.parts in
          let a = (c.read_addr.ensures.exact other.addr).1 parts.0 in
          let l = (c.read_length.ensures.exact other.length h.small).1 parts.1 in (cc, cc));
    }
