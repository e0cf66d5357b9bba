use Rattle.std.proofs.Common.{◌≡◌, ◌∙◌, None, sym, subst}
use Rattle.hb_wire.specs.Varint.{AreBytes}
use Rattle.hb_schema.specs.Faults.{row_fault}
use Rattle.hb_schema.specs.Reading.{reads}
use Rattle.hb_schema.specs.Fits.{Fits}
use Rattle.hb_schema.specs.Steps.{merged}
use Rattle.hb_schema.proofs.Cleaning.{read_is}
use Rattle.hb_schema.proofs.Fitting.{read_fits}
use Rattle.hb_schema.proofs.Answered.{answers_more, value_has}
use Rattle.hb_schema.proofs.message.read.Goals as goal

pub returns-clause-reads : goal.returns-clause-reads
returns-clause-reads g c =
    let row = g.M.Message.shape in
    let bytes = c.args.bytes.now in
    let are : AreBytes bytes = λ i. (c.type_inv.bytes i).fits in
    answers_more c.fresh.result (row_fault row 0 bytes) (λ m. g.M.Message.view m ≡ merged row None bytes) (λ m. g.M.Message.view m ≡ reads row bytes)
    (λ m none is. is ∙ read_is row g.met.M.Message.is_row 0 bytes are none) c.fresh.ensures

pub returns-clause-fits : goal.returns-clause-fits
returns-clause-fits g c =
    let row = g.M.Message.shape in
    let bytes = c.args.bytes.now in
    let are : AreBytes bytes = λ i. (c.type_inv.bytes i).fits in
    value_has c.fresh.result (row_fault row 0 bytes) (λ m. g.M.Message.view m ≡ merged row None bytes) (λ m. Fits row (g.M.Message.view m))
    (λ m none is. subst (Fits row) (sym (is ∙ read_is row g.met.M.Message.is_row 0 bytes are none)) (read_fits row g.met.M.Message.is_row 0 bytes are none)) c.fresh.ensures
