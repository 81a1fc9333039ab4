-- Each refusal where its question is the first that is answered no, and else the text's pair.
use Rattle.std.proofs.Common.{length-drop, ap, length, arith}
use Rattle.std.proofs.lemmas.Result.{err_from_is_err_and}
use Rattle.constraints.proofs.Tables.{holds_sized}
use Rattle.constraints.proofs.Answered.{no_6, no_record, scanned_no, scanned_all, delivered_is}
use Rattle.constraints.proofs.read.Goals as goal

pub returns-then-not-has_header : goal.returns-then-not-has_header
returns-then-not-has_header c = no_6 _ _ c.if-not-has_header.ensures

pub read_records-requires-clause-text_is_short : goal.read_records-requires-clause-text_is_short
read_records-requires-clause-text_is_short c =
    omega (arith, ap length c.skip.ensures, length-drop 19 c.args.text.now, c.if-not-has_header.ensures.0)

pub returns-in_err-read_records : goal.returns-in_err-read_records
returns-in_err-read_records c =
    let p = err_from_is_err_and c.from_residual.result c.from_residual.ensures.1 in
    let asked = c.if-not-has_header.ensures in
    rw (p.1, p.2) (no_record _ _ asked _ (scanned_no _ asked _ c.skip.ensures _ c.in_err-read_records.ensures))

pub deliver-requires : goal.deliver-requires
deliver-requires c = holds_sized _ _ c.in_ok-read_records.ensures.1

pub returns : goal.returns
returns c =
    let asked = c.if-not-has_header.ensures in
    delivered_is _ _ asked _ (scanned_all _ asked _ c.skip.ensures _ c.in_ok-read_records.ensures) _ _ c.deliver.ensures
