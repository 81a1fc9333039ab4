-- Without ceilings the questions on the lists decide, and else closing's answer.
use Rattle.std.specs.Prelude.{Err}
use Rattle.std.proofs.lemmas.Result.{err_from_is_err_and}
use Rattle.laws.proofs.Base.{sym, ap, ◌∙◌}
use Rattle.bounds.proofs.Said.{yes_from, no_from}
use Rattle.monitor.proofs.Opening.{first_no, without_ceilings, from_closing}
use Rattle.monitor.proofs.start.ask.Goals as goal

pub returns-in_err-ask : goal.returns-in_err-ask
returns-in_err-ask c =
    let told = err_from_is_err_and c.from_residual.result c.from_residual.ensures.1 in
    rw (told.1, told.2) (record { answer = first_no _ _ (no_from _ _ (sym c.in_err-ask.ensures)); closed = c.requires })

pub returns-then-curves : goal.returns-then-curves
returns-then-curves c =
    let p = c.args.curves in
    without_ceilings p.upper.now p.lower.now p.unlimited _ c.if-curves.true (yes_from _ (sym c.in_ok-ask.ensures))

pub returns-in-Ok : goal.returns-in-Ok
returns-in-Ok c =
    let p = c.args.curves in
    from_closing p.upper.now p.lower.now p.unlimited _ _ _ _ c.if-curves.false c.requires c.close.ensures c.in-Ok.is

pub returns-in-Err-Pair : goal.returns-in-Err-Pair
returns-in-Err-Pair c =
    let p = c.args.curves in
    let arm = c.in-Err-Pair in
    from_closing p.upper.now p.lower.now p.unlimited _ _ _ _ c.if-curves.false c.requires c.close.ensures
    (arm.is ∙ ap Err arm.field-0-is)

pub returns-in-Err-NoClosure : goal.returns-in-Err-NoClosure
returns-in-Err-NoClosure c =
    let p = c.args.curves in
    let arm = c.in-Err-NoClosure in
    from_closing p.upper.now p.lower.now p.unlimited _ _ _ _ c.if-curves.false c.requires c.close.ensures
    (arm.is ∙ ap Err arm.field-0-is)

pub unreachable-requires : goal.unreachable-requires
unreachable-requires c =
    let p = c.args.curves in
    let arm = c.in-Err-ResultLength in
    from_closing p.upper.now p.lower.now p.unlimited _ _ _ _ c.if-curves.false c.requires c.close.ensures
    (arm.is ∙ ap Err arm.field-0-is)
