-- The questions on a pair decide, and then whether it is its own closure.
use Rattle.std.proofs.lemmas.Result.{err_from_is_err_and}
use Rattle.laws.proofs.Base.{sym}
use Rattle.bounds.proofs.Said.{yes_from, no_from}
use Rattle.generator.proofs.Opening.{opening_yes, opening_fifteenth, first_no}
use Rattle.generator.proofs.ask_opening.Goals as goal

pub returns-in_err-ask : goal.returns-in_err-ask
returns-in_err-ask c =
    let told = err_from_is_err_and c.from_residual.result c.from_residual.ensures.1 in
    rw (told.1, told.2) (first_no _ _ (no_from _ _ (sym c.in_err-ask.ensures)))

pub is_closed-requires : goal.is_closed-requires
is_closed-requires c = yes_from _ (sym c.in_ok-ask.ensures)

pub returns-then-is_closed : goal.returns-then-is_closed
returns-then-is_closed c = opening_yes _ (yes_from _ (sym c.in_ok-ask.ensures)) c.if-is_closed.ensures

pub returns-else-is_closed : goal.returns-else-is_closed
returns-else-is_closed c = opening_fifteenth _ (yes_from _ (sym c.in_ok-ask.ensures)) c.if-is_closed.ensures
