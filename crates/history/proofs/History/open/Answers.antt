-- The answer is that of the questions, and the history follows from it.
use Rattle.laws.proofs.Base.{sym}
use Rattle.bounds.proofs.Said.{yes_from}
use Rattle.history.proofs.Histories.{begun_fresh, begun_zero}
use Rattle.history.proofs.History.open.Goals as goal

pub unbegun-history-requires : goal.unbegun-history-requires
unbegun-history-requires c = yes_from _ (sym c.in-Ok.ensures)

pub returns-in-Ok : goal.returns-in-Ok
returns-in-Ok c =
    record { answer = c.ask-opening.ensures; history = begun_fresh _ _ c.in-Ok.ensures c.unbegun-history.ensures }

pub returns-in-Err : goal.returns-in-Err
returns-in-Err c =
    record { answer = c.ask-opening.ensures; history = begun_zero _ _ _ c.in-Err.ensures c.zero-history.ensures }
