-- What opening a history promises, and asking question 12 of its numbers and arrays.
use Rattle.std.specs.Prelude.{ℕ, ◌≡◌, Bool, List, Result}
use Rattle.curves.specs.Unlimited.{AnyPair}
use Rattle.bounds.specs.Answers.{asked_reply}
use Rattle.history.specs.declared.OpenedHistory.{OpenedHistory}
use Rattle.history.specs.declared.BadState.{BadState}
use Rattle.history.specs.States.{history_of, view_of, legality}
use Rattle.history.specs.Opening.{opening, Begun}
use Rattle.history.specs.Answers.{legality_reply}

pub record HistoryOpened (p : AnyPair) (r : OpenedHistory) : Type 0 where
  pub answer : asked_reply r.opening ≡ opening p
  pub history : Begun (opening p) p r.history

-- The answer is that of every history with these numbers and figures and this mark, whatever its ticks.
pub record LegalityAsked (h : ℕ) (us ls : List ℕ) (b : Bool) (k : ℕ) (r : Result (Unit {0}) BadState) : Type 0 where
  pub answer : (xs : List ℕ) → legality_reply r ≡ legality (view_of (history_of h us ls b k xs))
