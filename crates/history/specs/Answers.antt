-- What results of operations on a history answer; the number of `BadState` is document 01's 12.
use Rattle.std.specs.Prelude.{Result}
use Rattle.curves.specs.Questions.{Reply, reply_of}
use Rattle.bounds.specs.Answers.{curves_in}
use Rattle.history.specs.declared.BadState.{BadState}
use Rattle.history.specs.declared.View as declared
use Rattle.history.specs.States.{View}

abbrev pub legality_reply : Result (Unit {0}) BadState → Reply (Unit {0})
legality_reply r = reply_of (λ u. u) (λ _. 12) r

-- The view in slices.
abbrev pub view_in : declared.View → View
view_in w = record { pair = curves_in w.curves; held = w.ticks.now }

abbrev pub view_reply : Result declared.View BadState → Reply View
view_reply r = reply_of view_in (λ _. 12) r
