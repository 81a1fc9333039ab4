-- States (document 01, "Monitor and maker"): the view of one, which is all that is compared and has an effect, and question 12.
use Rattle.std.specs.Prelude.{ℕ, ◌-◌, ◌<◌, Bool, List, [], ◌∷◌, length}
use mathlib.Core.Logic.Dec.{and as dec_and}
use Rattle.std.proofs.Math.Decide.{dec_lt}
use Rattle.laws.specs.Ranges.{table}
use Rattle.curves.specs.Pairs.{horizon, figure}
use Rattle.curves.specs.Unlimited.{AnyPair, with_mark, curves_of}
use Rattle.curves.specs.Ticks.{then, newest}
use Rattle.curves.specs.Questions.{Question, Reply, reply_to}
use Rattle.bounds.specs.Bounds.{question1, question4}
use Rattle.history.specs.declared.History.{History}

-- The view of a history, and of a generator's state: the pair, and the held ticks in stream order.
pub record View : Type 0 where
  pub pair : AnyPair
  pub held : List ℕ

-- A history of a horizon, figures (upper, lower), the pair's mark, a number of held ticks and an array of them.
abbrev pub history_of : ℕ → List ℕ → List ℕ → Bool → ℕ → List ℕ → History
history_of h us ls b k xs = record { horizon = h; upper = us; lower = ls; unlimited = b; held = k; ticks = xs }

-- The first n entries of an array; one that it does not have counts as 0, and none after them counts.
abbrev pub entries : ℕ → List ℕ → List ℕ
entries n xs = table (figure 0 xs) n

-- Without ceilings, what stands in their array has no part in the view.
abbrev pub view_of : History → View
view_of h =
    record {
      pair = with_mark (entries h.horizon h.upper) (entries h.horizon h.lower) h.unlimited;
      held = entries h.held h.ticks;
    }

-- A tick with the count x is added: the last H − 1 ticks are held.
abbrev pub added : View → ℕ → View
added v x = record { pair = v.pair; held = newest (horizon (curves_of v.pair) - 1) (then v.held x) }

-- 12. The state has a horizon of 1 to 256, no figure above the limit, and fewer held ticks than its horizon.
pub record Legal (v : View) : Type 0 where
  pub lengths : (question1 v.pair).asked
  pub figures : (question4 v.pair).asked
  pub fewer : length v.held < horizon (curves_of v.pair)

unfoldable pub legal? : (v : View) → Dec (Legal v)
legal? v =
    elim (dec_and (question1 v.pair).answered
    (dec_and (question4 v.pair).answered (dec_lt (length v.held) (horizon (curves_of v.pair))))) [
      | yes h ↦ yes (record { lengths = h.0; figures = h.1.0; fewer = h.1.1 })
      | no h ↦ no (λ l. h (l.lengths, (l.figures, l.fewer)))
    ]

abbrev pub question12 : View → Question
question12 v = record { number = 12; asked = Legal v; answered = legal? v }

-- What asking it answers.
unfoldable pub legality : View → Reply (Unit {0})
legality v = reply_to (question12 v ∷ []) (λ _. tt)

-- And what an operation that hands out the view then answers.
unfoldable pub viewing : View → Reply View
viewing v = reply_to (question12 v ∷ []) (λ _. v)
