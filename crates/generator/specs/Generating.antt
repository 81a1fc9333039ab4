-- A tick of the generator, document 01's maker, and its admissible range, which document 01's look shows ("Monitor and maker"); on pairs
-- without ceilings, too (request P7).
use Rattle.std.specs.Prelude.{ℕ, suc, ◌+◌, ◌-◌, ◌%◌, ◌≤◌, ◌≡◌, List, [], ◌∷◌}
use Rattle.curves.specs.Unlimited.{AnyPair, limited, unlimited, curves_of}
use Rattle.curves.specs.Ticks.{then, Keeps, Extremes}
use Rattle.curves.specs.Questions.{Question, Reply, result, refusal, reply_to}
use Rattle.curves.proofs.NextTick.{range?, range_within?}
use Rattle.bounds.specs.Bounds.{figure_limit}
use Rattle.history.specs.States.{View, view_of, added, question12}
use Rattle.generator.specs.declared.Generator.{Generator}

-- The counts that the next tick can have: they keep every judged window, and without ceilings are at most 16,776,960.
abbrev pub Sendable : AnyPair → List ℕ → ℕ → Type 0
Sendable (limited p) xs = λ x. Keeps p (then xs x)
Sendable (unlimited h ls) xs = λ x. Keeps (curves_of (unlimited h ls)) (then xs x) × (x ≤ figure_limit)

-- Whether there is one can be decided.
abbrev pub sendable? : (p : AnyPair) (xs : List ℕ) → Dec (Extremes (Sendable p xs))
sendable? (limited p) xs = range? p xs
sendable? (unlimited h ls) xs = range_within? (curves_of (unlimited h ls)) xs figure_limit

-- 13. Some count keeps every judged window: there is an admissible range.
abbrev pub question13 : View → Question
question13 v = record { number = 13; asked = Extremes (Sendable v.pair v.held); answered = sendable? v.pair v.held }

abbrev pub range_questions : View → List Question
range_questions v = question12 v ∷ question13 v ∷ []

-- The smallest and the largest count that can be sent.
pub record RangeAnswer : Type 0 where
  pub lo : ℕ
  pub hi : ℕ

-- What asking for the range answers.
unfoldable pub ranging : View → Reply RangeAnswer
ranging v =
    reply_to (range_questions v)
    (λ yeses. let r : Extremes (Sendable v.pair v.held) = yeses.1.0 in record { lo = r.lo; hi = r.hi })

-- The count that a choice leads to: lo and the remainder of the choice by hi − lo + 1.
abbrev pub chosen : RangeAnswer → ℕ → ℕ
chosen b choice = b.lo + choice % suc (b.hi - b.lo)

abbrev pub sent_from : Reply RangeAnswer → ℕ → Reply ℕ
sent_from (result b) choice = result (chosen b choice)
sent_from (refusal n) choice = refusal n

abbrev pub sending : View → ℕ → Reply ℕ
sending v choice = sent_from (ranging v) choice

-- Equality of states: of the views, so of the horizon and the figures up to it, of the held ticks as a list, and of the mark; ceilings
-- count where there are any.
abbrev pub EqualGenerators : Generator → Generator → Type 0
EqualGenerators g g' = view_of g.history ≡ view_of g'.history

-- The next state. A count that is sent is added, and what lies outside the next state's view is free; a refusal leaves the very state.
abbrev pub GeneratorNext : Reply ℕ → Generator → Generator → Type 0
GeneratorNext (result x) g next = view_of next.history ≡ added (view_of g.history) x
GeneratorNext (refusal n) g next = next ≡ g
