-- Closing (document 01, "The closure" and questions 1 to 5): two lists and a mark in (request P7), two lists lent for results. Questions 1
-- and 2 are those of every operation on a pair, and so is 4, but for an unlimited pair.
use Rattle.std.specs.Prelude.{ℕ, Bool, true, false, List, [], ◌∷◌, ◌++◌, drop}
use Rattle.laws.specs.Ranges.{table}
use Rattle.curves.specs.Pairs.{Pair, pair_of, horizon, figure, upper_at, lower_at}
use Rattle.curves.specs.Rounds.{Causal}
use Rattle.curves.specs.Unlimited.{AnyPair, limited, unlimited, curves_of, alike}
use Rattle.curves.specs.Questions.{Question, answer_to}
use Rattle.curves.specs.Theorems.{Closes}
use Rattle.curves.proofs.Arrival.{closes?}
use Rattle.curves.proofs.Closure.{causal?}
use Rattle.bounds.specs.Bounds.{figure_limit, question1, question2, question4_at, RoomFor, room_for?}

-- 3. Each result list has room for the closure.
abbrev pub question3 : AnyPair → Pair → Question
question3 p found =
    let h : ℕ = horizon (curves_of p) in record { number = 3; asked = RoomFor h found; answered = room_for? h found }

-- 4. No figure is above the limit: of an unlimited pair no least above 65,535, so that none of its closure is above 16,776,960.
abbrev pub least_limit : ℕ
least_limit = 65_535

abbrev pub closing_limit : AnyPair → ℕ
closing_limit (limited p) = figure_limit
closing_limit (unlimited h ls) = least_limit

abbrev pub closing_question4 : AnyPair → Question
closing_question4 p = question4_at (closing_limit p) p

-- 5. The rounds arrive at a closure. They do or they do not (`ArrivesOrCrosses`).
abbrev pub question5 : AnyPair → Question
question5 p = record { number = 5; asked = Closes (curves_of p); answered = closes? (curves_of p) }

-- 15, for operations on a pair that must be closed already (request P3): it is its own closure.
abbrev pub question15 : AnyPair → Question
question15 p = record { number = 15; asked = Causal (curves_of p); answered = causal? (curves_of p) }

abbrev pub closing_questions : AnyPair → Pair → List Question
closing_questions p found = question1 p ∷ question2 p ∷ question3 p found ∷ closing_question4 p ∷ question5 p ∷ []

-- What closing answers, with the two result lists as it leaves them.
pub record ClosingAnswer : Type 0 where
  -- The number of the refusal; 0 where there is none.
  pub number : ℕ
  -- The count of rounds that changed a figure.
  pub rounds : ℕ
  -- The closure's mark, which is the pair's.
  pub unlimited : Bool
  pub results : Pair

-- A refusal: its number, nothing else, and the result lists as found.
abbrev pub refused_closing : ℕ → Pair → ClosingAnswer
refused_closing n found = record { number = n; rounds = 0; unlimited = false; results = found }

-- The figures f 1 to f h in the first entries of a list; the others as found.
abbrev pub put : (ℕ → ℕ) → ℕ → List ℕ → List ℕ
put f h found = table f h ++ drop h found

-- The closure q in the first H entries of the result lists; without ceilings, the list for them as found.
abbrev pub given_closing : ℕ → AnyPair → Pair → ClosingAnswer
given_closing n (limited q) found =
    record {
      number = 0;
      rounds = n;
      unlimited = false;
      results = pair_of (put (upper_at q) (horizon q) found.upper) (put (lower_at q) (horizon q) found.lower);
    }
given_closing n (unlimited h ls) found =
    record { number = 0; rounds = n; unlimited = true; results = pair_of found.upper (put (figure 0 ls) h found.lower) }

-- Closing the pair p: the first question that is answered no gives its number, else the answer to question 5 gives the closure.
unfoldable pub closing : AnyPair → Pair → ClosingAnswer
closing p found =
    answer_to (closing_questions p found)
    (λ yeses. let fifth : Closes (curves_of p) = yeses.1.1.1.1.0 in given_closing fifth.0 (alike p fifth.1) found)
    (λ n. refused_closing n found)
