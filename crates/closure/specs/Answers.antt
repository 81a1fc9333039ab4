-- Document 01's number for each case of `ClosingRefusal`, and what closing's result answers.
use Rattle.std.specs.Prelude.{ℕ, Bool, false, Result, Ok, Err}
use Rattle.curves.specs.Pairs.{Pair}
use Rattle.bounds.specs.Answers.{pair_refusal_number}
use Rattle.closure.specs.declared.Closed.{Closed}
use Rattle.closure.specs.declared.ClosingRefusal.{ClosingRefusal}
use Rattle.closure.specs.declared.ClosingRefusal.TheVariants as refusal
use Rattle.closure.specs.Closing.{ClosingAnswer}

abbrev pub closing_refusal_number : ClosingRefusal → ℕ
closing_refusal_number (refusal.Pair r) = pair_refusal_number r
closing_refusal_number refusal.ResultLength = 3
closing_refusal_number refusal.NoClosure = 5

-- 0 where a closure is given.
abbrev pub closing_number : Result Closed ClosingRefusal → ℕ
closing_number (Ok c) = 0
closing_number (Err r) = closing_refusal_number r

-- The rounds that are counted; 0 on a refusal.
abbrev pub closing_rounds : Result Closed ClosingRefusal → ℕ
closing_rounds (Ok c) = c.rounds
closing_rounds (Err r) = 0

-- The mark; not set on a refusal.
abbrev pub closing_mark : Result Closed ClosingRefusal → Bool
closing_mark (Ok c) = c.unlimited
closing_mark (Err r) = false

-- What a call that returns this, and leaves the result lists so, has answered.
abbrev pub closing_answer : Result Closed ClosingRefusal → Pair → ClosingAnswer
closing_answer r left = record { number = closing_number r; rounds = closing_rounds r; unlimited = closing_mark r; results = left }
