-- What `asking` says, case by case: all questions are answered yes, or one is the first that is answered no. Assumes nothing.
use Rattle.std.specs.Prelude.{Result, Ok, Err}
use Rattle.laws.proofs.Base.{ℕ, ◌≡◌, refl, sym, List, [], ◌∷◌, ◌++◌, inl}
use Rattle.curves.specs.Unlimited.{AnyPair}
use Rattle.curves.specs.Questions.{Question, AllYes, FirstNo, Reply, result, refusal, reply_to}
use Rattle.curves.proofs.Asked.{yes_append, yes_parts, no_before, no_after, said_no, said_yes, refusal_iff, result_from}
use Rattle.bounds.specs.declared.PairRefusal.{PairRefusal}
use Rattle.bounds.specs.Bounds.{pair_questions, asking}
use Rattle.bounds.specs.Answers.{pair_refusal_number, asked_reply}

module _ (p : AnyPair) where
  pub asking_yes : AllYes (pair_questions p) → result tt ≡ asking p
  unfolding asking
  asking_yes ys = sym (said_yes (pair_questions p) _ _ (result tt) ys (λ _. refl))

  pub asking_no : (n : ℕ) → FirstNo (pair_questions p) n → refusal n ≡ asking p
  unfolding asking
  asking_no n f = sym (said_no (pair_questions p) _ _ n f)

  pub yes_from : asking p ≡ result tt → AllYes (pair_questions p)
  unfolding asking
  yes_from e = (result_from (pair_questions p) _ tt e).0

  pub no_from : (n : ℕ) → asking p ≡ refusal n → FirstNo (pair_questions p) n
  unfolding asking
  no_from n e = (refusal_iff (pair_questions p) _ n).0 e

  -- What an answer tells of the questions.
  abbrev pub Found : Result (Unit {0}) PairRefusal → Type 0
  Found (Ok u) = AllYes (pair_questions p)
  Found (Err e) = FirstNo (pair_questions p) (pair_refusal_number e)

  pub found : (a : Result (Unit {0}) PairRefusal) → asked_reply a ≡ asking p → Found a
  found (Ok u) e = yes_from (sym e)
  found (Err r) e = no_from (pair_refusal_number r) (sym e)

-- ---- one question asked after them
module _ (p : AnyPair) (more : Question) where
  abbrev questions : List Question
  questions = pair_questions p ++ (more ∷ [])

  abbrev reply : Reply (Unit {0})
  reply = reply_to questions (λ _. tt)

  pub more_yes : AllYes (pair_questions p) → more.asked → result tt ≡ reply
  more_yes ys y = sym (said_yes questions _ _ (result tt) (yes_append (pair_questions p) (more ∷ []) ys (y, tt)) (λ _. refl))

  pub more_first_no : (n : ℕ) → FirstNo (pair_questions p) n → refusal n ≡ reply
  more_first_no n f = sym (said_no questions _ _ n (no_before (pair_questions p) (more ∷ []) n f))

  pub more_no : AllYes (pair_questions p) → ¬ more.asked → refusal more.number ≡ reply
  more_no ys n = sym (said_no questions _ _ more.number (no_after (pair_questions p) (more ∷ []) _ ys (inl (refl, n))))

  pub more_from : reply ≡ result tt → AllYes (pair_questions p) × more.asked
  more_from e = let (ys, more-ys) = yes_parts (pair_questions p) (more ∷ []) (result_from questions _ tt e).0 in (ys, more-ys.0)
