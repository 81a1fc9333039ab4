-- Laws over plain variables for an opening: its answer, whether a pair is its own closure, and the history that is handed out.
-- Assumes nothing.
use Rattle.std.specs.Prelude.{Ok, Err}
use Rattle.laws.proofs.Base.{ℕ, ◌≡◌, sym, ◌∙◌, subst, Bool, true, false, eqb, List, ◌↔◌, arith, length}
use Rattle.std.proofs.lemmas.Bool.{false≢true}
use Rattle.laws.specs.Tests.{Tells}
use Rattle.laws.proofs.Tests.{tells_same, eqb_told}
use Rattle.curves.specs.Pairs.{Pair, pair_of}
use Rattle.curves.specs.Unlimited.{AnyPair, limited, unlimited, with_mark, curves_of, SuperAdditive}
use Rattle.curves.specs.Rounds.{Causal}
use Rattle.curves.specs.Questions.{AllYes, FirstNo, result, refusal}
use Rattle.curves.proofs.Asked.{not_both}
use Rattle.curves.proofs.Closure.{causal_iff_no_round, causal_takes_no_round}
use Rattle.curves.proofs.Highest.{length-highest}
use Rattle.curves.proofs.Unlimited.{causal_iff_super_additive}
use Rattle.bounds.specs.Bounds.{pair_questions}
use Rattle.bounds.specs.Answers.{pair_refusal_number}
use Rattle.bounds.proofs.Said.{asking_yes, more_yes, more_first_no, more_no, more_from}
use Rattle.closure.specs.declared.Closed.{Closed}
use Rattle.closure.specs.declared.ClosingRefusal.{ClosingRefusal}
use Rattle.closure.specs.declared.ClosingRefusal.TheVariants as closing_refusal
use Rattle.closure.specs.Closing.{question15, closing}
use Rattle.closure.specs.Answers.{closing_answer}
use Rattle.closure.specs.Theorems.{room}
use Rattle.closure.proofs.Room.{Told, told}
use Rattle.history.specs.declared.History.{History}
use Rattle.history.specs.Opening.{opening, Begun}
use Rattle.generator.specs.Opening.{generator_opening}

-- ---- the answer
module _ (p : AnyPair) where
  pub opening_yes : AllYes (pair_questions p) → Causal (curves_of p) → result tt ≡ generator_opening p
  unfolding generator_opening
  opening_yes = more_yes p (question15 p)

  pub first_no : (n : ℕ) → FirstNo (pair_questions p) n → refusal n ≡ generator_opening p
  unfolding generator_opening
  first_no = more_first_no p (question15 p)

  pub opening_fifteenth : AllYes (pair_questions p) → ¬ Causal (curves_of p) → refusal 15 ≡ generator_opening p
  unfolding generator_opening
  opening_fifteenth = more_no p (question15 p)

  -- Where it is not refused, all are answered yes.
  pub opened_from : generator_opening p ≡ result tt → AllYes (pair_questions p) × Causal (curves_of p)
  unfolding generator_opening
  opened_from = more_from p (question15 p)

-- ---- whether a pair that passes the questions on a pair is its own closure
-- With ceilings closing's answer decides.
module _ (c : Pair) where
  no_round : (k : Closed) → Told c (Ok k) → Tells (eqb k.rounds 0) (Causal c)
  no_round k (own, (q, a)) =
      let same = causal_iff_no_round c q k.rounds a in tells_same (eqb k.rounds 0) (same.1, same.0) (eqb_told k.rounds 0)

  none_given : AllYes (pair_questions (limited c)) → (e : ClosingRefusal) → Told c (Err e) → ¬ Causal c
  none_given ys (closing_refusal.Pair r) f k = not_both (pair_questions (limited c)) (pair_refusal_number r) ys f
  none_given ys closing_refusal.ResultLength f k = f
  none_given ys closing_refusal.NoClosure (own, n) k = n (0, c, causal_takes_no_round c k)

-- Without them it is exactly where no least is below the sum of those of two parts.
own_closure : (h : ℕ) (ls : List ℕ) → AllYes (pair_questions (unlimited h ls)) → Causal (curves_of (unlimited h ls)) ↔ SuperAdditive ls
own_closure h ls ys =
    let e : length ls ≡ h = ys.1.0 ∙ length-highest h in
    subst (λ k. Causal (curves_of (unlimited k ls)) ↔ SuperAdditive ls) e
    (causal_iff_super_additive ls (λ d u v. omega (arith, ys.1.1.0 d u v)))

module _ (us ls : List ℕ) where
  abbrev Asked : Bool → Type 0
  Asked b = AllYes (pair_questions (with_mark us ls b))

  -- What is told of it, by its mark.
  abbrev TellsClosed : Bool → Bool → Type 0
  TellsClosed b r = Tells r (Causal (curves_of (with_mark us ls b)))

  pub told_by_leasts : (b r : Bool) → b ≡ true → Asked b → Tells r (SuperAdditive ls) → TellsClosed b r
  told_by_leasts true r e ys t = let same = own_closure (length us) ls ys in tells_same r (same.1, same.0) t
  told_by_leasts false r e ys t = absurd (false≢true e)

  pub told_by_rounds : (b : Bool) (k : Closed) (left : Pair) → b ≡ false → closing_answer (Ok k) left ≡ closing (with_mark us ls b) room
      → TellsClosed b (eqb k.rounds 0)
  told_by_rounds true k left f e = absurd (false≢true (sym f))
  told_by_rounds false k left f e = let c : Pair = pair_of us ls in no_round c k (told c (Ok k) left e)

  pub told_by_refusal : (b : Bool) (x : ClosingRefusal) (left : Pair) → b ≡ false → Asked b
      → closing_answer (Err x) left ≡ closing (with_mark us ls b) room → TellsClosed b false
  told_by_refusal true x left f ys e = absurd (false≢true (sym f))
  told_by_refusal false x left f ys e = let c : Pair = pair_of us ls in none_given c ys x (told c (Err x) left e)

-- ---- the history
-- Where the opening is not refused the history's is not.
pub opened_begun : (p : AnyPair) (h : History) → result tt ≡ generator_opening p → Begun (opening p) p h → Begun (generator_opening p) p h
opened_begun p h e b = rw (← e) (subst (λ r. Begun r p h) (sym (asking_yes p (opened_from p (sym e)).0)) b)
