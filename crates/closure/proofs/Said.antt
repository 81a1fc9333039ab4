-- What `closing` says, case by case: refused where a question is the first that is answered no, else what the rounds arrive at.
-- Assumes nothing.
use Rattle.laws.proofs.Base.{ℕ, ◌≡◌, refl, true, false, ◌++◌, ◌⊎◌, inl, inr, ⊎_elim, arith, drop}
use Rattle.laws.proofs.Table.{table_same}
use Rattle.curves.specs.Pairs.{Pair, upper_at, lower_at, Equal}
use Rattle.curves.specs.Rounds.{whole, Arrives}
use Rattle.curves.specs.Unlimited.{AnyPair, limited, unlimited, curves_of, alike}
use Rattle.curves.specs.Questions.{AllYes, FirstNo, ask}
use Rattle.curves.specs.Theorems.{Closes}
use Rattle.curves.proofs.Asked.{said_no, said_yes, Positive, no_iff, yes_iff}
use Rattle.curves.proofs.Arrival.{arrives_once}
use Rattle.closure.specs.Closing.{closing_questions, refused_closing, given_closing, closing}
use Rattle.closure.specs.Theorems.{PassesFour, GivesWhatArrives, ClosingRefused, GivesClosure, ClosureIffAllYes}

-- The answer depends on the closure's figures only.
pub closed_equal : (found : Pair) (m n : ℕ) (p : AnyPair) (q r : Pair) → m ≡ n → Equal q r
    → given_closing m (alike p q) found ≡ given_closing n (alike p r) found
closed_equal found m n (limited p) q r e s =
    λ i. record {
      number = 0;
      rounds = e i;
      unlimited = false;
      results =
          record {
            upper = table_same (upper_at q) (upper_at r) _ _ s.horizons s.uppers i ++ drop (s.horizons i) found.upper;
            lower = table_same (lower_at q) (lower_at r) _ _ s.horizons s.lowers i ++ drop (s.horizons i) found.lower;
          };
    }
closed_equal found m n (unlimited h ls) q r e s =
    λ i. record {
      number = 0;
      rounds = e i;
      unlimited = true;
      results =
          record {
            upper = found.upper;
            lower = table_same (lower_at q) (lower_at r) _ _ s.horizons s.lowers i ++ drop (s.horizons i) found.lower;
          };
    }

-- A closure is no refusal.
pub given_number : (n : ℕ) (q : AnyPair) (found : Pair) → (given_closing n q found).number ≡ 0
given_number n (limited q) found = refl
given_number n (unlimited h ls) found = refl

pub given_rounds : (n : ℕ) (q : AnyPair) (found : Pair) → (given_closing n q found).rounds ≡ n
given_rounds n (limited q) found = refl
given_rounds n (unlimited h ls) found = refl

module _ (p : AnyPair) (found : Pair) where
  pub refused_is : (n : ℕ) → FirstNo (closing_questions p found) n → closing p found ≡ refused_closing n found
  unfolding closing
  refused_is n f = said_no (closing_questions p found) _ (λ k. refused_closing k found) n f

  all_yes : PassesFour p found → Closes (curves_of p) → AllYes (closing_questions p found)
  all_yes ok c = (ok.0, (ok.1.0, (ok.1.1.0, (ok.1.1.1.0, (c, tt)))))

  passed : AllYes (closing_questions p found) → PassesFour p found × Closes (curves_of p)
  passed ys = ((ys.0, (ys.1.0, (ys.1.1.0, (ys.1.1.1.0, tt)))), ys.1.1.1.1.0)

  pub closed_is : (n : ℕ) (q : Pair) → PassesFour p found → Arrives whole (curves_of p) n q
      → closing p found ≡ given_closing n (alike p q) found
  unfolding closing
  closed_is n q ok a = said_yes (closing_questions p found) _ _ (given_closing n (alike p q) found) (all_yes ok (n, q, a)) same
    where
      same : (ys : AllYes (closing_questions p found))
          → given_closing ys.1.1.1.1.0.0 (alike p ys.1.1.1.1.0.1) found ≡ given_closing n (alike p q) found
      same ys =
          let c : Closes (curves_of p) = ys.1.1.1.1.0 in
          let one = arrives_once (curves_of p) c.1 q c.0 n c.2 a in
          closed_equal found c.0 n p c.1 q one.0 one.1

  -- Question 5 is the first that is answered no.
  pub fifth : PassesFour p found → ¬ Closes (curves_of p) → FirstNo (closing_questions p found) 5
  fifth ok no₅ = inr (ok.0, inr (ok.1.0, inr (ok.1.1.0, inr (ok.1.1.1.0, inl (refl, no₅)))))

  -- A question is answered no, or the lists pass and the rounds arrive.
  pub cases : ((n : ℕ) × FirstNo (closing_questions p found) n) ⊎ (PassesFour p found × Closes (curves_of p))
  cases = ⊎_elim (λ ys. inr (passed ys)) inl (ask (closing_questions p found))

-- ---- the statements
positive_numbers : (p : AnyPair) (found : Pair) → Positive (closing_questions p found)
positive_numbers p found = (omega arith, (omega arith, (omega arith, (omega arith, (omega arith, tt)))))

pub gives_what_arrives : GivesWhatArrives
gives_what_arrives p found n q ok a = closed_is p found n q ok a

pub closing_refused : ClosingRefused
unfolding closing
closing_refused p found =
    no_iff (closing_questions p found) _ (λ k. refused_closing k found) (λ x. x.number) (λ k. refl)
    (λ ys. given_number _ (alike p ys.1.1.1.1.0.1) found) (positive_numbers p found)

pub closure_iff_all_yes : ClosureIffAllYes
unfolding closing
closure_iff_all_yes p found =
    yes_iff (closing_questions p found) _ (λ k. refused_closing k found) (λ x. x.number) (λ k. refl)
    (λ ys. given_number _ (alike p ys.1.1.1.1.0.1) found) (positive_numbers p found)

-- Where a closure is given, the lists pass and the rounds arrive.
pub gives_passes : (p : AnyPair) (found : Pair) → GivesClosure p found → PassesFour p found × Closes (curves_of p)
gives_passes p found g = passed p found ((closure_iff_all_yes p found).0 g)
