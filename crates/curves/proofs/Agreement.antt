-- Rounds with differences cut off at 0 run, settle and cross together with the exact ones. Assumes nothing.
use Rattle.laws.proofs.Base.{ℕ, zero, suc, ◌≤◌, ◌<◌, ◌≡◌, sym, ◌↔◌, ◌⊎◌, inl, inr, ⊎_elim, arith}
use mathlib.Core.Logic.Iff
use lib.IntN.{pos}
use lib.Signed.{◌<ℤ◌}
use Rattle.laws.proofs.Best.{min_best, max_best}
use Rattle.laws.proofs.Whole.{AtMost, lt_parts, parts_lt, smaller_best, larger_best}
use Rattle.curves.specs.Pairs.{horizon, Same, Pair, upper_at, lower_at, Equal, figure}
use Rattle.curves.specs.Rounds.{Arithmetic, whole, cut_off, figures_of, round, after, Crossed, Settled}
use Rattle.curves.specs.Rounds.{HasAfter, Runs, Arrives, Crosses}
use Rattle.curves.specs.Theorems.{CutOffArrives, CutOffCrosses}
use Rattle.curves.proofs.Figures.{given_horizon, given_upper, given_lower, given_same}
use Rattle.curves.proofs.Figures.{same_refl, same_by, crossed_moved, same_crossed, crossed_stays}
use Rattle.curves.proofs.CutOff.{round_agrees}

-- A pair's own figures, cut off at 0, are the pair's.
pub given_equal : (p : Pair) → Equal (figures_of cut_off p) p
given_equal p =
    same_by 0 (given_horizon cut_off p)
    (λ d u v. let w = rw (given_horizon cut_off p) at v in (given_upper cut_off p d u w, given_lower cut_off p d u w))

given_cut : (p : Pair) → figures_of whole (figures_of cut_off p) ≡ figures_of whole p
given_cut p = given_same whole (figures_of cut_off p) p (given_equal p)

-- The whole numbers of a pair cross, are equal and settle as its natural numbers do.
pub crossed_given : (c : Pair) → Crossed whole (figures_of whole c) ↔ Crossed cut_off c
crossed_given c = (
  crossed_moved (figures_of whole c) c (given_horizon whole c) (λ d u v. (above d u (rw (given_horizon whole c) at v)).0),
  crossed_moved c (figures_of whole c) (sym (given_horizon whole c)) (λ d u v. (above d u v).1),
)
  where
    above : (d : ℕ) → 1 ≤ d → d ≤ horizon c
        → (figure (pos 0) (figures_of whole c).upper d <ℤ figure (pos 0) (figures_of whole c).lower d) ↔ (upper_at c d < lower_at c d)
    above d u v =
        rw (given_upper whole c d u v, given_lower whole c d u v)
        ((λ l. omega (arith, lt_parts _ _ l)), (λ l. parts_lt (pos (upper_at c d)) (pos (lower_at c d)) (omega arith)))

pub equal_given : (c e : Pair) → Same (pos 0) (figures_of whole c) (figures_of whole e) ↔ Equal c e
equal_given c e = (there, (λ q. rw (given_same whole c e q) (same_refl (pos 0) (figures_of whole e))))
  where
    there : Same (pos 0) (figures_of whole c) (figures_of whole e) → Equal c e
    there q =
        let h : horizon c ≡ horizon e = cc (given_horizon whole c, q.horizons, given_horizon whole e) in
        same_by 0 h (λ d u v.
        let w : d ≤ horizon (figures_of whole c) = rw (given_horizon whole c) v in
        let v' : d ≤ horizon e = rw (sym h) v in (
          cc (given_upper whole c d u v, q.uppers d u w, given_upper whole e d u v'),
          cc (given_lower whole c d u v, q.lowers d u w, given_lower whole e d u v'),
        ))

pub settled_given : (c : Pair) → ¬ Crossed cut_off c → Settled whole (figures_of whole c) ↔ Settled cut_off c
settled_given c n =
    ⊎_elim
    (λ e. rw e (equal_given (round cut_off c) c))
    (λ x. (
      (λ s. absurd (n ((crossed_given c).0 (same_crossed whole _ _ s x.0)))),
      (λ s. absurd (n (same_crossed cut_off _ _ s x.1))),
    ))
    (round_agrees c)

-- ---- what the rounds of two arithmetics have in common after n, and so the rounds that are run
pub record Tied (A B : Arithmetic) (p : Pair) (n : ℕ) : Type 0 where
  pub crossed : Crossed A (after A n p) ↔ Crossed B (after B n p)
  pub settled : ¬ Crossed A (after A n p) → Settled A (after A n p) ↔ Settled B (after B n p)
  pub figures : ¬ Crossed A (after A n p) → (q : Pair) → HasAfter A n p q ↔ HasAfter B n p q

tied_sym : {A B : Arithmetic} {p : Pair} {n : ℕ} → Tied A B p n → Tied B A p n
tied_sym t =
    record {
      crossed = Iff.symm t.crossed;
      settled = λ h. Iff.symm (t.settled (λ x. h (t.crossed.0 x)));
      figures = λ h q. Iff.symm (t.figures (λ x. h (t.crossed.0 x)) q);
    }

module _ (A B : Arithmetic) (p : Pair) (tie : (k : ℕ) → Tied A B p k) (n : ℕ) where
  runs_over : Runs A p n → Runs B p n
  runs_over r =
      record {
        uncrossed = λ k l x. r.uncrossed k l ((tie k).crossed.1 x);
        changes = λ k l s. r.changes k l (((tie k).settled (r.uncrossed k l)).1 s);
      }

  crosses_over : Crosses A p n → Crosses B p n
  crosses_over x = record { runs = runs_over x.runs; crossed = (tie n).crossed.0 x.crossed }

  arrives_over : (q : Pair) → Arrives A p n q → Arrives B p n q
  arrives_over q x =
      record {
        runs = runs_over x.runs;
        uncrossed = λ y. x.uncrossed ((tie n).crossed.1 y);
        settled = ((tie n).settled x.uncrossed).0 x.settled;
        figures = ((tie n).figures x.uncrossed q).0 x.figures;
      }

module _ (p : Pair) where
  -- After any number of rounds: once both have crossed, both stay crossed.
  pub agree : (n : ℕ)
      → (after whole n p ≡ figures_of whole (after cut_off n p)) ⊎ (Crossed whole (after whole n p) × Crossed cut_off (after cut_off n p))
  unfolding after
  agree zero = inl (sym (given_cut p))
  agree (suc n) =
      ⊎_elim
      (λ e. rw e (round_agrees (after cut_off n p)))
      (λ x. inr (
        crossed_stays whole AtMost smaller_best larger_best
            (λ x y x' y' f r l. parts_lt x' y' (omega (arith, lt_parts x y l))) (after whole n p) x.0,
        crossed_stays cut_off ◌≤◌ min_best max_best (λ x y x' y' f r l. omega arith) (after cut_off n p) x.1,
      ))
      (agree n)

  pub tied : (n : ℕ) → Tied whole cut_off p n
  tied n =
      let c : Pair = after cut_off n p in
      ⊎_elim
      (λ e.
      record {
        crossed = rw e (crossed_given c);
        settled = λ un. rw e (settled_given c (λ x. un (rw e ((crossed_given c).1 x))));
        figures = λ un q. rw e (rw (given_cut q) at (equal_given c (figures_of cut_off q)));
      })
      (λ x. record { crossed = ((λ y. x.1), (λ y. x.0)); settled = λ un. absurd (un x.0); figures = λ un. absurd (un x.0) })
      (agree n)

  pub runs_cut : (n : ℕ) → Runs whole p n → Runs cut_off p n
  runs_cut = runs_over whole cut_off p tied

  pub runs_whole : (n : ℕ) → Runs cut_off p n → Runs whole p n
  runs_whole = runs_over cut_off whole p (λ k. tied_sym (tied k))

pub cut_off_arrives : CutOffArrives
cut_off_arrives p n q = (arrives_over whole cut_off p (tied p) n q, arrives_over cut_off whole p (λ k. tied_sym (tied p k)) n q)

pub cut_off_crosses : CutOffCrosses
cut_off_crosses p n = (crosses_over whole cut_off p (tied p) n, crosses_over cut_off whole p (λ k. tied_sym (tied p k)) n)
