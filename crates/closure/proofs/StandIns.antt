-- Leasts without ceilings: the pair whose rounds are run for them, how these end, and when leasts are super-additive. Assumes nothing.
use Rattle.laws.proofs.Base.{ℕ, zero, suc, ◌+◌, ◌-◌, ◌*◌, ◌≤◌, ◌<◌, ◌≡◌, refl, sym, ap, ◌∙◌, Bool, true, false, List, [], ◌∷◌, ◌++◌, dec_le, zero-add, arith}
use Rattle.laws.proofs.Base.{length, take, get_or, subst, subst⁻¹}
use lib.Seq.{take-append-le, take_all}
use Rattle.std.specs.Prelude.{Option, Some, None, IsSome}
use Rattle.std.specs.Bool.{MatchBool}
use Rattle.std.specs.List.{range_with_len, AllWithin, HoldsAt}
use Rattle.std.proofs.lemmas.List.FromFn.{length-range_with_len, get_or-range_with_len}
use Rattle.laws.specs.Ranges.{table}
use Rattle.laws.specs.Tests.{Tells}
use Rattle.laws.proofs.Table.{length-table}
use Rattle.curves.specs.Pairs.{Pair, pair_of, figure}
use Rattle.curves.specs.Unlimited.{highest, SuperAdditive}
use Rattle.curves.proofs.Figures.{figure_table}
use Rattle.curves.proofs.Agreement.{cut_off_arrives, cut_off_crosses}
use Rattle.curves.proofs.Parts.{leasts_arrive}
use Rattle.curves.proofs.Standing.{standing_never_crosses}
use Rattle.bounds.specs.Bounds.{max_horizon}
use Rattle.closure.specs.Closing.{least_limit}
use Rattle.closure.specs.Steps.{Fit, Ended, LeastsFit, LeastsEnded, ReachesParts}

-- The first entries of a table are a table.
take-table : (f : ℕ → ℕ) (m n : ℕ) → n ≤ m → take n (table f m) ≡ table f n
unfolding table
take-table f zero n h = let e : n ≡ 0 = omega arith in rw e refl
take-table f (suc m) n h =
    elim (dec_le n m) [
      | yes l ↦ take-append-le n (table f m) _ (rw (length-table f m) l) ∙ take-table f m n l
      | no l ↦
          let e : n ≡ suc m = omega arith in
          rw e (take_all (suc m) (table f m ++ (f (suc m) ∷ [])) (omega (arith, length-table f (suc m))))
    ]

-- ---- the pair whose rounds are run
abbrev stood : List ℕ → Pair
stood ls = pair_of (table (λ d. d * least_limit) (length ls)) ls

module _ (ls found : List ℕ) (fit : LeastsFit ls found) (us : List ℕ) (e : us ≡ table (λ d. d * least_limit) max_horizon) where
  -- It has the stand-ins up to the horizon.
  abbrev lent : Pair
  lent = pair_of (take (length ls) us) ls

  lent_is : stood ls ≡ lent
  lent_is =
      sym
      (ap (λ us. pair_of (take (length ls) us) ls) e
      ∙ ap (λ us. pair_of us ls) (take-table (λ d. d * least_limit) max_horizon (length ls) fit.short))

  pub stood_fit : (room : List ℕ) → length room ≡ length ls → Fit lent (pair_of room found)
  stood_fit room l =
      let long = length-table (λ d. d * least_limit) (length ls) in
      let short = fit.short in
      let same = fit.room in
      subst (λ (p : Pair). Fit p (pair_of room found)) lent_is (
        omega arith,
        (
          (omega arith, (omega arith, (omega arith, tt))),
          (
            (λ d u v. omega (arith, figure_table 0 (λ k. k * least_limit) (length ls) d u (omega arith))),
            (λ d u v. omega (arith, fit.within d u v)),
          ),
        ),
      )

  -- Its rounds arrive, as those of the leasts alone do.
  ended : (r : Option ℕ) (before : Pair) (closed left : List ℕ) → Ended (stood ls) r before (pair_of closed left)
      → IsSome r × ((n : ℕ) → r ≡ Some n → LeastsEnded ls n left)
  ended (Some m) before closed left h =
      let arrived : LeastsEnded ls m left = (
        highest (length ls),
        leasts_arrive least_limit ls m (pair_of closed left) (omega arith) fit.within
            ((cut_off_arrives (stood ls) m (pair_of closed left)).1 h),
      ) in
      (refl, λ n is. let same : m ≡ n = cc in subst (λ (k : ℕ). LeastsEnded ls k left) same arrived)
  ended None before closed left h =
      absurd (standing_never_crosses least_limit ls h.0.0 fit.within ((cut_off_crosses (stood ls) h.0.0).1 h.0.1))

  pub stood_ended : (r : Option ℕ) (before : Pair) (closed left : List ℕ) → Ended lent r before (pair_of closed left)
      → IsSome r × ((n : ℕ) → r ≡ Some n → LeastsEnded ls n left)
  stood_ended r before closed left h =
      ended r before closed left (subst⁻¹ (λ (p : Pair). Ended p r before (pair_of closed left)) lent_is h)

-- ---- super-additive, by the windows' indices
module _ (ls : List ℕ) where
  abbrev windows : List ℕ
  windows = range_with_len 0 (length ls)

  there : ((k : ℕ) → k < length ls → ReachesParts ls k) → SuperAdditive ls
  unfolding figure
  there h zero b u v w = absurd (omega arith)
  there h (suc a) zero u v w = absurd (omega arith)
  there h (suc a) (suc b) u v w =
      let k : suc (a + b) - a ≡ suc b = omega arith in
      let at : (suc (a + b)) - 1 - a ≡ b = omega arith in
      let to : suc a + suc b ≡ suc (suc (a + b)) = omega arith in
      rw to (rw at at (h (suc (a + b)) (omega arith) a (omega arith)))

  back : SuperAdditive ls → (k : ℕ) → k < length ls → ReachesParts ls k
  unfolding figure
  back h k l a m =
      let to : suc a + suc (k - 1 - a) ≡ suc k = omega arith in
      rw to at (h (suc a) (suc (k - 1 - a)) (omega arith) (omega arith) (omega arith))

  -- The entry of the windows at k is k.
  window_at : (k : ℕ) → k < length ls → get_or windows k 0 ≡ k
  window_at k l = get_or-range_with_len 0 (length ls) k 0 l ∙ zero-add k

  pub parts-told : (r : Bool)
      → MatchBool r (AllWithin (ReachesParts ls) windows 0 (length windows))
      ((k : ℕ) × (k < length windows) × HoldsAt (λ i. ¬ ReachesParts ls i) windows k)
      → Tells r (SuperAdditive ls)
  parts-told true all =
      there (λ k l.
      subst (ReachesParts ls) (window_at k l) (all k 0 (omega arith) (omega (arith, length-range_with_len 0 (length ls)))))
  parts-told false (k, l, at) =
      let l' : k < length ls = omega (arith, length-range_with_len 0 (length ls)) in
      λ s. subst (λ (i : ℕ). ¬ ReachesParts ls i) (window_at k l') (at 0) (back s k l')
