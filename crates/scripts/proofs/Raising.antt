-- Laws over plain variables for figures raised and turned round, and for the arrays that they stand in. Assumes nothing.
use Rattle.laws.proofs.Base.{ℕ, zero, suc, ◌+◌, ◌-◌, ◌≤◌, ◌<◌, ◌≡◌, sym, ap, ◌∙◌, subst, Bool, true, false, List, ◌++◌, arith}
use Rattle.laws.proofs.Base.{length, get_or, take, replicate, length-append, length-replicate, length-take-le, take_at}
use lib.ListN.{get_or-replicate}
use lib.Seq.{get_or-take}
use Rattle.curves.specs.Pairs.{figure}
use Rattle.history.specs.States.{Legal}
use Rattle.history.specs.Steps.{view_with}
use Rattle.scripts.specs.Steps.{ceilings_from, LowFigures, RaisedFrom, Raised, FiguresRaised}

-- ---- the figures of a legal state can be raised
module _ (us ls : List ℕ) (xs : List ℕ) where
  pub low_ceilings : (b : Bool) → Legal (view_with us ls b xs) → LowFigures (length us) (ceilings_from b us)
  unfolding figure
  low_ceilings false l d q = omega (arith, l.figures.0 (suc d) (omega arith) q)
  low_ceilings true l zero q = omega arith
  low_ceilings true l (suc d) q = omega arith

  pub low_leasts : (b : Bool) → Legal (view_with us ls b xs) → LowFigures (length ls) (λ d. get_or ls d 0)
  unfolding figure
  low_leasts false l d q = omega (arith, l.figures.1 (suc d) (omega arith) q)
  low_leasts true l d q = omega (arith, l.figures (suc d) (omega arith) q)

-- Each of them is then as a raised one is.
raised_at : (h : ℕ) (f : ℕ → ℕ) (raised : List ℕ) → RaisedFrom h f raised → LowFigures h f → (i : ℕ) → i < h → Raised (get_or raised i 0)
raised_at h f raised R low i q =
    let e : h - 1 - (h - 1 - i) ≡ i = omega arith in
    let d = h - 1 - i in
    subst (λ k. Raised (get_or raised k 0)) e (rw (R.entry d (omega arith)) (omega arith, omega (arith, low d (omega arith))))

pub figures_raised : (h : ℕ) (f g : ℕ → ℕ) (cs ms : List ℕ) → 1 ≤ h → RaisedFrom h f cs → LowFigures h f → RaisedFrom h g ms
    → LowFigures h g → FiguresRaised cs ms
figures_raised h f g cs ms one C low M low' =
    record {
      some = omega (arith, C.whole);
      leasts_same = M.whole ∙ sym C.whole;
      ceilings_raised = λ i q. raised_at h f cs C low i (omega (arith, C.whole));
      leasts_raised = λ i q. raised_at h g ms M low' i (omega (arith, C.whole));
    }

-- ---- the front of an array
pub front_length : (n m : ℕ) (xs : List ℕ) → xs ≡ replicate m 0 → n ≤ m → length (take n xs) ≡ n
front_length n m xs e l = length-take-le n xs (omega (arith, ap length e, length-replicate {A = ℕ} m 0))

pub front_last : (n m : ℕ) (xs : List ℕ) → xs ≡ replicate m 0 → n < m → get_or (take (n + 1) xs) n 0 ≡ 0
front_last n m xs e l = get_or-take (n + 1) xs n 0 (omega arith) ∙ ap (λ ys. get_or ys n 0) e ∙ get_or-replicate m n 0 0 l

-- Where the figures stand at the front.
pub front_room : (n : ℕ) (ys zs : List ℕ) → length ys ≡ n → n ≤ length (ys ++ zs)
front_room n ys zs e = omega (arith, length-append ys zs)

pub front_count : (n : ℕ) (ys zs : List ℕ) → length ys ≡ n → n ≡ length (take n (ys ++ zs))
front_count n ys zs e = sym (ap length (take_at ys zs n e) ∙ e)

pub front_raised : (n : ℕ) (f : ℕ → ℕ) (ys zs : List ℕ) → RaisedFrom n f ys → RaisedFrom n f (take n (ys ++ zs))
front_raised n f ys zs R = rw (take_at ys zs n R.whole) R

-- Figures at the front of one array, and sums, all 0 yet, at that of another: there is one more.
pub front_more : (h k : ℕ) (ys zs sums : List ℕ) → length ys ≡ h → k < h → h ≤ 256 → sums ≡ replicate 257 0
    → (k < length (take h (ys ++ zs)))
    × ((length (take (h + 1) sums) ≡ length (take h (ys ++ zs)) + 1)
    × (get_or (take (h + 1) sums) (length (take h (ys ++ zs))) 0 ≡ 0))
front_more h k ys zs sums e l m z =
    let n = front_count h ys zs e in (
      omega arith,
      (
        omega (arith, front_length (h + 1) 257 sums z (omega arith)),
        ap (λ i. get_or (take (h + 1) sums) i 0) (sym n) ∙ front_last h 257 sums z (omega arith),
      ),
    )
