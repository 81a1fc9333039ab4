-- For ever: on a closed pair a finite stream conforms exactly where it begins an unbounded one that does. Assumes nothing.
use Rattle.laws.proofs.Base.{ℕ, zero, suc, ◌+◌, ◌-◌, ◌≤◌, ◌<◌, ◌≡◌, sym, ap, ◌∙◌, List, [], ◌∷◌, ◌++◌, dec_le, le_refl, add-zero, add-suc}
use Rattle.laws.proofs.Base.{arith, length, length-append, list_get_or-append}
use Rattle.curves.specs.Streams.{counts_of, Begins}
use Rattle.curves.specs.Pairs.{Pair, horizon}
use Rattle.curves.specs.Conformance.{Conforms, Conforms∞}
use Rattle.curves.proofs.Sums.{local}
use Rattle.curves.proofs.Closed.{Closed}
use Rattle.curves.proofs.NextTick.{lo, keeps_conforms, keeps_range, lo_end}

-- The first counts of a conforming unbounded stream conform.
pub start_conforms : (p : Pair) (xs : List ℕ) (s : ℕ → ℕ) → Begins xs s → Conforms∞ p s → Conforms p xs
start_conforms p xs s b c i d u v w =
    rw (local (counts_of xs) s i d (λ k p' q. b k (omega arith))) (c i d u v)

-- A finite stream and k counts more, each the smallest that it can go on with.
unfoldable grow : Pair → List ℕ → ℕ → List ℕ
grow p xs zero = xs
grow p xs (suc k) = grow p xs k ++ (lo p (grow p xs k) ∷ [])

-- Grown without end.
abbrev forever : Pair → List ℕ → ℕ → ℕ
forever p xs tick = counts_of (grow p xs (suc tick)) tick

module _ (p : Pair) (xs : List ℕ) where
  length_grow : (k : ℕ) → length (grow p xs k) ≡ length xs + k
  unfolding grow
  length_grow zero = sym (add-zero (length xs))
  length_grow (suc k) = omega (arith, length-append (grow p xs k) (lo p (grow p xs k) ∷ []), length_grow k)

  -- What was grown stays.
  grow_more : (k j i : ℕ) → i < length xs + k → counts_of (grow p xs (k + j)) i ≡ counts_of (grow p xs k) i
  unfolding grow
  grow_more k zero i h = rw add-zero
  grow_more k (suc j) i h =
      rw add-suc
      (list_get_or-append (grow p xs (k + j)) (lo p (grow p xs (k + j)) ∷ []) 0 i (omega (arith, length_grow (k + j))) ∙ grow_more k j i h)

  grown : (k i : ℕ) → i < length xs + k → counts_of (grow p xs k) i ≡ forever p xs i
  grown k i h =
      elim (dec_le k (suc i)) [
        | yes l ↦
            let e : k + (suc i - k) ≡ suc i = omega arith in
            sym (grow_more k (suc i - k) i h) ∙ ap (λ j. counts_of (grow p xs j) i) e
        | no l ↦
            let e : suc i + (k - suc i) ≡ k = omega arith in
            ap (λ j. counts_of (grow p xs j) i) (sym e) ∙ grow_more (suc i) (k - suc i) i (omega arith)
      ]

  begins : Begins xs (forever p xs)
  unfolding grow
  begins tick h = grown 0 tick (omega arith)

  module _ (C : Closed p) (h : 1 ≤ horizon p) (c : Conforms p xs) where
    grow_conforms : (k : ℕ) → Conforms p (grow p xs k)
    unfolding grow
    grow_conforms zero = c
    grow_conforms (suc k) =
        let g : List ℕ = grow p xs k in
        let c' : Conforms p g = grow_conforms k in
        keeps_conforms p g (lo p g) c' ((keeps_range p g (lo p g) h).1 (le_refl (lo p g), lo_end p C g c' h))

    goes_on : Conforms∞ p (forever p xs)
    goes_on i d u v =
        rw (sym (local (counts_of (grow p xs (i + d))) (forever p xs) i d (λ k p' q. grown (i + d) k (omega arith))))
        (grow_conforms (i + d) i d u v (omega (arith, length_grow (i + d))))

-- An unbounded conforming stream that a conforming finite stream begins.
pub extends : (p : Pair) → Closed p → 1 ≤ horizon p → (xs : List ℕ) → Conforms p xs → (s : ℕ → ℕ) × Begins xs s × Conforms∞ p s
extends p C h xs c = (forever p xs, begins p xs, goes_on p xs C h c)
