-- Every figure of a closed pair is met: one conforming stream follows the ceilings from its first tick, another the leasts.
-- Assumes nothing.
use Rattle.laws.proofs.Base.{ℕ, zero, suc, ◌+◌, ◌-◌, ◌≤◌, ◌<◌, ◌≡◌, refl, sym, ap, ◌∙◌, List, add-zero, add-suc, arith, length}
use Rattle.laws.specs.Ranges.{table}
use Rattle.laws.proofs.Table.{length-table, get_or-table}
use Rattle.curves.specs.Streams.{sum, counts_of}
use Rattle.curves.specs.Pairs.{Pair, horizon, figure, upper_at, lower_at}
use Rattle.curves.specs.Conformance.{Conforms, Conforms∞}
use Rattle.curves.proofs.Sums.{local}
use Rattle.curves.proofs.Closed.{Closed}
use Rattle.curves.proofs.Extension.{extends}

-- A conforming stream whose first d ticks have the sum g d, for every d up to the horizon.
abbrev pub Followed : Pair → (ℕ → ℕ) → Type 0
Followed p g = (s : ℕ → ℕ) × Conforms∞ p s × ((d : ℕ) → d ≤ horizon p → sum s 0 d ≡ g d)

-- g grows, over any d ticks more, by no less than their least and no more than their ceiling.
module _ (p : Pair) (C : Closed p) (h : 1 ≤ horizon p) (g : ℕ → ℕ) (none : g 0 ≡ 0)
    (lower-more : (i d : ℕ) → i + d ≤ horizon p → g i + lower_at p d ≤ g (i + d))
    (upper-more : (i d : ℕ) → i + d ≤ horizon p → g (i + d) ≤ g i + upper_at p d) where
  steps : List ℕ
  steps = table (λ d. g d - g (d - 1)) (horizon p)

  length_steps : length steps ≡ horizon p
  unfolding steps
  length_steps = length-table _ (horizon p)

  step : (i : ℕ) → i < horizon p → counts_of steps i + g i ≡ g (suc i)
  unfolding steps
  step i l =
      let e : suc i - 1 ≡ i = omega arith in
      let e' : i + 1 ≡ suc i = omega arith in
      omega (arith, get_or-table (λ d. g d - g (d - 1)) (horizon p) i 0 l, ap g e, ap g e', lower-more i 1 (omega arith))

  climb : (i d : ℕ) → i + d ≤ horizon p → sum (counts_of steps) i d + g i ≡ g (i + d)
  unfolding sum
  climb i zero l = rw add-zero (omega arith)
  climb i (suc d) l = rw add-suc (omega (arith, climb i d (omega arith), step (i + d) (omega arith)))

  steps_conform : Conforms p steps
  steps_conform i d u v w =
      let l : i + d ≤ horizon p = (rw length_steps at w) in
      omega (arith, climb i d l, lower-more i d l, upper-more i d l)

  followed : Followed p g
  followed =
      let (s, b, c) = extends p C h steps steps_conform in
      (s, c, λ d l. sym (local (counts_of steps) s 0 d (λ k u v. b k (omega (arith, length_steps)))) ∙ from_start d l)
    where
      from_start : (d : ℕ) → d ≤ horizon p → sum (counts_of steps) 0 d ≡ g d
      from_start d l =
          let e : 0 + d ≡ d = omega arith in
          omega (arith, climb 0 d (omega arith), ap g e)

pub followed_upper : (p : Pair) → Closed p → 1 ≤ horizon p → Followed p (upper_at p)
unfolding figure
followed_upper p C h = followed p C h (upper_at p) refl (λ i d l. (C.minus i d l).0) (λ i d l. (C.plus i d l).0)

pub followed_lower : (p : Pair) → Closed p → 1 ≤ horizon p → Followed p (lower_at p)
unfolding figure
followed_lower p C h = followed p C h (lower_at p) refl (λ i d l. (C.plus i d l).1) (λ i d l. (C.minus i d l).1)
