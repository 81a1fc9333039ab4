-- Walks over the edges of a pair: the edges of a later pair are short cuts, each twice as far as those of the one before it; and no loop
-- gains anything. Assumes nothing.
use Rattle.laws.proofs.Base.{ℕ, zero, suc, ◌+◌, ◌-◌, ◌^◌, ◌≤◌, ◌<◌, min, ◌≡◌, le_refl, add-zero, add-one, arith}
use Rattle.curves.specs.Streams.{sum}
use Rattle.curves.specs.Pairs.{horizon, Pair, upper_at, lower_at}
use Rattle.curves.proofs.Sums.{split_at}
use Rattle.curves.proofs.Tightened.{Tightened}
use Rattle.curves.proofs.Edges.{rise, fall, no_rise, triangle}

-- A walk is at the place `at t` after t edges. What w says of its edges, one after the other.
abbrev pub along : (ℕ → ℕ → ℕ) → (ℕ → ℕ) → ℕ → ℕ
along w at t = w (at t) (at (suc t))

-- Pairs of one horizon, which is at most 2^k: k times the next one is tightened, and in the last no least is above its ceiling.
pub record Levels (H k : ℕ) (c : ℕ → Pair) : Type 0 where
  pub horizons : (i : ℕ) → horizon (c i) ≡ H
  pub short : H ≤ 2 ^ k
  pub tight : (i : ℕ) → i < k → Tightened (c i) (c (suc i))
  pub uncrossed : (d : ℕ) → d ≤ H → lower_at (c k) d ≤ upper_at (c k) d

module _ (H k : ℕ) (c : ℕ → Pair) (levels : Levels H k c) (at : ℕ → ℕ) (inside : (t : ℕ) → at t ≤ H) where
  -- One edge of the i-th pair costs no more than the n edges of the first that follow t others.
  abbrev ShortCut : ℕ → ℕ → ℕ → Type 0
  ShortCut i t n =
      rise (c i) (at t) (at (t + n)) + sum (along (fall (c 0)) at) t n
      ≤ sum (along (rise (c 0)) at) t n + fall (c i) (at t) (at (t + n))

  -- Two edges of it, by way of a place on the walk, do not.
  halves : (i t n : ℕ) → n ≤ 2 ^ suc i → ((s m : ℕ) → m ≤ 2 ^ i → ShortCut i s m)
      → (y : ℕ) × (y ≤ H)
      × (rise (c i) (at t) y + rise (c i) y (at (t + n)) + sum (along (fall (c 0)) at) t n
      ≤ sum (along (rise (c 0)) at) t n + (fall (c i) (at t) y + fall (c i) y (at (t + n))))
  halves i t n b half =
      let m : ℕ = min n (2 ^ i) in
      let e : m + (n - m) ≡ n = omega arith in
      let e' : t + m + (n - m) ≡ t + n = omega arith in (
        at (t + m),
        inside (t + m),
        omega (
          arith,
          half t m (omega arith),
          rw e' at (half (t + m) (n - m) (omega arith)),
          split_at (along (fall (c 0)) at) t m (n - m) n e,
          split_at (along (rise (c 0)) at) t m (n - m) n e,
        ),
      )

  pub short_cut : (i t n : ℕ) → i ≤ k → n ≤ 2 ^ i → ShortCut i t n
  unfolding sum
  short_cut zero t zero l b = rw (add-zero t) (omega (arith, no_rise (c 0) (at t) (at t) (le_refl _)))
  short_cut zero t (suc zero) l b = rw (add-one t, add-zero t) (omega arith)
  short_cut zero t (suc (suc n)) l b = absurd (omega arith)
  short_cut (suc i) t n l b =
      let (y, q, h) = halves i t n b (λ s m. short_cut i s m (omega arith)) in
      omega (
        arith,
        h,
        triangle (c i) (c (suc i)) (levels.tight i l) (at t) y (at (t + n))
            (rw (levels.horizons i) (inside t)) (rw (levels.horizons i) q) (rw (levels.horizons i) (inside (t + n))),
      )

  -- n edges that lead back to where they began, at most 2^(k + 1) of them, give back no more than they cost.
  pub loop : (t n : ℕ) → n ≤ 2 ^ suc k → at (t + n) ≡ at t → sum (along (fall (c 0)) at) t n ≤ sum (along (rise (c 0)) at) t n
  loop t n b back =
      let (y, q, h) = halves k t n b (λ s m. short_cut k s m (le_refl k)) in
      omega (
        arith,
        rw back at h,
        levels.uncrossed (at t - y) (omega (arith, inside t)),
        levels.uncrossed (y - at t) (omega arith),
      )
