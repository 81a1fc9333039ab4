-- The counts that can be sent: those from the smallest to the largest; without ceilings the largest is 16,776,960, after any ticks.
-- Assumes nothing.
use Rattle.laws.proofs.Base.{ℕ, zero, suc, ◌-◌, ◌≤◌, ◌≡◌, List, [], ◌∷◌, ◌↔◌, dec_le, arith, length}
use lib.ListN.{get_or-eq_default}
use Rattle.laws.specs.Tests.{Each}
use Rattle.laws.proofs.Tests.{each_append}
use Rattle.curves.specs.Streams.{count_limit}
use Rattle.curves.specs.Pairs.{horizon, figure, FiguresWithin}
use Rattle.curves.specs.Unlimited.{AnyPair, limited, unlimited, curves_of}
use Rattle.curves.specs.Ticks.{then, Keeps, Extremes}
use Rattle.curves.proofs.Highest.{length-highest, highest_at, last_within}
use Rattle.curves.proofs.NextTick.{length-then, last_next, range_whole, keeps_between, keeps_has_range, within_has_range}
use Rattle.bounds.specs.Bounds.{figure_limit}
use Rattle.generator.specs.Generating.{Sendable}

pub sendable_whole : (p : AnyPair) (xs : List ℕ) (r : Extremes (Sendable p xs)) (x : ℕ) → Sendable p xs x ↔ ((r.lo ≤ x) × (x ≤ r.hi))
sendable_whole (limited p) xs r x = range_whole p xs r x
sendable_whole (unlimited h ls) xs r x = (
  (λ k. (r.smallest x k, r.largest x k)),
  (λ b. (
    keeps_between (curves_of (unlimited h ls)) xs r.lo r.hi x r.lo_keeps.0 r.hi_keeps.0 b.0 b.1,
    omega (arith, b.1, r.hi_keeps.1),
  )),
)

-- Where there is one, there is a smallest and a largest.
pub sendable_has_range : (p : AnyPair) (xs : List ℕ) → 1 ≤ horizon (curves_of p) → (x : ℕ) → Sendable p xs x → Extremes (Sendable p xs)
sendable_has_range (limited p) xs h x k = keeps_has_range p xs h x k
sendable_has_range (unlimited n ls) xs h x k = within_has_range (curves_of (unlimited n ls)) xs figure_limit h x k.0 k.1

-- ---- without ceilings, where no least is above the limit and the ticks before have counts
module _ (h : ℕ) (ls xs : List ℕ) (small : FiguresWithin figure_limit ls) (counts : Each (λ x. x ≤ count_limit) xs) where
  least_small : (d : ℕ) → 1 ≤ d → figure 0 ls d ≤ figure_limit
  unfolding figure
  least_small zero u = elim u [ ]
  least_small (suc d) u =
      elim (dec_le (suc d) (length ls)) [
        | yes l ↦ small (suc d) u l
        | no l ↦ omega (arith, get_or-eq_default ls 0 {n = d} (omega arith))
      ]

  limit_keeps : Keeps (curves_of (unlimited h ls)) (then xs figure_limit)
  limit_keeps d j =
      let at : suc (d - 1) ≡ d = omega (arith, j.positive) in
      let sums = rw at at (last_next xs figure_limit (d - 1) (omega (arith, j.positive, j.begun, length-then xs figure_limit))) in
      let most = last_within count_limit (then xs figure_limit) d (each_append _ xs (figure_limit ∷ []) counts (omega arith, tt)) in (
        (λ q. omega (arith, q, most, highest_at h d j.positive (rw (length-highest h) at j.within))),
        (λ q. omega (arith, q, sums, least_small d j.positive)),
      )

  -- So there is always one, and the largest is the limit.
  pub limit_sendable : Sendable (unlimited h ls) xs figure_limit
  limit_sendable = (limit_keeps, omega arith)

  pub largest_is_limit : (r : Extremes (Sendable (unlimited h ls) xs)) → r.hi ≡ figure_limit
  largest_is_limit r = omega (arith, r.largest figure_limit limit_sendable, r.hi_keeps.1)
