-- The sums and differences of every round that is run keep their limits. Assumes nothing.
use Rattle.laws.proofs.Base.{ℕ, zero, suc, ◌+◌, ◌*◌, ◌≤◌, sym, subst, subst⁻¹, List, ⊎_elim, dec_lt, arith, length}
use lib.IntN.{ℤ, pos, ◌+ℤ◌}
use Rattle.laws.proofs.Whole.{le_parts, parts_le, minus_above, above_minus}
use Rattle.laws.proofs.Table.{length-table}
use Rattle.curves.specs.Pairs.{Curves, Pair, horizon, figure, upper_at, lower_at, FiguresWithin}
use Rattle.curves.specs.Unlimited.{sums_after}
use Rattle.curves.specs.Rounds.{whole, cut_off, figures_of, after, Crossed}
use Rattle.curves.proofs.Figures.{given_horizon, given_upper, given_lower, round_horizon}
use Rattle.curves.proofs.Tightened.{below, upper_falls}
use Rattle.curves.proofs.Agreement.{agree, tied}
use Rattle.curves.proofs.Standing.{sums_length, standing_upper, standing_after, standing_uncrossed}
use Rattle.bounds.specs.Bounds.{max_horizon, figure_limit, Bounded}
use Rattle.closure.specs.Closing.{least_limit}
use Rattle.closure.specs.Widths.{sum_limit, HalfWidth, RoundsAreHalfWidth, SumsAreHalfWidth}

-- ---- of one pair: its figures are within the limit, and so its sums and differences within twice that and above minus that
module _ (p : Pair) where
  abbrev Small : Type 0
  Small = (d : ℕ) → 1 ≤ d → d ≤ horizon p → (upper_at p d ≤ figure_limit) × (lower_at p d ≤ figure_limit)

  within : (d : ℕ) → d ≤ horizon (figures_of whole p) → d ≤ horizon p
  within d v = rw (given_horizon whole p) at v

  small_half : Small → HalfWidth (figures_of whole p)
  small_half small =
      record {
        upper_sums = λ a b u v u' v'.
            rw (given_upper whole p a u (within a v), given_upper whole p b u' (within b v'))
            (parts_le (pos (upper_at p a) +ℤ pos (upper_at p b)) (pos sum_limit)
            (omega (arith, small a u (within a v), small b u' (within b v'))));
        lower_sums = λ a b u v u' v'.
            rw (given_lower whole p a u (within a v), given_lower whole p b u' (within b v'))
            (parts_le (pos (lower_at p a) +ℤ pos (lower_at p b)) (pos sum_limit)
            (omega (arith, small a u (within a v), small b u' (within b v'))));
        upper_differences = λ a b u v u' v'.
            rw (given_upper whole p a u (within a v), given_lower whole p b u' (within b v'))
            (minus_above (upper_at p a) (lower_at p b) figure_limit (omega (arith, small b u' (within b v'))));
        lower_differences = λ a b u v u' v'.
            rw (given_lower whole p a u (within a v), given_upper whole p b u' (within b v'))
            (minus_above (lower_at p a) (upper_at p b) figure_limit (omega (arith, small b u' (within b v'))));
      }

  -- What the limits say of the natural numbers that its figures are.
  module _ (h : HalfWidth (figures_of whole p)) (a b : ℕ) (u : 1 ≤ a) (v : a ≤ horizon p) (u' : 1 ≤ b) (v' : b ≤ horizon p) where
    in_figures : (d : ℕ) → d ≤ horizon p → d ≤ horizon (figures_of whole p)
    in_figures d w = rw (given_horizon whole p) w

    pub upper_sums_lem : upper_at p a + upper_at p b ≤ sum_limit
    upper_sums_lem =
        omega (
          arith,
          le_parts (pos (upper_at p a) +ℤ pos (upper_at p b)) (pos sum_limit)
              (rw (given_upper whole p a u v, given_upper whole p b u' v') at (h.upper_sums a b u (in_figures a v) u' (in_figures b v'))),
        )

    pub lower_sums_lem : lower_at p a + lower_at p b ≤ sum_limit
    lower_sums_lem =
        omega (
          arith,
          le_parts (pos (lower_at p a) +ℤ pos (lower_at p b)) (pos sum_limit)
              (rw (given_lower whole p a u v, given_lower whole p b u' v') at (h.lower_sums a b u (in_figures a v) u' (in_figures b v'))),
        )

    pub upper_differences_lem : lower_at p b ≤ upper_at p a + figure_limit
    upper_differences_lem =
        above_minus (upper_at p a) (lower_at p b) figure_limit
        (rw (given_upper whole p a u v, given_lower whole p b u' v') at (h.upper_differences a b u (in_figures a v) u' (in_figures b v')))

    pub lower_differences_lem : upper_at p b ≤ lower_at p a + figure_limit
    lower_differences_lem =
        above_minus (lower_at p a) (upper_at p b) figure_limit
        (rw (given_lower whole p a u v, given_upper whole p b u' v') at (h.lower_differences a b u (in_figures a v) u' (in_figures b v')))

-- ---- of the rounds
module _ (p : Pair) (b : Bounded p.upper) where
  -- Rounds raise no ceiling.
  ceilings : (n d : ℕ) → 1 ≤ d → d ≤ horizon (after cut_off n p) → upper_at (after cut_off n p) d ≤ figure_limit
  unfolding after
  ceilings zero d u v =
      let v' : d ≤ horizon p = rw (given_horizon cut_off p) at v in
      omega (arith, given_upper cut_off p d u v', b d u v')
  ceilings (suc n) d u v =
      let v' : d ≤ horizon (after cut_off n p) = rw (round_horizon cut_off (after cut_off n p)) at v in
      omega (arith, upper_falls (after cut_off n p) d v', ceilings n d u v')

pub rounds_are_half_width : RoundsAreHalfWidth
rounds_are_half_width p n b (runs, uncrossed) =
    ⊎_elim
    (λ e.
    let c : Pair = after cut_off n p in
    let ok : ¬ Crossed cut_off c = λ x. uncrossed ((tied p n).crossed.1 x) in
    subst (λ (y : Curves ℤ). HalfWidth y) (sym e)
    (small_half c (λ d u v. (ceilings p b n d u v, omega (arith, ceilings p b n d u v, below c ok d v)))))
    (λ x. absurd (uncrossed x.0))
    (agree p n)

-- ---- leasts without ceilings
-- None comes above the ceilings that can stand in the place of missing ones.
sums_small : (ls : List ℕ) (n : ℕ) → length ls ≤ max_horizon → FiguresWithin least_limit ls → (d : ℕ) → 1 ≤ d → d ≤ length ls
    → figure 0 (sums_after n ls) d ≤ figure_limit
sums_small ls n h w d u v =
    elim (dec_lt (d * least_limit) (figure 0 (sums_after n ls) d)) [
      | yes l ↦
          let e = sums_length n ls in
          let at : d ≤ length (sums_after n ls) = omega arith in
          absurd (standing_uncrossed least_limit ls w n
          (subst⁻¹ (λ (c : Pair). Crossed cut_off c) (standing_after least_limit ls w n)
          (record {
            window = d;
            positive = u;
            within = rw (length-table (λ k. k * least_limit) (length (sums_after n ls))) at;
            above = rw (standing_upper least_limit (sums_after n ls) d at) l;
          })))
      | no l ↦ omega arith
    ]

pub sums_are_half_width : SumsAreHalfWidth
sums_are_half_width ls n h w a b u v u' v' = omega (arith, sums_small ls n h w a u v, sums_small ls n h w b u' v')
