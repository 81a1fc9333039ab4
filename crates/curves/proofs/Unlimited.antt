-- Unlimited pairs: their rounds, what conforms, which of them are their own closures, and that every conforming start goes on.
-- Assumes nothing.
use Rattle.laws.proofs.Base.{ℕ, zero, suc, ◌+◌, ◌*◌, ◌≤◌, ◌<◌, ◌≡◌, refl, ap, List, [], ◌∷◌, dec_le, dec_lt, add-zero, arith}
use Rattle.laws.proofs.Base.{length, get_or}
use lib.ListN.{get_or-eq_default}
use Rattle.laws.proofs.Table.{length-table}
use Rattle.curves.specs.Streams.{Stream, count_limit, sum, counts_of}
use Rattle.curves.specs.Pairs.{horizon, figure, FiguresWithin}
use Rattle.curves.specs.Conformance.{Conforms}
use Rattle.curves.specs.Unlimited.{highest}
use Rattle.curves.specs.Theorems.{leasts_only, LeastsAlone, LeastsAloneFinite, RoundsOfSums, CausalIffSuperAdditive, LeastsExtendable}
use Rattle.curves.proofs.Figures.{figure_table}
use Rattle.curves.proofs.Sums.{local}
use Rattle.curves.proofs.Highest.{sum_within, entry_within}
use Rattle.curves.proofs.Standing.{standing, standing_upper, standing_has, standing_causal}

-- In the ceilings' place stands the largest count a tick.
pub leasts_standing : (ls : List ℕ) → leasts_only ls ≡ standing count_limit ls
unfolding highest
leasts_standing ls = refl

pub rounds_of_sums : RoundsOfSums
unfolding highest
rounds_of_sums ls n h = standing_has count_limit ls h n

-- ---- what conforms
pub leasts_alone : LeastsAlone
unfolding highest
leasts_alone h ls s = (
  (λ c i d u v. omega (arith, c i d u (rw (length-table (λ k. k * count_limit) h) v))),
  (λ c i d u v.
      let w : d ≤ h = rw (length-table (λ k. k * count_limit) h) at v in
      omega (arith, c i d u w, sum_within count_limit s.counts s.within i d, figure_table 0 (λ k. k * count_limit) h d u w)),
)

pub leasts_alone_finite : LeastsAloneFinite
unfolding highest
leasts_alone_finite h ls xs e = (
  (λ c i d u v w. omega (arith, c i d u (rw (length-table (λ k. k * count_limit) h) v) w)),
  (λ c i d u v w.
      let v' : d ≤ h = rw (length-table (λ k. k * count_limit) h) at v in
      let few = sum_within count_limit (counts_of xs) (entry_within count_limit xs e) i d in
      omega (arith, c i d u v' w, few, figure_table 0 (λ k. k * count_limit) h d u v')),
)

-- ---- which are their own closures
pub causal_iff_super_additive : CausalIffSuperAdditive
unfolding highest
causal_iff_super_additive ls h = standing_causal count_limit ls h

-- ---- what goes on
-- The entry at a place that a list has is whatever else is asked for.
get_d_any : (xs : List ℕ) (i x y : ℕ) → i < length xs → get_or xs i x ≡ get_or xs i y
get_d_any [] i x y l = absurd (omega arith)
get_d_any (z ∷ xs) zero x y l = refl
get_d_any (z ∷ xs) (suc i) x y l = get_d_any xs i x y (omega arith)

-- A start, and M in every tick after it.
abbrev onward : ℕ → List ℕ → ℕ → ℕ
onward M xs tick = get_or xs tick M

module _ (M : ℕ) (ls xs : List ℕ) (h : FiguresWithin M ls) (c : Conforms (standing M ls) xs) where
  onward_within : 1 ≤ length ls → (tick : ℕ) → onward M xs tick ≤ M
  unfolding sum
  onward_within u tick =
      elim (dec_lt tick (length xs)) [
        | yes l ↦
            let v : 1 ≤ horizon (standing M ls) = rw (length-table (λ d. d * M) (length ls)) u in
            omega (
              arith,
              get_d_any xs tick M 0 l,
              c tick 1 (omega arith) v (omega arith),
              standing_upper M ls 1 u,
              ap (counts_of xs) (add-zero tick),
            )
        | no l ↦ omega (arith, get_or-eq_default xs M {n = tick} (omega arith))
      ]

  -- A window that is not over has a tick of M.
  onward_leasts : (i d : ℕ) → 1 ≤ d → d ≤ length ls → figure 0 ls d ≤ sum (onward M xs) i d
  unfolding sum
  onward_leasts i zero u v = absurd (omega arith)
  onward_leasts i (suc d) u v =
      elim (dec_le (i + suc d) (length xs)) [
        | yes l ↦
            let w : suc d ≤ horizon (standing M ls) = rw (length-table (λ d. d * M) (length ls)) v in
            omega (
              arith,
              local (counts_of xs) (onward M xs) i (suc d) (λ k p q. get_d_any xs k 0 M (omega arith)),
              c i (suc d) u w l,
            )
        | no l ↦ omega (arith, h (suc d) u v, get_or-eq_default xs M {n = i + d} (omega arith))
      ]

pub leasts_extendable : LeastsExtendable
unfolding highest
leasts_extendable ls xs u h c =
    let s : Stream = record { counts = onward count_limit xs; within = onward_within count_limit ls xs h c u } in
    (s, (λ tick l. get_d_any xs tick 0 count_limit l), (leasts_alone (length ls) ls s).1 (onward_leasts count_limit ls xs h c))
