-- Closed pairs, whose figures keep to all that they imply: the causal pairs, and those that a round leaves as they are. Assumes nothing.
use Rattle.laws.proofs.Base.{ℕ, zero, suc, ◌+◌, ◌-◌, ◌≤◌, ◌≡◌, refl, le_refl, arith}
use Rattle.curves.specs.Pairs.{horizon, figure, Pair, upper_at, lower_at}
use Rattle.curves.specs.Rounds.{cut_off, round, Crossed, Settled, Causal}
use Rattle.curves.proofs.Figures.{round_horizon, same_by, same_crossed}
use Rattle.curves.proofs.Tightened.{upper_falls, lower_rises, round_within, Tightened, tightened}
use Rattle.curves.proofs.Agreement.{crossed_given, settled_given}

abbrev pub Closed : Pair → Type 0
Closed p = Tightened p p

-- A causal pair is closed: a round tightens it, and leaves its figures as they are.
settled_figures : (p : Pair) → Settled cut_off p → (d : ℕ) → d ≤ horizon p
    → (upper_at (round cut_off p) d ≡ upper_at p d) × (lower_at (round cut_off p) d ≡ lower_at p d)
unfolding figure
settled_figures p s zero v = (refl, refl)
settled_figures p s (suc d) v =
    let v' : suc d ≤ horizon (round cut_off p) = rw (round_horizon cut_off p) v in
    (s.uppers (suc d) (omega arith) v', s.lowers (suc d) (omega arith) v')

pub closed : (p : Pair) → Causal p → Closed p
closed p c =
    record {
      plus = λ a b w. omega (arith, t.plus a b w, same (a + b) w);
      minus = λ a b w. omega (arith, t.minus a b w, same a (omega arith));
    }
  where
    uncrossed : ¬ Crossed cut_off p
    uncrossed x = c.uncrossed ((crossed_given p).1 x)

    settled : Settled cut_off p
    settled = (settled_given p uncrossed).0 c.settled

    t : Tightened p (round cut_off p)
    t = tightened p (λ x. uncrossed (same_crossed cut_off _ _ settled x))

    same : (d : ℕ) → d ≤ horizon p → (upper_at (round cut_off p) d ≡ upper_at p d) × (lower_at (round cut_off p) d ≡ lower_at p d)
    same = settled_figures p settled

-- No candidate of a round is better than the figure of a closed pair.
pub settles : (p : Pair) → Closed p → Settled cut_off p
settles p t =
    same_by 0 (round_horizon cut_off p) (λ d u v.
    let w : d ≤ horizon p = rw (round_horizon cut_off p) at v in
    omega (
      arith,
      upper_falls p d w,
      lower_rises p d w,
      round_within p d (upper_at p d) (lower_at p d) u w (le_refl _, le_refl _)
          (λ a l m.
          let e : a + (d - a) ≡ d = omega arith in
          omega (arith, rw e at (t.plus a (d - a) (omega arith))))
          (λ b l m. omega (arith, t.minus d b m)),
    ))
