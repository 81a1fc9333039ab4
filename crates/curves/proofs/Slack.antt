-- A round that changes a figure, and does not cross, makes the slack smaller. Assumes nothing.
use Rattle.laws.proofs.Base.{ℕ, ◌+◌, ◌-◌, ◌≤◌, ◌<◌, ◌≡◌, ap, dec_lt, arith}
use Rattle.laws.specs.Ranges.{fold}
use Rattle.laws.proofs.Best.{sum_tight}
use Rattle.curves.specs.Pairs.{horizon, Pair, upper_at, lower_at, slack}
use Rattle.curves.specs.Rounds.{cut_off, round, Crossed, Settled}
use Rattle.curves.proofs.Figures.{round_horizon, same_by}
use Rattle.curves.proofs.Tightened.{below, upper_falls, lower_rises}

-- How far one ceiling stands above its least.
abbrev room : Pair → ℕ → ℕ
room c d = upper_at c d - lower_at c d

pub slack_falls : (c : Pair) → ¬ Crossed cut_off (round cut_off c) → ¬ Settled cut_off c → slack (round cut_off c) < slack c
slack_falls c n s = elim (dec_lt (slack r) (slack c)) [ yes h ↦ h | no h ↦ absurd (s (same (omega (arith, horizons)))) ]
  where
    r : Pair
    r = round cut_off c

    horizons : slack r ≡ fold ◌+◌ 0 (room r) (horizon c)
    horizons = ap (fold ◌+◌ 0 (room r)) (round_horizon cut_off c)

    smaller : (d : ℕ) → 1 ≤ d → d ≤ horizon c → room r d ≤ room c d
    smaller d p q = omega (arith, upper_falls c d q, lower_rises c d q)

    same : slack c ≤ fold ◌+◌ 0 (room r) (horizon c) → Settled cut_off c
    same t =
        same_by 0 (round_horizon cut_off c) (λ d p v.
        let q : d ≤ horizon c = rw (round_horizon cut_off c) at v in
        let e : room r d ≡ room c d = sum_tight (room r) (room c) (horizon c) smaller t d p q in
        omega (arith, upper_falls c d q, lower_rises c d q, below r n d v))
