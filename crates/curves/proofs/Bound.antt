-- The rounds of a pair with a horizon of at most 2^k arrive or cross after at most k + 1. Assumes nothing.
use Rattle.laws.proofs.Base.{ℕ, zero, suc, ◌+◌, ◌^◌, ◌≤◌, dec_le, arith}
use Rattle.curves.specs.Pairs.{horizon, Pair}
use Rattle.curves.specs.Rounds.{cut_off, after, Crossed, Settled, Runs}
use Rattle.curves.specs.Theorems.{RunsWithinLogarithm}
use Rattle.curves.proofs.Figures.{after_horizon}
use Rattle.curves.proofs.Agreement.{runs_cut}
use Rattle.curves.proofs.Tightened.{below, Tightened, tightened}
use Rattle.curves.proofs.Closed.{settles}
use Rattle.curves.proofs.Walks.{Levels}
use Rattle.curves.proofs.Combinations.{Combined, single, round_combined}
use Rattle.curves.proofs.Walkable.{closed_last}

-- The figures after k + 1 rounds, none of which crosses, are settled.
module _ (p : Pair) (k : ℕ) (short : horizon p ≤ 2 ^ k) (uncrossed : (j : ℕ) → j ≤ suc k → ¬ Crossed cut_off (after cut_off j p)) where
  tight : (j : ℕ) → j ≤ k → Tightened (after cut_off j p) (after cut_off (suc j) p)
  unfolding after
  tight j l = tightened (after cut_off j p) (uncrossed (suc j) (omega arith))

  -- The first round goes into windows that lead past the places 0 to H, the other k into short cuts.
  levels : Levels (horizon p) k (λ i. after cut_off (suc i) p)
  levels =
      record {
        horizons = λ i. after_horizon cut_off (suc i) p;
        short = short;
        tight = λ i l. tight (suc i) l;
        uncrossed = λ d l. below _ (uncrossed (suc k) (omega arith)) d (rw (after_horizon cut_off (suc k) p) l);
      }

  combined : (j : ℕ) → Combined (horizon p) (after cut_off 0 p) (after cut_off j p)
  unfolding after
  combined zero = single (horizon p) (after cut_off 0 p)
  combined (suc j) = round_combined (horizon p) (after cut_off 0 p) (after cut_off j p) (after_horizon cut_off j p) (combined j)

  settled : Settled cut_off (after cut_off (suc k) p)
  settled =
      settles _
      (closed_last (horizon p) k (after cut_off 0 p) (λ i. after cut_off (suc i) p) levels (after_horizon cut_off 0 p) (tight 0 (omega arith))
      (combined (suc k)))

pub few_runs : (p : Pair) (k n : ℕ) → horizon p ≤ 2 ^ k → Runs cut_off p n → n ≤ k + 1
few_runs p k n short r =
    elim (dec_le n (k + 1)) [
      | yes l ↦ l
      | no l ↦ absurd (r.changes (suc k) (omega arith) (settled p k short (λ j m. r.uncrossed j (omega arith))))
    ]

pub runs_within_logarithm : RunsWithinLogarithm
runs_within_logarithm p k n short r = few_runs p k n short (runs_cut p n r)
