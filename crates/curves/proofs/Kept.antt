-- A round, and so any number of them, keeps exactly the same unbounded conforming streams; a crossed pair has none.
-- Assumes nothing.
use Rattle.laws.proofs.Base.{ℕ, zero, suc, ◌+◌, ◌-◌, ◌≤◌, ◌↔◌, ⊎_elim, arith}
use mathlib.Core.Logic.Iff
use Rattle.curves.specs.Streams.{sum}
use Rattle.curves.specs.Pairs.{horizon, Pair, Equal}
use Rattle.curves.specs.Conformance.{Conforms∞}
use Rattle.curves.specs.Rounds.{whole, cut_off, figures_of, round, after, Crossed}
use Rattle.curves.specs.Theorems.{RoundsKeepStreams, CrossedHasNoStream}
use Rattle.curves.proofs.Sums.{split, split_at}
use Rattle.curves.proofs.Figures.{round_horizon, same_sym, same_crossed}
use Rattle.curves.proofs.Tightened.{upper_falls, lower_rises, round_within}
use Rattle.curves.proofs.Agreement.{given_equal, crossed_given, equal_given, agree, tied}

module _ (s : ℕ → ℕ) where
  -- The sum of a window keeps to every candidate of its new figures, and the old figures are among the candidates.
  round_keeps : (c : Pair) → Conforms∞ c s ↔ Conforms∞ (round cut_off c) s
  round_keeps c = (
    (λ k i d u v.
        let w : d ≤ horizon c = rw (round_horizon cut_off c) at v in
        omega (
          arith,
          round_within c d (sum s i d) (sum s i d) u w (omega (arith, k i d u w))
              (λ a p q.
              omega (
                arith,
                k i a p (omega arith),
                k (i + a) (d - a) (omega arith) (omega arith),
                split_at s i a (d - a) d (omega arith),
              ))
              (λ t p q. omega (arith, k i (d + t) (omega arith) q, k (i + d) t p (omega arith), split s i d t)),
        )),
    (λ k i d u v. omega (arith, k i d u (rw (round_horizon cut_off c) v), upper_falls c d v, lower_rises c d v)),
  )

  equal_keeps : (c e : Pair) → Equal c e → Conforms∞ c s → Conforms∞ e s
  equal_keeps c e q k i d u v =
      let w : d ≤ horizon c = rw q.horizons v in
      omega (arith, k i d u w, q.uppers d u w, q.lowers d u w)

  equal_streams : (c e : Pair) → Equal c e → Conforms∞ c s ↔ Conforms∞ e s
  equal_streams c e q = (equal_keeps c e q, equal_keeps e c (same_sym 0 c e q))

  after_keeps : (n : ℕ) (p : Pair) → Conforms∞ (after cut_off n p) s ↔ Conforms∞ p s
  unfolding after
  after_keeps zero p = equal_streams (figures_of cut_off p) p (given_equal p)
  after_keeps (suc n) p = Iff.trans (Iff.symm (round_keeps (after cut_off n p))) (after_keeps n p)

  -- No sum is at least the least of a window and at most a ceiling below it.
  crossed_none : {c : Pair} → Crossed cut_off c → ¬ Conforms∞ c s
  crossed_none x k = omega (arith, x.above, k 0 x.window x.positive x.within)

-- The exact rounds have the figures of those cut off at 0, or both have crossed, and neither pair has a stream.
pub rounds_keep_streams : RoundsKeepStreams
rounds_keep_streams p q n h s =
    ⊎_elim
    (λ e. Iff.trans (Iff.symm (after_keeps s n p)) (equal_streams s (after cut_off n p) q ((equal_given (after cut_off n p) q).0 (rw e at h))))
    (λ x. (
      (λ k. absurd (crossed_none s x.1 ((after_keeps s n p).1 k))),
      (λ k. absurd (crossed_none s ((crossed_given q).0 (same_crossed whole _ _ h x.0)) k)),
    ))
    (agree p n)

pub crossed_has_no_stream : CrossedHasNoStream
crossed_has_no_stream p n x s k = crossed_none s ((tied p n).crossed.0 x) ((after_keeps s n p).1 k)
