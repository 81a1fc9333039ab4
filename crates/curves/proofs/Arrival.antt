-- The rounds of a pair arrive or cross, one of the two, once, and arrive within the pair's slack; they have ended after k + 1 where the
-- horizon is at most 2^k. Assumes nothing.
use Rattle.laws.proofs.Base.{ℕ, zero, suc, ◌+◌, ◌-◌, ◌^◌, ◌≤◌, ◌<◌, ◌≡◌, sym, ◌⊎◌, inl, inr, ⊎_elim, ⊎_map, dec_le, ℕ_discrete, le_refl}
use Rattle.laws.proofs.Base.{arith}
use mathlib.Core.Path.{ap₂}
use native.Mathlib.Nat.{one-le-pow}
use lib.IntN.{pos}
use Rattle.laws.proofs.Best.{fold_ext}
use Rattle.laws.proofs.Search.{every, below_suc}
use Rattle.curves.specs.Pairs.{horizon, Pair, upper_at, lower_at, Equal, slack}
use Rattle.curves.specs.Rounds.{Arithmetic, cut_off, figures_of, round, after, Crossed, Settled, Runs, Arrives}
use Rattle.curves.specs.Theorems.{Closes, ArrivesOrCrosses, NeverBoth, ArrivesOnce, CrossesOnce}
use Rattle.curves.specs.Theorems.{RoundsWithinSlack, EndsWithin, EndsWithinLogarithm}
use Rattle.curves.proofs.Figures.{round_horizon, same_by, same_sym, same_trans}
use Rattle.curves.proofs.Slack.{slack_falls}
use Rattle.curves.proofs.Bound.{few_runs}
use Rattle.curves.proofs.Agreement.{given_equal, equal_given, cut_off_arrives, cut_off_crosses}

-- ---- whether a pair's figures cross, and whether a round changes one, can be told
unfoldable pub crossed? : (c : Pair) → (¬ Crossed cut_off c) ⊎ Crossed cut_off c
crossed? c =
    ⊎_elim
    (λ h. inl (λ x. omega (arith, h x.window x.positive x.within, x.above)))
    inr
    (every (λ d. lower_at c d ≤ upper_at c d) (Crossed cut_off c) (horizon c) (λ d u v.
    elim (dec_le (lower_at c d) (upper_at c d)) [
      | yes h ↦ inl h
      | no h ↦ inr (record { window = d; positive = u; within = v; above = omega arith })
    ]))

unfoldable pub equal? : (c e : Pair) → horizon c ≡ horizon e → Equal c e ⊎ ¬ Equal c e
equal? c e s =
    ⊎_elim
    (λ h. inl (same_by 0 s h))
    inr
    (every (λ d. (upper_at c d ≡ upper_at e d) × (lower_at c d ≡ lower_at e d)) (¬ Equal c e) (horizon c) (λ d u v.
    elim (ℕ_discrete (upper_at c d) (upper_at e d)) [
      | yes h ↦ elim (ℕ_discrete (lower_at c d) (lower_at e d)) [ yes l ↦ inl (h, l) | no l ↦ inr (λ q. l (q.lowers d u v)) ]
      | no h ↦ inr (λ q. h (q.uppers d u v))
    ]))

-- ---- one round more
pub runs_more : (A : Arithmetic) (p : Pair) (n : ℕ) → Runs A p n → ¬ Crossed A (after A n p) → ¬ Settled A (after A n p)
    → Runs A p (suc n)
runs_more A p n r h s =
    record {
      uncrossed = below_suc (λ k. ¬ Crossed A (after A k p)) n r.uncrossed h;
      changes = below_suc (λ k. ¬ Settled A (after A k p)) n r.changes s;
    }

pub runs_none : (A : Arithmetic) (p : Pair) → Runs A p 0
runs_none A p = record { uncrossed = λ k l. absurd (omega arith); changes = λ k l. absurd (omega arith) }

-- n rounds have been run, and as many as `left` may follow: more than are ever run.
ends_from : (p : Pair) (k left n : ℕ) → horizon p ≤ 2 ^ k → k + 1 < n + left → Runs cut_off p n → EndsWithin p (k + 1)
unfolding after
ends_from p k zero n h l r = absurd (omega (arith, few_runs p k n h r))
ends_from p k (suc left) n h l r =
    let c : Pair = after cut_off n p in
    let few : n ≤ k + 1 = few_runs p k n h r in
    ⊎_elim
    (λ un. ⊎_elim
    (λ s.
    inl (
      n,
      c,
      few,
      (cut_off_arrives p n c).1
          (record { runs = r; uncrossed = un; settled = s; figures = same_sym 0 _ _ (given_equal c) }),
    ))
    (λ ns. ends_from p k left (suc n) h (omega arith) (runs_more cut_off p n r un ns))
    (equal? (round cut_off c) c (round_horizon cut_off c)))
    (λ x. inr (n, few, (cut_off_crosses p n).1 (record { runs = r; crossed = x })))
    (crossed? c)

pub ends_within_logarithm : EndsWithinLogarithm
ends_within_logarithm p k h = ends_from p k (k + 2) 0 h (omega arith) (runs_none cut_off p)

-- Every horizon is at most some 2^k.
below_power : (k : ℕ) → k ≤ 2 ^ k
below_power zero = omega arith
below_power (suc k) = omega (arith, below_power k, one-le-pow k 2 (omega arith))

pub arrives_or_crosses : ArrivesOrCrosses
arrives_or_crosses p =
    ⊎_map (λ a. (a.0, a.1, a.3)) (λ x. (x.0, x.2)) (ends_within_logarithm p (horizon p) (below_power (horizon p)))

-- ---- once
-- Numbers of rounds of which neither is before the other are one.
neither : {m n : ℕ} → ¬ (m < n) → ¬ (n < m) → m ≡ n
neither f g = omega arith

pub never_both : NeverBoth
never_both p q m n a x =
    let e : n ≡ m = neither (λ l. a.runs.uncrossed n l x.crossed) (λ l. x.runs.changes m l a.settled) in
    a.uncrossed (rw e at x.crossed)

pub arrives_once : ArrivesOnce
arrives_once p q r m n a b =
    let e : m ≡ n = neither (λ l. b.runs.changes m l a.settled) (λ l. a.runs.changes n l b.settled) in
    (e, (equal_given q r).0 (same_trans (pos 0) _ _ _ (same_sym (pos 0) _ _ a.figures) (rw (sym e) at b.figures)))

pub crosses_once : CrossesOnce
crosses_once p m n a b = neither (λ l. b.runs.uncrossed m l a.crossed) (λ l. a.runs.uncrossed n l b.crossed)

-- ---- within the slack
slack_equal : (p q : Pair) → Equal p q → slack p ≡ slack q
slack_equal p q s =
    rw (sym s.horizons) (fold_ext ◌+◌ 0 _ _ (horizon p) (λ d u v. ap₂ ◌-◌ (s.uppers d u v) (s.lowers d u v)))

slack_left : (p : Pair) (n : ℕ) → Runs cut_off p n → ¬ Crossed cut_off (after cut_off n p)
    → (k : ℕ) → k ≤ n → k + slack (after cut_off k p) ≤ slack p
unfolding after
slack_left p n r h zero l = omega (arith, slack_equal (figures_of cut_off p) p (given_equal p))
slack_left p n r h (suc k) l =
    let next : ¬ Crossed cut_off (after cut_off (suc k) p) =
    below_suc (λ j. ¬ Crossed cut_off (after cut_off j p)) n r.uncrossed h (suc k) (omega arith) in
    omega (arith, slack_left p n r h k (omega arith), slack_falls (after cut_off k p) next (r.changes k l))

pub rounds_within_slack : RoundsWithinSlack
rounds_within_slack p q n a =
    let b : Arrives cut_off p n q = (cut_off_arrives p n q).0 a in
    omega (arith, slack_left p n b.runs b.uncrossed n (le_refl n))

-- ---- whether the rounds end with a closure can be told
pub closes? : (p : Pair) → Dec (Closes p)
closes? p = ⊎_elim (λ a. yes a) (λ x. no (λ a. never_both p a.1 a.0 x.0 a.2 x.1)) (arrives_or_crosses p)
