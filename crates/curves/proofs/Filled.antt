-- A filled horizon: where a stream of at least H ticks conforms to a pair, and to its closure but for the newest tick, it conforms to the
-- closure. Assumes nothing.
use Rattle.laws.proofs.Base.{ℕ, zero, suc, ◌+◌, ◌-◌, ◌≤◌, ◌≡◌, sym, List, arith, length}
use Rattle.curves.specs.Pairs.{horizon, Pair, upper_at, lower_at, Equal}
use Rattle.curves.specs.Conformance.{Conforms}
use Rattle.curves.specs.Ticks.{then, last, Keeps}
use Rattle.curves.specs.Rounds.{whole, cut_off, figures_of, round, after, Arrives}
use Rattle.curves.proofs.Figures.{round_horizon, after_horizon, same_sym, same_trans}
use Rattle.curves.proofs.Tightened.{upper_falls, lower_rises, round_within}
use Rattle.curves.proofs.Agreement.{given_equal, cut_off_arrives}
use Rattle.curves.proofs.NextTick.{last_parts, keeps_conforms}

-- What conforms to a pair conforms to every looser one of its horizon.
looser : (c e : Pair) → horizon e ≡ horizon c
    → ((d : ℕ) → 1 ≤ d → d ≤ horizon c → (upper_at c d ≤ upper_at e d) × (lower_at e d ≤ lower_at c d))
    → (xs : List ℕ) → Conforms c xs → Conforms e xs
looser c e h f xs k i d u v w = let v' : d ≤ horizon c = rw (sym h) v in omega (arith, k i d u v' w, f d u v')

equal_conforms : (c e : Pair) → Equal c e → (xs : List ℕ) → Conforms c xs → Conforms e xs
equal_conforms c e q = looser c e (sym q.horizons) (λ d u v. omega (arith, q.uppers d u v, q.lowers d u v))

before_round : (c : Pair) (xs : List ℕ) → Conforms (round cut_off c) xs → Conforms c xs
before_round c =
    looser (round cut_off c) c (sym (round_horizon cut_off c)) (λ d u v.
    let w : d ≤ horizon c = rw (round_horizon cut_off c) at v in (upper_falls c d w, lower_rises c d w))

-- One round: with H ticks there, the longer windows of its differences that end at the newest tick are there too.
round_filled : (c : Pair) (xs : List ℕ) → Conforms c xs → horizon c ≤ length xs → Keeps (round cut_off c) xs
round_filled c xs k h d j =
    let w : d ≤ horizon c = rw (round_horizon cut_off c) at j.within in
    omega (
      arith,
      round_within c d (last xs d) (last xs d) j.positive w
          (omega (arith, k (length xs - d) d j.positive w (omega arith)))
          (λ a u v.
          omega (
            arith,
            k (length xs - d) a u (omega arith) (omega arith),
            k (length xs - (d - a)) (d - a) (omega arith) (omega arith) (omega arith),
            last_parts xs a (d - a) d (omega arith) (omega arith),
          ))
          (λ t u v.
          omega (
            arith,
            k (length xs - (d + t)) (d + t) (omega arith) v (omega arith),
            k (length xs - (d + t)) t u (omega arith) (omega arith),
            last_parts xs t d (d + t) (omega arith) (omega arith),
          )),
    )

-- So any number of rounds: what conforms after them conforms before each.
after_filled : (p : Pair) (n : ℕ) (xs : List ℕ) (x : ℕ) → Conforms (after cut_off n p) xs → Conforms p (then xs x)
    → horizon p ≤ length (then xs x) → Conforms (after cut_off n p) (then xs x)
unfolding after
after_filled p zero xs x k c h = equal_conforms p (figures_of cut_off p) (same_sym 0 _ _ (given_equal p)) (then xs x) c
after_filled p (suc n) xs x k c h =
    let e : Pair = after cut_off n p in
    let m : Conforms e (then xs x) = after_filled p n xs x (before_round e xs k) c h in
    keeps_conforms (round cut_off e) xs x k (round_filled e (then xs x) m (rw (after_horizon cut_off n p) h))

pub closure_filled : (p q : Pair) (n : ℕ) → Arrives whole p n q → (xs : List ℕ) (x : ℕ) → Conforms q xs → Conforms p (then xs x)
    → horizon p ≤ length (then xs x) → Conforms q (then xs x)
closure_filled p q n a xs x k c h =
    let e : Equal (after cut_off n p) q = same_trans 0 _ _ _ ((cut_off_arrives p n q).0 a).figures (given_equal q) in
    equal_conforms _ q e (then xs x) (after_filled p n xs x (equal_conforms q _ (same_sym 0 _ _ e) xs k) c h)
