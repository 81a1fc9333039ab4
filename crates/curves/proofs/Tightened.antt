-- What a round makes of a pair: figures that keep to all that the old ones imply, with 0 for the window of no ticks. Assumes nothing.
use Rattle.laws.proofs.Base.{ℕ, zero, suc, ◌+◌, ◌-◌, ◌≤◌, ◌<◌, min, max, ◌≡◌, dec_le, add-zero, zero-add, arith}
use Rattle.laws.proofs.Best.{min_best, max_best}
use Rattle.curves.specs.Pairs.{horizon, figure, Pair, upper_at, lower_at}
use Rattle.curves.specs.Rounds.{cut_off, round, Crossed}
use Rattle.curves.proofs.Figures.{round_horizon, round_upper, round_lower, new_old, new_plus, new_minus, new-holds}

-- No least above its ceiling, window by window.
pub below : (c : Pair) → ¬ Crossed cut_off c → (d : ℕ) → d ≤ horizon c → lower_at c d ≤ upper_at c d
unfolding figure
below c n zero v = omega arith
below c n (suc d) v =
    elim (dec_le (lower_at c (suc d)) (upper_at c (suc d))) [
      | yes h ↦ h
      | no h ↦ absurd (n (record { window = suc d; positive = omega arith; within = v; above = omega arith }))
    ]

pub upper_falls : (c : Pair) (d : ℕ) → d ≤ horizon c → upper_at (round cut_off c) d ≤ upper_at c d
unfolding figure
upper_falls c zero v = omega arith
upper_falls c (suc d) v =
    rw (round_upper cut_off c (suc d) (omega arith) v) (new_old cut_off ◌≤◌ min min_best (horizon c) (upper_at c) (lower_at c) (suc d))

pub lower_rises : (c : Pair) (d : ℕ) → d ≤ horizon c → lower_at c d ≤ lower_at (round cut_off c) d
unfolding figure
lower_rises c zero v = omega arith
lower_rises c (suc d) v =
    rw (round_lower cut_off c (suc d) (omega arith) v)
    (new_old cut_off (λ x y. y ≤ x) max max_best (horizon c) (lower_at c) (upper_at c) (suc d))

-- x is at most every candidate of a ceiling, and y at least every one of a least: so with the new figures.
pub round_within : (c : Pair) (d x y : ℕ) → 1 ≤ d → d ≤ horizon c → (x ≤ upper_at c d) × (lower_at c d ≤ y)
    → ((a : ℕ) → 1 ≤ a → a < d → (x ≤ upper_at c a + upper_at c (d - a)) × (lower_at c a + lower_at c (d - a) ≤ y))
    → ((t : ℕ) → 1 ≤ t → d + t ≤ horizon c → (x ≤ upper_at c (d + t) - lower_at c t) × (lower_at c (d + t) - upper_at c t ≤ y))
    → (x ≤ upper_at (round cut_off c) d) × (lower_at (round cut_off c) d ≤ y)
round_within c d x y u v old plus minus =
    rw (round_upper cut_off c d u v, round_lower cut_off c d u v) (
      new-holds cut_off min (horizon c) (upper_at c) (lower_at c) d (λ z. x ≤ z) (min_best.both x)
          old.0 (λ a p q. (plus a p q).0) (λ t p q. (minus t p q).0),
      new-holds cut_off max (horizon c) (lower_at c) (upper_at c) d (λ z. z ≤ y) (max_best.both y)
          old.1 (λ a p q. (plus a p q).1) (λ t p q. (minus t p q).1),
    )

-- The figures of e keep to what those of c imply.
pub record Tightened (c e : Pair) : Type 0 where
  -- Sub-additive and super-additive.
  pub plus : (a b : ℕ) → a + b ≤ horizon c
      → (upper_at e (a + b) ≤ upper_at c a + upper_at c b) × (lower_at c a + lower_at c b ≤ lower_at e (a + b))
  -- No figure can be reached only by a window that cannot go on. With a = 0: no least of c above its ceiling.
  pub minus : (a b : ℕ) → a + b ≤ horizon c
      → (upper_at e a + lower_at c b ≤ upper_at c (a + b)) × (lower_at c (a + b) ≤ lower_at e a + upper_at c b)

module _ (c : Pair) where
  pub round_plus : (a b : ℕ) → a + b ≤ horizon c
      → (upper_at (round cut_off c) (a + b) ≤ upper_at c a + upper_at c b) × (lower_at c a + lower_at c b ≤ lower_at (round cut_off c) (a + b))
  unfolding figure
  round_plus zero b w = rw (zero-add b) (omega (arith, upper_falls c b (omega arith), lower_rises c b (omega arith)))
  round_plus (suc a) zero w =
      let v : suc a ≤ horizon c = omega arith in
      rw (add-zero (suc a)) (omega (arith, upper_falls c (suc a) v, lower_rises c (suc a) v))
  round_plus (suc a) (suc b) w =
      let k : suc a + suc b - suc a ≡ suc b = omega arith in
      let u : 1 ≤ suc a + suc b = omega arith in
      let l : suc a < suc a + suc b = omega arith in
      rw (round_upper cut_off c (suc a + suc b) u w, round_lower cut_off c (suc a + suc b) u w) (
        rw k at (new_plus cut_off ◌≤◌ min min_best (horizon c) (upper_at c) (lower_at c) (suc a + suc b) (suc a) (omega arith) l),
        rw k at (new_plus cut_off (λ x y. y ≤ x) max max_best (horizon c) (lower_at c) (upper_at c) (suc a + suc b) (suc a) (omega arith) l),
      )

  -- A round tightens, where it does not cross. No difference was cut off: the least of b ticks is at most the new one of a + b, and so is
  -- at most the ceiling.
  module _ (n : ¬ Crossed cut_off (round cut_off c)) where
    round_minus : (a b : ℕ) → a + b ≤ horizon c
        → (upper_at (round cut_off c) a + lower_at c b ≤ upper_at c (a + b)) × (lower_at c (a + b) ≤ lower_at (round cut_off c) a + upper_at c b)
    unfolding figure
    round_minus zero b w =
        rw (zero-add b)
        (omega (
          arith,
          below (round cut_off c) n b (rw (round_horizon cut_off c) (omega arith)),
          upper_falls c b (omega arith),
          lower_rises c b (omega arith),
        ))
    round_minus (suc a) zero w =
        let v : suc a ≤ horizon c = omega arith in
        rw (add-zero (suc a)) (omega (arith, upper_falls c (suc a) v, lower_rises c (suc a) v))
    round_minus (suc a) (suc b) w =
        rw (round_upper cut_off c (suc a) (omega arith) (omega arith), round_lower cut_off c (suc a) (omega arith) (omega arith))
        (omega (
          arith,
          new_minus cut_off ◌≤◌ min min_best (horizon c) (upper_at c) (lower_at c) (suc a) (suc b) (omega arith) w,
          new_minus cut_off (λ x y. y ≤ x) max max_best (horizon c) (lower_at c) (upper_at c) (suc a) (suc b) (omega arith) w,
          round_plus (suc a) (suc b) w,
          below (round cut_off c) n (suc a + suc b) (rw (round_horizon cut_off c) w),
          upper_falls c (suc a + suc b) w,
        ))

    pub tightened : Tightened c (round cut_off c)
    tightened = record { plus = round_plus; minus = round_minus }
