-- A pair as a graph: the places 0 to H, and an edge from each to each. Assumes nothing.
use Rattle.laws.proofs.Base.{ℕ, ◌+◌, ◌-◌, ◌≤◌, ◌≡◌, ap, dec_le, arith}
use Rattle.curves.specs.Pairs.{horizon, figure, Pair, upper_at, lower_at}
use Rattle.curves.proofs.Tightened.{Tightened}

-- The edge from x to y costs the ceiling of the ticks that it goes up, less the least of those that it goes down. One of the two is 0.
-- It bounds how far the count of messages up to tick y of a stream can be above that up to tick x.
abbrev pub rise : Pair → ℕ → ℕ → ℕ
rise c x y = upper_at c (y - x)

abbrev pub fall : Pair → ℕ → ℕ → ℕ
fall c x y = lower_at c (x - y)

pub no_rise : (c : Pair) (x y : ℕ) → y ≤ x → rise c x y ≡ 0
unfolding figure
no_rise c x y l = let e : y - x ≡ 0 = omega arith in ap (upper_at c) e

pub no_fall : (c : Pair) (x y : ℕ) → x ≤ y → fall c x y ≡ 0
unfolding figure
no_fall c x y l = let e : x - y ≡ 0 = omega arith in ap (lower_at c) e

module _ (c e : Pair) (t : Tightened c e) where
  -- Up by a and down by b, by way of a place that may lie past H: one edge of e costs no more.
  pub detour : (a b x y : ℕ) → a ≤ horizon c → b ≤ horizon c → x + a ≡ y + b
      → rise e x y + lower_at c b ≤ upper_at c a + fall e x y
  detour a b x y p q s =
      elim (dec_le b a) [
        | yes l ↦
            let k : a - b ≡ y - x = omega arith in
            let m : a - b + b ≡ a = omega arith in
            omega (arith, t.minus (a - b) b (omega arith), ap (upper_at e) k, ap (upper_at c) m)
        | no l ↦
            let k : b - a ≡ x - y = omega arith in
            let m : b - a + a ≡ b = omega arith in
            omega (arith, t.minus (b - a) a (omega arith), ap (lower_at e) k, ap (lower_at c) m, no_rise e x y (omega arith))
      ]

  -- By way of any place: one edge of e costs no more than two of c.
  pub triangle : (x y z : ℕ) → x ≤ horizon c → y ≤ horizon c → z ≤ horizon c
      → rise e x z + (fall c x y + fall c y z) ≤ rise c x y + rise c y z + fall e x z
  triangle x y z p q r =
      elim (dec_le x y) [
        | yes l ↦
            elim (dec_le y z) [
              | yes m ↦
                  let k : y - x + (z - y) ≡ z - x = omega arith in
                  omega (arith, t.plus (y - x) (z - y) (omega arith), ap (upper_at e) k, no_fall c x y l, no_fall c y z m)
              | no m ↦ omega (arith, detour (y - x) (y - z) x z (omega arith) (omega arith) (omega arith), no_fall c x y l)
            ]
        | no l ↦
            elim (dec_le y z) [
              | yes m ↦ omega (arith, detour (z - y) (x - y) x z (omega arith) (omega arith) (omega arith), no_fall c y z m)
              | no m ↦
                  let k : x - y + (y - z) ≡ x - z = omega arith in
                  omega (arith, t.plus (x - y) (y - z) (omega arith), ap (lower_at e) k, no_rise e x z (omega arith))
            ]
      ]
