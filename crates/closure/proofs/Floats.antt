-- Numbers whose bits are those of normal floats are in the order of these floats. No proof needs it since closing compares integers; it stands
-- for a machine that has no such comparison. Assumes nothing.
use Rattle.laws.proofs.Base.{ℕ, suc, ◌+◌, ◌-◌, ◌*◌, ◌^◌, ◌%◌, ◌≤◌, ◌<◌, min, ◌≡◌, refl, sym, ap, ◌∙◌, subst, Bool, true, false, cond}
use Rattle.laws.proofs.Base.{dec_lt, arith, mod-lt, ne_eqb}
use Prim.Native.Nat.{◌/◌}
use native.Mathlib.Nat.{mod-eq_of_lt, div-add-mod, mul-pos, mul-lt-mul_of_pos_right, mul-le-mul, le_of_mul-le-mul_right}
use mathlib.Core.Bool.{not, ◌||◌}
use borrow.Author.Tests.{lt-leb, ltb-false}
use lib.Dec.{T, leb}
use lib.Pow.{pow_pos, pow_mono}
use lib.Ieee.{Float, nan, inf, fin, binary32, low, up, down, odd, of_fields, of_bits, to_bits, lt, le, eq, is_nan, nan_bits}
use lib.Ieee.Exact.{HasValue, odd_sign}
use lib.Ieee.Positive.{num, den, positive, positive_of_value, values_of_le, cross→le}
use lib.Ieee.Bits.{to_bits-of_bits, nan_bits_is}

-- The bits of a positive float that is neither subnormal nor infinite, nor a NaN's.
abbrev pub Normal : ℕ → Type 0
Normal n = (8_388_608 ≤ n) × (n < 2_139_095_040)

-- The weight of the exponent's field.
abbrev weight : ℕ
weight = 8_388_608

-- The float of a number, by its fields: the digits behind a leading one, and the exponent.
abbrev digits : ℕ → ℕ
digits n = weight + n % weight

abbrev exponent : ℕ → ℕ
exponent n = n / weight - 1

fields : (n : ℕ) → weight * (n / weight) + n % weight ≡ n
fields n = div-add-mod n weight

below : (n : ℕ) → n % weight < weight
below n = mod-lt n (omega arith)

by_fields : (x t : ℕ) → suc x < 255 → of_fields binary32 false (suc x) t ≡ odd 24 false (weight + t) x (low binary32)
unfolding of_fields
by_fields x t h = rw (ne_eqb (suc x) 255 (λ e. omega arith))

float_is : (n : ℕ) → Normal n → of_bits binary32 n ≡ odd 24 false (digits n) (exponent n) (low binary32)
unfolding of_bits
float_is n h =
    let sign : leb 2_147_483_648 n ≡ false = lt-leb 2_147_483_648 n (omega arith) in
    let rest : n % 2_147_483_648 ≡ n = mod-eq_of_lt (omega arith) in
    let field : n / weight ≡ suc (exponent n) = omega (arith, fields n, below n) in
    (λ i. of_fields binary32 (sign i) (rest i / weight) (n % weight))
    ∙ ap (λ y. of_fields binary32 false y (n % weight)) field
    ∙ by_fields (exponent n) (n % weight) (omega (arith, fields n, below n))

-- Its value, in units of 2^-149, grows with the number.
abbrev value : ℕ → ℕ
value n = digits n * 2 ^ exponent n

has_value : (n : ℕ) → Normal n → HasValue (of_bits binary32 n) false (value n) (2 ^ low binary32)
has_value n h =
    subst (λ (x : Float). HasValue x false (value n) (2 ^ low binary32)) (sym (float_is n h))
    (odd_sign 24 false (digits n) (exponent n) (low binary32))

positive_float : (n : ℕ) → Normal n → T (positive (of_bits binary32 n))
positive_float n h =
    positive_of_value (of_bits binary32 n) (value n) (2 ^ low binary32) (has_value n h) (mul-pos (omega arith) (pow_pos (exponent n)))

value_grows : (a b : ℕ) → Normal a → Normal b → a < b → value a < value b
value_grows a b h k l =
    elim (dec_lt (a / weight) (b / weight)) [
      | yes q ↦
          let up : 2 ^ suc (exponent a) ≤ 2 ^ exponent b = pow_mono (omega (arith, fields a, below a)) in
          let most : digits a * 2 ^ exponent a < (weight + weight) * 2 ^ exponent a =
          mul-lt-mul_of_pos_right (omega (arith, below a)) (pow_pos (exponent a)) in
          let least : weight * 2 ^ exponent b ≤ digits b * 2 ^ exponent b = mul-le-mul {n₁ = weight} (omega arith) (omega arith) in
          omega (arith, up, most, least)
      | no q ↦
          let same : exponent a ≡ exponent b = omega (arith, fields a, fields b, below a, below b) in
          subst (λ (x : ℕ). value a < digits b * 2 ^ x) same
          (mul-lt-mul_of_pos_right (omega (arith, fields a, fields b, below a, below b)) (pow_pos (exponent a)))
    ]

-- Floats that are not below each other.
not_below : (x y : Float) → T (positive x) → T (positive y) → lt x y ≡ false → num y * den x ≤ num x * den y
unfolding lt
not_below nan y p q e = absurd p
not_below (inf s) y p q e = absurd p
not_below (fin true m d) y p q e = absurd p
not_below (fin false m d) nan p q e = absurd q
not_below (fin false m d) (inf t) p q e = absurd q
not_below (fin false m d) (fin true n f) p q e = absurd q
not_below (fin false m d) (fin false n f) p q e = ltb-false (m * up d * down f) (n * up f * down d) e

a_number : (x : Float) → T (positive x) → T (not (is_nan x))
unfolding is_nan
a_number nan p = absurd p
a_number (inf s) p = absurd p
a_number (fin s m e) p = tt

or_first : (a b : Bool) → a ≡ true → T (a || b)
or_first true b e = tt
or_first false b e = let z : ◌≡◌ {A = ℕ} 0 1 = cc in absurd (omega arith)

-- From the order of two floats that of the numbers.
le_numbers : (a b : ℕ) → Normal a → Normal b → T (le (of_bits binary32 a) (of_bits binary32 b)) → a ≤ b
le_numbers a b h k t =
    let values : value a ≤ value b =
    le_of_mul-le-mul_right
    (values_of_le (of_bits binary32 a) (of_bits binary32 b) (value a) (2 ^ low binary32) (value b) (2 ^ low binary32)
    (positive_float a h) (positive_float b k) (has_value a h) (has_value b k) t)
    (pow_pos (low binary32)) in
    elim (dec_lt b a) [
      | yes l ↦ absurd (omega (arith, value_grows b a k h l))
      | no l ↦ omega arith
    ]

back : (n : ℕ) → Normal n → to_bits binary32 (of_bits binary32 n) ≡ n
back n h = to_bits-of_bits binary32 n (omega arith) (a_number (of_bits binary32 n) (positive_float n h))

-- ---- what comparing two numbers so comes to
module _ (a b : ℕ) (h : Normal a) (k : Normal b) where
  abbrev x : Float
  x = of_bits binary32 a

  abbrev y : Float
  y = of_bits binary32 b

  first : lt x y ≡ true → a ≤ b
  unfolding le
  first e = le_numbers a b h k (or_first (lt x y) (eq x y) e)

  second : lt x y ≡ false → b ≤ a
  second e =
      let (p, q) : T (positive x) × T (positive y) = (positive_float a h, positive_float b k) in
      le_numbers b a k h (cross→le y x q p (not_below x y p q e))

  pub smaller_bits : to_bits binary32 (cond (lt x y) x y) ≡ min a b
  smaller_bits = go (lt x y) refl
    where
      go : (t : Bool) → lt x y ≡ t → to_bits binary32 (cond t x y) ≡ min a b
      go true e = back a h ∙ omega (arith, first e)
      go false e = back b k ∙ omega (arith, second e)

-- None of the patterns is a NaN's, and so neither of the two is one.
pub no_nan_bits : (n : ℕ) → Normal n → T (not (nan_bits binary32 n))
no_nan_bits n h = subst (λ (b : Bool). T (not b)) (sym (nan_bits_is binary32 n)) (a_number (of_bits binary32 n) (positive_float n h))

pub no_nan : (a b : ℕ) → Normal a → Normal b → (t : Bool) → T (not (is_nan (cond t (of_bits binary32 a) (of_bits binary32 b))))
no_nan a b h k true = a_number (of_bits binary32 a) (positive_float a h)
no_nan a b h k false = a_number (of_bits binary32 b) (positive_float b k)
