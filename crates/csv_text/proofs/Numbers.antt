-- Decimal numbers as text: what `decimal` writes, and that it spells its number. Assumes nothing.
use Rattle.laws.proofs.Base.{ℕ, zero, suc, ◌+◌, ◌-◌, ◌*◌, ◌^◌, ◌%◌, ◌≤◌, ◌<◌, ◌≡◌, refl, sym, ap, ◌∙◌, [], ◌∷◌, ◌++◌, inl, inr, dec_le}
use Rattle.laws.proofs.Base.{arith, lt-ltb, le-ltb, length, get_or, length-append, list_get_or-append}
use Prim.Native.Nat.{◌/◌}
use native.Mathlib.Nat.{pow-suc}
use Rattle.laws.specs.Tests.{Each}
use Rattle.laws.proofs.Tests.{each_append}
use Rattle.csv_text.specs.Text.{Bytes}
use Rattle.csv_text.specs.Numbers.{Digit, Numeral, value_after, value, last_digits, decimal}

-- ---- a digit, or those of the tenth and one more
pub digits_small : (k n : ℕ) → n < 10 → last_digits (suc k) n ≡ (48 + n) ∷ []
unfolding last_digits
digits_small k n h = rw (lt-ltb n 10 h)

pub digits_step : (k n : ℕ) → 10 ≤ n → last_digits (suc k) n ≡ last_digits k (n / 10) ++ ((48 + n % 10) ∷ [])
unfolding last_digits
digits_step k n h = rw (le-ltb n 10 h)

-- More places than needed change nothing.
digits_enough : (k j n : ℕ) → n < k → n < j → last_digits k n ≡ last_digits j n
digits_enough zero j n h g = absurd (omega arith)
digits_enough (suc k) zero n h g = absurd (omega arith)
digits_enough (suc k) (suc j) n h g =
    elim (dec_le 10 n) [
      | yes s ↦ rw (digits_step k n s, digits_step j n s, digits_enough k j (n / 10) (omega arith) (omega arith))
      | no s ↦ let l : n < 10 = omega arith in digits_small k n l ∙ sym (digits_small j n l)
    ]

pub decimal_small : (n : ℕ) → n < 10 → decimal n ≡ (48 + n) ∷ []
decimal_small n h = digits_small n n h

pub decimal_step : (n : ℕ) → 10 ≤ n → decimal n ≡ decimal (n / 10) ++ ((48 + n % 10) ∷ [])
decimal_step n h =
    digits_step n n h ∙ ap (λ t. t ++ ((48 + n % 10) ∷ [])) (digits_enough n (suc (n / 10)) (n / 10) (omega arith) (omega arith))

-- ---- a text with one byte more
value_snoc : (n : ℕ) (t : Bytes) (b : ℕ) → value_after n (t ++ (b ∷ [])) ≡ value_after n t * 10 + (b - 48)
unfolding value_after
value_snoc n [] b = refl
value_snoc n (a ∷ t) b = value_snoc (n * 10 + (a - 48)) t b

-- ---- what the digits of n are
record Spells (n : ℕ) (t : Bytes) : Type 0 where
  some : 1 ≤ length t
  few : (k : ℕ) → 1 ≤ k → n < 10 ^ k → length t ≤ k
  digits : Each Digit t
  spelt : value t ≡ n
  no_zero : 1 ≤ n → ¬ (get_or t 0 0 ≡ 48)

one_digit : (n : ℕ) → n < 10 → Spells n ((48 + n) ∷ [])
unfolding value_after
one_digit n h =
    record {
      some = omega arith;
      few = λ k p q. p;
      digits = (omega arith, tt);
      spelt = omega arith;
      no_zero = λ p. omega arith;
    }

one_more : (n : ℕ) (t : Bytes) → 10 ≤ n → Spells (n / 10) t → Spells n (t ++ ((48 + n % 10) ∷ []))
one_more n t h s =
    record {
      some = simp length-append (omega arith);
      few = fits;
      digits = each_append Digit t _ s.digits (omega arith, tt);
      spelt = value_snoc 0 t _ ∙ rw s.spelt (omega arith);
      no_zero = λ p e. s.no_zero (omega arith) (sym (list_get_or-append t _ 0 0 s.some) ∙ e);
    }
  where
    fits : (k : ℕ) → 1 ≤ k → n < 10 ^ k → length (t ++ ((48 + n % 10) ∷ [])) ≤ k
    fits zero p q = absurd (omega arith)
    fits (suc zero) p q = absurd (omega arith)
    fits (suc (suc k)) p q = simp length-append (omega (arith, s.few (suc k) (omega arith) (omega (arith, pow-suc 10 (suc k)))))

spells_in : (k n : ℕ) → n < k → Spells n (last_digits k n)
spells_in zero n h = absurd (omega arith)
spells_in (suc k) n h =
    elim (dec_le 10 n) [
      | yes g ↦ rw (digits_step k n g) (one_more n (last_digits k (n / 10)) g (spells_in k (n / 10) (omega arith)))
      | no g ↦ let s : n < 10 = omega arith in rw (digits_small k n s) (one_digit n s)
    ]

spells : (n : ℕ) → Spells n (decimal n)
spells n = spells_in (suc n) n (omega arith)

pub value_decimal : (n : ℕ) → value (decimal n) ≡ n
value_decimal n = (spells n).spelt

pub decimal_digits : (n : ℕ) → Each Digit (decimal n)
decimal_digits n = (spells n).digits

pub decimal_some : (n : ℕ) → 1 ≤ length (decimal n)
decimal_some n = (spells n).some

-- A number below 10 ^ k has at most k digits.
pub decimal_few : (n k : ℕ) → 1 ≤ k → n < 10 ^ k → length (decimal n) ≤ k
decimal_few n k p q = (spells n).few k p q

-- A number of up to five digits is written as a text may have it.
pub numeral_decimal : (n : ℕ) → n ≤ 99_999 → Numeral (decimal n)
numeral_decimal n h =
    record {
      some = decimal_some n;
      few = decimal_few n 5 (omega arith) (omega arith);
      digits = decimal_digits n;
      no_leading_zero =
          elim (dec_le 1 n) [
            | yes p ↦ inr ((spells n).no_zero p)
            | no p ↦ inl (ap length (decimal_small n (omega arith)))
          ];
    }
