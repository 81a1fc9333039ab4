-- Decimal numbers as text (document 01, "Triples as CSV text" and "The figures program").
use Rattle.std.specs.Prelude.{ℕ, zero, suc, ◌+◌, ◌-◌, ◌*◌, ◌/◌, ◌%◌, ◌≤◌, ◌≡◌, cond, [], ◌∷◌, ◌++◌, ◌⊎◌, ltb, length, get_or}
use Rattle.laws.specs.Tests.{Each}
use Rattle.csv_text.specs.Text.{Bytes}

-- `0` is the byte 48, `9` is 57.
abbrev pub Digit : ℕ → Type 0
Digit b = (48 ≤ b) × (b ≤ 57)

-- A field that a text may have: 1 to 5 decimal digits with no leading zero, but for `0` itself.
pub record Numeral (f : Bytes) : Type 0 where
  pub some : 1 ≤ length f
  pub few : length f ≤ 5
  pub digits : Each Digit f
  pub no_leading_zero : (length f ≡ 1) ⊎ (¬ (get_or f 0 0 ≡ 48))

-- The number that digits spell, after others that spell n.
unfoldable pub value_after : ℕ → Bytes → ℕ
value_after n [] = n
value_after n (b ∷ f) = value_after (n * 10 + (b - 48)) f

abbrev pub value : Bytes → ℕ
value f = value_after 0 f

-- The last digits of n, at most k of them, from the first that is not 0 on.
unfoldable pub last_digits : ℕ → ℕ → Bytes
last_digits zero n = []
last_digits (suc k) n = cond (ltb n 10) ((48 + n) ∷ []) (last_digits k (n / 10) ++ ((48 + n % 10) ∷ []))

-- n in decimal digits: no more than n + 1 of them.
abbrev pub decimal : ℕ → Bytes
decimal n = last_digits (suc n) n
