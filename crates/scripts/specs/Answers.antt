-- Results as C's numbers.
use Rattle.std.specs.Prelude.{ℕ, Result, Ok, Err}
use Rattle.history.specs.declared.BadState.{BadState}
use Rattle.scripts.specs.declared.OpenRefusal.{OpenRefusal}
use Rattle.scripts.specs.declared.OpenRefusal.TheVariants as refusal
use Rattle.scripts.specs.Codes.{minus}

-- Of an opening: 0, or the number of the refusal.
abbrev pub opening_number : {R : Type 0} → (R → ℕ) → Result (Unit {0}) (OpenRefusal R) → ℕ
opening_number number (Ok u) = 0
opening_number number (Err (refusal.Refused r)) = number r
opening_number number (Err refusal.BadState) = 12

-- How many ticks ran, or 12 with a minus sign.
abbrev pub counted : Result ℕ BadState → ℕ
counted (Ok n) = n
counted (Err e) = minus 12
