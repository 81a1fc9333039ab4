-- What the private functions of this crate promise each other. No public promise cites anything of it.
use Rattle.std.specs.Prelude.{ℕ, ◌≡◌, Result, Ok, Err}
use Rattle.scripts.specs.declared.OpenRefusal.{OpenRefusal}
use Rattle.scripts.specs.declared.OpenRefusal.TheVariants as refusal

-- The number that stands for an opening: 0, or that of a refusal, by what gives its own reason's.
abbrev pub OpeningNumber : {R : Type 0} → (R → ℕ → Type 0) → Result (Unit {0}) (OpenRefusal R) → ℕ → Type 0
OpeningNumber gives (Ok u) n = n ≡ 0
OpeningNumber gives (Err (refusal.Refused r)) n = gives r n
OpeningNumber gives (Err refusal.BadState) n = n ≡ 12
