-- Copying a list over another, as far as there is room.
use Rattle.std.specs.Prelude.{ℕ, ◌≡◌, Bool, List}
use Rattle.laws.specs.Tests.{Tells}
use Rattle.laws.specs.Writing.{over}

-- The list is left with the entries of the other over its own, and it is told whether that is as it was found.
pub record Copied (from found left : List ℕ) (same : Bool) : Type 0 where
  pub entries : left ≡ over from found
  pub told : Tells same (left ≡ found)
