-- What the private functions of this crate promise each other. `render`'s promise cites nothing of it.
use Rattle.std.specs.Prelude.{ℕ, ◌+◌, length}
use Rattle.laws.specs.Writing.{Wrote}
use Rattle.csv_text.specs.Text.{Bytes}
use Rattle.csv_text.specs.Numbers.{decimal}
use Rattle.csv_text.specs.Records.{Most}
use Rattle.rendering.specs.declared.write.Text.{Text}
use Rattle.rendering.specs.Rendering.{most_field}

-- How many bytes a record has: its digits, two commas and CR LF.
abbrev pub line_length : ℕ → ℕ → Most → ℕ
line_length w l m = length (decimal w) + length (decimal l) + length (most_field m) + 4

-- The bytes t are put behind those of a text.
abbrev pub Pushed : Text → Bytes → Text → Type 0
Pushed x t y = Wrote x.bytes x.length t y.bytes y.length
