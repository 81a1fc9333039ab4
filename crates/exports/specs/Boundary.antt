-- What each call gives back: the operation of the library that it stands for, its answer as a number, its lists as it leaves them.
-- What calls on a state give back is said in `scripts`, Scripts.
use Rattle.std.specs.Prelude.{ℕ, zero, suc, ◌+◌, ◌*◌, Bool, true, false, List, length, take}
use Rattle.laws.specs.Writing.{over}
use Rattle.curves.specs.Pairs.{Pair}
use Rattle.closure.specs.Closing.{ClosingAnswer}
use Rattle.constraints.specs.Reading.{ReadingAnswer}
use Rattle.rendering.specs.Rendering.{RenderingAnswer}
use Rattle.scripts.specs.Codes.{minus}

-- ---- closing and reading
-- A mark that is given back: a bit of its own.
abbrev pub mark_bit : Bool → ℕ
mark_bit true = 65_536
mark_bit false = 0

-- A refusal's number in the upper 32 bits; in the lower a value, and above it the mark. On a refusal both are 0. The two can be told apart,
-- since every value is below 65,536: rounds by `AtMostNineRounds` (`guarantees`), a horizon by `HorizonWithin` (`constraints`).
abbrev pub in_one : ℕ → Bool → ℕ → ℕ
in_one number mark value = number * 4_294_967_296 + mark_bit mark + value

pub record Returned : Type 0 where
  pub answer : ℕ
  pub results : Pair

abbrev pub returned : ℕ → Pair → Returned
returned r left = record { answer = r; results = left }

abbrev pub closing_returned : ClosingAnswer → Returned
closing_returned a = returned (in_one a.number a.unlimited a.rounds) a.results

abbrev pub reading_returned : ReadingAnswer → Returned
reading_returned a = returned (in_one a.number a.unlimited a.horizon) a.results

-- ---- the report
pub record ReportReturned : Type 0 where
  pub length : ℕ
  pub output : List ℕ

abbrev pub report_returned : ℕ → List ℕ → ReportReturned
report_returned r left = record { length = r; output = left }

-- As many bytes as there is room for; the rest of the list as found.
abbrev pub report_into : List ℕ → List ℕ → ReportReturned
report_into o found = report_returned (length o) (over o found)

-- ---- rendering
-- How long a text is, or a refusal with a minus sign.
abbrev pub length_or : ℕ → ℕ → ℕ
length_or zero n = n
length_or (suc number) n = minus (suc number)

-- The text without its padding; where it is refused there is none.
abbrev pub rendered_into : RenderingAnswer → List ℕ → ReportReturned
rendered_into a found = report_returned (length_or a.number a.length) (over (take a.length a.bytes) found)
