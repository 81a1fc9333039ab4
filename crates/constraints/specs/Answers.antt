-- Document 01's number of each `ReadingRefusal`, and the values of a `Reading`.
use Rattle.std.specs.Prelude.{ℕ, Bool, false, Result, Ok, Err}
use Rattle.curves.specs.Pairs.{Pair}
use Rattle.records.specs.declared.RecordRefusal.{RecordRefusal}
use Rattle.records.specs.declared.RecordRefusal.TheVariants.{Malformed, OutOfRange}
use Rattle.constraints.specs.declared.Reading.{Reading}
use Rattle.constraints.specs.declared.ReadingRefusal.{ReadingRefusal}
use Rattle.constraints.specs.declared.ReadingRefusal.TheVariants.{HeaderLine, RecordForm, FigureRange, WindowAgain, NoRecord, ResultLength}
use Rattle.constraints.specs.Reading.{ReadingAnswer}

-- The refusal for a record that is refused.
abbrev pub refused_by : RecordRefusal → ReadingRefusal
refused_by Malformed = RecordForm
refused_by OutOfRange = FigureRange

abbrev pub reading_refusal_number : ReadingRefusal → ℕ
reading_refusal_number HeaderLine = 6
reading_refusal_number RecordForm = 7
reading_refusal_number FigureRange = 8
reading_refusal_number WindowAgain = 9
reading_refusal_number NoRecord = 10
reading_refusal_number ResultLength = 11

-- The number of the refusal; 0 where there is none.
abbrev pub reading_number : Result Reading ReadingRefusal → ℕ
reading_number (Ok r) = 0
reading_number (Err e) = reading_refusal_number e

-- The horizon that is answered; 0 on a refusal.
abbrev pub reading_horizon : Result Reading ReadingRefusal → ℕ
reading_horizon (Ok r) = r.horizon
reading_horizon (Err e) = 0

-- The mark; not set on a refusal.
abbrev pub reading_mark : Result Reading ReadingRefusal → Bool
reading_mark (Ok r) = r.unlimited
reading_mark (Err e) = false

-- What a call that returns this, and leaves the result lists so, has answered.
abbrev pub reading_answer : Result Reading ReadingRefusal → Pair → ReadingAnswer
reading_answer r left = record { number = reading_number r; horizon = reading_horizon r; unlimited = reading_mark r; results = left }
