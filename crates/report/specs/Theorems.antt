-- What is proved of the program's output, from what `output` says alone.
use Rattle.std.specs.Prelude.{ℕ, ◌≤◌, ◌≡◌, ◌↔◌, ◌⊎◌, length}
use Rattle.laws.specs.Tests.{Each}
use Rattle.curves.specs.Streams.{Stream}
use Rattle.curves.specs.Unlimited.{AnyPair}
use Rattle.curves.specs.Questions.{FirstNo}
use Rattle.closure.specs.Theorems.{GivesClosure, closure_of}
use Rattle.csv_text.specs.Text.{Bytes}
use Rattle.constraints.specs.Constraints.{Satisfies}
use Rattle.constraints.specs.Reading.{constraints, reading_questions}
use Rattle.constraints.specs.Theorems.{GivesPair, given_pair}
use Rattle.rendering.specs.Rendering.{longest, text_of, refusal_line}
use Rattle.report.specs.Report.{zero_lists, output}

-- The pair that reading the text gives.
abbrev pub pair_in : Bytes → AnyPair
pair_in t = given_pair t zero_lists

-- The output is the closed curves of the text's pair; or a refusal with 5 of a text that reads well; or with 6 to 10, by reading's
-- questions. Any other refusal is not given.
abbrev pub OutputIs : Type 0
OutputIs =
    (t : Bytes)
    → (GivesPair t zero_lists × GivesClosure (pair_in t) zero_lists × (output t ≡ text_of (closure_of (pair_in t) zero_lists)))
    ⊎ (GivesPair t zero_lists × (output t ≡ refusal_line 5))
    ⊎ ((n : ℕ) × (6 ≤ n) × (n ≤ 10) × FirstNo (reading_questions t zero_lists) n × (output t ≡ refusal_line n))

-- 5 exactly where no unbounded stream satisfies the constraints of the text.
abbrev pub OutputRefusedIffNoStream : Type 0
OutputRefusedIffNoStream =
    (t : Bytes) → GivesPair t zero_lists → (output t ≡ refusal_line 5) ↔ ((s : Stream) → Each (Satisfies s.counts) (constraints t) → ⊥)

-- The output fits into what `report` gives back.
abbrev pub OutputFits : Type 0
OutputFits = (t : Bytes) → length (output t) ≤ longest
