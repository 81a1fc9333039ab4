-- What a `Record` stands for, and document 01's number of each `RecordRefusal`.
use Rattle.std.specs.Prelude.{ℕ, Result}
use Rattle.curves.specs.Questions.{Reply, reply_of}
use Rattle.csv_text.specs.Records.{most_in, or_else, Constraint, constraint}
use Rattle.records.specs.declared.Record.{Record}
use Rattle.records.specs.declared.RecordRefusal.{RecordRefusal}
use Rattle.records.specs.declared.RecordRefusal.TheVariants.{Malformed, OutOfRange}
use Rattle.records.specs.Recording.{Spelt, spelt}

abbrev pub constraint_in : Record → Constraint
constraint_in r = constraint r.window r.least (most_in r.most)

abbrev pub spelt_in : Record → Spelt
spelt_in r = spelt (constraint_in r) (or_else 0 (constraint_in r).most) r.length

abbrev pub record_refusal_number : RecordRefusal → ℕ
record_refusal_number Malformed = 7
record_refusal_number OutOfRange = 8

abbrev pub record_reply : Result Record RecordRefusal → Reply Spelt
record_reply r = reply_of spelt_in record_refusal_number r
