-- Before a turn the bytes passed are digits, and spell the value.
use Rattle.records.proofs.Spelling.{Spelling}
use Rattle.records.proofs.parse_number.Given as goal

abbrev pub invariant-loop-b : goal.invariant-loop-b
invariant-loop-b l = Spelling l.field l.b-index l.value
