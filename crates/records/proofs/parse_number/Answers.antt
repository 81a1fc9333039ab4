-- A digit more, and the end.
use Rattle.std.proofs.Common.{arith}
use Rattle.records.proofs.Spelling.{spelling_more, spelling_done}
use Rattle.records.proofs.parse_number.Goals as goal

pub loop-b-preserved : goal.loop-b-preserved
loop-b-preserved c = rw c.from.ensures (spelling_more _ _ _ c.loop-b.invariant (omega arith) c.if-not-is_ascii_digit.ensures.cases)

pub returns : goal.returns
returns c =
    spelling_done _ _ _ c.loop-b.invariant c.loop-b-test.false (grind arith) c.if-field-gt-MAX_DIGITS.false c.else-field-eq48.either
