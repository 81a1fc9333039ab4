-- The rows of no constraint.
use Rattle.constraints.proofs.Tables.{holds_none}
use Rattle.constraints.proofs.table.Table.new.Goals as goal

pub returns : goal.returns
returns c = holds_none
