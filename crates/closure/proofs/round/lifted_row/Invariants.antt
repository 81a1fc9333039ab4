-- Before a turn the lifted ceilings of i windows are in the row.
use Rattle.laws.proofs.Base.{◌+◌}
use Rattle.curves.specs.Pairs.{figure}
use Rattle.closure.specs.Steps.{lift}
use Rattle.closure.proofs.Rows.{Rowed}
use Rattle.closure.proofs.round.lifted_row.Given as goal

abbrev pub invariant-loop-i : goal.invariant-loop-i
invariant-loop-i l = Rowed (λ d. figure 0 l.upper d + lift) l.i l.row
