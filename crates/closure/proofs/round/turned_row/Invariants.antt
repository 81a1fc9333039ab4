-- Before a turn the turned leasts of i windows are in the row.
use Rattle.laws.proofs.Base.{◌-◌}
use Rattle.curves.specs.Pairs.{figure}
use Rattle.closure.specs.Steps.{lift}
use Rattle.closure.proofs.Rows.{Rowed}
use Rattle.closure.proofs.round.turned_row.Given as goal

abbrev pub invariant-loop-i : goal.invariant-loop-i
invariant-loop-i l = Rowed (λ d. lift - figure 0 l.lower d) l.i l.row
