-- Before a turn the entries before it are turned back.
use Rattle.laws.proofs.Base.{◌+◌, ◌-◌}
use Rattle.laws.proofs.Table.{Filled}
use Rattle.curves.specs.Pairs.{figure}
use Rattle.closure.specs.Steps.{lift}
use Rattle.closure.proofs.round.turn_back.Given as goal

abbrev pub invariant-loop-entry : goal.invariant-loop-entry
invariant-loop-entry l = Filled (λ d. (lift + lift) - figure 0 l.initial.entry-items d) l.initial.entry-items l.entry-items l.entry-index
