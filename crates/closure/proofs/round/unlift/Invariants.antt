-- Before a turn the entries before it have their lift taken off.
use Rattle.laws.proofs.Base.{◌+◌, ◌-◌}
use Rattle.laws.proofs.Table.{Filled}
use Rattle.curves.specs.Pairs.{figure}
use Rattle.closure.specs.Steps.{lift}
use Rattle.closure.proofs.round.unlift.Given as goal

abbrev pub invariant-loop-entry : goal.invariant-loop-entry
invariant-loop-entry l = Filled (λ d. figure 0 l.initial.entry-items d - (lift + lift)) l.initial.entry-items l.entry-items l.entry-index
