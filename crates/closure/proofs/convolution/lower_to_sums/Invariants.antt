-- Before a turn the entries before i are lowered.
use Rattle.laws.proofs.Base.{◌-◌}
use Rattle.laws.proofs.Table.{Filled}
use Rattle.curves.specs.Pairs.{figure}
use Rattle.closure.specs.Steps.{smallest_of_five}
use Rattle.closure.proofs.convolution.lower_to_sums.Given as goal

abbrev pub invariant-loop-i : goal.invariant-loop-i
invariant-loop-i l =
    Filled (λ d. smallest_of_five l.row l.numbers (d - 1) (figure 0 l.initial.best d)) l.initial.best l.best l.i
