-- Before a turn the figures before i are taken.
use Rattle.laws.proofs.Base.{◌+◌}
use Rattle.laws.proofs.Table.{Filled}
use Rattle.closure.specs.Steps.{lift, in_row}
use Rattle.closure.proofs.convolution.take_own.Given as goal

abbrev pub invariant-loop-i : goal.invariant-loop-i
invariant-loop-i l = Filled (λ d. in_row l.own d + lift) l.initial.best l.best l.i
