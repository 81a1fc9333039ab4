-- Before a turn the figures of i windows are there.
use Rattle.laws.proofs.Base.{◌*◌}
use Rattle.laws.proofs.Table.{Filled}
use Rattle.closure.specs.Closing.{least_limit}
use Rattle.closure.proofs.leasts.stand_ins.Given as goal

abbrev pub invariant-loop-i : goal.invariant-loop-i
invariant-loop-i l = Filled (λ d. d * least_limit) l.initial.ceiling-items l.ceiling-items l.i
