use Rattle.std.proofs.Common.{◌*◌}
use Rattle.scripts.specs.Steps.{LaterKept}
use Rattle.scripts.proofs.Keeping.{PassingOn}
use Rattle.scripts.proofs.passing.pass_on.Given as goal

-- The counts of the pairs before this one keep the figures.
abbrev pub invariant-loop-pair : goal.invariant-loop-pair
invariant-loop-pair l = LaterKept l.sums × PassingOn l.figures.ceilings.now l.figures.leasts.now l.initial.sums l.counts l.sums (2 * l.pair)
