-- Before a turn the margin is the smallest over the windows of up to d + 1 ticks, d twice the turn.
use Rattle.laws.proofs.Base.{◌+◌, ◌*◌}
use Rattle.curves.specs.Ticks.{then}
use Rattle.curves.proofs.Margins.{TightestTo}
use Rattle.bounds.specs.Answers.{curves_in}
use Rattle.monitor.specs.Steps.{margin_as}
use Rattle.monitor.proofs.Judging.{SummedTo}
use Rattle.monitor.proofs.windows.find_tightest.Given as goal

abbrev pub invariant-loop-turn : goal.invariant-loop-turn
invariant-loop-turn l =
    record {
      sum_is : SummedTo l.curves.upper.now l.curves.lower.now l.curves.unlimited l.ticks l.count l.sum (2 * l.turn);
      tightest : TightestTo (curves_in l.curves) (then l.ticks l.count) (2 * l.turn + 1) (margin_as l.best);
    }
