-- Before a turn the windows of up to d ticks keep their figures.
use Rattle.std.proofs.Common.{ℕ, ◌-◌, ◌≤◌, length}
use Rattle.curves.specs.Unlimited.{curves_of}
use Rattle.curves.specs.Ticks.{then}
use Rattle.curves.proofs.Verdicts.{KeptTo}
use Rattle.bounds.specs.Answers.{curves_in}
use Rattle.monitor.proofs.Judging.{SummedTo}
use Rattle.monitor.proofs.windows.judge.Given as goal

abbrev pub invariant-windows : goal.invariant-windows
invariant-windows l =
    record {
      sum_is : SummedTo l.curves.upper.now l.curves.lower.now l.curves.unlimited l.ticks l.count l.sum l.d;
      kept : KeptTo (curves_of (curves_in l.curves)) (then l.ticks l.count) l.d;
      few : l.d ≤ length l.ticks;
    }

abbrev pub decreases-windows : goal.decreases-windows
decreases-windows l = length l.ticks - l.d
