-- Before a turn the windows of up to d + 1 ticks keep their figures, d twice the turn.
use Rattle.laws.proofs.Base.{false, ◌+◌, ◌*◌}
use Rattle.curves.specs.Pairs.{pair_of}
use Rattle.curves.specs.Ticks.{then}
use Rattle.curves.proofs.Verdicts.{KeptTo}
use Rattle.monitor.proofs.Judging.{SummedTo}
use Rattle.monitor.proofs.windows.keeps.Given as goal

abbrev pub invariant-loop-turn : goal.invariant-loop-turn
invariant-loop-turn l =
    record {
      sum_is : SummedTo l.curves.upper.now l.curves.lower.now false l.ticks l.count l.sum (2 * l.turn);
      kept : KeptTo (pair_of l.curves.upper.now l.curves.lower.now) (then l.ticks l.count) (2 * l.turn + 1);
    }
