-- Before a turn the rounds have come to the pair that is held, and are nine at most.
use Rattle.laws.proofs.Base.{◌-◌}
use Rattle.curves.specs.Pairs.{pair_of}
use Rattle.closure.proofs.Progress.{Held}
use Rattle.closure.proofs.run.until_stop.Given as goal

abbrev pub invariant-loop-rounds : goal.invariant-loop-rounds
invariant-loop-rounds l = Held (pair_of l.initial.upper l.initial.lower) l.rounds (pair_of l.upper l.lower)

abbrev pub decreases-loop-rounds : goal.decreases-loop-rounds
decreases-loop-rounds l = 10 - l.rounds
