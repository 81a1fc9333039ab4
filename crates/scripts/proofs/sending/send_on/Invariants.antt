use Rattle.scripts.proofs.Choosing.{SentTo}
use Rattle.scripts.proofs.sending.send_on.Given as goal

-- The choices before this one are sent, and all is ready for the next tick.
abbrev pub invariant-loop-i : goal.invariant-loop-i
invariant-loop-i l =
    SentTo l.figures.ceilings.now l.figures.leasts.now l.ticks l.choices l.initial.counts l.sums l.counts l.first l.limits.lo l.limits.hi l.i
