-- Before a turn the windows longer by less than t ticks are looked at.
use Rattle.closure.proofs.Deconvolving.{Deconvolving}
use Rattle.closure.proofs.convolution.deconvolve.Given as goal

abbrev pub invariant-loop-t : goal.invariant-loop-t
invariant-loop-t l = Deconvolving l.own l.other l.initial.best l.t l.best
