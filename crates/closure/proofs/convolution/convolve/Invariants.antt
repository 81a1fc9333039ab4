-- Before a turn the sums with a part shorter than a are looked at.
use Rattle.closure.proofs.Convolving.{Convolving}
use Rattle.closure.proofs.convolution.convolve.Given as goal

abbrev pub invariant-loop-a : goal.invariant-loop-a
invariant-loop-a l = Convolving l.own l.initial.best l.a l.best
