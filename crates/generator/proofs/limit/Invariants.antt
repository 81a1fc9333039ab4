-- Before a turn lo and hi, without the limit of sums, stand for the windows of up to d + 1 ticks, d twice the turn.
use Rattle.laws.proofs.Base.{◌*◌}
use Rattle.generator.proofs.Ranging.{Rested}
use Rattle.generator.proofs.limit.Given as goal

abbrev pub invariant-loop-turn : goal.invariant-loop-turn
invariant-loop-turn l = Rested l.upper l.lower l.unlimited l.ticks l.lo l.hi l.rest (2 * l.turn)
