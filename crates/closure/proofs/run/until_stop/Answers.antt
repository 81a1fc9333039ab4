use Rattle.laws.proofs.Base.{arith}
use Rattle.curves.specs.Pairs.{pair_of}
use Rattle.closure.proofs.Progress.{begins, at_most_nine, half_width, arrives, goes_on}
use Rattle.closure.proofs.run.until_stop.Goals as goal

pub loop-rounds-init : goal.loop-rounds-init
loop-rounds-init c = begins (pair_of c.args.upper.now c.args.lower.now) c.requires.same_lengths.0

pub next_round-requires : goal.next_round-requires
next_round-requires c = (
  (omega arith, (omega arith, (omega arith, tt))),
  omega arith,
  half_width _ _ _ c.loop-rounds.invariant c.requires.upper_len_bound.1 c.if-crossed.ensures,
)

pub returns-then-next_round : goal.returns-then-next_round
returns-then-next_round c = arrives _ _ _ c.loop-rounds.invariant c.if-crossed.ensures _ c.if-next_round.ensures

pub overflow_add-rounds : goal.overflow_add-rounds
overflow_add-rounds c = omega (arith, at_most_nine _ _ _ c.loop-rounds.invariant c.requires.upper_len_bound.0)

pub loop-rounds-smaller : goal.loop-rounds-smaller
loop-rounds-smaller c = omega (arith, at_most_nine _ _ _ c.loop-rounds.invariant c.requires.upper_len_bound.0)

pub loop-rounds-preserved : goal.loop-rounds-preserved
loop-rounds-preserved c = goes_on _ _ _ c.loop-rounds.invariant c.if-crossed.ensures _ c.if-next_round.ensures
