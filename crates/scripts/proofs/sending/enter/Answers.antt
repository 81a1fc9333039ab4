use Rattle.std.proofs.Common.{arith}
use Rattle.laws.proofs.Table.{unfilled, stored}
use Rattle.scripts.proofs.Narrowing.{narrowed_none, narrowed_more, sum_found, entering_turn, entered_all}
use Rattle.scripts.proofs.sending.enter.Goals as goal

pub loop-i-init : goal.loop-i-init
loop-i-init c = (unfilled _ _, narrowed_none _ _ _ _ _)

pub overflow_add-sum-in-loop-i : goal.overflow_add-sum-in-loop-i
overflow_add-sum-in-loop-i c =
    let k = entering_turn _ _ _ _ _ _ _ _ _ _ c.loop-i.invariant.0 c.loop-i.invariant.1 c.requires (omega arith) in
    record { fits = omega arith }

pub overflow_sub-leasts : goal.overflow_sub-leasts
overflow_sub-leasts c =
    let k = entering_turn _ _ _ _ _ _ _ _ _ _ c.loop-i.invariant.0 c.loop-i.invariant.1 c.requires (omega arith) in omega arith

pub larger-lo-requires : goal.larger-lo-requires
larger-lo-requires c =
    let k = entering_turn _ _ _ _ _ _ _ _ _ _ c.loop-i.invariant.0 c.loop-i.invariant.1 c.requires (omega arith) in
    (k.lo_small, omega arith)

pub overflow_sub-ceilings : goal.overflow_sub-ceilings
overflow_sub-ceilings c =
    let k = entering_turn _ _ _ _ _ _ _ _ _ _ c.loop-i.invariant.0 c.loop-i.invariant.1 c.requires (omega arith) in omega arith

pub smaller-hi-requires : goal.smaller-hi-requires
smaller-hi-requires c =
    let k = entering_turn _ _ _ _ _ _ _ _ _ _ c.loop-i.invariant.0 c.loop-i.invariant.1 c.requires (omega arith) in
    (k.hi_small, omega arith)

pub loop-i-preserved : goal.loop-i-preserved
loop-i-preserved c =
    let k = entering_turn _ _ _ _ _ _ _ _ _ _ c.loop-i.invariant.0 c.loop-i.invariant.1 c.requires (omega arith) in
    let e = sum_found _ _ _ _ c.loop-i.invariant.0 in (
      stored c.loop-i.invariant.0 _ (omega arith) e,
      narrowed_more _ _ _ _ _ c.loop-i.i _ _ c.loop-i.invariant.1 _ _ (omega arith) (omega arith) (omega arith),
    )

pub returns : goal.returns
returns c = entered_all _ c.args.figures.ceilings.now _ _ _ _ _ c.loop-i.i _ _ (omega arith) c.loop-i.invariant.0 c.loop-i.invariant.1
