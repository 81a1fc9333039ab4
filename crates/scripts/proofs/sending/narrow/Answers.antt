use Rattle.std.proofs.Common.{◌≡◌, length, arith}
use Rattle.scripts.proofs.Narrowing.{narrowed_more, ready_turn, ready_first}
use Rattle.scripts.proofs.sending.narrow.Goals as goal

pub overflow_sub-leasts : goal.overflow_sub-leasts
overflow_sub-leasts c =
    let F = c.requires.figures_raised.0 in
    let k = ready_turn _ _ _ _ F.some c.requires.sums_len.0 _ _ _ c.requires.sums_len.1 F c.loop-d.d c.loop-d.invariant (omega arith) in omega arith

pub larger-lo-requires : goal.larger-lo-requires
larger-lo-requires c =
    let F = c.requires.figures_raised.0 in
    let k = ready_turn _ _ _ _ F.some c.requires.sums_len.0 _ _ _ c.requires.sums_len.1 F c.loop-d.d c.loop-d.invariant (omega arith) in
    (k.lo_small, omega arith)

pub overflow_sub-ceilings : goal.overflow_sub-ceilings
overflow_sub-ceilings c =
    let F = c.requires.figures_raised.0 in
    let k = ready_turn _ _ _ _ F.some c.requires.sums_len.0 _ _ _ c.requires.sums_len.1 F c.loop-d.d c.loop-d.invariant (omega arith) in omega arith

pub smaller-hi-requires : goal.smaller-hi-requires
smaller-hi-requires c =
    let F = c.requires.figures_raised.0 in
    let k = ready_turn _ _ _ _ F.some c.requires.sums_len.0 _ _ _ c.requires.sums_len.1 F c.loop-d.d c.loop-d.invariant (omega arith) in
    (k.hi_small, omega arith)

pub loop-d-preserved : goal.loop-d-preserved
loop-d-preserved c =
    let F = c.requires.figures_raised.0 in
    let k = ready_turn _ _ _ _ F.some c.requires.sums_len.0 _ _ _ c.requires.sums_len.1 F c.loop-d.d c.loop-d.invariant (omega arith) in
    narrowed_more _ _ _ _ _ c.loop-d.d _ _ c.loop-d.invariant _ _ (omega arith) (omega arith) (omega arith)

pub returns : goal.returns
returns c =
    let all : c.loop-d.d ≡ length c.args.ticks.now = omega arith in
    ready_first c.args.figures.ceilings.now c.args.figures.leasts.now c.args.ticks.now c.args.sums.now c.requires.figures_raised.0.some c.requires.sums_len.0
    c.loop-d.lo c.loop-d.hi c.requires.figures_raised.1 c.requires.sums_len.1 (rw all at c.loop-d.invariant)
