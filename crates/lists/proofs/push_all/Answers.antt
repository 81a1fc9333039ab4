-- `lists::push_all` meets its promise: either the last counts take all places, or those before them move down and they go behind.
use Rattle.laws.proofs.Base.{arith}
use Rattle.lists.proofs.Pushing.{pushed_over, pushed_behind}
use Rattle.lists.proofs.push_all.Goals as goal

pub returns-then-room-n : goal.returns-then-room-n
returns-then-room-n c = pushed_over _ c.args.held c.args.counts.now c.if-room-n.true _ c.copy_from_slice.ensures.after

pub returns : goal.returns
returns c =
    pushed_behind c.args.list.now c.args.held c.args.counts.now c.min-there.result c.min-kept.result (omega (arith, c.if-room-n.false))
    c.min-there.ensures c.min-kept.ensures _ _ c.copy_within.ensures.after c.copy_from_slice-2.ensures.after
