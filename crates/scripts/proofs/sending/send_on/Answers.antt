use Rattle.std.proofs.Common.{refl, get_or, arith}
use Rattle.scripts.proofs.Narrowing.{lo_raised, hi_signed, sum_of_all_small}
use Rattle.scripts.proofs.Choosing.{sent_none, sent_more, entering_more, chosen_fits}
use Rattle.scripts.proofs.sending.send_on.Goals as goal

pub loop-i-init : goal.loop-i-init
loop-i-init c =
    let a = c.args in
    sent_none a.figures.ceilings.now a.figures.leasts.now a.ticks.now a.choices.now a.counts.now a.sums.now _ a.start.lo a.start.hi c.requires.figures_raised.1 refl
    c.requires.ready

-- ---- what is known of the limits and of the largest sum
pub overflow_sub-count : goal.overflow_sub-count
overflow_sub-count c = lo_raised _ _ _ _ _ _ _ c.requires.figures_raised.0 c.loop-i.invariant.ready

pub overflow_add-count : goal.overflow_add-count
overflow_add-count c =
    let high = hi_signed _ _ _ _ _ _ _ c.requires.figures_raised.0 c.loop-i.invariant.ready in
    record { fits = omega (arith, high) }

pub overflow_add-count-in-loop-i : goal.overflow_add-count-in-loop-i
overflow_add-count-in-loop-i c =
    let low = lo_raised _ _ _ _ _ _ _ c.requires.figures_raised.0 c.loop-i.invariant.ready in
    let high = hi_signed _ _ _ _ _ _ _ c.requires.figures_raised.0 c.loop-i.invariant.ready in
    let fits = chosen_fits c.loop-i.limits.lo c.loop-i.limits.hi (get_or c.args.choices.now c.loop-i.i 0) (omega arith) low in
    record { fits = omega (arith, high, fits) }

pub overflow_sub-sums : goal.overflow_sub-sums
overflow_sub-sums c =
    sum_of_all_small _ _ _ _ _ _ _ c.requires.figures_raised.0 c.loop-i.invariant.ready c.loop-i.first c.loop-i.invariant.place.1 refl

-- ---- the tick is entered
pub enter-limits-requires : goal.enter-limits-requires
enter-limits-requires c =
    let a = c.args in
    let turn = c.loop-i in
    entering_more a.figures.ceilings.now a.figures.leasts.now a.ticks.now a.choices.now a.counts.now c.requires.figures_raised.0 c.requires.counts_len
    turn.sums turn.counts turn.first turn.limits.lo turn.limits.hi turn.i _ _ turn.invariant (omega arith) (omega arith) refl (omega arith) (omega arith)

pub loop-i-preserved : goal.loop-i-preserved
loop-i-preserved c =
    let a = c.args in
    let turn = c.loop-i in
    sent_more a.figures.ceilings.now a.figures.leasts.now a.ticks.now a.choices.now a.counts.now c.requires.figures_raised.0 c.requires.counts_len
    turn.sums turn.counts turn.first turn.limits.lo turn.limits.hi turn.i _ _ turn.invariant (omega arith) (omega arith) refl (omega arith) (omega arith)
    _ _ _ c.enter-limits.ensures
