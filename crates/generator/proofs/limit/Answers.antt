-- A turn narrows the counts by two windows, and the last one where the held ticks are odd in number.
use Rattle.laws.proofs.Base.{◌-◌, ◌*◌, refl, length, arith}
use Rattle.generator.proofs.Ranging.{rested_once, rested_last, rested_twice, narrowed_shown}
use Rattle.generator.proofs.limit.Goals as goal

pub loop-turn-init : goal.loop-turn-init
loop-turn-init c = rested_once _ _ c.args.view.curves.unlimited _ c.requires _ _ refl c.lowered-hi.ensures

pub loop-turn-preserved : goal.loop-turn-preserved
loop-turn-preserved c =
    let xs = c.args.view.ticks.now in
    let h = c.loop-turn in
    rested_twice _ _ c.args.view.curves.unlimited _ c.requires _ _ h.rest h.turn _ _ _ _ h.invariant (omega arith) refl refl
    (omega (arith, c.type_inv.ticks (length xs - 2 * h.turn - 1))) (omega (arith, c.type_inv.ticks (length xs - 2 * h.turn - 2)))
    c.raised_twice-lo.ensures c.lowered_twice-hi.ensures

pub returns-then-held-eq0 : goal.returns-then-held-eq0
returns-then-held-eq0 c =
    narrowed_shown _ _ c.args.view.curves.unlimited _ _ _ _ _ c.loop-turn.invariant.narrowed (omega arith) _ c.cut_off.ensures

pub returns : goal.returns
returns c =
    let p = c.args.view.curves in
    let h = c.loop-turn in
    let last =
    rested_last _ _ p.unlimited _ c.requires _ _ h.rest (2 * h.turn) _ _ _ h.invariant (omega arith) refl (omega arith)
    c.max-lo.ensures c.lowered.ensures in
    narrowed_shown _ _ p.unlimited _ _ _ _ _ last.narrowed (omega arith) _ c.cut_off-2.ensures
