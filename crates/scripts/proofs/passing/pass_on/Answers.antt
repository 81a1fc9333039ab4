use Rattle.std.proofs.Common.{◌≡◌, ◌+◌, ◌*◌, ◌/◌, refl, subst, length, arith}
use Rattle.scripts.proofs.Keeping.{placed_same, PassingOn, on_more, on_twice}
use Rattle.scripts.proofs.passing.pass_on.Goals as goal

pub loop-pair-preserved : goal.loop-pair-preserved
loop-pair-preserved c =
    let a = c.args in
    let turn = c.loop-pair in
    let P = placed_same a.sums.now turn.sums _ _ (omega arith) c.requires.placed in
    let (middle, G, H) = c.if-not-grow_twice.ensures.1 refl in
    let on = on_twice _ _ a.sums.now a.counts.now c.requires.in_bounds.0 turn.sums (2 * turn.pair) P turn.invariant.1 (omega arith) turn.invariant.0
    c.grow_twice.new.sums middle G H in
    let e : 2 * turn.pair + 1 + 1 ≡ 2 * (turn.pair + 1) = omega arith in
    (on.0, subst (PassingOn a.figures.ceilings.now a.figures.leasts.now a.sums.now a.counts.now c.grow_twice.new.sums) e on.1)

pub returns : goal.returns
returns c xs long K =
    let a = c.args in
    let end = c.loop-pair in
    let P = placed_same a.sums.now end.sums _ _ (omega arith) c.requires.placed in
    let e : 2 * end.pair ≡ length a.counts.now / 2 * 2 = omega arith in
    let p = subst (PassingOn a.figures.ceilings.now a.figures.leasts.now a.sums.now a.counts.now end.sums) e end.invariant.1 in
    let all : length a.counts.now / 2 * 2 + 1 ≡ length a.counts.now = omega arith in
    let on = on_more _ _ a.sums.now a.counts.now c.requires.in_bounds.0 end.sums _ P p (omega arith) _ c.if-not-grow.ensures xs long K in
    (omega arith, rw all at on.keeps)
