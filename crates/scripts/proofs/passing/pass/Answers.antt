use Rattle.std.proofs.Common.{◌-◌, ◌∙◌, refl, subst, arith}
use Rattle.scripts.proofs.Keeping.{placed_same, Passing, passing_later, passing_length, passing_more, passing_kept, passing_rest}
use Rattle.scripts.proofs.passing.pass.Goals as goal

-- ---- where all windows are judged
pub pass_on-requires-clause-in_bounds : goal.pass_on-requires-clause-in_bounds
pass_on-requires-clause-in_bounds c =
    let a = c.args in
    let turn = c.loop-i in
    let P = placed_same a.sums.now turn.sums _ _ turn.invariant.0 c.requires.placed in
    let p = subst (λ f. Passing a.figures.ceilings.now a.figures.leasts.now a.ticks.now a.counts.now turn.sums f turn.i) c.if-first-eq0.true turn.invariant.1 in
    (omega arith, passing_kept _ _ _ _ _ _ p (omega arith) P (omega arith))

pub overflow_add-result : goal.overflow_add-result
overflow_add-result c =
    let a = c.args in
    let turn = c.loop-i in
    let p = subst (λ f. Passing a.figures.ceilings.now a.figures.leasts.now a.ticks.now a.counts.now turn.sums f turn.i) c.if-first-eq0.true turn.invariant.1 in
    let rest = passing_rest _ _ _ _ _ _ p (omega arith) c.pass_on.result c.pass_on.ensures in
    record { fits = omega (arith, rest.0) }

pub returns-then-first-eq0 : goal.returns-then-first-eq0
returns-then-first-eq0 c =
    let a = c.args in
    let turn = c.loop-i in
    let p = subst (λ f. Passing a.figures.ceilings.now a.figures.leasts.now a.ticks.now a.counts.now turn.sums f turn.i) c.if-first-eq0.true turn.invariant.1 in
    passing_rest _ _ _ _ _ _ p (omega arith) c.pass_on.result c.pass_on.ensures

-- ---- where one count is added
pub grow-requires-clause-later_kept : goal.grow-requires-clause-later_kept
grow-requires-clause-later_kept c =
    let turn = c.loop-i in
    let P = placed_same c.args.sums.now turn.sums _ _ turn.invariant.0 c.requires.placed in
    (passing_later _ _ _ _ (omega arith) turn.invariant.1 P (omega arith), omega arith)

pub loop-i-preserved : goal.loop-i-preserved
loop-i-preserved c =
    let turn = c.loop-i in
    let P = placed_same c.args.sums.now turn.sums _ _ turn.invariant.0 c.requires.placed in
    let G = c.if-not-grow.ensures in (
      passing_length _ _ _ _ (omega arith) turn.invariant.1 P (omega arith) c.grow.new.sums G ∙ turn.invariant.0,
      passing_more _ _ _ _ (omega arith) turn.invariant.1 P (omega arith) c.grow.new.sums G (turn.first - 1) refl,
    )
