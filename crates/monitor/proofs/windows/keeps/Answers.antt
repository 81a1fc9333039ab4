-- A turn looks at two windows more, and at the end one is left where the held ticks are odd in number. Each sum fits, as no window has
-- more.
use Rattle.laws.proofs.Base.{◌+◌, ◌*◌, ◌≡◌, false, arith, length}
use Rattle.curves.proofs.Verdicts.{kept_none}
use Rattle.monitor.proofs.Judging.{summed_none, summed_turn, summed_last, more_kept, fit_from, kept_twice, not_kept, ends_kept, last_told}
use Rattle.monitor.proofs.windows.keeps.Goals as goal

pub returns-then-not-inside : goal.returns-then-not-inside
returns-then-not-inside c =
    λ K. c.if-not-inside.ensures (fit_from _ _ _ _ c.requires.slices _ 0 (summed_none _ _ false _ _ (omega arith)) K)

pub loop-turn-init : goal.loop-turn-init
loop-turn-init c =
    let first = summed_none _ _ false _ _ (omega arith) in
    record { sum_is = first; kept = more_kept _ _ _ _ c.requires.slices _ 0 first (kept_none _ _) c.if-not-inside.ensures }

pub overflow_add-one : goal.overflow_add-one
overflow_add-one c =
    let l = c.loop-turn in
    let (one, both) = summed_turn _ _ _ _ _ _ _ l.invariant.sum_is c.loop-turn-test.true (λ k. omega (arith, c.type_inv.ticks k)) in
    omega (arith, one.summed, c.requires.fits (2 * l.turn + 1) one.held)

pub overflow_add-sum : goal.overflow_add-sum
overflow_add-sum c =
    let l = c.loop-turn in
    let (one, both) = summed_turn _ _ _ _ _ _ _ l.invariant.sum_is c.loop-turn-test.true (λ k. omega (arith, c.type_inv.ticks k)) in
    omega (arith, both.summed, c.requires.fits (2 * l.turn + 2) both.held)

pub returns-then-not-inside-2 : goal.returns-then-not-inside-2
returns-then-not-inside-2 c =
    let l = c.loop-turn in
    let (one, both) = summed_turn _ _ _ _ _ _ _ l.invariant.sum_is c.loop-turn-test.true (λ k. omega (arith, c.type_inv.ticks k)) in
    not_kept _ _ _ _ c.requires.slices _ _ _ one both _ _ c.inside-in-loop-turn.ensures c.inside-in-loop-turn-2.ensures
    c.if-not-inside-2.true

pub loop-turn-preserved : goal.loop-turn-preserved
loop-turn-preserved c =
    let l = c.loop-turn in
    let (one, both) = summed_turn _ _ _ _ _ _ _ l.invariant.sum_is c.loop-turn-test.true (λ k. omega (arith, c.type_inv.ticks k)) in
    let next : 2 * (l.turn + 1) ≡ 2 * l.turn + 2 = omega arith in
    rw next (record {
      sum_is = both;
      kept =
          kept_twice _ _ _ _ c.requires.slices _ _ _ one both _ _ c.inside-in-loop-turn.ensures c.inside-in-loop-turn-2.ensures
          c.if-not-inside-2.false l.invariant.kept;
    })

pub overflow_add-sum-else-held-eq0 : goal.overflow_add-sum-else-held-eq0
overflow_add-sum-else-held-eq0 c =
    let l = c.loop-turn in
    let all = summed_last _ _ _ _ _ _ _ l.invariant.sum_is (omega arith) (omega (arith, c.type_inv.ticks 0)) in
    omega (arith, all.summed, c.requires.fits (length c.args.ticks.now) all.held)

pub returns-then-held-eq0 : goal.returns-then-held-eq0
returns-then-held-eq0 c =
    let l = c.loop-turn in
    rw c.if-held-eq0.true (ends_kept _ _ _ _ c.requires.slices _ _ l.invariant.sum_is (omega arith) l.invariant.kept)

pub returns-else-held-eq0 : goal.returns-else-held-eq0
returns-else-held-eq0 c =
    let l = c.loop-turn in
    let odd : 2 * l.turn + 1 ≡ length c.args.ticks.now = omega arith in
    let all = summed_last _ _ _ _ _ _ _ l.invariant.sum_is odd (omega (arith, c.type_inv.ticks 0)) in
    last_told _ _ _ _ c.requires.slices _ _ _ all (omega arith) (rw odd at l.invariant.kept) c.inside-else-held-eq0.ensures
