-- A turn looks at two windows more, and at the end one is left where the held ticks are odd in number.
use Rattle.laws.proofs.Base.{◌+◌, ◌*◌, ◌≡◌, arith, length}
use Rattle.monitor.proofs.Judging.{summed_none, summed_turn, summed_last, tightest_first, tightest_turn, tightest_twice, tightest_ends}
use Rattle.monitor.proofs.windows.find_tightest.Goals as goal

pub loop-turn-init : goal.loop-turn-init
loop-turn-init c =
    record {
      sum_is = summed_none _ _ _ _ _ (omega arith);
      tightest = tightest_first _ _ _ _ _ c.requires (omega arith) _ c.margin_at-best.ensures;
    }

pub loop-turn-preserved : goal.loop-turn-preserved
loop-turn-preserved c =
    let l = c.loop-turn in
    let (one, both) = summed_turn _ _ _ _ _ _ _ l.invariant.sum_is c.loop-turn-test.true (λ k. omega (arith, c.type_inv.ticks k)) in
    let next : 2 * (l.turn + 1) ≡ 2 * l.turn + 2 = omega arith in
    rw next (record {
      sum_is = both;
      tightest =
          tightest_twice _ _ _ _ _ c.requires _ _ _ one both _ _ _ _ _ l.invariant.tightest c.margin_at.ensures c.tighter-best.ensures
          c.margin_at-in-loop-turn.ensures c.tighter-best-in-loop-turn.ensures;
    })

pub returns-then-held-eq0 : goal.returns-then-held-eq0
returns-then-held-eq0 c =
    let l = c.loop-turn in tightest_ends _ _ _ _ _ c.requires _ _ l.invariant.sum_is _ (omega arith) l.invariant.tightest

pub returns : goal.returns
returns c =
    let l = c.loop-turn in
    let odd : 2 * l.turn + 1 ≡ length c.args.view.ticks.now = omega arith in
    let all = summed_last _ _ _ _ _ _ _ l.invariant.sum_is odd (omega arith) in
    tightest_ends _ _ _ _ _ c.requires _ _ all _ (omega arith)
    (tightest_turn _ _ _ _ _ c.requires _ _ all _ _ _ (rw odd at l.invariant.tightest) c.margin_at-2.ensures c.tighter.ensures)
