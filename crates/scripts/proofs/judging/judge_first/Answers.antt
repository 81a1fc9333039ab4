use Rattle.std.proofs.Common.{◌≡◌, sym, ap, ◌∙◌, subst, false, ◌++◌, drop, arith}
use Rattle.history.proofs.Histories.{legal_sizes}
use Rattle.scripts.specs.Words.{mark_from, word, history_from}
use Rattle.scripts.specs.Steps.{PassesFirst}
use Rattle.scripts.proofs.Asked.{entries_length, monitor_seen}
use Rattle.scripts.proofs.Held.{none_judged, first_judged}
use Rattle.scripts.proofs.judging.judge_first.Goals as goal

pub returns-then-failed : goal.returns-then-failed
returns-then-failed c = none_judged c.args.state.now c.requires.0 _ _

pub view-requires : goal.view-requires
view-requires c =
    let sizes = legal_sizes (history_from c.args.state.now) c.requires.0.1.given in
    (omega (arith, c.requires.0.0), omega (arith, sizes.within), omega (arith, sizes.within, sizes.fewer))

pub closed-requires : goal.closed-requires
closed-requires c =
    let sizes = legal_sizes (history_from c.args.state.now) c.requires.0.1.given in (c.requires.0.0, omega (arith, sizes.within))

pub count_passing-n-requires-clause-slices : goal.count_passing-n-requires-clause-slices
count_passing-n-requires-clause-slices c =
    let sizes = legal_sizes (history_from c.args.state.now) c.requires.0.1.given in
    let long = c.view.ensures in
    record { lowers = omega arith; within = omega (arith, long.upper_len, sizes.within); fewer = omega (arith, long, sizes.fewer) }

pub count_passing-n-requires-clause-closed_slices : goal.count_passing-n-requires-clause-closed_slices
count_passing-n-requires-clause-closed_slices c =
    let sizes = legal_sizes (history_from c.args.state.now) c.requires.0.1.given in
    let upper = entries_length _ _ _ c.closed.ensures.upper in
    let lower = entries_length _ _ _ c.closed.ensures.lower in
    record { lowers = omega arith; within = omega (arith, sizes.within); fewer = omega (arith, c.view.ensures.ticks_len, sizes.fewer) }

pub count_passing-n-requires-clause-closed_len : goal.count_passing-n-requires-clause-closed_len
count_passing-n-requires-clause-closed_len c = entries_length _ _ _ c.closed.ensures.upper ∙ sym c.view.ensures.upper_len

pub returns : goal.returns
returns c =
    let ws = c.args.state.now in
    let unset : false ≡ mark_from (word 1_283 ws) = c.if-failed.ensures in
    first_judged ws c.requires.0 unset c.args.counts.now c.args.verdicts.now c.count_passing-n.result
    (subst (λ w. PassesFirst w c.args.counts.now c.count_passing-n.result)
    (monitor_seen ws c.view.result c.closed.result c.view.ensures.view c.closed.ensures.upper c.closed.ensures.lower unset) c.count_passing-n.ensures)
    c.requires.1 _ _ c.hold.ensures
    (ap (λ t. t ++ drop c.count_passing-n.result c.args.verdicts.now) (c.fill.ensures.after (λ y e. e)))
