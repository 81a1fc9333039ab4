use Rattle.std.proofs.Common.{subst, arith}
use Rattle.history.proofs.Histories.{legal_sizes}
use Rattle.scripts.specs.Words.{history_from}
use Rattle.scripts.specs.Steps.{SendsFirst}
use Rattle.scripts.proofs.Held.{first_sent}
use Rattle.scripts.proofs.generating.send_first.Goals as goal

pub view-requires : goal.view-requires
view-requires c =
    let sizes = legal_sizes (history_from c.args.state.now) c.requires.0.1 in
    (omega (arith, c.requires.0.0), omega (arith, sizes.within), omega (arith, sizes.within, sizes.fewer))

pub send_first-n-requires-clause-slices : goal.send_first-n-requires-clause-slices
send_first-n-requires-clause-slices c =
    let sizes = legal_sizes (history_from c.args.state.now) c.requires.0.1 in
    let long = c.view.ensures in
    record { lowers = omega arith; within = omega (arith, long.upper_len, sizes.within); fewer = omega (arith, long, sizes.fewer) }

pub returns : goal.returns
returns c =
    first_sent c.args.state.now c.requires.0 _ c.args.counts.now _ _ c.send_first-n.result
    (subst (λ v. SendsFirst v c.args.choices.now c.args.counts.now c.send_first-n.new.counts c.send_first-n.result) c.view.ensures.view
    c.send_first-n.ensures) c.requires.1 c.hold.ensures
