-- What is tightened in the two rows is the round.
use Rattle.laws.proofs.Base.{arith}
use Rattle.curves.specs.Pairs.{pair_of}
use Rattle.curves.specs.Rounds.{round}
use Rattle.closure.proofs.Rounding.{upper_bounded, lower_bounded, upper_ready, lower_ready, turned_small, new_uppers, new_lowers}
use Rattle.closure.proofs.round.compute.Goals as goal

pub lifted_row-upper_row-requires : goal.lifted_row-upper_row-requires
lifted_row-upper_row-requires c =
    (c.requires.1, upper_bounded c.args.upper.now c.args.lower.now c.requires.0.0 c.requires.2)

pub turned_row-lower_row-requires : goal.turned_row-lower_row-requires
turned_row-lower_row-requires c =
    (omega (arith, c.requires), lower_bounded c.args.upper.now c.args.lower.now c.requires.0.0 c.requires.2)

pub tighten-requires : goal.tighten-requires
tighten-requires c =
    let ready =
    upper_ready c.args.upper.now c.args.lower.now c.requires.0.0 c.requires.2 _ _ c.lifted_row-upper_row.ensures
    c.turned_row-lower_row.ensures _ c.requires.0.1.0 in
    record { own_row = ready.0; other_row = ready.1 }

pub tighten-requires-2 : goal.tighten-requires-2
tighten-requires-2 c =
    let ready =
    lower_ready c.args.upper.now c.args.lower.now c.requires.0.0 c.requires.2 _ _ c.lifted_row-upper_row.ensures
    c.turned_row-lower_row.ensures _ c.requires.0.1.1.0 in
    record { own_row = ready.0; other_row = ready.1 }

pub turn_back-requires : goal.turn_back-requires
turn_back-requires c =
    turned_small c.args.upper.now c.args.lower.now c.requires.0.0 c.requires.2 _ _ c.lifted_row-upper_row.ensures
    c.turned_row-lower_row.ensures _ _ c.requires.0.1.1.0 c.tighten-2.ensures

pub returns : goal.returns
unfolding round
returns c =
    let us = c.args.upper.now in
    let ls = c.args.lower.now in
    let new-upper =
    new_uppers us ls c.requires.0.0 c.requires.2 _ _ c.lifted_row-upper_row.ensures c.turned_row-lower_row.ensures _ _
    c.requires.0.1.0 _ c.tighten.ensures c.unlift.ensures in
    let new-lower =
    new_lowers us ls c.requires.0.0 c.requires.2 _ _ c.lifted_row-upper_row.ensures c.turned_row-lower_row.ensures _ _
    c.requires.0.1.1.0 _ c.tighten-2.ensures c.turn_back.ensures in
    λ i. pair_of (new-upper i) (new-lower i)
