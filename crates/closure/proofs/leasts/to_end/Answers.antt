-- The rounds of a pair with ceilings in the place of those that are missing.
use Rattle.laws.proofs.Base.{rules}
use Rattle.closure.proofs.StandIns.{stood_fit, stood_ended}
use Rattle.closure.proofs.leasts.to_end.Goals as goal

pub to_end-requires : goal.to_end-requires
to_end-requires c =
    stood_fit c.args.lower.now c.args.closed_lower.now c.requires c.stand_ins-upper.result c.stand_ins-upper.ensures _
    (search rules)

pub unwrap-requires : goal.unwrap-requires
unwrap-requires c =
    (stood_ended c.args.lower.now c.args.closed_lower.now c.requires c.stand_ins-upper.result c.stand_ins-upper.ensures
    c.to_end.result _ c.to_end.new.closed_upper c.to_end.new.closed_lower c.to_end.ensures).0

pub returns : goal.returns
returns c =
    (stood_ended c.args.lower.now c.args.closed_lower.now c.requires c.stand_ins-upper.result c.stand_ins-upper.ensures
    c.to_end.result _ c.to_end.new.closed_upper c.to_end.new.closed_lower c.to_end.ensures).1 c.unwrap.result c.unwrap.ensures
