-- Its arrays begin with the figures, and no tick is held.
use Rattle.history.proofs.Histories.{lists_fit, unbegun-is}
use Rattle.history.proofs.unbegun.Goals as goal

pub padded-requires : goal.padded-requires
padded-requires c = (lists_fit _ _ c.args.curves.unlimited c.requires).0

pub padded-requires-2 : goal.padded-requires-2
padded-requires-2 c = (lists_fit _ _ c.args.curves.unlimited c.requires).1

pub returns : goal.returns
returns c = unbegun-is _ _ _ _ _ c.args.curves.unlimited c.padded.ensures c.padded-2.ensures c.requires.1.0
