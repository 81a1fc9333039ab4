-- `lists::copy` leaves what its promise says, since as many figures are copied as the shorter list has.
use Rattle.lists.proofs.Copying.{copied_shorter}
use Rattle.lists.proofs.copy.Goals as goal

pub returns : goal.returns
returns c =
    copied_shorter c.args.from.now c.args.to.now c.min-n.result c.min-n.ensures _ _ c.copy_from_slice.ensures.after c.eq-same.ensures
