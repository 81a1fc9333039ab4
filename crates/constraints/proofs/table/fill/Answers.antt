-- The list of what the calls gave.
use Rattle.std.proofs.Common.{◌<◌, ◌+◌, length, sym, ◌∙◌, arith}
use Rattle.laws.proofs.Base.{ext_get_or, add-one}
use Rattle.laws.proofs.Table.{length-table, get_or-table}
use Rattle.constraints.proofs.table.fill.Goals as goal

pub returns : goal.returns
returns g c =
    λ f gives.
    ext_get_or 0 _ _ (omega (arith, length-table f (length c.args.figures.now)))
    (λ k l.
    let l' : k < length c.args.figures.now = omega arith in
    gives (k + 1) _ (omega arith) (omega arith) (c.loop-i.invariant k (omega arith)) ∙ rw (add-one k) (sym (get_or-table f _ k 0 l')))
