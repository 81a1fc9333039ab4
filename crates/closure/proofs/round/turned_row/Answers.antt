use Rattle.laws.proofs.Base.{◌-◌, refl, ap, arith}
use Rattle.closure.specs.Steps.{lift}
use Rattle.closure.proofs.Rows.{no_figures, figure_put, entry_figure, entry_bounded}
use Rattle.closure.proofs.round.turned_row.Goals as goal

pub loop-i-init : goal.loop-i-init
loop-i-init c = no_figures _ _ refl

pub overflow_sub-row : goal.overflow_sub-row
overflow_sub-row c = omega (arith, entry_bounded c.args.lower.now c.requires.1 c.loop-i.i)

pub loop-i-preserved : goal.loop-i-preserved
loop-i-preserved c =
    figure_put c.loop-i.invariant _ (omega (arith, c.requires.0)) (ap (λ x. lift - x) (entry_figure _ c.loop-i.i))
