-- Both differences fit, and the smaller one is given back; without ceilings, the one from the least.
use Rattle.laws.proofs.Base.{◌+◌, ◌^◌, ◌<◌, ap, ◌∙◌, arith, get_or}
use Rattle.monitor.proofs.Judging.{margin_above, margin_below}
use Rattle.monitor.proofs.windows.margin_at.Goals as goal
use Rattle.monitor.proofs.windows.margin_at.Goals.{then-curves-above, else-curves-above}

pub returns : goal.returns
returns c =
    let a = c.args in
    let above : get_or a.curves.upper.now a.d 0 + a.sum < 2 ^ 63 = omega arith in
    let below : a.sum + get_or a.curves.lower.now a.d 0 < 2 ^ 63 = omega arith in
    ap (λ z. record { value = z; window = a.d + 1 })
    (elim c.if-curves-above.branch [
      | then-curves-above w ↦ w.value-is ∙ margin_above a.curves.unlimited _ _ a.sum above below w.if-curves-above.true
      | else-curves-above w ↦ w.value-is ∙ margin_below a.curves.unlimited _ _ a.sum above below w.if-curves-above.false
    ])
