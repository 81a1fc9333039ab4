use Rattle.std.proofs.Common.{refl, subst, length, get_or, drop, replicate, arith}
use Rattle.scripts.specs.Steps.{LowFigures, RaisedFrom}
use Rattle.scripts.proofs.Raising.{low_ceilings, low_leasts, figures_raised, front_raised, front_more}
use Rattle.scripts.proofs.sending.send_first.Goals as goal

pub raise_ceilings-requires-clause-low_figures : goal.raise_ceilings-requires-clause-low_figures
raise_ceilings-requires-clause-low_figures c =
    low_ceilings c.args.view.curves.upper.now c.args.view.curves.lower.now c.args.view.ticks.now c.args.view.curves.unlimited c.requires.legal

pub raise-requires-clause-low_figures : goal.raise-requires-clause-low_figures
raise-requires-clause-low_figures c =
    low_leasts c.args.view.curves.upper.now c.args.view.curves.lower.now c.args.view.ticks.now c.args.view.curves.unlimited c.requires.legal

pub send-requires-clause-figures_raised : goal.send-requires-clause-figures_raised
send-requires-clause-figures_raised c =
    let v = c.args.view in
    let C = c.raise_ceilings.ensures in
    let M = subst (λ n. RaisedFrom n (λ d. get_or v.curves.lower.now d 0) c.raise.new.raised) c.requires.slices.lowers c.raise.ensures in
    let (few, more) = front_more (length v.curves.upper.now) (length v.ticks.now) c.raise_ceilings.new.raised _ (replicate 257 0) C.whole
    c.requires.slices.fewer c.requires.slices.within refl in (
      figures_raised (length v.curves.upper.now) _ _ _ _ (omega (arith, c.requires.slices.fewer)) (front_raised _ _ _ _ C)
          (low_ceilings v.curves.upper.now v.curves.lower.now v.ticks.now v.curves.unlimited c.requires.legal) (front_raised _ _ _ _ M)
          (subst (λ n. LowFigures n (λ d. get_or v.curves.lower.now d 0)) c.requires.slices.lowers
          (low_leasts v.curves.upper.now v.curves.lower.now v.ticks.now v.curves.unlimited c.requires.legal)),
      few,
    )

pub send-requires-clause-sums_len : goal.send-requires-clause-sums_len
send-requires-clause-sums_len c =
    let v = c.args.view in
    (front_more (length v.curves.upper.now) (length v.ticks.now) c.raise_ceilings.new.raised (drop (length v.curves.upper.now) c.zeros-ceilings.result)
    (replicate 257 0) c.raise_ceilings.ensures.whole c.requires.slices.fewer c.requires.slices.within refl).1
