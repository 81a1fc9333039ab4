-- The figures as given and then, where there are ceilings, the closed ones settle what is found.
use Rattle.monitor.proofs.Ruling.{found_unlimited, found_limited, fits_limited}
use Rattle.monitor.proofs.windows.examine.Goals as goal

pub returns-then-unlimited : goal.returns-then-unlimited
returns-then-unlimited c = found_unlimited _ _ _ _ _ _ _ _ c.if-unlimited.true c.by_given-given.ensures

pub by_closed-requires-clause-fits : goal.by_closed-requires-clause-fits
by_closed-requires-clause-fits c =
    let a = c.args.view in
    fits_limited a.curves.upper.now a.curves.lower.now a.ticks.now a.curves.unlimited c.args.failed c.args.count
    c.by_given-given.result c.if-unlimited.false c.by_given-given.ensures

pub returns : goal.returns
returns c = found_limited _ _ _ _ _ _ _ _ _ c.if-unlimited.false c.by_given-given.ensures c.by_closed.ensures
