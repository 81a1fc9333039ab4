-- The leasts decide without ceilings, and closing's answer with them.
use Rattle.generator.proofs.Opening.{told_by_leasts, told_by_rounds, told_by_refusal}
use Rattle.generator.proofs.is_closed.Goals as goal

pub returns-then-curves : goal.returns-then-curves
returns-then-curves c =
    let p = c.args.curves in told_by_leasts p.upper.now p.lower.now p.unlimited _ c.if-curves.true c.requires c.superadditive.ensures

pub returns-in-Ok : goal.returns-in-Ok
returns-in-Ok c =
    let p = c.args.curves in told_by_rounds p.upper.now p.lower.now p.unlimited c.in-Ok.closed _ c.if-curves.false c.in-Ok.ensures

pub returns-in-Err : goal.returns-in-Err
returns-in-Err c =
    let p = c.args.curves in told_by_refusal p.upper.now p.lower.now p.unlimited _ _ c.if-curves.false c.requires c.in-Err.ensures
