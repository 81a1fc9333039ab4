use Rattle.std.proofs.Common.{rules, tests}
use Rattle.std.proofs.lemmas.Iterator.{cases_from_any, YieldsList-from_slice, YieldsList-from_zip}
use Rattle.closure.proofs.Running.{Above, NotAbove, crossed-told}
use Rattle.closure.proofs.run.crossed.Goals as goal

pub returns : goal.returns
returns c =
    let us = c.args.upper.now in
    let ls = c.args.lower.now in
    crossed-told us ls c.requires c.any.result
    (cases_from_any c.any.new.self _ c.any.result Above NotAbove c.any.ensures.ran
    (YieldsList-from_zip {s = c.zip.result} (YieldsList-from_slice us cc) (YieldsList-from_slice ls cc))
    (λ x q k. search (rules, tests)) (λ x q k. search (rules, tests)))
