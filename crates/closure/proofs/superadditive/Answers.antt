use Rattle.laws.proofs.Base.{length, rules, sub-zero}
use Rattle.std.proofs.lemmas.Iterator.{cases_from_all, YieldsList-from_range}
use Rattle.closure.specs.Steps.{ReachesParts}
use Rattle.closure.proofs.StandIns.{parts-told}
use Rattle.closure.proofs.superadditive.Goals as goal

pub returns : goal.returns
returns c =
    let ls = c.args.lower.now in
    parts-told ls c.all.result
    (cases_from_all c.all.new.self _ c.all.result (ReachesParts ls) (λ i. ¬ ReachesParts ls i) c.all.ensures.ran
    (YieldsList-from_range 0 (length ls) (length ls) (cc) (sub-zero (length ls))) (λ x q k. search rules) (λ x q k. search rules))
