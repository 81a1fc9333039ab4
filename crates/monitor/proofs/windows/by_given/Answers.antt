-- Where the margin is negative the judge names the window, and else the tick passes.
use Rattle.laws.proofs.Base.{refl, ap, arith, rules}
use lib.IntN.{pos}
use mir.Syntax.{w64}
use mir.Val.{SFits}
use Rattle.curves.specs.Questions.{result}
use Rattle.laws.proofs.Signed.{not_less_told}
use Rattle.monitor.proofs.Ruling.{legal_slices, measured_inside, given_failed, given_measured}
use Rattle.monitor.proofs.windows.by_given.Goals as goal

pub returns-then-failed : goal.returns-then-failed
returns-then-failed c =
    given_failed _ _ _ _ (legal_slices _ _ _ _ c.requires c.if-not-within.ensures) c.if-failed.true c.unjudged-then-failed.ensures

pub returns-then-margin-lt0 : goal.returns-then-margin-lt0
returns-then-margin-lt0 c =
    given_measured _ _ _ _ (legal_slices _ _ _ _ c.requires c.if-not-within.ensures) c.if-failed.false
    (record { answer = ap result c.judge-verdict.ensures; margin = c.find_tightest-margin.ensures })

pub returns-else-margin-lt0 : goal.returns-else-margin-lt0
returns-else-margin-lt0 c =
    let z = c.find_tightest-margin.result.value in
    let fits : SFits w64 z = search rules in
    given_measured _ _ _ _ (legal_slices _ _ _ _ c.requires c.if-not-within.ensures) c.if-failed.false (record {
      answer =
          measured_inside _ _ _ _ _ (λ k. omega (arith, c.type_inv.ticks k)) (omega arith) _ c.find_tightest-margin.ensures
          (not_less_told z z fits refl (pos 0) c.if-margin-lt0.false);
      margin = c.find_tightest-margin.ensures;
    })
