use Rattle.std.proofs.Common.{arith}
use Rattle.std.proofs.lemmas.Bool.Decides.{nat_tests}
use Rattle.scripts.proofs.Given.{judged_asked, judged_both, judged_all_lem}
use Rattle.scripts.proofs.judge_legal.Goals as goal

pub judge_rest-requires-then-sure-counts : goal.judge_rest-requires-then-sure-counts
judge_rest-requires-then-sure-counts c =
    judged_asked c.args.state.now c.args.counts.now c.args.verdicts.now c.args.margins.now c.requires.0 c.requires.1 (grind (arith, nat_tests))
    c.judge_first-sure.result _ _ c.judge_first-sure.ensures

pub returns-then-sure-counts : goal.returns-then-sure-counts
returns-then-sure-counts c =
    judged_both c.args.state.now c.args.counts.now c.args.verdicts.now c.args.margins.now c.requires.0 c.requires.1 (grind (arith, nat_tests))
    c.judge_first-sure.result _ _ c.judge_first-sure.ensures _ _ _ c.judge_rest-then-sure-counts.ensures

pub returns-else-sure-counts : goal.returns-else-sure-counts
returns-else-sure-counts c =
    judged_all_lem c.args.state.now c.args.counts.now c.args.verdicts.now c.args.margins.now c.requires.0 c.requires.1 (grind (arith, nat_tests))
    c.judge_first-sure.result _ _ c.judge_first-sure.ensures (omega arith)
