use Rattle.std.proofs.Common.{arith}
use Rattle.scripts.proofs.Given.{sent_asked, sent_both, sent_all_lem}
use Rattle.scripts.proofs.send_legal.Goals as goal

pub send_rest-requires : goal.send_rest-requires
send_rest-requires c =
    sent_asked c.args.state.now c.args.choices.now c.args.counts.now c.requires.0 c.requires.1 c.send_first-sure.result _ _
    c.send_first-sure.ensures

pub returns-then-sure-choices : goal.returns-then-sure-choices
returns-then-sure-choices c =
    sent_both c.args.state.now c.args.choices.now c.args.counts.now c.requires.0 c.requires.1 c.send_first-sure.result _ _
    c.send_first-sure.ensures _ _ c.send_rest.ensures

pub returns-else-sure-choices : goal.returns-else-sure-choices
returns-else-sure-choices c =
    sent_all_lem c.args.state.now c.args.choices.now c.args.counts.now c.requires.0 c.requires.1 c.send_first-sure.result _ _
    c.send_first-sure.ensures (omega arith)
