use Rattle.std.proofs.Common.{subst, arith}
use Rattle.history.specs.declared.History.{History}
use Rattle.history.specs.States.{view_of}
use Rattle.scripts.specs.Runs.{SentByValue}
use Rattle.scripts.proofs.Written.{sent_fit}
use Rattle.scripts.proofs.generating.send_rest.Goals as goal

pub write_held-requires : goal.write_held-requires
write_held-requires c =
    let told = subst (λ (h : History). SentByValue (view_of h) c.args.choices.now c.send_all-left.new.counts c.send_all-left.result)
    c.read_history-history.ensures c.send_all-left.ensures in
    (omega (arith, c.requires.0.0), sent_fit c.args.state.now c.requires.0 c.args.choices.now c.send_all-left.result.history told.state)
