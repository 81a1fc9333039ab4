use Rattle.scripts.proofs.Choosing.{sends_none}
use Rattle.scripts.proofs.sending.send.Goals as goal

pub returns-then-not-add_up : goal.returns-then-not-add_up
returns-then-not-add_up c =
    sends_none c.args.figures.ceilings.now c.args.figures.leasts.now c.args.ticks.now c.args.choices.now c.args.counts.now
