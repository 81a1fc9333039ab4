use Rattle.history.proofs.History.legality.Goals as goal

pub returns : goal.returns
returns c = c.ask_legality.ensures.answer c.args.self.now.ticks
