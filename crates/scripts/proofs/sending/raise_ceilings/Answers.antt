use Rattle.scripts.proofs.sending.raise_ceilings.Goals as goal

pub raise-requires-clause-low_figures : goal.raise-requires-clause-low_figures
raise-requires-clause-low_figures c = rw c.if-curves.false at c.requires.low_figures
