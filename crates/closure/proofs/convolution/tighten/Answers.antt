-- No entry comes above the filler in either pass.
use Rattle.laws.proofs.Base.{length}
use Rattle.closure.proofs.Tightening.{after_own, after_convolve}
use Rattle.closure.proofs.convolution.tighten.Goals as goal

pub convolve-requires : goal.convolve-requires
convolve-requires c =
    after_own c.args.own.now c.args.other.now (length c.args.best.now) c.requires.own_row.0 c.requires.own_row.1 _ c.take_own.ensures

pub deconvolve-requires-clause-differences : goal.deconvolve-requires-clause-differences
deconvolve-requires-clause-differences c =
    after_convolve c.args.own.now c.args.other.now (length c.args.best.now) c.requires.own_row.0 c.requires.own_row.1 _ _
    c.requires.other_row.1 c.take_own.ensures c.convolve.ensures
