use Rattle.std.proofs.Common.{arith, ◌∙◌}
use Rattle.laws.proofs.Base.{take_all}
use Rattle.scripts.proofs.words.array_of.Goals as goal

pub returns : goal.returns
returns c = let f = rw c.unwrap.ensures at c.first_chunk.ensures.cases in f.same ∙ take_all 256 c.args.list.now (omega arith)
