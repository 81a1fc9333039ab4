use Rattle.std.proofs.Common.{arith}
use Rattle.scripts.specs.Words.{word}
use Rattle.scripts.proofs.Asked.{slice_entries}
use Rattle.scripts.proofs.words.closed.Goals as goal

pub returns-clause-upper : goal.returns-clause-upper
returns-clause-upper c = slice_entries 771 (word 0 c.args.words.now) c.args.words.now (omega arith) (omega arith)

pub returns-clause-lower : goal.returns-clause-lower
returns-clause-lower c = slice_entries 1_027 (word 0 c.args.words.now) c.args.words.now (omega arith) (omega arith)
