use Rattle.std.proofs.Common.{arith}
use Rattle.history.specs.Steps.{view_with}
use Rattle.scripts.specs.Words.{mark_from, word}
use Rattle.scripts.proofs.Asked.{slice_entries}
use Rattle.scripts.proofs.words.view.Goals as goal

pub returns-clause-view : goal.returns-clause-view
returns-clause-view c =
    let ws = c.args.words.now in
    λ i. view_with (slice_entries 2 (word 0 ws) ws (omega arith) (omega arith) i) (slice_entries 258 (word 0 ws) ws (omega arith) (omega arith) i)
    (mark_from (word 1 ws)) (slice_entries 515 (word 514 ws) ws (omega arith) (omega arith) i)
