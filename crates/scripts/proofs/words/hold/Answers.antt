use Rattle.std.proofs.Common.{arith}
use Rattle.history.proofs.Histories.{legal_sizes}
use Rattle.scripts.specs.Words.{history_from}
use Rattle.scripts.proofs.Worded.{pushed_held}
use Rattle.scripts.proofs.words.hold.Goals as goal

pub overflow_sub-room : goal.overflow_sub-room
overflow_sub-room c = let sizes = legal_sizes (history_from c.args.words.now) c.requires.1 in omega (arith, sizes.fewer)

pub slice_bounds-push_all-end : goal.slice_bounds-push_all-end
slice_bounds-push_all-end c =
    let sizes = legal_sizes (history_from c.args.words.now) c.requires.1 in omega (arith, sizes.within, c.requires.0)

pub returns : goal.returns
returns c =
    pushed_held c.args.words.now c.args.counts.now c.requires.0 (legal_sizes (history_from c.args.words.now) c.requires.1) _ _
    c.push_all-now_held.ensures
