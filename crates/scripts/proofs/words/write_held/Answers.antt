use Rattle.std.proofs.Common.{◌+◌, ◌-◌, ◌≡◌, sym, ap, ◌∙◌, length, set, rules, arith}
use borrow.Rule.Slice.PartMut.{put_mid}
use Rattle.history.specs.States.{view_of}
use Rattle.history.proofs.Histories.{entries-take, held_seen}
use Rattle.scripts.proofs.Worded.{held_written}
use Rattle.scripts.proofs.words.write_held.Goals as goal

pub returns : goal.returns
returns c =
    let ws = c.args.words.now in
    let h = c.args.history in
    let long : length h.ticks ≡ 256 = search rules in
    let is = entries-take h.held h.ticks (omega arith) in
    ap (put_mid 515 (515 + h.held - 515) (set ws 514 h.held)) (c.copy_from_slice.ensures.after ∙ sym is)
    ∙ held_written ws (view_of h).held h.held (omega arith) (sym (held_seen h))
