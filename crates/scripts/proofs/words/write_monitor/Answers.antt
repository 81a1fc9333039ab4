use Rattle.std.proofs.Common.{◌≡◌, sym, ap, ◌∙◌, [], ◌∷◌, ◌++◌, length, length-take-le, rules, arith}
use Rattle.history.proofs.Histories.{entries-take}
use Rattle.scripts.specs.Words.{padded}
use Rattle.scripts.specs.Runs.{closed_from}
use Rattle.scripts.proofs.Opened.{shown_few, opened-length, monitor_written}
use Rattle.scripts.proofs.words.write_monitor.Goals as goal

pub slice_bounds-write_pair-end-2 : goal.slice_bounds-write_pair-end-2
slice_bounds-write_pair-end-2 c = sym (length-take-le 771 c.args.words.now (omega (arith, c.requires.0)))

pub write_pair-requires : goal.write_pair-requires
write_pair-requires c = (length-take-le 771 c.args.words.now (omega (arith, c.requires.0)), c.requires.1)

pub returns : goal.returns
returns c =
    let us = c.args.curves.upper.now in
    let ls = c.args.curves.lower.now in
    let b = c.args.curves.unlimited in
    let n = c.figures_shown-n.result in
    let m = c.args.opened in
    let few = shown_few (length us) b n c.figures_shown-n.ensures in
    let uppers : length m.closed_upper ≡ 256 = search rules in
    let lowers : length m.closed_lower ≡ 256 = search rules in
    let front : length c.write_pair.new.words ≡ 771 = ap length c.write_pair.ensures ∙ opened-length us ls b c.requires.1.0 c.requires.1.1 in
    monitor_written c.args.words.now c.write_pair.new.words c.write_closed.new.words c.requires.0 front
    ∙ (λ i. c.write_pair.ensures i ++ (c.write_closed.ensures
    ∙ (λ j. padded (sym (entries-take n m.closed_upper (omega (arith, c.requires.1.0))) j)
    ++ (padded (sym (entries-take n m.closed_lower (omega (arith, c.requires.1.0))) j) ++ (0 ∷ [])))
    ∙ ap (λ k. closed_from k m) c.figures_shown-n.ensures) i)
