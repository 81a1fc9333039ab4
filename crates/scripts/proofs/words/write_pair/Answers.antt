use Rattle.std.proofs.Common.{◌≡◌, ap, ◌∙◌, ◌∷◌, ◌++◌, length, take, replicate, arith}
use lib.ListN.{length-take}
use Rattle.scripts.specs.Words.{padded}
use Rattle.scripts.proofs.Opened.{padded-length, pair_written, mark_written, opened_is}
use Rattle.scripts.proofs.words.write_pair.Goals as goal

pub returns : goal.returns
returns c =
    let us = c.args.curves.upper.now in
    let ls = c.args.curves.lower.now in
    let b = c.args.curves.unlimited in
    let n = c.figures_shown-n.result in
    let one : length c.write_figures.new.places ≡ 256 =
    ap length c.write_figures.ensures ∙ padded-length (take n us) (omega (arith, length-take n us, c.requires.1.0)) in
    let two : length c.write_figures-2.new.places ≡ 256 = ap length c.write_figures-2.ensures ∙ padded-length ls c.requires.1.1 in
    pair_written c.args.words.now (length us) c.from.result c.requires.0 c.write_figures.new.places c.write_figures-2.new.places
    c.fill.new.self one two (c.fill.ensures.after (λ y e. e))
    ∙ (λ i. length us ∷ (c.from.ensures ∙ mark_written b) i ∷
    ((c.write_figures.ensures ∙ ap (λ k. padded (take k us)) c.figures_shown-n.ensures) i ++ (c.write_figures-2.ensures i ++ replicate 257 0)))
    ∙ opened_is us ls b
