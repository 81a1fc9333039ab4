use Rattle.std.proofs.Common.{sym, ap, ◌∙◌, [], ◌∷◌, ◌++◌, length, length-take-le, arith}
use Rattle.scripts.proofs.Opened.{padded-length, closed_written}
use Rattle.scripts.proofs.words.write_closed.Goals as goal

pub slice_bounds-write_figures-end-2 : goal.slice_bounds-write_figures-end-2
slice_bounds-write_figures-end-2 c = sym (length-take-le 256 c.args.words.now (omega (arith, c.requires.0)))

pub write_figures-requires : goal.write_figures-requires
write_figures-requires c = (length-take-le 256 c.args.words.now (omega (arith, c.requires.0)), c.requires.1.0)

pub returns : goal.returns
returns c =
    let pu = c.write_figures.ensures in
    let pl = c.write_figures-2.ensures in
    closed_written c.args.words.now c.write_figures.new.places c.write_figures-2.new.places c.requires.0
    (ap length pu ∙ padded-length c.args.closed_upper.now c.requires.1.0) (ap length pl ∙ padded-length c.args.closed_lower.now c.requires.1.1)
    ∙ (λ i. pu i ++ (pl i ++ (0 ∷ [])))
