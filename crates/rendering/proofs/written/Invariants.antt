-- The loop of `rendering::written`: before a turn the text of i windows is written.
use Rattle.std.specs.Prelude.{Ok, ◌≡◌}
use Rattle.bounds.specs.Answers.{curves_in}
use Rattle.rendering.specs.Rendering.{written}
use Rattle.rendering.specs.Answers.{rendering_answer}
use Rattle.rendering.proofs.Laws.{text_to}
use Rattle.rendering.proofs.written.Given as goal

abbrev pub invariant-loop-i : goal.invariant-loop-i
invariant-loop-i l = rendering_answer (Ok l.text) ≡ written (text_to (curves_in l.curves) l.i)
