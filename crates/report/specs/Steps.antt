-- What the private functions of this crate promise each other. `report`'s promise cites nothing of it.
use Rattle.std.specs.Prelude.{ℕ, Result, Ok, Err}
use Rattle.rendering.specs.declared.write.Text.{Text}
use Rattle.rendering.specs.Rendering.{refusal_line, RenderingAnswer, written}
use Rattle.rendering.specs.Answers.{rendering_answer}

-- What is written of a text, or of the number of a refusal: the text, or the refusal's line.
abbrev pub shown : Result Text ℕ → RenderingAnswer
shown (Ok t) = rendering_answer (Ok t)
shown (Err n) = written (refusal_line n)
