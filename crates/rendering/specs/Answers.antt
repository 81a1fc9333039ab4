-- What the result of a call that renders has answered.
use Rattle.std.specs.Prelude.{Result, Ok, Err}
use Rattle.bounds.specs.declared.PairRefusal.{PairRefusal}
use Rattle.bounds.specs.Answers.{pair_refusal_number}
use Rattle.rendering.specs.declared.write.Text.{Text}
use Rattle.rendering.specs.Rendering.{RenderingAnswer, refused_rendering}

-- A text with its padding, or a refusal with document 01's number.
abbrev pub rendering_answer : Result Text PairRefusal → RenderingAnswer
rendering_answer (Ok t) = record { number = 0; length = t.length; bytes = t.bytes }
rendering_answer (Err r) = refused_rendering (pair_refusal_number r)
