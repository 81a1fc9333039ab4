-- What the public operations promise: the answer, and the state that comes back.
use Rattle.std.specs.Prelude.{ℕ, ◌≡◌, Result}
use Rattle.curves.specs.Unlimited.{AnyPair}
use Rattle.history.specs.States.{view_of}
use Rattle.history.specs.Opening.{Begun}
use Rattle.generator.specs.declared.Generator.{Generator}
use Rattle.generator.specs.declared.OpenedGenerator.{OpenedGenerator}
use Rattle.generator.specs.declared.Admissible.{Admissible}
use Rattle.generator.specs.declared.SendingRefusal.{SendingRefusal}
use Rattle.generator.specs.declared.Sent.{Sent}
use Rattle.generator.specs.Generating.{ranging, sending, GeneratorNext}
use Rattle.generator.specs.Opening.{generator_opening}
use Rattle.generator.specs.Answers.{generator_opening_reply, range_reply, sending_reply}

pub record GeneratorOpened (p : AnyPair) (r : OpenedGenerator) : Type 0 where
  pub answer : generator_opening_reply r.opening ≡ generator_opening p
  pub history : Begun (generator_opening p) p r.state.history

pub record GeneratorTicked (g : Generator) (choice : ℕ) (r : Sent) : Type 0 where
  pub answer : sending_reply r.sending ≡ sending (view_of g.history) choice
  pub next : GeneratorNext (sending (view_of g.history) choice) g r.next

-- The range has no state to hand back: the caller keeps the one given.
abbrev pub GeneratorRanged : Generator → Result Admissible SendingRefusal → Type 0
GeneratorRanged g r = range_reply r ≡ ranging (view_of g.history)
