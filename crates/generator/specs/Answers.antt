-- Document 01's number for each refusal of a generator, and what results answer; 15 is request P3's.
use Rattle.std.specs.Prelude.{ℕ, Result}
use Rattle.curves.specs.Questions.{Reply, reply_of}
use Rattle.bounds.specs.Answers.{pair_refusal_number}
use Rattle.generator.specs.declared.GeneratorRefusal.{GeneratorRefusal}
use Rattle.generator.specs.declared.GeneratorRefusal.TheVariants as opening
use Rattle.generator.specs.declared.Admissible.{Admissible}
use Rattle.generator.specs.declared.SendingRefusal.{SendingRefusal}
use Rattle.generator.specs.declared.SendingRefusal.TheVariants as sending
use Rattle.generator.specs.Generating.{RangeAnswer}

abbrev pub generator_refusal_number : GeneratorRefusal → ℕ
generator_refusal_number (opening.Pair r) = pair_refusal_number r
generator_refusal_number opening.NotClosed = 15

abbrev pub generator_opening_reply : Result (Unit {0}) GeneratorRefusal → Reply (Unit {0})
generator_opening_reply r = reply_of (λ u. u) generator_refusal_number r

abbrev pub sending_refusal_number : SendingRefusal → ℕ
sending_refusal_number sending.BadState = 12
sending_refusal_number sending.NoCount = 13

abbrev pub range_reply : Result Admissible SendingRefusal → Reply RangeAnswer
range_reply r = reply_of (λ a. record { lo = a.lo; hi = a.hi }) sending_refusal_number r

abbrev pub sending_reply : Result ℕ SendingRefusal → Reply ℕ
sending_reply r = reply_of (λ x. x) sending_refusal_number r
