-- The pair that `Curves` stands for, and document 01's number for each case of `PairRefusal`.
use Rattle.std.specs.Prelude.{ℕ, Result}
use Rattle.curves.specs.Unlimited.{AnyPair, with_mark}
use Rattle.curves.specs.Questions.{Reply, reply_of}
use Rattle.bounds.specs.declared.Curves.{Curves}
use Rattle.bounds.specs.declared.PairRefusal.{PairRefusal}
use Rattle.bounds.specs.declared.PairRefusal.TheVariants.{UpperLength, LowerLength, FigureLimit}

abbrev pub curves_in : Curves → AnyPair
curves_in c = with_mark c.upper.now c.lower.now c.unlimited

abbrev pub pair_refusal_number : PairRefusal → ℕ
pair_refusal_number UpperLength = 1
pair_refusal_number LowerLength = 2
pair_refusal_number FigureLimit = 4

abbrev pub asked_reply : Result (Unit {0}) PairRefusal → Reply (Unit {0})
asked_reply r = reply_of (λ u. u) pair_refusal_number r
