-- Opening a generator (document 01, questions 1, 2 and 4; 15 by request P3, as it opens on closed figures only): two lists and a mark in
-- (request P7), a state out.
use Rattle.std.specs.Prelude.{List, [], ◌∷◌, ◌++◌}
use Rattle.curves.specs.Unlimited.{AnyPair}
use Rattle.curves.specs.Questions.{Question, Reply, reply_to}
use Rattle.bounds.specs.Bounds.{pair_questions}
use Rattle.closure.specs.Closing.{question15}

abbrev pub generator_questions : AnyPair → List Question
generator_questions p = pair_questions p ++ (question15 p ∷ [])

-- What an opening answers.
unfoldable pub generator_opening : AnyPair → Reply (Unit {0})
generator_opening p = reply_to (generator_questions p) (λ _. tt)
