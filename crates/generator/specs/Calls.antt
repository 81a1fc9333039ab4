-- Lists of calls (document 01, "Monitor and maker"): each call gets the state that the one before it left.
use Rattle.std.specs.Prelude.{ℕ, List, [], ◌∷◌, ◌++◌, Result}
use Rattle.curves.specs.Questions.{Reply, result, refusal}
use Rattle.history.specs.States.{View, added}
use Rattle.generator.specs.declared.Generator.{Generator}
use Rattle.generator.specs.declared.Admissible.{Admissible}
use Rattle.generator.specs.declared.SendingRefusal.{SendingRefusal}
use Rattle.generator.specs.declared.Sent.{Sent}
use Rattle.generator.specs.Generating.{sending}
use Rattle.generator.specs.Answers.{sending_reply}
use Rattle.generator.specs.Promises.{GeneratorTicked, GeneratorRanged}

-- ---- by the view of a state
abbrev pub view_after : Reply ℕ → View → View
view_after (result x) v = added v x
view_after (refusal n) v = v

-- After ticks that sent these counts.
unfoldable pub added_all : View → List ℕ → View
added_all v [] = v
added_all v (x ∷ xs) = added_all (added v x) xs

-- What the ticks of a list of choices are answered.
unfoldable pub sendings : View → List ℕ → List (Reply ℕ)
sendings v [] = []
sendings v (choice ∷ choices) = sending v choice ∷ sendings (view_after (sending v choice) v) choices

-- And the view that they leave.
unfoldable pub after_sendings : View → List ℕ → View
after_sendings v [] = v
after_sendings v (choice ∷ choices) = after_sendings (view_after (sending v choice) v) choices

-- ---- any results that the promises allow
-- A call: a tick with its choice, or one for the range (document 01's look); and what came back.
pub data Call : Type 0 where
  ticked : ℕ → Sent → Call
  ranged : Result Admissible SendingRefusal → Call

-- A call for the range leaves the state as it was.
abbrev pub Calls : Generator → List Call → Type 0
Calls g [] = Unit {0}
Calls g (ticked choice r ∷ cs) = GeneratorTicked g choice r × Calls r.next cs
Calls g (ranged r ∷ cs) = GeneratorRanged g r × Calls g cs

-- The state that a list of calls leaves.
abbrev pub state_after : Generator → List Call → Generator
state_after g [] = g
state_after g (ticked choice r ∷ cs) = state_after r.next cs
state_after g (ranged r ∷ cs) = state_after g cs

-- The choices of the ticks, and what these were answered, in order.
abbrev pub choices_of : List Call → List ℕ
choices_of [] = []
choices_of (ticked choice r ∷ cs) = choice ∷ choices_of cs
choices_of (ranged r ∷ cs) = choices_of cs

abbrev pub replies_of : List Call → List (Reply ℕ)
replies_of [] = []
replies_of (ticked choice r ∷ cs) = sending_reply r.sending ∷ replies_of cs
replies_of (ranged r ∷ cs) = replies_of cs

-- The counts sent, in order.
abbrev pub count_of : Reply ℕ → List ℕ
count_of (result x) = x ∷ []
count_of (refusal n) = []

abbrev pub counts_sent : List Call → List ℕ
counts_sent [] = []
counts_sent (ticked choice r ∷ cs) = count_of (sending_reply r.sending) ++ counts_sent cs
counts_sent (ranged r ∷ cs) = counts_sent cs
