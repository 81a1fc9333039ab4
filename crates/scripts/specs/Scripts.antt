-- What the operations on words give back: a number, and every list that was lent as it is left.
use Rattle.std.specs.Prelude.{ℕ, ◌+◌, ◌*◌, List, [], ◌∷◌, ◌++◌, map, ℤ, length, take}
use Rattle.laws.specs.Writing.{over}
use Rattle.curves.specs.Margins.{Margin}
use Rattle.curves.specs.Unlimited.{AnyPair}
use Rattle.curves.specs.Questions.{Question, Reply, result, refusal, answer_to}
use Rattle.history.specs.States.{view_of}
use Rattle.monitor.specs.Monitoring.{monitor_view_of}
use Rattle.monitor.specs.Opening.{monitor_questions}
use Rattle.monitor.specs.Calls.{after_ticks, rulings, margins}
use Rattle.generator.specs.Generating.{RangeAnswer, ranging}
use Rattle.generator.specs.Opening.{generator_questions}
use Rattle.generator.specs.Calls.{sendings, after_sendings}
use Rattle.scripts.specs.Codes.{minus, ruling_code, sending_code}
use Rattle.scripts.specs.Words.{history_from, monitor_from, generator_words, monitor_words, length_question, generator_question12}
use Rattle.scripts.specs.Words.{monitor_question12, with_held, monitor_left, opened_words, opened_monitor_words}

-- ---- opening
pub record Opened : Type 0 where
  -- 0, or that of the refusal.
  pub number : ℕ
  pub state : List ℕ

abbrev pub opened : ℕ → List ℕ → Opened
opened r left = record { number = r; state = left }

-- The questions of the opening, and at last whether the list for the state has its length; refused, it is as found.
abbrev pub opened_into : List Question → List ℕ → List ℕ → Opened
opened_into qs words found = answer_to qs (λ _. opened 0 words) (λ n. opened n found)

unfoldable pub monitor_opened : AnyPair → List ℕ → Opened
monitor_opened p found = opened_into (monitor_questions p ++ (length_question monitor_words found ∷ [])) (opened_monitor_words p) found

unfoldable pub generator_opened : AnyPair → List ℕ → Opened
generator_opened p found = opened_into (generator_questions p ++ (length_question generator_words found ∷ [])) (opened_words p) found

-- ---- a list of counts
pub record Judged : Type 0 where
  -- How many ticks ran, or 12 with a minus sign.
  pub answer : ℕ
  pub state : List ℕ
  pub verdicts : List ℕ
  pub margins : List ℤ

abbrev pub judged : ℕ → List ℕ → List ℕ → List ℤ → Judged
judged r ws vs ms = record { answer = r; state = ws; verdicts = vs; margins = ms }

-- The smallest margins of ticks, without the windows.
abbrev pub margin_values : List Margin → List ℤ
margin_values ms = map (λ m. m.value) ms

-- Of all counts: the verdicts go over the front of the list that is lent for them, and so do as many margins as there is room for.
unfoldable pub judged_all : List ℕ → List ℕ → List ℕ → List ℤ → Judged
judged_all ws xs vs ms =
    answer_to (monitor_question12 ws ∷ [])
    (λ _.
    let w = monitor_view_of (monitor_from ws) in
    judged (length xs) (monitor_left ws (after_ticks w xs)) (over (map ruling_code (rulings w xs)) vs) (over (margin_values (margins w xs)) ms))
    (λ n. judged (minus n) ws vs ms)

-- As many ticks run as there are both counts and places for verdicts.
abbrev pub judged_counts : List ℕ → List ℕ → List ℕ → List ℤ → Judged
judged_counts ws xs vs ms = judged_all ws (take (length vs) xs) vs ms

-- ---- a list of choices
pub record Sent : Type 0 where
  pub answer : ℕ
  pub state : List ℕ
  pub counts : List ℕ

abbrev pub sent : ℕ → List ℕ → List ℕ → Sent
sent r ws cs = record { answer = r; state = ws; counts = cs }

unfoldable pub sent_all : List ℕ → List ℕ → List ℕ → Sent
sent_all ws xs cs =
    answer_to (generator_question12 ws ∷ [])
    (λ _.
    let v = view_of (history_from ws) in
    sent (length xs) (with_held ws (after_sendings v xs).held) (over (map sending_code (sendings v xs)) cs))
    (λ n. sent (minus n) ws cs)

abbrev pub sent_choices : List ℕ → List ℕ → List ℕ → Sent
sent_choices ws xs cs = sent_all ws (take (length cs) xs) cs

-- ---- the admissible range
-- hi in the upper 32 bits, lo in the lower ones; or a refusal with a minus sign.
abbrev pub range_number : Reply RangeAnswer → ℕ
range_number (result b) = b.hi * 4_294_967_296 + b.lo
range_number (refusal n) = minus n

-- What a look answers, and as a number.
unfoldable pub looking : List ℕ → Reply RangeAnswer
looking ws = answer_to (generator_question12 ws ∷ []) (λ _. ranging (view_of (history_from ws))) refusal

unfoldable pub looked : List ℕ → ℕ
looked ws = answer_to (generator_question12 ws ∷ []) (λ _. range_number (ranging (view_of (history_from ws)))) minus
