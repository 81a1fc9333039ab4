-- What is proved of the words: lists of ticks in pieces, by the answers that `judge` and `generate` promise, and so of the calls from C;
-- the state that an opening writes; and of answers as numbers.
use Rattle.std.specs.Prelude.{ℕ, ◌+◌, ◌≡◌, List, [], ◌++◌, ◌⊎◌, ℤ, length}
use Rattle.curves.specs.Unlimited.{AnyPair}
use Rattle.curves.specs.Questions.{result}
use Rattle.history.specs.States.{view_of}
use Rattle.history.specs.Opening.{fresh}
use Rattle.monitor.specs.Monitoring.{MonitorView, monitor_view_of, judging}
use Rattle.monitor.specs.Opening.{monitor_opening, fresh_monitor}
use Rattle.generator.specs.Opening.{generator_opening}
use Rattle.scripts.specs.Codes.{minus, ruling_code}
use Rattle.scripts.specs.Words.{history_from, monitor_from, opened_words, opened_monitor_words}
use Rattle.scripts.specs.Scripts.{Judged, judged_counts, Sent, sent_choices}

-- As many ticks ran as in both lists; or each of the three is refused with 12.
abbrev pub AnswersAdd : ℕ → ℕ → ℕ → Type 0
AnswersAdd first second whole = (whole ≡ first + second) ⊎ ((first ≡ minus 12) × (second ≡ minus 12) × (whole ≡ minus 12))

-- What one list is answered is what the two are, one after the other, and it leaves the words that the second leaves.
pub record JudgedAlike (first second whole : Judged) : Type 0 where
  pub answer : AnswersAdd first.answer second.answer whole.answer
  pub state : whole.state ≡ second.state
  pub verdicts : whole.verdicts ≡ first.verdicts ++ second.verdicts
  pub margins : whole.margins ≡ first.margins ++ second.margins

pub record SentAlike (first second whole : Sent) : Type 0 where
  pub answer : AnswersAdd first.answer second.answer whole.answer
  pub state : whole.state ≡ second.state
  pub counts : whole.counts ≡ first.counts ++ second.counts

-- Running xs, and then ys on the words that came back, is running both in one list, whatever the words: with a place for each verdict, and
-- for each margin of the first list or for none at all.
abbrev pub JudgedInPieces : Type 0
JudgedInPieces =
    (ws xs ys vs us : List ℕ) (ms ns : List ℤ) → length vs ≡ length xs → length us ≡ length ys → (length ms ≡ length xs) ⊎ (ms ++ ns ≡ [])
    → let first : Judged = judged_counts ws xs vs ms in
    JudgedAlike first (judged_counts first.state ys us ns) (judged_counts ws (xs ++ ys) (vs ++ us) (ms ++ ns))

abbrev pub SentInPieces : Type 0
SentInPieces =
    (ws xs ys cs ds : List ℕ) → length cs ≡ length xs → length ds ≡ length ys
    → let first : Sent = sent_choices ws xs cs in
    SentAlike first (sent_choices first.state ys ds) (sent_choices ws (xs ++ ys) (cs ++ ds))

-- The words that an opening writes spell the state that an opening hands out, so that what is proved of one that was opened holds of them.
abbrev pub GeneratorWordsFresh : Type 0
GeneratorWordsFresh = (p : AnyPair) → generator_opening p ≡ result tt → view_of (history_from (opened_words p)) ≡ fresh p

abbrev pub MonitorWordsFresh : Type 0
MonitorWordsFresh = (p : AnyPair) → monitor_opening p ≡ result tt → monitor_view_of (monitor_from (opened_monitor_words p)) ≡ fresh_monitor p

-- The number of a monitor's answer tells the answer: ticks whose answers have one number are answered alike, window and all.
abbrev pub NumbersTellAnswers : Type 0
NumbersTellAnswers =
    (w u : MonitorView) (x y : ℕ) → ruling_code (judging w x) ≡ ruling_code (judging u y) → judging w x ≡ judging u y
