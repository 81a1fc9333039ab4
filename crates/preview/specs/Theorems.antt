-- What is proved of a preview: that it is what feeding the list comes to, tick by tick, and by the call that runs it.
use Rattle.std.specs.Prelude.{ℕ, ◌<◌, ◌≡◌, List, [], ◌↔◌, ◌⊎◌, ℤ, length, get_or, take}
use Rattle.curves.specs.Questions.{Reply}
use Rattle.monitor.specs.Monitoring.{MonitorView, monitor_view_of, Ruling, judging}
use Rattle.monitor.specs.Calls.{after_ticks}
use Rattle.scripts.specs.Codes.{minus, ruling_code}
use Rattle.scripts.specs.Words.{monitor_from, LegalMonitorWords}
use Rattle.scripts.specs.Scripts.{judged_counts}
use Rattle.preview.specs.Preview.{pass, previewed, preview_of}

-- What feeding a list answers at place k: the tick there, in the state that those before it leave.
abbrev pub fed_at : MonitorView → List ℕ → ℕ → Reply Ruling
fed_at w xs k = judging (after_ticks w (take k xs)) (get_or xs k 0)

-- Feeding passes all before place k and does not pass there: its answer there has the number v, and 0 is a pass.
pub record FirstRejected (w : MonitorView) (xs : List ℕ) (k v : ℕ) : Type 0 where
  pub within : k < length xs
  pub before : (i : ℕ) → i < k → fed_at w xs i ≡ pass
  pub there : ruling_code (fed_at w xs k) ≡ v
  pub no_pass : 0 < v

-- Exactly then place k is named with the verdict v, which is no pass. This and all that follows but `RefusedIffNoState` is said of words
-- that are a state.
abbrev pub NamesFirstRejected : Type 0
NamesFirstRejected =
    (ws xs : List ℕ) (found k v : ℕ) → LegalMonitorWords ws
    → ((preview_of ws xs found ≡ previewed k v) × (0 < v)) ↔ FirstRejected (monitor_view_of (monitor_from ws)) xs k v

-- All are said to pass exactly when feeding passes all.
abbrev pub AllPassIffFed : Type 0
AllPassIffFed =
    (ws xs : List ℕ) (found : ℕ) → LegalMonitorWords ws
    → (preview_of ws xs found ≡ previewed (length xs) 0) ↔ ((i : ℕ) → i < length xs → fed_at (monitor_view_of (monitor_from ws)) xs i ≡ pass)

-- One of the two is said of every list: a verdict of 0 tells that all pass.
abbrev pub AllPassOrOneNamed : Type 0
AllPassOrOneNamed =
    (ws xs : List ℕ) (found : ℕ) → LegalMonitorWords ws
    → (preview_of ws xs found ≡ previewed (length xs) 0) ⊎ ((k : ℕ) × (v : ℕ) × (0 < v) × (preview_of ws xs found ≡ previewed k v))

-- What is named, and that all pass, by the call that feeds a list in earnest: by the verdicts that it leaves, where there is a place for
-- each.
abbrev pub verdicts_of : List ℕ → List ℕ → List ℕ → List ℤ → List ℕ
verdicts_of ws xs vs ms = (judged_counts ws xs vs ms).verdicts

abbrev pub NamesFirstOfRun : Type 0
NamesFirstOfRun =
    (ws xs vs : List ℕ) (ms : List ℤ) (found k v : ℕ) → LegalMonitorWords ws → length vs ≡ length xs → 0 < v
    → (preview_of ws xs found ≡ previewed k v)
    ↔ (((i : ℕ) → i < k → get_or (verdicts_of ws xs vs ms) i 0 ≡ 0) × (get_or (verdicts_of ws xs vs ms) k 0 ≡ v))

abbrev pub AllPassIffRun : Type 0
AllPassIffRun =
    (ws xs vs : List ℕ) (ms : List ℤ) (found : ℕ) → LegalMonitorWords ws → length vs ≡ length xs
    → (preview_of ws xs found ≡ previewed (length xs) 0) ↔ ((i : ℕ) → i < length xs → get_or (verdicts_of ws xs vs ms) i 0 ≡ 0)

-- It is refused, with 12 and the verdict as found, exactly where the words are no state: whatever the list, if it has fewer than 2^63
-- counts, as the header asks of every list.
abbrev pub RefusedIffNoState : Type 0
RefusedIffNoState =
    (ws xs : List ℕ) (found : ℕ) → length xs < 9_223_372_036_854_775_808
    → (preview_of ws xs found ≡ previewed (minus 12) found) ↔ (¬ LegalMonitorWords ws)

-- An empty list passes on every state, also on one that has failed.
abbrev pub EmptyPasses : Type 0
EmptyPasses = (ws : List ℕ) (found : ℕ) → LegalMonitorWords ws → preview_of ws [] found ≡ previewed 0 0
