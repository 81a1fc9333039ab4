-- States as lists of 32-bit words, as they cross the boundary. A generator has 771 words; a monitor 1,284, of which the first 771 are laid
-- out like a generator's.
use Rattle.std.specs.Prelude.{ℕ, zero, suc, ◌-◌, ◌≡◌, Bool, true, false, List, [], ◌∷◌, ◌++◌, ltb, length, get_or, set, take, drop, replicate}
use mathlib.Core.Logic.Dec.{and as dec_and}
use Rattle.std.proofs.Math.Decide.{ℕ_discrete}
use Rattle.std.proofs.lemmas.List.Edits.{sets}
use Rattle.curves.specs.Pairs.{Pair, horizon}
use Rattle.curves.specs.Unlimited.{AnyPair, limited, unlimited, curves_of}
use Rattle.curves.specs.Questions.{Question}
use Rattle.bounds.specs.Bounds.{max_horizon}
use Rattle.closure.specs.Theorems.{closure_of, room}
use Rattle.history.specs.declared.History.{History}
use Rattle.history.specs.States.{history_of, view_of, Legal, legal?}
use Rattle.monitor.specs.declared.Monitor.{Monitor}
use Rattle.monitor.specs.Monitoring.{MonitorView, monitor_of, monitor_view_of, LegalMonitor, legal_monitor?}

-- ---- the state that words spell
-- A mark that is given as a number: any but 0 sets it (request P7).
abbrev pub mark_from : ℕ → Bool
mark_from n = ltb 0 n

-- And one that is written.
abbrev pub mark_word : Bool → ℕ
mark_word true = 1
mark_word false = 0

-- The word at place k, and the n words from there on.
abbrev pub word : ℕ → List ℕ → ℕ
word k ws = get_or ws k 0

abbrev pub part : ℕ → ℕ → List ℕ → List ℕ
part k n ws = take n (drop k ws)

-- 0: the horizon; 1: the mark of a pair without ceilings; 2 to 257: the ceilings; 258 to 513: the leasts; 514: how many ticks are held;
-- 515 to 770: the held ticks.
abbrev pub history_from : List ℕ → History
history_from ws = history_of (word 0 ws) (part 2 256 ws) (part 258 256 ws) (mark_from (word 1 ws)) (word 514 ws) (part 515 256 ws)

-- Of a monitor, 771 to 1,026: the closed ceilings; 1,027 to 1,282: the closed leasts; 1,283: the failed mark.
abbrev pub monitor_from : List ℕ → Monitor
monitor_from ws = monitor_of (history_from ws) (part 771 256 ws) (part 1_027 256 ws) (mark_from (word 1_283 ws))

abbrev pub generator_words : ℕ
generator_words = 771

abbrev pub monitor_words : ℕ
monitor_words = 1_284

-- 12, of words: there are as many as such a state has, and the state that they spell is legal.
abbrev pub length_question : ℕ → List ℕ → Question
length_question n ws = record { number = 12; asked = length ws ≡ n; answered = ℕ_discrete (length ws) n }

abbrev pub LegalGeneratorWords : List ℕ → Type 0
LegalGeneratorWords ws = (length ws ≡ generator_words) × Legal (view_of (history_from ws))

abbrev pub LegalMonitorWords : List ℕ → Type 0
LegalMonitorWords ws = (length ws ≡ monitor_words) × LegalMonitor (monitor_view_of (monitor_from ws))

abbrev pub generator_question12 : List ℕ → Question
generator_question12 ws =
    record {
      number = 12;
      asked = LegalGeneratorWords ws;
      answered = dec_and (ℕ_discrete (length ws) generator_words) (legal? (view_of (history_from ws)));
    }

abbrev pub monitor_question12 : List ℕ → Question
monitor_question12 ws =
    record {
      number = 12;
      asked = LegalMonitorWords ws;
      answered = dec_and (ℕ_discrete (length ws) monitor_words) (legal_monitor? (monitor_view_of (monitor_from ws)));
    }

-- ---- the words that are left
-- With other held ticks: their number, and behind it they themselves. All other words stay, those behind the held ticks too.
abbrev pub with_held : List ℕ → List ℕ → List ℕ
with_held ws xs = sets ws 514 (length xs ∷ xs)

-- The word of the failed mark: one that is set stays as it is.
abbrev pub failed_word : ℕ → Bool → ℕ
failed_word zero true = 1
failed_word zero false = 0
failed_word (suc n) b = suc n

-- A monitor's words after ticks, by the view that these leave: the held ticks and the failed mark change, and nothing else.
abbrev pub monitor_left : List ℕ → MonitorView → List ℕ
monitor_left ws w = set (with_held ws w.view.held) 1_283 (failed_word (word 1_283 ws) w.failed)

-- ---- the words that an opening writes
-- Figures in 256 words, 0 behind them.
abbrev pub padded : List ℕ → List ℕ
padded us = us ++ replicate (max_horizon - length us) 0

-- A pair with no held ticks; the words of ceilings that there are not are 0.
abbrev pub opened_words : AnyPair → List ℕ
opened_words (limited p) = horizon p ∷ 0 ∷ (padded p.upper ++ (padded p.lower ++ replicate 257 0))
opened_words (unlimited h ls) = h ∷ 1 ∷ (replicate 256 0 ++ (padded ls ++ replicate 257 0))

-- The closed figures of a monitor, and its failed mark, which is not set.
abbrev pub closed_words : AnyPair → Pair → List ℕ
closed_words (limited p) q = padded q.upper ++ (padded q.lower ++ (0 ∷ []))
closed_words (unlimited h ls) q = replicate 513 0

abbrev pub opened_monitor_words : AnyPair → List ℕ
opened_monitor_words p = opened_words p ++ closed_words p (curves_of (closure_of p room))
