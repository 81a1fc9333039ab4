-- What the private functions on words promise each other. No public promise cites anything of it.
use Rattle.std.specs.Prelude.{ℕ, ◌-◌, ◌≤◌, ◌≡◌, Bool, true, false, List, [], ◌∷◌, ◌++◌, map, ℤ, length, take, replicate}
use Rattle.laws.specs.Writing.{over}
use Rattle.curves.specs.Ticks.{newest}
use Rattle.bounds.specs.Bounds.{max_horizon, Bounded}
use Rattle.history.specs.States.{View, entries, view_of}
use Rattle.monitor.specs.declared.Monitor.{Monitor}
use Rattle.monitor.specs.Monitoring.{MonitorView, monitor_view_of}
use Rattle.monitor.specs.Calls.{after_ticks, rulings, margins}
use Rattle.generator.specs.declared.Generator.{Generator}
use Rattle.generator.specs.Calls.{sendings, after_sendings}
use Rattle.scripts.specs.Codes.{ruling_code, sending_code}
use Rattle.scripts.specs.Words.{mark_from, word, part, history_from, monitor_from, with_held, monitor_left, padded}
use Rattle.scripts.specs.Scripts.{margin_values}

-- ---- words
-- What question 12 asks of a monitor's closed figures, where the pair has ceilings.
abbrev pub ClosedWithin : ℕ → Bool → List ℕ → List ℕ → Type 0
ClosedWithin h true us ls = Unit {0}
ClosedWithin h false us ls = Bounded (entries h us) × Bounded (entries h ls)

abbrev pub ClosedWords : List ℕ → Type 0
ClosedWords ws = ClosedWithin (word 0 ws) (mark_from (word 1 ws)) (part 771 256 ws) (part 1_027 256 ws)

-- The held ticks with counts behind them: the last are held, one fewer than the horizon.
abbrev pub held_after : List ℕ → List ℕ → List ℕ
held_after ws xs = newest (word 0 ws - 1) ((view_of (history_from ws)).held ++ xs)

-- ---- openings
-- Lists of figures for which there are words.
abbrev pub PairFits : List ℕ → List ℕ → Type 0
PairFits us ls = (length us ≤ max_horizon) × (length ls ≤ max_horizon)

-- Of how many windows there are ceilings and closed figures.
abbrev pub shown : ℕ → Bool → ℕ
shown h true = 0
shown h false = h

-- The words of so many closed figures, and of the failed mark.
abbrev pub closed_from : ℕ → Monitor → List ℕ
closed_from n m = padded (entries n m.closed_upper) ++ (padded (entries n m.closed_lower) ++ (0 ∷ []))

-- ---- counts
-- The first n of the counts are judged.
pub record JudgedFirst (ws xs vs left after : List ℕ) (n : ℕ) : Type 0 where
  pub within : n ≤ length xs
  pub state : left ≡ monitor_left ws (after_ticks (monitor_view_of (monitor_from ws)) (take n xs))
  pub verdicts : after ≡ over (map ruling_code (rulings (monitor_view_of (monitor_from ws)) (take n xs))) vs

-- All are.
pub record JudgedRest (ws xs : List ℕ) (ms : List ℤ) (left after : List ℕ) (margins-after : List ℤ) : Type 0 where
  pub state : left ≡ monitor_left ws (after_ticks (monitor_view_of (monitor_from ws)) xs)
  pub verdicts : after ≡ map ruling_code (rulings (monitor_view_of (monitor_from ws)) xs)
  pub margins_left : margins-after ≡ over (margin_values (margins (monitor_view_of (monitor_from ws)) xs)) ms

-- The same with the state by value.
pub record JudgedByValue (w : MonitorView) (xs : List ℕ) (ms : List ℤ) (after : List ℕ) (margins-after : List ℤ) (r : Monitor) : Type 0
  where
    pub state : monitor_view_of r ≡ after_ticks w xs
    pub verdicts : after ≡ map ruling_code (rulings w xs)
    pub margins_left : margins-after ≡ over (margin_values (margins w xs)) ms

-- A list with one entry in each of n places from i on, as far as it has these.
abbrev pub filled_from : {A : Type 0} → A → ℕ → ℕ → List A → List A
filled_from a i n xs = over (take i xs ++ replicate n a) xs

-- ---- choices
-- The first n of the choices are sent, all are, and the same with the state by value.
pub record SentFirst (ws xs cs left after : List ℕ) (n : ℕ) : Type 0 where
  pub within : n ≤ length xs
  pub state : left ≡ with_held ws (after_sendings (view_of (history_from ws)) (take n xs)).held
  pub counts : after ≡ over (map sending_code (sendings (view_of (history_from ws)) (take n xs))) cs

pub record SentRest (ws xs left after : List ℕ) : Type 0 where
  pub state : left ≡ with_held ws (after_sendings (view_of (history_from ws)) xs).held
  pub counts : after ≡ map sending_code (sendings (view_of (history_from ws)) xs)

pub record SentByValue (v : View) (xs after : List ℕ) (r : Generator) : Type 0 where
  pub state : view_of r.history ≡ after_sendings v xs
  pub counts : after ≡ map sending_code (sendings v xs)
