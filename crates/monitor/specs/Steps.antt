-- What the private functions of this crate promise each other. No public promise cites anything of it.
use Rattle.std.specs.Prelude.{ℕ, ◌+◌, ◌*◌, ◌≤◌, ◌≡◌, Bool, true, false, ◌&&◌, cond, List, Option, Some, None, Result, Ok, Err, ℤ, pos}
use Rattle.std.specs.Prelude.{◌-ℤ◌, length, nat_lt}
use mathlib.Core.Bool.{not}
use Rattle.std.specs.Int.Signed.{lt_z}
use Rattle.curves.specs.Streams.{count_limit}
use Rattle.curves.specs.Pairs.{Pair, horizon, first}
use Rattle.curves.specs.Unlimited.{AnyPair, limited, curves_of}
use Rattle.curves.specs.Ticks.{then, last, Keeps}
use Rattle.curves.specs.Margins.{margin_between, Margin, Tightest}
use Rattle.curves.specs.Questions.{result}
use Rattle.bounds.specs.Bounds.{max_horizon, question4}
use Rattle.closure.specs.Theorems.{closure_of, room}
use Rattle.history.specs.declared.BadState.{BadState}
use Rattle.history.specs.States.{View, Legal}
use Rattle.monitor.specs.declared.MonitorRefusal.{MonitorRefusal}
use Rattle.monitor.specs.declared.Verdict.{Verdict}
use Rattle.monitor.specs.declared.Verdict.TheVariants.{Passed, TooMany, TooFew, Lost, AlreadyFailed}
use Rattle.monitor.specs.declared.windows.Finding.{Finding}
use Rattle.monitor.specs.declared.windows.Margin as declared
use Rattle.monitor.specs.Monitoring.{MonitorView, closed_in, verdict_on, judged, judging}
use Rattle.monitor.specs.Margins.{carried}
use Rattle.monitor.specs.Opening.{monitor_opening}
use Rattle.monitor.specs.Answers.{monitor_opening_reply, verdict_reply}

-- ---- the windows that end at a tick
abbrev pub margin_as : declared.Margin → Margin
margin_as m = record { value = m.value; window = m.window }

-- The smaller of a margin and another, the first where they are equal.
abbrev pub tighter_of : declared.Margin → declared.Margin → declared.Margin
tighter_of m o = cond (lt_z o.value m.value) o m

-- The margin of a sum x under a ceiling u and over a least l, by the pair's mark.
abbrev pub margin_with : Bool → ℕ → ℕ → ℕ → ℤ
margin_with true u l x = pos x -ℤ pos l
margin_with false u l x = margin_between u l x

-- The verdict on a window of w ticks where its sum x is outside: 'too many' is looked at first.
abbrev pub outside_with : Bool → ℕ → ℕ → ℕ → ℕ → Option Verdict
outside_with b u l x w = cond (not b && nat_lt u x) (Some (TooMany w)) (cond (nat_lt x l) (Some (TooFew w)) None)

-- No window has a larger sum.
abbrev pub window_limit : ℕ
window_limit = max_horizon * count_limit

-- A count fits 32 bits together with any number of the newest of the ticks before it.
abbrev pub Fits : List ℕ → ℕ → Type 0
Fits xs x = (d : ℕ) → d ≤ length xs → last xs d + x ≤ count_limit

-- ---- what is found of a tick
pub record FoundOf (w : MonitorView) (x : ℕ) (r : Finding) : Type 0 where
  pub answer : verdict_reply r.verdict ≡ judging w x
  pub margin : margin_as r.margin ≡ carried w x

-- Where no window is judged.
abbrev pub unjudged_as : Result Verdict BadState → Finding
unjudged_as v = record { verdict = v; margin = record { value = pos 0; window = 0 } }

-- By the figures of a view alone.
pub record MeasuredOf (v : View) (x : ℕ) (r : Finding) : Type 0 where
  pub answer : verdict_reply r.verdict ≡ result (judged (verdict_on v x))
  pub margin : Tightest v.pair (then v.held x) (margin_as r.margin)

-- The same behind question 12 and the failed mark.
pub record GivenOf (v : View) (b : Bool) (x : ℕ) (r : Finding) : Type 0 where
  pub refused : ¬ Legal v → r ≡ unjudged_as (Err (record {}))
  pub failed : Legal v → b ≡ true → r ≡ unjudged_as (Ok AlreadyFailed)
  pub measured : Legal v → b ≡ false → MeasuredOf v x r

-- By the closed figures of p, after those as given: a tick that passes by these is lost where it does not keep the closed ones.
pub record ClosedOf (given : Finding) (p : Pair) (ys : List ℕ) (r : Finding) : Type 0 where
  pub refused : ¬ (question4 (limited p)).asked → r ≡ unjudged_as (Err (record {}))
  pub stays : (question4 (limited p)).asked → (given.verdict ≡ Ok Passed → Keeps p ys) → r ≡ given
  pub lost
      : (question4 (limited p)).asked → given.verdict ≡ Ok Passed → ¬ Keeps p ys
      → r ≡ record { verdict = Ok Lost; margin = given.margin }

-- ---- an opening
-- What is left in the lists that were lent for the closure of p: this, or on a refusal what was there.
abbrev pub ClosedIn : Result (Unit {0}) MonitorRefusal → AnyPair → Pair → Type 0
ClosedIn (Ok u) p left = closed_in p (first (horizon (curves_of p)) left) ≡ closed_in p (curves_of (closure_of p room))
ClosedIn (Err e) p left = left ≡ room

-- The answer to the questions on p, with those lists.
pub record OpeningAsked (p : AnyPair) (left : Pair) (r : Result (Unit {0}) MonitorRefusal) : Type 0 where
  pub answer : monitor_opening_reply r ≡ monitor_opening p
  pub closed : ClosedIn r p left
