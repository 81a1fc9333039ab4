-- What a history of legal sizes has: slices that are what its view has, and room for a tick.
-- Assumes nothing.
use Rattle.laws.proofs.Base.{ℕ, suc, ◌-◌, ◌≤◌, ◌<◌, ◌≡◌, sym, ap, ◌∙◌, Bool, List, ◌++◌, append_assoc, arith}
use Rattle.laws.proofs.Base.{length, take, drop, length-drop, length-take-le, take_all}
use lib.Seq.{take-take}
use Rattle.curves.specs.Pairs.{horizon}
use Rattle.curves.specs.Unlimited.{with_mark, curves_of}
use Rattle.curves.specs.Ticks.{then, newest, Judged}
use Rattle.curves.proofs.Highest.{horizon_with, lower_with}
use Rattle.curves.proofs.NextTick.{length-then}
use Rattle.bounds.specs.Bounds.{max_horizon}
use Rattle.lists.specs.Pushing.{behind, held_with, Pushed}
use Rattle.history.specs.declared.History.{History}
use Rattle.history.specs.States.{View, Legal, entries, history_of, view_of, added}
use Rattle.history.specs.Steps.{Slices, view_with}
use Rattle.history.proofs.Histories.{entries-take, entries_padded, Sizes, legal_sizes, horizon_seen, lower_seen, held_seen}

-- How long the arrays are.
pub record Arrays (h : History) : Type 0 where
  pub uppers : length h.upper ≡ max_horizon
  pub lowers : length h.lower ≡ max_horizon
  pub held : length h.ticks ≡ max_horizon

module _ (h : History) (A : Arrays h) (Z : Sizes h) where
  -- The arrays have as many entries as are sliced off.
  pub upper_room : h.horizon ≤ length h.upper
  upper_room = omega (arith, A.uppers, Z.within)

  pub lower_room : h.horizon ≤ length h.lower
  lower_room = omega (arith, A.lowers, Z.within)

  pub ticks_room : h.held ≤ length h.ticks
  ticks_room = omega (arith, A.held, Z.within, Z.fewer)

  -- So have the slices.
  pub upper-length : h.horizon ≡ length (take h.horizon h.upper)
  upper-length = sym (length-take-le h.horizon h.upper upper_room)

  pub lower-length : h.horizon ≡ length (take h.horizon h.lower)
  lower-length = sym (length-take-le h.horizon h.lower lower_room)

  pub ticks_length : h.held ≡ length (take h.held h.ticks)
  ticks_length = sym (length-take-le h.held h.ticks ticks_room)

  pub slices : Slices (take h.horizon h.upper) (take h.horizon h.lower) (take h.held h.ticks)
  slices =
      record {
        lowers = omega (arith, upper-length, lower-length);
        within = omega (arith, upper-length, Z.within);
        fewer = omega (arith, upper-length, ticks_length, Z.fewer);
      }

  -- Together they are the view.
  abbrev sliced : View
  sliced = view_with (take h.horizon h.upper) (take h.horizon h.lower) h.unlimited (take h.held h.ticks)

  pub view_sliced : view_of h ≡ sliced
  view_sliced = λ i. view_with
      (entries-take h.horizon h.upper upper_room i)
      (entries-take h.horizon h.lower lower_room i)
      h.unlimited
      (entries-take h.held h.ticks ticks_room i)

  -- ---- a tick more
  pub some_window : 1 ≤ h.horizon
  some_window = omega (arith, Z.fewer)

  pub tick_for_each : h.horizon ≤ length h.ticks
  tick_for_each = omega (arith, A.held, Z.within)

  -- The places for ticks: one fewer than the horizon.
  abbrev places : List ℕ
  places = take (h.horizon - 1) h.ticks

  places_length : length places ≡ h.horizon - 1
  places_length = length-take-le (h.horizon - 1) h.ticks (omega (arith, tick_for_each))

  -- What is held after a push into them are the last ticks with the new one.
  held_newest : (x : ℕ) → held_with places h.held x ≡ newest (horizon (curves_of (view_of h).pair) - 1) (then (view_of h).held x)
  held_newest x =
      let many : length places ≡ horizon (curves_of (view_of h).pair) - 1 = omega (arith, places_length, horizon_seen h) in
      let same : take h.held places ≡ entries h.held h.ticks =
      take-take h.held (h.horizon - 1) h.ticks (omega (arith, Z.fewer))
      ∙ sym (entries-take h.held h.ticks ticks_room) in
      λ i. newest (many i) (then (same i) x)

  pub added_is : (x : ℕ) (left : List ℕ) (n : ℕ) → Pushed places h.held x left n
      → view_of (history_of h.horizon h.upper h.lower h.unlimited n (left ++ drop (h.horizon - 1) h.ticks))
      ≡ added (view_of h) x
  added_is x left n p = ap (λ ys. record { pair = (view_of h).pair; held = ys }) (front ∙ held_newest x)
    where
      kept : List ℕ
      kept = held_with places h.held x

      few : length kept ≤ length places
      few = omega (arith, length-drop (length (behind places h.held x) - length places) (behind places h.held x))

      front : entries n (left ++ drop (h.horizon - 1) h.ticks) ≡ kept
      front =
          ap (λ ys. entries n (ys ++ drop (h.horizon - 1) h.ticks))
          (p.entries ∙ ap (λ ys. ys ++ drop (length kept) places) (take_all (length places) kept few))
          ∙ ap (entries n) (append_assoc kept _ _)
          ∙ entries_padded kept _ n (sym p.number)

-- Slices that are the view of a history of legal sizes have these sizes.
pub slices_seen : (h : History) (us ls xs : List ℕ) (b : Bool) → Legal (view_of h) → view_with us ls b xs ≡ view_of h → Slices us ls xs
slices_seen h us ls xs b l e =
    let z : Sizes h = legal_sizes h l in
    let uppers : length us ≡ h.horizon = sym (horizon_with us ls b) ∙ ap (λ v. horizon (curves_of v.pair)) e ∙ horizon_seen h in
    let lowers : length ls ≡ h.horizon = ap length (sym (lower_with us ls b)) ∙ ap (λ v. length (curves_of v.pair).lower) e ∙ lower_seen h in
    let counts : length xs ≡ h.held = ap (λ v. length v.held) e ∙ held_seen h in
    record { lowers = omega arith; within = omega arith; fewer = omega arith }

-- The window of d + 1 ticks that ends at the next one is judged: there are fewer held ticks than figures.
pub judged-next
    : (us ls xs : List ℕ) (b : Bool) (x d : ℕ) → Slices us ls xs → d ≤ length xs
    → Judged (curves_of (with_mark us ls b)) (then xs x) (suc d)
judged-next us ls xs b x d S h =
    let f : length xs < length us = S.fewer in
    record { positive = omega arith; within = omega (arith, horizon_with us ls b); begun = omega (arith, length-then xs x) }
