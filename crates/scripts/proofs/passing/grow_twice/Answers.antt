use Rattle.std.proofs.Common.{ℕ, ◌+◌, ◌-◌, ◌≤◌, ◌<◌, subst, Bool, List, length, get_or, arith}
use Rattle.scripts.specs.Steps.{sum_limit, LaterKept, Placed}
use Rattle.scripts.proofs.Twice.{Doubling, doubling_none, once_small, twice_small, doubling_more, doubling_all}
use Rattle.scripts.proofs.passing.grow_twice.Goals as goal

-- What a turn reads is small: the sum of the next place, and both figures. In every turn but the last, so is the sum behind that.
module _ {sums ceilings leasts grown : List ℕ} {x y i : ℕ} {within : Bool} (P : Placed sums ceilings leasts) (K : LaterKept sums)
    (g : Doubling sums ceilings leasts x y grown within i) where
  last-small : i < length ceilings → (get_or leasts i 0 ≤ sum_limit) × (get_or grown (i + 1) 0 ≤ sum_limit) × (get_or ceilings i 0 ≤ sum_limit)
  last-small l = (
    P.leasts_kept i (omega (arith, P.leasts_same)),
    once_small _ _ _ _ _ g K (omega (arith, P.sums_more)),
    P.ceilings_kept i l,
  )

  second-small : i + 1 < length ceilings → get_or grown (i + 2) 0 ≤ sum_limit
  second-small l = twice_small _ _ _ _ _ g K (omega (arith, P.sums_more))

pub loop-i-init : goal.loop-i-init
loop-i-init c = doubling_none _ _ _ _ _

pub overflow_add-sum-in-loop-i : goal.overflow_add-sum-in-loop-i
overflow_add-sum-in-loop-i c =
    let s = second-small c.requires.placed c.requires.in_bounds.1 c.loop-i.invariant (omega arith) in
    record { fits = omega (arith, s) }

pub inside-requires : goal.inside-requires
inside-requires c =
    let f = last-small c.requires.placed c.requires.in_bounds.1 c.loop-i.invariant (omega arith) in
    let s = second-small c.requires.placed c.requires.in_bounds.1 c.loop-i.invariant (omega arith) in
    (f.0, omega (arith, f.1, s), f.2)

pub inside-requires-in-loop-i : goal.inside-requires-in-loop-i
inside-requires-in-loop-i c =
    let f = last-small c.requires.placed c.requires.in_bounds.1 c.loop-i.invariant (omega arith) in
    let s = second-small c.requires.placed c.requires.in_bounds.1 c.loop-i.invariant (omega arith) in
    (f.0, omega (arith, f.1, s), f.2)

pub loop-i-preserved : goal.loop-i-preserved
loop-i-preserved c =
    doubling_more _ _ _ _ _ c.loop-i.invariant c.inside.result c.inside-in-loop-i.result (omega arith) c.inside.ensures
    c.inside-in-loop-i.ensures

-- ---- the last place
module _ {sums ceilings leasts grown : List ℕ} {x y i : ℕ} {within : Bool} (g : Doubling sums ceilings leasts x y grown within i)
    (some : 1 ≤ length ceilings) (below : i ≤ length ceilings - 1) (end : length ceilings - 1 ≤ i) where
  gone : Doubling sums ceilings leasts x y grown within (length ceilings - 1)
  gone = subst (Doubling sums ceilings leasts x y grown within) (omega arith) g

pub overflow_add-middle-3 : goal.overflow_add-middle-3
overflow_add-middle-3 c =
    let g = gone c.loop-i.invariant (omega arith) (omega arith) (omega arith) in
    let f = last-small c.requires.placed c.requires.in_bounds.1 g (omega arith) in
    record { fits = omega (arith, f.1) }

pub overflow_add-sum-3 : goal.overflow_add-sum-3
overflow_add-sum-3 c =
    let g = gone c.loop-i.invariant (omega arith) (omega arith) (omega arith) in
    let f = last-small c.requires.placed c.requires.in_bounds.1 g (omega arith) in
    record { fits = omega (arith, f.1) }

pub inside-requires-2 : goal.inside-requires-2
inside-requires-2 c =
    let g = gone c.loop-i.invariant (omega arith) (omega arith) (omega arith) in
    let f = last-small c.requires.placed c.requires.in_bounds.1 g (omega arith) in
    (f.0, omega (arith, f.1), f.2)

pub inside-requires-3 : goal.inside-requires-3
inside-requires-3 c =
    let g = gone c.loop-i.invariant (omega arith) (omega arith) (omega arith) in
    let f = last-small c.requires.placed c.requires.in_bounds.1 g (omega arith) in
    (f.0, omega (arith, f.1), f.2)

pub returns : goal.returns
returns c =
    let g = gone c.loop-i.invariant (omega arith) (omega arith) (omega arith) in
    doubling_all _ _ _ _ _ g c.requires.placed.sums_more (omega arith) c.inside-2.result c.inside-3.result c.inside-2.ensures
    c.inside-3.ensures
