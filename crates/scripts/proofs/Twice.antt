-- Laws over plain variables for two ticks that are added at once: the sums after the first, which are stored nowhere, and after the second.
-- Assumes nothing.
use Rattle.laws.proofs.Base.{ℕ, ◌+◌, ◌≤◌, ◌<◌, ◌≡◌, sym, ap, ◌∙◌, subst, Bool, true, ◌&&◌, List, [], ◌∷◌, ◌++◌}
use Rattle.laws.proofs.Base.{add-one, dec_lt, arith, length, get_or, set, length-append, length-set, list_get_or-append}
use lib.Seq.{get_or_at, get_or-set_same, get_or-set_other}
use Rattle.laws.specs.Ranges.{table}
use Rattle.laws.specs.Tests.{Tells}
use Rattle.laws.proofs.Tests.{either_true, both_told, all_turn}
use Rattle.laws.proofs.Table.{Filled, unfilled, stored, later, length-table, get_or-table}
use Rattle.scripts.specs.Steps.{sum_limit, LaterKept, GrownTwice}
use Rattle.scripts.proofs.Adding.{filled_entry}

module _ (sums ceilings leasts : List ℕ) (x y : ℕ) where
  -- A sum is within the figures at i.
  abbrev pub WithinAt : ℕ → ℕ → Type 0
  WithinAt i s = (get_or leasts i 0 ≤ s) × (s ≤ get_or ceilings i 0)

  -- What the sum two places before that at d + 1 becomes, and that both are within that it becomes on the way.
  abbrev pub twice_to : ℕ → ℕ
  twice_to d = get_or sums (d + 1) 0 + (x + y)

  abbrev BothWithin : ℕ → Type 0
  BothWithin i = WithinAt i (get_or sums (i + 1) 0 + x) × WithinAt i (twice_to (i + 1))

  -- Before the turn at i.
  pub record Doubling (grown : List ℕ) (within : Bool) (i : ℕ) : Type 0 where
    pub stores : Filled twice_to sums grown i
    pub told : Tells within ((k : ℕ) → k < i → BothWithin k)

  pub doubling_none : Doubling sums true 0
  doubling_none = record { stores = unfilled twice_to sums; told = λ k l. absurd (omega arith) }

  module _ {grown : List ℕ} {within : Bool} {i : ℕ} (g : Doubling grown within i) where
    -- The sums of a turn are made of those that have not changed yet.
    pub once : get_or grown (i + 1) 0 ≡ get_or sums (i + 1) 0
    once = later g.stores (i + 1) (omega arith)

    pub twice : get_or grown (i + 2) 0 ≡ get_or sums (i + 1 + 1) 0
    twice = later g.stores (i + 2) (omega arith) ∙ ap (λ k. get_or sums k 0) (omega arith)

    pub once_small : LaterKept sums → i + 1 < length sums → get_or grown (i + 1) 0 ≤ sum_limit
    once_small k l = omega (arith, once, k i l)

    pub twice_small : LaterKept sums → i + 2 < length sums → get_or grown (i + 2) 0 ≤ sum_limit
    twice_small k l = omega (arith, twice, k (i + 1) (omega arith))

    pub doubling_more : (t u : Bool) → i < length sums → Tells t (WithinAt i (get_or grown (i + 1) 0 + x))
        → Tells u (WithinAt i (get_or grown (i + 2) 0 + (x + y)))
        → Doubling (set grown i (get_or grown (i + 2) 0 + (x + y))) (within && (t && u)) (i + 1)
    doubling_more t u l a b =
        let s = ap (λ k. k + (x + y)) twice in
        record {
          stores = stored g.stores _ l s;
          told =
              all_turn BothWithin i within (t && u) g.told
              (both_told _ _ t u (subst (λ k. Tells t (WithinAt i (k + x))) once a) (subst (λ k. Tells u (WithinAt i k)) s b));
        }

    -- ---- the last place: the window of the second tick alone
    module _ (many : length sums ≡ length ceilings + 1) (end : i + 1 ≡ length ceilings) (t u : Bool)
        (a : Tells t (WithinAt i (get_or grown (i + 1) 0 + x))) (b : Tells u (WithinAt i (get_or grown (i + 1) 0 + y))) where
      abbrev left : List ℕ
      left = set grown i (get_or grown (i + 1) 0 + y)

      left_length : length left ≡ length sums
      left_length = length-set grown i _ ∙ g.stores.whole

      left_before : (k : ℕ) → k < i → get_or left k 0 ≡ twice_to (k + 1)
      left_before k l =
          get_or-set_other grown i k _ 0 (omega arith) ∙ filled_entry g.stores k l ∙ ap twice_to (sym (add-one k))

      left_here : get_or left i 0 ≡ get_or sums (i + 1) 0 + y
      left_here = get_or-set_same grown i _ 0 (omega (arith, g.stores.whole)) ∙ ap (λ k. k + y) once

      left_none : get_or left (length ceilings) 0 ≡ get_or sums (length ceilings) 0
      left_none = get_or-set_other grown i (length ceilings) _ 0 (omega arith) ∙ later g.stores (length ceilings) (omega arith)

      -- The sums after the first tick.
      abbrev middle : List ℕ
      middle = table (λ d. get_or sums d 0 + x) (length ceilings) ++ (get_or sums (length ceilings) 0 ∷ [])

      middle_length : length middle ≡ length sums
      middle_length =
          length-append (table (λ d. get_or sums d 0 + x) (length ceilings)) _ ∙ omega (arith, length-table (λ d. get_or sums d 0 + x) (length ceilings))

      middle_at : (k : ℕ) → k < length ceilings → get_or middle k 0 ≡ get_or sums (k + 1) 0 + x
      middle_at k l =
          let f : ℕ → ℕ = λ d. get_or sums d 0 + x in
          list_get_or-append (table f (length ceilings)) _ 0 k (rw length-table l) ∙ get_or-table f (length ceilings) k 0 l
          ∙ ap f (sym (add-one k))

      middle_none : get_or middle (length ceilings) 0 ≡ get_or sums (length ceilings) 0
      middle_none = get_or_at (table (λ d. get_or sums d 0 + x) (length ceilings)) _ [] 0 (length ceilings) (length-table _ _)

      -- All are within where both tests and the loop's say so.
      module _ (e : (within && (t && u)) ≡ true) where
        all : ((k : ℕ) → k < i → BothWithin k) × (WithinAt i (get_or grown (i + 1) 0 + x) × WithinAt i (get_or grown (i + 1) 0 + y))
        all = either_true _ _ _ e (both_told _ _ within (t && u) g.told (both_told _ _ t u a b))

        first_within : (k : ℕ) → k < length ceilings → WithinAt k (get_or middle k 0)
        first_within k l =
            rw (middle_at k l) (elim (dec_lt k i) [
              | yes h ↦ (all.0 k h).0
              | no h ↦ let z : k ≡ i = omega arith in rw (z, ← once) all.1.0
            ])

        second_within : (k : ℕ) → k < length ceilings → WithinAt k (get_or left k 0)
        second_within k l =
            elim (dec_lt k i) [
              | yes h ↦ rw (left_before k h) (all.0 k h).1
              | no h ↦ let z : k ≡ i = omega arith in rw (z, left_here, ← once) all.1.1
            ]

        second_next : (k : ℕ) → k < length ceilings → get_or left k 0 ≡ get_or middle (k + 1) 0 + y
        second_next k l =
            elim (dec_lt k i) [
              | yes h ↦ omega (arith, left_before k h, middle_at (k + 1) (omega arith))
              | no h ↦
                  let z : k ≡ i = omega arith in
                  rw z (left_here ∙ ap (λ j. get_or sums j 0 + y) end ∙ sym (ap (λ j. get_or middle j 0 + y) end ∙ ap (λ s. s + y) middle_none))
            ]

      pub doubling_all : GrownTwice sums ceilings leasts x y left (within && (t && u))
      doubling_all = (
        left_length,
        λ e. (
          middle,
          record { whole = middle_length; next = middle_at; none = middle_none; told = first_within e },
          record {
            whole = left_length ∙ sym middle_length;
            next = second_next e;
            none = left_none ∙ sym middle_none;
            told = second_within e;
          },
        ),
      )
