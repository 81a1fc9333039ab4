-- Laws over plain variables for the loops of `passing`: figures made stricter, sums that grow by a count, and counts that keep the figures.
-- Assumes nothing.
use Rattle.laws.proofs.Base.{ℕ, suc, ◌+◌, ◌-◌, ◌≤◌, ◌<◌, ◌≡◌, sym, ap, ◌∙◌, subst, Bool, true, ◌&&◌, List}
use Rattle.laws.proofs.Base.{add-one, arith, length, get_or, set}
use Rattle.laws.specs.Tests.{Tells}
use Rattle.laws.proofs.Tests.{all_turn, tells_same}
use Rattle.laws.proofs.Table.{Filled, unfilled, stored, later}
use Rattle.curves.specs.Pairs.{figure}
use Rattle.curves.proofs.Figures.{figure_entry}
use Rattle.scripts.specs.Steps.{sum_limit, TurnedBy, LaterKept, InsideAt, Grown}
use Rattle.scripts.proofs.Adding.{filled_entry}

-- ---- stricter figures
-- What stands at each place is at each number of ticks, by the figures of that window.
pub turned_by : (R : ℕ → ℕ → ℕ → Type 0) (given closed strict : List ℕ) → length given ≤ length strict
    → ((k : ℕ) → k < length given → R (get_or given (length given - 1 - k) 0) (get_or closed (length given - 1 - k) 0) (get_or strict k 0))
    → TurnedBy R given closed strict
turned_by R given closed strict l h = record { room = l; entry = at }
  where
    at : (d : ℕ) → 1 ≤ d → d ≤ length given → R (figure 0 given d) (figure 0 closed d) (get_or strict (length given - d) 0)
    at d u v =
        let e : length given - 1 - (length given - d) ≡ d - 1 = omega arith in
        rw (← figure_entry 0 given d u, ← figure_entry 0 closed d u) (rw e at (h (length given - d) (omega arith)))

-- What is made of two figures is known by another word.
pub turned_as : (R S : ℕ → ℕ → ℕ → Type 0) (given closed strict : List ℕ) → ((x y z : ℕ) → R x y z → S x y z)
    → TurnedBy R given closed strict → TurnedBy S given closed strict
turned_as R S given closed strict f t = record { room = t.room; entry = λ d u v. f _ _ _ (t.entry d u v) }

-- ---- sums that grow
module _ (sums ceilings leasts : List ℕ) (x : ℕ) where
  -- What the sum before that at d becomes, and that it is within its figures.
  abbrev pub grown_to : ℕ → ℕ
  grown_to d = get_or sums d 0 + x

  abbrev GrownInside : ℕ → Type 0
  GrownInside i = (get_or leasts i 0 ≤ grown_to (suc i)) × (grown_to (suc i) ≤ get_or ceilings i 0)

  -- The first i sums have grown, and it is held whether they are within.
  pub record Growing (grown : List ℕ) (within : Bool) (i : ℕ) : Type 0 where
    pub stores : Filled grown_to sums grown i
    pub told : Tells within ((k : ℕ) → k < i → GrownInside k)

  pub growing_none : Growing sums true 0
  growing_none = record { stores = unfilled grown_to sums; told = λ k l. absurd (omega arith) }

  module _ {grown : List ℕ} {within : Bool} {i : ℕ} (g : Growing grown within i) where
    -- The sum of a turn is made of one that has not grown yet.
    pub growing_sum : get_or grown (i + 1) 0 + x ≡ grown_to (i + 1)
    growing_sum = ap (λ s. s + x) (later g.stores (i + 1) (omega arith))

    pub growing_small : LaterKept sums → x ≤ sum_limit → i + 1 < length sums → get_or grown (i + 1) 0 + x ≤ sum_limit + sum_limit
    growing_small k h l = omega (arith, growing_sum, k i l)

    pub growing_more : (t : Bool) → i < length sums
        → Tells t ((get_or leasts i 0 ≤ get_or grown (i + 1) 0 + x) × (get_or grown (i + 1) 0 + x ≤ get_or ceilings i 0))
        → Growing (set grown i (get_or grown (i + 1) 0 + x)) (within && t) (i + 1)
    growing_more t l h =
        record {
          stores = stored g.stores _ l growing_sum;
          told =
              all_turn GrownInside i within t g.told
              (subst (λ s. Tells t ((get_or leasts i 0 ≤ s) × (s ≤ get_or ceilings i 0))) (growing_sum ∙ ap grown_to (add-one i)) h);
        }

    pub growing_all : i ≡ length ceilings → Grown sums ceilings leasts x grown within
    growing_all e =
        record {
          whole = g.stores.whole;
          next = λ k l. filled_entry g.stores k (omega arith) ∙ ap grown_to (sym (add-one k));
          none = later g.stores (length ceilings) (omega arith);
          told = tells_same within ((λ h k l. move k (omega arith) (h k (omega arith))), (λ h k l. back k l (h k (omega arith)))) g.told;
        }
      where
        move : (k : ℕ) → k < i → GrownInside k → InsideAt grown ceilings leasts k
        move k l h = let s = filled_entry g.stores k l in (omega (arith, h.0), omega (arith, h.1))

        back : (k : ℕ) → k < i → InsideAt grown ceilings leasts k → GrownInside k
        back k l h = let s = filled_entry g.stores k l in (omega (arith, h.0), omega (arith, h.1))
