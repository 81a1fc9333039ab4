-- Laws of the table of constraints: what it holds, with none, with one more, and the pair that it gives.
-- Assumes nothing.
use Rattle.laws.proofs.Base.{ℕ, suc, ◌-◌, ◌*◌, ◌≤◌, min, max, ◌≡◌, refl, sym, ap, ◌∙◌, List, [], ◌∷◌, ◌++◌}
use Rattle.laws.proofs.Base.{◌↔◌, ℕ_discrete, arith, get_or, set, replicate}
use Rattle.std.proofs.Common.{Option, Some, None, unwrap_or, option_map, option_and_then}
use Rattle.laws.specs.Ranges.{table}
use Rattle.laws.proofs.Tests.{each_append}
use Rattle.laws.proofs.Table.{get_or-table, table_ext, table-set, table_same_entry}
use Rattle.curves.specs.Pairs.{pair_of}
use Rattle.curves.specs.Unlimited.{limited, unlimited}
use Rattle.bounds.specs.Bounds.{max_horizon}
use Rattle.csv_text.specs.Records.{Most, none, up_to, most_in, or_else, Constraint, InRange}
use Rattle.records.specs.declared.Record.{Record}
use Rattle.records.specs.Answers.{constraint_in}
use Rattle.constraints.specs.Constraints.{New, named, largest_window, smaller_most, smallest_most}
use Rattle.constraints.specs.Constraints.{least_for, ceiling_for, filled_by, filled}
use Rattle.constraints.specs.declared.table.Table.{Table}
use Rattle.constraints.specs.Steps.{given, row_of, TableHolds, smaller_given, with, least_in, ceiling_in}
use Rattle.constraints.specs.Steps.{pair_by, pair_in, Sized}
use Rattle.constraints.proofs.Named.{named_first, named_next, named_new, named_other, largest_bound, smallest_bound}

-- ---- no constraint
pub holds_none : TableHolds (record { horizon = 0; smallest = None; rows = replicate max_horizon None }) []
unfolding named
holds_none =
    record {
      ranges = tt;
      horizon = refl;
      smallest = refl;
      rows = table_same_entry (named row_of None []) None (λ d. refl) 256;
    }

-- ---- one constraint more, of a window that no other names
-- Its largest window and its smallest most.
largest_more : (cs : List Constraint) (c : Constraint) → max (largest_window cs) c.window ≡ largest_window (cs ++ (c ∷ []))
largest_more [] c = omega arith
largest_more (e ∷ cs) c = omega (arith, largest_more cs c)

smaller_last : (x : Most) → x ≡ smaller_most x none
smaller_last none = refl
smaller_last (up_to m) = refl

smaller_three : (x y z : Most) → smaller_most (smaller_most x y) z ≡ smaller_most x (smaller_most y z)
smaller_three none y z = refl
smaller_three (up_to m) none z = refl
smaller_three (up_to m) (up_to n) none = refl
smaller_three (up_to m) (up_to n) (up_to k) = let e : min (min m n) k ≡ min m (min n k) = omega arith in ap up_to e

smallest_more : (cs : List Constraint) (c : Constraint) → smaller_most (smallest_most cs) c.most ≡ smallest_most (cs ++ (c ∷ []))
smallest_more [] c = smaller_last c.most
smallest_more (e ∷ cs) c = smaller_three e.most (smallest_most cs) c.most ∙ ap (smaller_most e.most) (smallest_more cs c)

-- The smaller of two, as numbers that may be missing; and a most as such a number.
smaller_is : (x y : Option ℕ) → most_in (smaller_given x y) ≡ smaller_most (most_in x) (most_in y)
smaller_is None y = refl
smaller_is (Some m) None = refl
smaller_is (Some m) (Some n) = refl

given_is : (x : Option ℕ) → given (most_in x) ≡ x
given_is None = refl
given_is (Some m) = refl

module _ (t : Table) (cs : List Constraint) (r : Record) (h : TableHolds t cs) (i : InRange (constraint_in r)) where
  abbrev c : Constraint
  c = constraint_in r

  pub holds_more : New cs c → TableHolds (with t r) (cs ++ (c ∷ []))
  holds_more new =
      record {
        ranges = each_append InRange cs (c ∷ []) h.ranges (i, tt);
        horizon = ap (λ n. max n c.window) h.horizon ∙ largest_more cs c;
        smallest = smaller_is t.smallest r.most ∙ ap (λ m. smaller_most m c.most) h.smallest ∙ smallest_more cs c;
        rows =
            ap (λ l. set l (c.window - 1) (Some (record { least = r.least; most = r.most }))) h.rows
            ∙ table-set (named row_of None cs) (named row_of None (cs ++ (c ∷ []))) max_horizon c.window _ i.some i.window
            (ap (λ m. Some (record { least = r.least; most = m })) (sym (given_is r.most))
            ∙ sym (named_new row_of None cs c (c ∷ []) new ∙ named_first row_of None c [] c.window refl))
            (λ k n. sym (named_other row_of None cs c k (λ e. n (sym e))));
      }

-- ---- whether a window is named
-- A window that the set does not name is new, and no other is.
new_told : (cs : List Constraint) (c : Constraint) → (named row_of None cs c.window ≡ None) ↔ New cs c
new_told [] c = unfold named in (λ e. tt, λ n. refl)
new_told (e ∷ cs) c =
    elim (ℕ_discrete e.window c.window) [
      | yes k ↦
          let own = named_first row_of None e cs c.window k in
          (λ u. absurd (cc own), λ n. absurd (n.0 k))
      | no k ↦
          let next = named_next row_of None e cs c.window k in
          let more = new_told cs c in
          (λ u. (k, more.0 (sym next ∙ u)), λ n. next ∙ more.1 n.1)
    ]

-- A row of the table, by its window.
entry : (t : Table) (cs : List Constraint) → TableHolds t cs → (d : ℕ) → 1 ≤ d → d ≤ max_horizon
    → get_or t.rows (d - 1) None ≡ named row_of None cs d
entry t cs h d p q =
    let s : suc (d - 1) ≡ d = omega arith in
    ap (λ x. get_or x (d - 1) None) h.rows ∙ get_or-table (named row_of None cs) max_horizon (d - 1) None (omega arith)
    ∙ ap (named row_of None cs) s

-- What the table tells of a window in range.
pub names_told : (t : Table) (cs : List Constraint) (c : Constraint) → TableHolds t cs → InRange c
    → (get_or t.rows (c.window - 1) None ≡ None) ↔ New cs c
names_told t cs c h i = rw (entry t cs h c.window i.some i.window) (new_told cs c)

-- ---- the pair that a table gives
-- What a row gives for its window is what the constraints name.
least_named : (cs : List Constraint) (d : ℕ) → unwrap_or (option_map (λ r. r.least) (named row_of None cs d)) 0 ≡ least_for cs d
least_named [] d = unfold named in refl
least_named (c ∷ cs) d =
    elim (ℕ_discrete c.window d) [
      | yes e ↦ rw (named_first row_of None c cs d e, named_first (λ x. x.least) 0 c cs d e) refl
      | no e ↦ rw (named_next row_of None c cs d e, named_next (λ x. x.least) 0 c cs d e) (least_named cs d)
    ]

most_or : (x : Most) (other : ℕ) → unwrap_or (given x) other ≡ or_else other x
most_or none other = refl
most_or (up_to m) other = refl

most_named : (cs : List Constraint) (other d : ℕ)
    → unwrap_or (option_and_then (λ r. r.most) (named row_of None cs d)) other ≡ or_else other (named (λ c. c.most) none cs d)
most_named [] other d = unfold named in refl
most_named (c ∷ cs) other d =
    elim (ℕ_discrete c.window d) [
      | yes e ↦ rw (named_first row_of None c cs d e, named_first (λ x. x.most) none c cs d e) (most_or c.most other)
      | no e ↦ rw (named_next row_of None c cs d e, named_next (λ x. x.most) none c cs d e) (most_named cs other d)
    ]

module _ (t : Table) (cs : List Constraint) (h : TableHolds t cs) where
  pub holds_sized : Sized t
  holds_sized = (omega (arith, h.horizon, largest_bound cs h.ranges), rw h.smallest (smallest_bound cs h.ranges))

  bound : t.horizon ≤ max_horizon
  bound = holds_sized.0

  lower_is : table (least_in t.rows) t.horizon ≡ table (least_for cs) t.horizon
  lower_is = table_ext _ _ t.horizon (λ d p q. ap (λ r. unwrap_or (option_map (λ x. x.least) r) 0) (entry t cs h d p (omega (arith, bound))) ∙ least_named cs d)

  upper_is : (m : ℕ) → table (ceiling_in m t.rows) t.horizon ≡ table (ceiling_for m cs) t.horizon
  upper_is m =
      table_ext _ _ t.horizon
      (λ d p q. ap (λ r. unwrap_or (option_and_then (λ x. x.most) r) (d * m)) (entry t cs h d p (omega (arith, bound))) ∙ most_named cs (d * m) d)

  -- It is the pair that the constraints are filled to.
  pub pair_held : pair_in t ≡ filled (largest_window cs) cs
  pair_held = rw (← h.horizon, ← h.smallest) (go t.smallest)
    where
      go : (x : Option ℕ) → pair_by x t ≡ filled_by (most_in x) t.horizon cs
      go None = ap (unlimited t.horizon) lower_is
      go (Some m) = λ i. limited (pair_of (upper_is m i) (lower_is i))
