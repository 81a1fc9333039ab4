-- Laws over plain lists for a round of one curve in 32 bits: how large its entries can be, and that they are the new figures, lifted.
-- Assumes nothing.
use Rattle.laws.proofs.Base.{ℕ, suc, ◌+◌, ◌-◌, ◌≤◌, min, max, ◌≡◌, sym, ap, ◌∙◌, subst, List, dec_lt, arith, length}
use lib.ListN.{get_or-eq_default}
use Rattle.laws.specs.Ranges.{fold, table}
use Rattle.laws.proofs.Best.{fold-map, fold_first, min_best}
use Rattle.laws.proofs.Table.{length-table, get_or-table, table_same}
use Rattle.curves.specs.Pairs.{figure}
use Rattle.curves.specs.Rounds.{cut_off, new_figure}
use Rattle.curves.proofs.Figures.{figure_table}
use Rattle.closure.specs.Steps.{lift, no_figure, NoneAbove, in_row, IsRow, RowOf}
use Rattle.closure.specs.Steps.{SumsWithin, DifferencesWithin}
use Rattle.closure.specs.Steps.{begun, convolved, tightened}

-- No entry of a table is above a number that none of its figures is.
table_small : (n : ℕ) (f : ℕ → ℕ) (H : ℕ) → ((d : ℕ) → 1 ≤ d → d ≤ H → f d ≤ n) → NoneAbove n (table f H)
table_small n f H h i =
    elim (dec_lt i H) [
      | yes l ↦ rw (get_or-table f H i 0 l) (h (suc i) (omega arith) l)
      | no l ↦ omega (arith, get_or-eq_default (table f H) 0 {n = i} (omega (arith, length-table f H)))
    ]

module _ (own other : List ℕ) (H : ℕ) where
  -- The best of d ticks after the sums, and at the end.
  abbrev pub sums : ℕ → ℕ
  sums d = fold min (in_row own d + lift) (λ a. in_row own a + in_row own (d - a)) (d - 1)

  abbrev pub tightest : ℕ → ℕ
  tightest d = fold min (sums d) (λ t. in_row own (d + t) + in_row other t) (H - d)

  begun-length : length (begun own H) ≡ H
  begun-length = length-table _ H

  convolved_is : convolved own (begun own H) ≡ table sums H
  convolved_is =
      table_same _ sums _ H begun-length (λ d p q.
      ap (λ x. fold min x (λ a. in_row own a + in_row own (d - a)) (d - 1)) (figure_table 0 _ H d p (omega (arith, begun-length))))

  convolved-length : length (convolved own (begun own H)) ≡ H
  convolved-length = ap length convolved_is ∙ length-table sums H

  pub tightened_is : tightened own other H ≡ table tightest H
  tightened_is =
      table_same _ tightest _ H convolved-length (λ d p q.
      let at : figure 0 (convolved own (begun own H)) d ≡ sums d =
      ap (λ l. figure 0 l d) convolved_is ∙ figure_table 0 sums H d p (omega (arith, convolved-length)) in
      rw (at, convolved-length))

  -- Neither the sums nor the differences make anything larger.
  tightest_below : (d : ℕ) → tightest d ≤ in_row own d + lift
  tightest_below d =
      omega (
        arith,
        fold_first ◌≤◌ min min_best (in_row own d + lift) (λ a. in_row own a + in_row own (d - a)) (d - 1),
        fold_first ◌≤◌ min min_best (sums d) (λ t. in_row own (d + t) + in_row other t) (H - d),
      )

  pub tightened_small : (n : ℕ) → ((d : ℕ) → 1 ≤ d → d ≤ H → in_row own d + lift ≤ n) → NoneAbove n (tightened own other H)
  tightened_small n b =
      rw tightened_is (table_small n tightest H (λ d p q. omega (arith, tightest_below d, b d p q)))

  -- So both passes can be run.
  module _ (r : IsRow H own) (within : SumsWithin H own) where
    own_small : (d : ℕ) → 1 ≤ d → d ≤ H → in_row own d + lift ≤ no_figure
    own_small d p q = omega (arith, within d d p q p q)

    sums_small : (d : ℕ) → 1 ≤ d → d ≤ H → sums d ≤ no_figure
    sums_small d p q =
        omega (
          arith,
          fold_first ◌≤◌ min min_best (in_row own d + lift) (λ a. in_row own a + in_row own (d - a)) (d - 1),
          own_small d p q,
        )

    pub after_own : (x : List ℕ) → x ≡ begun own H → IsRow (length x) own × SumsWithin (length x) own × NoneAbove no_figure x
    after_own x e =
        let long : H ≡ length x = sym (ap length e ∙ begun-length) in (
          subst (λ (n : ℕ). IsRow n own) long r,
          subst (λ (n : ℕ). SumsWithin n own) long within,
          subst (λ (l : List ℕ). NoneAbove no_figure l) (sym e) (table_small no_figure _ H own_small),
        )

    pub after_convolve : (x y : List ℕ) → DifferencesWithin H own other → x ≡ begun own H → y ≡ convolved own x
        → DifferencesWithin (length y) own other × NoneAbove no_figure y
    after_convolve x y within' e f =
        let is : y ≡ table sums H = f ∙ ap (convolved own) e ∙ convolved_is in (
          subst (λ (n : ℕ). DifferencesWithin n own other) (sym (ap length is ∙ length-table sums H)) within',
          subst (λ (l : List ℕ). NoneAbove no_figure l) (sym is) (table_small no_figure sums H sums_small),
        )

-- ---- what it is, of the ceilings u and the leasts l
module _ (u l : ℕ → ℕ) (H : ℕ) (us ls : List ℕ)
    (upper : RowOf (λ d. u d + lift) H us) (lower : RowOf (λ d. lift - l d) H ls)
    (small : (d : ℕ) → 1 ≤ d → d ≤ H → l d ≤ lift) where
  pub upper_is : (d : ℕ) → 1 ≤ d → d ≤ H → tightest us ls H d - (lift + lift) ≡ new_figure cut_off min H u l d
  unfolding new_figure
  upper_is d p q =
      let after-sums : fold min (u d) (λ a. u a + u (d - a)) (d - 1) ≡ sums us ls H d - (lift + lift) =
      let own : in_row us d + lift - (lift + lift) ≡ u d = omega (arith, upper.1 d p q) in
      rw own at (fold-map (λ x. x - (lift + lift)) min min (in_row us d + lift)
      (λ a. in_row us a + in_row us (d - a)) (λ a. u a + u (d - a)) (d - 1)
      (λ a r s y. omega (arith, upper.1 a r (omega arith), upper.1 (d - a) (omega arith) (omega arith)))) in
      sym (ap (λ x. fold min x (λ t. u (d + t) - l t) (H - d)) after-sums
      ∙ fold-map (λ x. x - (lift + lift)) min min (sums us ls H d) (λ t. in_row us (d + t) + in_row ls t) (λ t. u (d + t) - l t) (H - d)
      (λ t r s y.
      omega (arith, upper.1 (d + t) (omega arith) (omega arith), lower.1 t r (omega arith), small t r (omega arith))))

  pub lower_is : (d : ℕ) → 1 ≤ d → d ≤ H → (lift + lift) - tightest ls us H d ≡ new_figure cut_off max H l u d
  unfolding new_figure
  lower_is d p q =
      let after-sums : fold max (l d) (λ a. l a + l (d - a)) (d - 1) ≡ (lift + lift) - sums ls us H d =
      let own : (lift + lift) - (in_row ls d + lift) ≡ l d = omega (arith, lower.1 d p q, small d p q) in
      rw own at (fold-map (λ x. (lift + lift) - x) min max (in_row ls d + lift)
      (λ a. in_row ls a + in_row ls (d - a)) (λ a. l a + l (d - a)) (d - 1)
      (λ a r s y.
      omega (
        arith,
        lower.1 a r (omega arith),
        small a r (omega arith),
        lower.1 (d - a) (omega arith) (omega arith),
        small (d - a) (omega arith) (omega arith),
      ))) in
      sym (ap (λ x. fold max x (λ t. l (d + t) - u t) (H - d)) after-sums
      ∙ fold-map (λ x. (lift + lift) - x) min max (sums ls us H d) (λ t. in_row ls (d + t) + in_row us t) (λ t. l (d + t) - u t) (H - d)
      (λ t r s y.
      omega (
        arith,
        lower.1 (d + t) (omega arith) (omega arith),
        small (d + t) (omega arith) (omega arith),
        upper.1 t r (omega arith),
      )))
