-- Laws over plain lists for a round of a pair: its rows keep what the passes ask, and what is tightened in them is the round.
-- Assumes nothing.
use Rattle.laws.proofs.Base.{ℕ, ◌+◌, ◌-◌, ◌≤◌, ◌≡◌, sym, ap, ◌∙◌, subst, List, arith, length}
use Rattle.laws.specs.Ranges.{table}
use Rattle.laws.proofs.Table.{length-table, table_same}
use Rattle.curves.specs.Pairs.{figure, pair_of}
use Rattle.curves.specs.Rounds.{whole, cut_off, figures_of, new_upper, new_lower}
use Rattle.curves.proofs.Figures.{figure_table}
use Rattle.bounds.specs.Bounds.{figure_limit, Bounded}
use Rattle.closure.specs.Widths.{sum_limit, HalfWidth}
use Rattle.closure.specs.Steps.{lift, NoneAbove, in_row, IsRow, SumsWithin, DifferencesWithin, RowOf, tightened}
use Rattle.closure.proofs.Widths.{upper_sums_lem, lower_sums_lem, upper_differences_lem, lower_differences_lem}
use Rattle.closure.proofs.Tightening.{tightest, tightened_is, tightened_small, upper_is, lower_is}

module _ (us ls : List ℕ) (even : length ls ≡ length us) (half : HalfWidth (figures_of whole (pair_of us ls))) where
  pub upper_bounded : Bounded us
  upper_bounded d u v = omega (arith, upper_sums_lem (pair_of us ls) half d d u v u v)

  pub lower_bounded : Bounded ls
  lower_bounded d u v = omega (arith, lower_sums_lem (pair_of us ls) half d d u (omega arith) u (omega arith))

  module _ (ur lr : List ℕ)
      (upper : RowOf (λ d. figure 0 us d + lift) (length us) ur) (lower : RowOf (λ d. lift - figure 0 ls d) (length ls) lr) where
    -- The row of leasts is as long as that of ceilings.
    lower_row : RowOf (λ d. lift - figure 0 ls d) (length us) lr
    lower_row = subst (λ (n : ℕ). RowOf (λ d. lift - figure 0 ls d) n lr) even lower

    small : (d : ℕ) → 1 ≤ d → d ≤ length us → figure 0 ls d ≤ lift
    small d u v = omega (arith, lower_bounded d u (omega arith))

    -- What a round asks of its pair is what the passes ask of its rows.
    module _ (a b : ℕ) (u : 1 ≤ a) (v : a ≤ length us) (u' : 1 ≤ b) (v' : b ≤ length us) where
      abbrev Within : ℕ → List ℕ → List ℕ → Type 0
      Within n own other =
          (lift + lift ≤ in_row own a + in_row other b + n) × (in_row own a + in_row other b ≤ lift + lift + n)

      figures : (in_row ur a ≡ figure 0 us a + lift) × (in_row ur b ≡ figure 0 us b + lift)
          × (in_row lr a + figure 0 ls a ≡ lift) × (in_row lr b + figure 0 ls b ≡ lift)
      figures = (
        upper.1 a u v,
        upper.1 b u' v',
        omega (arith, lower_row.1 a u v, small a u v),
        omega (arith, lower_row.1 b u' v', small b u' v'),
      )

      upper_sums_within : Within sum_limit ur ur
      upper_sums_within =
          let limit = upper_sums_lem (pair_of us ls) half a b u v u' v' in
          (omega (arith, figures), omega (arith, figures, limit))

      lower_sums_within : Within sum_limit lr lr
      lower_sums_within =
          let limit = lower_sums_lem (pair_of us ls) half a b u v u' v' in
          (omega (arith, figures, limit), omega (arith, figures))

      upper_differences_within : Within figure_limit ur lr
      upper_differences_within = (
        omega (arith, figures, upper_differences_lem (pair_of us ls) half a b u v u' v'),
        omega (arith, figures, lower_differences_lem (pair_of us ls) half b a u' v' u v),
      )

      lower_differences_within : Within figure_limit lr ur
      lower_differences_within = (
        omega (arith, figures, upper_differences_lem (pair_of us ls) half b a u' v' u v),
        omega (arith, figures, lower_differences_lem (pair_of us ls) half a b u v u' v'),
      )

    -- What `tighten` asks, of both curves.
    abbrev Tightenable : ℕ → List ℕ → List ℕ → Type 0
    Tightenable n own other = (IsRow n own × SumsWithin n own) × (IsRow n other × DifferencesWithin n own other)

    pub upper_ready : (n : ℕ) → n ≡ length us → Tightenable n ur lr
    upper_ready n e =
        subst (λ (m : ℕ). Tightenable m ur lr) (sym e)
        ((upper.0, upper_sums_within), (lower_row.0, upper_differences_within))

    pub lower_ready : (n : ℕ) → n ≡ length us → Tightenable n lr ur
    lower_ready n e =
        subst (λ (m : ℕ). Tightenable m lr ur) (sym e)
        ((lower_row.0, lower_sums_within), (upper.0, lower_differences_within))

    module _ (best : List ℕ) (n : ℕ) (long : n ≡ length us) where
      -- Entries of the leasts can be taken from 2^26.
      pub turned_small : best ≡ tightened lr ur n → NoneAbove (lift + lift) best
      turned_small e =
          subst (λ (l : List ℕ). NoneAbove (lift + lift) l) (sym e)
          (tightened_small lr ur n (lift + lift) (λ d u v. omega (arith, lower_row.1 d u (omega arith))))

      best_at : (own other : List ℕ) → best ≡ tightened own other n → (d : ℕ) → 1 ≤ d → d ≤ length us
          → figure 0 best d ≡ tightest own other (length us) d
      best_at own other e d u v =
          ap (λ l. figure 0 l d) (e ∙ tightened_is own other n) ∙ figure_table 0 (tightest own other n) n d u (omega arith)
          ∙ ap (λ m. tightest own other m d) long

      best_length : (own other : List ℕ) → best ≡ tightened own other n → length best ≡ length us
      best_length own other e = ap length (e ∙ tightened_is own other n) ∙ length-table _ n ∙ long

      pub new_uppers : (left : List ℕ) → best ≡ tightened ur lr n → left ≡ table (λ d. figure 0 best d - (lift + lift)) (length best)
          → left ≡ table (new_upper cut_off (pair_of us ls)) (length us)
      new_uppers left e f =
          f ∙ table_same _ _ (length best) (length us) (best_length ur lr e) (λ d u v.
          let v' : d ≤ length us = omega (arith, best_length ur lr e) in
          ap (λ x. x - (lift + lift)) (best_at ur lr e d u v')
          ∙ upper_is (figure 0 us) (figure 0 ls) (length us) ur lr upper lower_row small d u v')

      pub new_lowers : (left : List ℕ) → best ≡ tightened lr ur n → left ≡ table (λ d. (lift + lift) - figure 0 best d) (length best)
          → left ≡ table (new_lower cut_off (pair_of us ls)) (length us)
      new_lowers left e f =
          f ∙ table_same _ _ (length best) (length us) (best_length lr ur e) (λ d u v.
          let v' : d ≤ length us = omega (arith, best_length lr ur e) in
          ap (λ x. (lift + lift) - x) (best_at lr ur e d u v')
          ∙ lower_is (figure 0 us) (figure 0 ls) (length us) ur lr upper lower_row small d u v')
