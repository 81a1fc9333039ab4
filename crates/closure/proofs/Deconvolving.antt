-- Laws over plain lists for the differences of a round, four of each window at a time. Assumes nothing.
use Rattle.laws.proofs.Base.{ℕ, ◌+◌, ◌-◌, ◌≤◌, ◌<◌, min, ◌≡◌, ap, ◌∙◌, List, [], ◌∷◌, ◌++◌, ◌⊎◌, inl, inr, dec_le, dec_lt, arith, length, get_or, take}
use Rattle.laws.proofs.Base.{drop, length-append, length-drop}
use lib.ListN.{length-take}
use lib.Seq.{get_or-take}
use Rattle.laws.proofs.Best.{min_best, fold_first, fold_each}
use Rattle.laws.proofs.Table.{length-table}
use Rattle.curves.specs.Pairs.{figure}
use Rattle.curves.proofs.Figures.{figure_entry}
use Rattle.closure.specs.Steps.{no_figure, NoneAbove, DifferencesWithin, Addable, in_row, IsRow}
use Rattle.closure.specs.Steps.{smallest_of_five, lowered_to_sums, deconvolved}
use Rattle.closure.proofs.Rows.{row_small}
use Rattle.closure.proofs.Passes.{part_at, part_small, before_kept, before_new, one_of_four, four_small, Least, least-is, least_at}
use Rattle.closure.proofs.Passes.{aim, Lowered, lowered_none, lowered-turn, lowered-all}

module _ (own other found : List ℕ) where
  abbrev H : ℕ
  H = length found

  abbrev pub difference_of : ℕ → ℕ → ℕ
  difference_of d t = in_row own (d + t) + in_row other t

  -- Windows longer by less than t.
  abbrev pub Subtracted : ℕ → ℕ → ℕ → Type 0
  Subtracted t d k = (1 ≤ k) × (k < t) × (d + k ≤ H)

  abbrev pub Deconvolving : ℕ → List ℕ → Type 0
  Deconvolving t best = Lowered found difference_of (λ d. H - d) (Subtracted t) best

  pub deconvolving_begins : Deconvolving 1 found
  deconvolving_begins = lowered_none found difference_of (λ d. H - d) (Subtracted 1) (λ d k s. omega (arith, s.0, s.1))

module _ (own other found : List ℕ) (row : IsRow (length found) own) (row' : IsRow (length found) other)
    (within : DifferencesWithin (length found) own other) (all : NoneAbove no_figure found) where
  abbrev difference : ℕ → ℕ → ℕ
  difference = difference_of own other found

  -- The figure that is aimed at.
  abbrev aimed : ℕ → ℕ
  aimed d = aim found (difference_of own other found) (λ d. length found - d) d

  -- What a longer window leaves is not below the aim: it is one of its differences, or there is no such window.
  difference_above : (d k : ℕ) → 1 ≤ d → d ≤ length found → 1 ≤ k → d + k + 3 < length own → aimed d ≤ difference_of own other found d k
  difference_above d k p q u l =
      elim (dec_le (d + k) (length found)) [
        | yes h ↦ fold_each ◌≤◌ min min_best (figure 0 found d) (difference_of own other found d) (length found - d) k u (omega arith)
        | no h ↦
            omega (
              arith,
              row.back (d + k + 3) (omega arith) l,
              fold_first ◌≤◌ min min_best (figure 0 found d) (difference_of own other found d) (length found - d),
              figure_entry 0 found d p,
              all (d - 1),
            )
      ]

  module _ (t : ℕ) (p : 1 ≤ t) (q : t < length found) (best : List ℕ) (w : Deconvolving own other found t best) where
    abbrev n : ℕ
    n = length found + 1 - t

    abbrev part : List ℕ
    part = take n best

    abbrev four : List ℕ
    four = get_or other (t + 3) 0 ∷ get_or other (t + 4) 0 ∷ get_or other (t + 5) 0 ∷ get_or other (t + 6) 0 ∷ []

    abbrev shifted : List ℕ
    shifted = take (length own - (t + 4)) (drop (t + 4) own)

    -- The pass can be made.
    pub deconvolving_addable : Addable shifted four
    deconvolving_addable =
        let small : NoneAbove no_figure other = row_small row' (λ d u v. omega (arith, within d d u v u v)) in (
          part_small (t + 4) (length own - (t + 4)) own (row_small row (λ d u v. omega (arith, within d d u v u v))),
          four_small no_figure _ _ _ _ (small (t + 3)) (small (t + 4)) (small (t + 5)) (small (t + 6)),
        )

    module _ (ys : List ℕ) (e : ys ≡ lowered_to_sums shifted four part) where
      part_long : length part ≡ n
      part_long = omega (arith, length-take n best, w.whole)

      ys_long : length ys ≡ n
      ys_long = ap length e ∙ length-table _ (length part) ∙ part_long

      abbrev left : List ℕ
      left = ys ++ drop n best

      left_at : (d : ℕ) → 1 ≤ d → d ≤ n → figure 0 left d ≡ smallest_of_five shifted four (d - 1) (get_or part (d - 1) 0)
      left_at d u h = before_new n best ys d u ys_long h ∙ least_at shifted four part ys (d - 1) e (omega (arith, part_long))

      lowest : (d : ℕ) → 1 ≤ d → d ≤ n
          → Least (figure 0 left d) (figure 0 best d)
          (difference d t) (difference d (t + 1)) (difference d (t + 2)) (difference d (t + 3))
      lowest d u h =
          least-is shifted four (d - 1) _ _ _ _ _ _ _ (left_at d u h)
          (get_or-take n best (d - 1) 0 (omega arith) ∙ figure_entry 0 best d u)
          (λ i. own_at (d - 1) (d + t) (omega arith) (omega arith) i + get_or other (t + 3) 0)
          (λ i. own_at (d - 1 + 1) (d + (t + 1)) (omega arith) (omega arith) i + other_at (t + 4) 1 (omega arith) i)
          (λ i. own_at (d - 1 + 2) (d + (t + 2)) (omega arith) (omega arith) i + other_at (t + 5) 2 (omega arith) i)
          (λ i. own_at (d - 1 + 3) (d + (t + 3)) (omega arith) (omega arith) i + other_at (t + 6) 3 (omega arith) i)
        where
          own_at : (j k : ℕ) → t + 4 + j ≡ k + 3 → k ≤ d + t + 3 → get_or shifted j 0 ≡ in_row own k
          own_at j k i b = part_at (t + 4) own j (omega (arith, row.long)) ∙ ap (λ x. get_or own x 0) i

          other_at : (j k : ℕ) → j ≡ t + k + 3 → get_or other j 0 ≡ in_row other (t + k)
          other_at j k e = ap (λ x. get_or other x 0) e

      turn : (d : ℕ) → 1 ≤ d → d ≤ length found → aimed d ≤ figure 0 best d
          → (aimed d ≤ figure 0 left d) × (figure 0 left d ≤ figure 0 best d)
      turn d u v b =
          elim (dec_le d n) [
            | yes h ↦
                let m = lowest d u h in
                let above : (k : ℕ) → k ≤ 3 → aimed d ≤ difference d (t + k) =
                λ k b'. difference_above d (t + k) u v (omega arith) (omega (arith, row.long)) in
                let z : t + 0 ≡ t = omega arith in (
                  m.no_less _ b (omega (arith, above 0 (omega arith), ap (difference d) z)) (above 1 (omega arith)) (above 2 (omega arith))
                      (above 3 (omega arith)),
                  m.kept,
                )
            | no h ↦
                let same = before_kept n best ys d u ys_long (omega arith) in
                (omega (arith, same), omega (arith, same))
          ]

      seen : (d k : ℕ) → 1 ≤ d → d ≤ length found → Subtracted own other found (t + 4) d k
          → Subtracted own other found t d k ⊎ (figure 0 left d ≤ difference d k)
      seen d k u v h =
          elim (dec_lt k t) [
            | yes l ↦ inl (h.0, l, h.2)
            | no l ↦
                let m = lowest d u (omega arith) in
                inr (one_of_four (λ x. figure 0 left d ≤ difference d x) t k (omega arith) h.1
                m.first m.second m.third m.fourth)
          ]

      pub deconvolving_goes_on : Deconvolving own other found (t + 4) left
      deconvolving_goes_on =
          lowered-turn found difference (λ d. length found - d) w
          (omega (arith, length-append ys (drop n best), length-drop n best, ys_long, w.whole)) turn seen

  pub deconvolving_ends : (t : ℕ) (best : List ℕ) → length found ≤ t → Deconvolving own other found t best
      → best ≡ deconvolved own other found
  deconvolving_ends t best l w =
      lowered-all found difference (λ d. length found - d) w (λ d k p q u v. w.looked d k p q (u, omega arith, omega arith))
