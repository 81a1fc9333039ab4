-- Laws over plain lists for the sums of a round, four of each window at a time. Assumes nothing.
use Rattle.laws.proofs.Base.{ℕ, ◌+◌, ◌-◌, ◌≤◌, ◌<◌, min, ◌≡◌, ap, ◌∙◌, List, [], ◌∷◌, ◌⊎◌, inl, inr, dec_le, dec_lt, arith, length, get_or}
use Rattle.laws.proofs.Base.{take, drop}
use borrow.Rule.Slice.PartMut.{put_mid, same_len_mid}
use Rattle.laws.proofs.Best.{min_best, fold_first, fold_each}
use Rattle.laws.proofs.Table.{length-table}
use Rattle.curves.specs.Pairs.{figure}
use Rattle.curves.proofs.Figures.{figure_entry}
use Rattle.closure.specs.Steps.{no_figure, NoneAbove, SumsWithin, Addable, in_row, IsRow}
use Rattle.closure.specs.Steps.{smallest_of_five, lowered_to_sums, convolved}
use Rattle.closure.proofs.Rows.{row_small}
use Rattle.closure.proofs.Passes.{part_at, part_length, part_small, behind_kept, behind_new, one_of_four, four_small, Least, least-is, least_at}
use Rattle.closure.proofs.Passes.{aim, Lowered, lowered_none, lowered-turn, lowered-all}

module _ (own found : List ℕ) where
  abbrev pub sum_of : ℕ → ℕ → ℕ
  sum_of d a = in_row own a + in_row own (d - a)

  -- The parts shorter than a, of every window that has them twice.
  abbrev pub Summed : ℕ → ℕ → ℕ → Type 0
  Summed a d k = (1 ≤ k) × (k < a) × (k + k ≤ d)

  abbrev pub Convolving : ℕ → List ℕ → Type 0
  Convolving a best = Lowered found sum_of (λ d. d - 1) (Summed a) best

  pub convolving_begins : Convolving 1 found
  convolving_begins = lowered_none found sum_of (λ d. d - 1) (Summed 1) (λ d k s. omega (arith, s.0, s.1))

module _ (own found : List ℕ) (row : IsRow (length found) own) (within : SumsWithin (length found) own) (all : NoneAbove no_figure found) where
  -- The figure that is aimed at.
  abbrev aimed : ℕ → ℕ
  aimed d = aim found (sum_of own found) (λ d. d - 1) d

  aim_small : (d : ℕ) → 1 ≤ d → d ≤ length found → aimed d ≤ no_figure
  aim_small d p q =
      omega (
        arith,
        fold_first ◌≤◌ min min_best (figure 0 found d) (sum_of own found d) (d - 1),
        figure_entry 0 found d p,
        all (d - 1),
      )

  -- Two places of a row that are d and 6 together have a sum that is not below the aim for d: it is one of its sums, or a place has no
  -- window.
  sum_above : (d u v : ℕ) → 1 ≤ d → d ≤ length found → u + v ≡ d + 6 → u < length own → v < length own
      → aimed d ≤ get_or own u 0 + get_or own v 0
  sum_above d u v p q e l m =
      elim (dec_lt u 4) [
        | yes h ↦ omega (arith, row.front u h, aim_small d p q)
        | no h ↦
            elim (dec_lt v 4) [
              | yes k ↦ omega (arith, row.front v k, aim_small d p q)
              | no k ↦
                  let i : u ≡ u - 3 + 3 = omega arith in
                  let j : v ≡ d - (u - 3) + 3 = omega arith in
                  omega (
                    arith,
                    fold_each ◌≤◌ min min_best (figure 0 found d) (sum_of own found d) (d - 1) (u - 3) (omega arith) (omega arith),
                    ap (λ x. get_or own x 0) i,
                    ap (λ x. get_or own x 0) j,
                  )
            ]
      ]

  module _ (a : ℕ) (p : 1 ≤ a) (q : a + a ≤ length found) (best : List ℕ) (t : Convolving own found a best) where
    abbrev s : ℕ
    s = a + a - 2

    abbrev rest : List ℕ
    rest = take (length best - s) (drop s best)

    abbrev four : List ℕ
    four = get_or own (a + 6) 0 ∷ get_or own (a + 5) 0 ∷ get_or own (a + 4) 0 ∷ get_or own (a + 3) 0 ∷ []

    abbrev shifted : List ℕ
    shifted = take (length own - (a - 1)) (drop (a - 1) own)

    -- The pass can be made.
    pub convolving_addable : Addable shifted four
    convolving_addable =
        let small : NoneAbove no_figure own = row_small row (λ d u v. omega (arith, within d d u v u v)) in (
          part_small (a - 1) (length own - (a - 1)) own small,
          four_small no_figure _ _ _ _ (small (a + 6)) (small (a + 5)) (small (a + 4)) (small (a + 3)),
        )

    module _ (ys : List ℕ) (e : ys ≡ lowered_to_sums shifted four rest) where
      ys_length : length ys ≡ length best - s
      ys_length = ap length e ∙ length-table _ (length rest) ∙ part_length s best (omega (arith, t.whole))

      abbrev left : List ℕ
      left = put_mid s (length best - s) best ys

      left_at : (d : ℕ) → s < d → d ≤ length found
          → figure 0 left d ≡ smallest_of_five shifted four (d - 1 - s) (get_or rest (d - 1 - s) 0)
      left_at d h l =
          let inside : d - 1 - s < length rest = omega (arith, part_length s best (omega (arith, t.whole)), t.whole) in
          behind_new s best ys d (omega arith) (length best - s) (omega (arith, t.whole)) h (omega (arith, ys_length, t.whole))
          ∙ least_at shifted four rest ys (d - 1 - s) e inside

      -- The places d − a and a + 6 and the three pairs of places between them are what d is looked at for.
      lowest : (d : ℕ) → s < d → d ≤ length found
          → Least (figure 0 left d) (figure 0 best d)
          (get_or own (d - a) 0 + get_or own (a + 6) 0) (get_or own (d - a + 1) 0 + get_or own (a + 5) 0)
          (get_or own (d - a + 2) 0 + get_or own (a + 4) 0) (get_or own (d - a + 3) 0 + get_or own (a + 3) 0)
      lowest d h l =
          least-is shifted four (d - 1 - s) _ _ _ _ _ _ _ (left_at d h l) best_at
          (λ i. own_at (d - 1 - s) (d - a) (omega arith) (omega arith) i + get_or own (a + 6) 0)
          (λ i. own_at (d - 1 - s + 1) (d - a + 1) (omega arith) (omega arith) i + get_or own (a + 5) 0)
          (λ i. own_at (d - 1 - s + 2) (d - a + 2) (omega arith) (omega arith) i + get_or own (a + 4) 0)
          (λ i. own_at (d - 1 - s + 3) (d - a + 3) (omega arith) (omega arith) i + get_or own (a + 3) 0)
        where
          own_at : (j k : ℕ) → a - 1 + j ≡ k → k ≤ d + 2 → get_or shifted j 0 ≡ get_or own k 0
          own_at j k i b = part_at (a - 1) own j (omega (arith, row.long)) ∙ ap (λ x. get_or own x 0) i

          best_at : get_or rest (d - 1 - s) 0 ≡ figure 0 best d
          best_at =
              let i : s + (d - 1 - s) ≡ d - 1 = omega arith in
              part_at s best (d - 1 - s) (omega (arith, t.whole)) ∙ ap (λ x. get_or best x 0) i ∙ figure_entry 0 best d (omega arith)

      turn : (d : ℕ) → 1 ≤ d → d ≤ length found → aimed d ≤ figure 0 best d
          → (aimed d ≤ figure 0 left d) × (figure 0 left d ≤ figure 0 best d)
      turn d u v b =
          elim (dec_lt s d) [
            | yes h ↦
                let m = lowest d h v in
                let above : (i j : ℕ) → i + j ≡ d + 6 → i ≤ d + 6 - (a + 3) → a + 3 ≤ j → aimed d ≤ get_or own i 0 + get_or own j 0 =
                λ i j six k l. sum_above d i j u v six (omega (arith, row.long)) (omega (arith, row.long)) in (
                  m.no_less _ b
                      (above (d - a) (a + 6) (omega arith) (omega arith) (omega arith))
                      (above (d - a + 1) (a + 5) (omega arith) (omega arith) (omega arith))
                      (above (d - a + 2) (a + 4) (omega arith) (omega arith) (omega arith))
                      (above (d - a + 3) (a + 3) (omega arith) (omega arith) (omega arith)),
                  m.kept,
                )
            | no h ↦
                let same = behind_kept s best ys d u (length best - s) (omega (arith, t.whole)) (omega arith) in
                (omega (arith, same), omega (arith, same))
          ]

      seen : (d k : ℕ) → 1 ≤ d → d ≤ length found → Summed own found (a + 4) d k
          → Summed own found a d k ⊎ (figure 0 left d ≤ sum_of own found d k)
      seen d k u v h =
          elim (dec_lt k a) [
            | yes l ↦ inl (h.0, l, h.2)
            | no l ↦
                let m = lowest d (omega arith) v in
                inr (one_of_four (λ x. x + x ≤ d → figure 0 left d ≤ sum_of own found d x) a k (omega arith) h.1
                (is_sum a (d - a + 3) (a + 3) ((λ y. omega arith), omega arith) m.fourth)
                (is_sum (a + 1) (d - a + 2) (a + 4) ((λ y. omega arith), omega arith) m.third)
                (is_sum (a + 2) (d - a + 1) (a + 5) ((λ y. omega arith), omega arith) m.second)
                (is_sum (a + 3) (d - a) (a + 6) ((λ y. omega arith), omega arith) m.first)
                h.2)
          ]
        where
          -- One of the four is the sum for x.
          is_sum : (x i j : ℕ) → (x ≤ d → d - x + 3 ≡ i) × (x + 3 ≡ j) → figure 0 left d ≤ get_or own i 0 + get_or own j 0
              → x + x ≤ d → figure 0 left d ≤ sum_of own found d x
          is_sum x i j e b l = omega (arith, ap (λ y. get_or own y 0) (e.0 (omega arith)), ap (λ y. get_or own y 0) e.1)

      pub convolving_goes_on : Convolving own found (a + 4) left
      convolving_goes_on =
          lowered-turn found (sum_of own found) (λ d. d - 1) t
          (same_len_mid s (length best - s) best ys (ap length e ∙ length-table _ (length rest))) turn seen

  -- The parts up to half the horizon are enough.
  pub convolving_ends : (a : ℕ) (best : List ℕ) → length found < a + a → Convolving own found a best → best ≡ convolved own found
  convolving_ends a best l t =
      lowered-all found (sum_of own found) (λ d. d - 1) t (λ d k p q u v.
      elim (dec_le (k + k) d) [
        | yes h ↦ t.looked d k p q (u, omega arith, h)
        | no h ↦
            let i : d - (d - k) ≡ k = omega arith in
            omega (arith, t.looked d (d - k) p q (omega arith, omega arith, omega arith), ap (in_row own) i)
      ])
