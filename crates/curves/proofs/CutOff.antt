-- One round with differences cut off at 0 has the figures of the exact one, or both cross. Assumes nothing.
use Rattle.laws.proofs.Base.{ℕ, ◌+◌, ◌-◌, ◌≤◌, ◌<◌, min, max, ◌≡◌, sym, ◌∙◌, ◌⊎◌, inl, inr, ⊎_map, dec_le, arith}
use lib.IntN.{ℤ, pos, ◌+ℤ◌, ◌-ℤ◌}
use Rattle.laws.proofs.Best.{fold-map}
use Rattle.laws.proofs.Table.{table_same}
use Rattle.laws.proofs.Search.{every}
use Rattle.laws.proofs.Whole.{AtMost, parts_lt, smaller_best, smaller_pos, larger_pos, minus_pos, larger_minus}
use Rattle.curves.specs.Pairs.{Curves, horizon, Pair, figure, upper_at, lower_at}
use Rattle.curves.specs.Rounds.{whole, cut_off, figures_of, round, new_figure, new_upper, new_lower, Crossed}
use Rattle.curves.proofs.Figures.{given_horizon, given_upper, given_lower, round_horizon, round_upper, round_lower, new_old}
use Rattle.curves.proofs.Tightened.{upper_falls, round_plus}

-- A new figure of one curve, exact and cut off, where every step of its fold agrees.
module _ (best' : ℤ → ℤ → ℤ) (best : ℕ → ℕ → ℕ) (H : ℕ) (own other : ℕ → ℕ) (own' other' : ℕ → ℤ)
    (is : (d : ℕ) → 1 ≤ d → d ≤ H → own' d ≡ pos (own d))
    (is' : (d : ℕ) → 1 ≤ d → d ≤ H → other' d ≡ pos (other d))
    (best-pos : (y x : ℕ) → best' (pos y) (pos x) ≡ pos (best y x)) (d : ℕ) (u : 1 ≤ d) (v : d ≤ H) where
  new_agrees : (H' : ℕ) → H' ≡ H
      → ((t y : ℕ) → 1 ≤ t → d + t ≤ H → best' (pos y) (pos (own (d + t)) -ℤ pos (other t)) ≡ pos (best y (own (d + t) - other t)))
      → new_figure whole best' H' own' other' d ≡ pos (new_figure cut_off best H own other d)
  unfolding new_figure
  new_agrees H' e minus-ok =
      rw (e, is d u v)
      (rw (fold-map pos best best' (own d) (λ a. own a + own (d - a)) (λ a. own' a +ℤ own' (d - a)) (d - 1)
      (λ a p q y. rw (is a p (omega arith), is (d - a) (omega arith) (omega arith)) (best-pos y _)))
      (fold-map pos best best' _ (λ t. own (d + t) - other t) (λ t. own' (d + t) -ℤ other' t) (H - d)
      (λ t p q y. rw (is (d + t) (omega arith) (omega arith), is' t p (omega arith)) (minus-ok t y p (omega arith)))))

module _ (c : Pair) where
  -- The pair's figures as whole numbers.
  abbrev exact : Curves ℤ
  exact = figures_of whole c

  -- The new leasts always agree: a negative difference is below the old least.
  lower_agrees : (d : ℕ) → 1 ≤ d → d ≤ horizon c → new_lower whole exact d ≡ pos (lower_at (round cut_off c) d)
  lower_agrees d u v =
      rw (round_lower cut_off c d u v)
      (new_agrees whole.larger max (horizon c) (lower_at c) (upper_at c) _ _ (given_lower whole c) (given_upper whole c) larger_pos d u v
      (horizon exact) (given_horizon whole c)
      (λ t y p q. larger_minus y (lower_at c (d + t)) (upper_at c t)))

  -- The new ceiling agrees where no difference is negative.
  upper_agrees : (d : ℕ) → 1 ≤ d → d ≤ horizon c → ((t : ℕ) → 1 ≤ t → t ≤ horizon c - d → lower_at c t ≤ upper_at c (d + t))
      → new_upper whole exact d ≡ pos (upper_at (round cut_off c) d)
  upper_agrees d u v n =
      rw (round_upper cut_off c d u v)
      (new_agrees whole.smaller min (horizon c) (upper_at c) (lower_at c) _ _ (given_upper whole c) (given_lower whole c) smaller_pos d u v
      (horizon exact) (given_horizon whole c)
      (λ t y p q. rw (minus_pos (upper_at c (d + t)) (lower_at c t) (n t p (omega arith))) (smaller_pos y _)))

  -- Where one is negative, both rounds cross at the longer window: its new least is at least the sum of the two parts' leasts.
  abbrev pub BothCross : Type 0
  BothCross = Crossed whole (round whole (figures_of whole c)) × Crossed cut_off (round cut_off c)

  negative_crosses : (d t : ℕ) → 1 ≤ d → 1 ≤ t → d + t ≤ horizon c → upper_at c (d + t) < lower_at c t → BothCross
  negative_crosses d t u p q n =
      let w : 1 ≤ d + t = omega arith in
      let q' : d + t ≤ horizon exact = rw (given_horizon whole c) q in
      let uppers = figure (pos 0) exact.upper in
      let lowers = figure (pos 0) exact.lower in
      let low = new_old whole AtMost whole.smaller smaller_best (horizon exact) uppers lowers (d + t) in (
        record {
          window = d + t;
          positive = w;
          within = rw (round_horizon whole exact) q';
          above =
              rw (round_upper whole exact (d + t) w q', round_lower whole exact (d + t) w q', lower_agrees (d + t) w q)
              (parts_lt (new_upper whole exact (d + t)) _ (omega (arith, rw (given_upper whole c (d + t) w q) at low, round_plus c d t q)));
        },
        record {
          window = d + t;
          positive = w;
          within = rw (round_horizon cut_off c) q;
          above = omega (arith, round_plus c d t q, upper_falls c (d + t) q);
        },
      )

  -- No difference is negative.
  abbrev NoneNegative : Type 0
  NoneNegative = (d : ℕ) → 1 ≤ d → d ≤ horizon c → (t : ℕ) → 1 ≤ t → t ≤ horizon c - d → lower_at c t ≤ upper_at c (d + t)

  all_agree : NoneNegative → round whole exact ≡ figures_of whole (round cut_off c)
  unfolding round figures_of
  all_agree n =
      let h : horizon exact ≡ horizon (round cut_off c) = given_horizon whole c ∙ sym (round_horizon cut_off c) in
      let inner : (d : ℕ) → d ≤ horizon exact → d ≤ horizon c = λ d v. rw (given_horizon whole c) at v in
      λ i.
      record {
        upper = table_same _ _ (horizon exact) _ h (λ d u v. upper_agrees d u (inner d v) (n d u (inner d v))) i;
        lower = table_same _ _ (horizon exact) _ h (λ d u v. lower_agrees d u (inner d v)) i;
      }

  pub round_agrees : (round whole (figures_of whole c) ≡ figures_of whole (round cut_off c)) ⊎ BothCross
  round_agrees =
      ⊎_map all_agree (λ x. x)
      (every _ BothCross (horizon c) (λ d u v. every _ BothCross (horizon c - d) (λ t p q.
      elim (dec_le (lower_at c t) (upper_at c (d + t))) [
        | yes h ↦ inl h
        | no h ↦ inr (negative_crosses d t u p (omega arith) (omega arith))
      ])))
