-- Whatever a combination leads by way of, it can be walked between the places 0 to H; so no combination is better than the figures of the
-- last of the pairs. Assumes nothing.
use Rattle.laws.proofs.Base.{ℕ, ◌+◌, ◌-◌, ◌≤◌, ◌≡◌, List, [], ◌∷◌, dec_le, le_refl, zero-add, sub-zero, arith}
use Rattle.laws.specs.Tests.{Each}
use Rattle.curves.specs.Pairs.{horizon, figure, Pair, upper_at, lower_at}
use Rattle.curves.proofs.Tightened.{Tightened}
use Rattle.curves.proofs.Closed.{Closed}
use Rattle.curves.proofs.Edges.{rise, fall, no_rise, no_fall, detour}
use Rattle.curves.proofs.Walks.{Levels, short_cut}
use Rattle.curves.proofs.Loops.{ShortWalk, stay, ahead}
use Rattle.curves.proofs.Combinations.{total, Combination, together, Combined}

module _ (H k : ℕ) (o : Pair) (c : ℕ → Pair) (levels : Levels H k c) (same : horizon o ≡ H) (tight : Tightened o (c 0)) where
  -- Up by a and down by b at once, in front of a walk.
  move : {u l U L : ℕ} (a b x y z : ℕ) → a ≤ H → b ≤ H → x ≤ H → x + a ≡ y + b → upper_at o a + u + L ≤ U + (lower_at o b + l)
      → ShortWalk H (c 0) y z u l → ShortWalk H (c 0) x z U L
  move a b x y z p q r e h =
      ahead H k c levels x y r (omega (arith, detour o (c 0) tight a b x y (rw same p) (rw same q) e))

  -- Windows that go up and windows that go down can be walked: up where there is room above, else down where there is room below, else
  -- both at once.
  walked : (ups downs : List ℕ) → Each (λ a. a ≤ H) ups → Each (λ b. b ≤ H) downs → (x z : ℕ) → x ≤ H → z ≤ H
      → x + total (λ a. a) ups ≡ z + total (λ b. b) downs → ShortWalk H (c 0) x z (total (upper_at o) ups) (total (lower_at o) downs)
  unfolding total figure
  walked [] [] f g x z p q e = stay H (c 0) x z p (omega arith)
  walked [] (b ∷ downs) f g x z p q e =
      move 0 b x (x - b) z (omega arith) g.0 p (omega arith) (omega arith)
      (walked [] downs f g.1 (x - b) z (omega arith) q (omega arith))
  walked (a ∷ ups) [] f g x z p q e =
      move a 0 x (x + a) z f.0 (omega arith) p (omega arith) (omega arith)
      (walked ups [] f.1 g (x + a) z (omega arith) q (omega arith))
  walked (a ∷ ups) (b ∷ downs) f g x z p q e =
      elim (dec_le (x + a) H) [
        | yes h ↦
            move a 0 x (x + a) z f.0 (omega arith) p (omega arith) (omega arith)
            (walked ups (b ∷ downs) f.1 g (x + a) z h q (omega arith))
        | no h ↦
            elim (dec_le b x) [
              | yes i ↦
                  move 0 b x (x - b) z (omega arith) g.0 p (omega arith) (omega arith)
                  (walked (a ∷ ups) downs f g.1 (x - b) z (omega arith) q (omega arith))
              | no i ↦
                  move a b x (x + a - b) z f.0 g.0 p (omega arith) (omega arith)
                  (walked ups downs f.1 g.1 (x + a - b) z (omega (arith, f.0)) q (omega arith))
            ]
      ]

  -- So one edge of the last pair costs no more than any combination of figures of o.
  edge : (x z u l : ℕ) → x ≤ H → z ≤ H → Combination H o x z u l → rise (c k) x z + l ≤ u + fall (c k) x z
  edge x z u l p q s =
      let (n, few, w) = walked s.ups s.downs s.ups_fit s.downs_fit x z p q s.lead in
      omega (
        arith,
        s.cost,
        w.cost,
        rw (zero-add n, w.from, w.to) at (short_cut H k c levels w.at w.inside k 0 n (le_refl k) (omega (arith, levels.short))),
      )

  most : (d u l : ℕ) → d ≤ H → Combination H o 0 d u l → upper_at (c k) d + l ≤ u
  most d u l h s = omega (arith, rw (sub-zero d) at (edge 0 d u l (omega arith) h s), no_fall (c k) 0 d (omega arith))

  fewest : (d u l : ℕ) → d ≤ H → Combination H o d 0 u l → l ≤ u + lower_at (c k) d
  fewest d u l h s = omega (arith, rw (sub-zero d) at (edge d 0 u l h (omega arith) s), no_rise (c k) d 0 (omega arith))

  -- Two figures of the last pair are a combination together, and so imply nothing that it does not say.
  pub closed_last : Combined H o (c k) → Closed (c k)
  closed_last m =
      let e : horizon (c k) ≡ H = levels.horizons k in
      record {
        plus = λ a b w.
            let (up, down) = m a (omega arith) in
            let (up', down') = m b (omega arith) in
            omega (
              arith,
              most (a + b) (upper_at (c k) a + upper_at (c k) b) 0 (omega arith) (together H o up up' (omega arith) (omega arith)),
              fewest (a + b) 0 (lower_at (c k) a + lower_at (c k) b) (omega arith) (together H o down down' (omega arith) (omega arith)),
            );
        minus = λ a b w.
            let (up, down) = m (a + b) (omega arith) in
            let (up', down') = m b (omega arith) in
            omega (
              arith,
              most a (upper_at (c k) (a + b)) (lower_at (c k) b) (omega arith) (together H o up down' (omega arith) (omega arith)),
              fewest a (upper_at (c k) b) (lower_at (c k) (a + b)) (omega arith) (together H o down up' (omega arith) (omega arith)),
            );
      }
