-- Every figure after any number of rounds is a combination of the figures before them: some ceilings less some leasts. Assumes nothing.
use Rattle.laws.proofs.Base.{ℕ, zero, suc, ◌+◌, ◌-◌, ◌≤◌, min, max, ◌≡◌, refl, List, [], ◌∷◌, ◌++◌, dec_le, arith}
use Rattle.laws.specs.Tests.{Each}
use Rattle.laws.proofs.Tests.{each_append}
use Rattle.curves.specs.Pairs.{horizon, figure, Pair, upper_at, lower_at}
use Rattle.curves.specs.Rounds.{cut_off, round}
use Rattle.curves.proofs.Figures.{round_upper, round_lower, new-holds}

-- What f says of the entries of a list, added up.
unfoldable pub total : (ℕ → ℕ) → List ℕ → ℕ
total f [] = 0
total f (x ∷ xs) = f x + total f xs

total_append : (f : ℕ → ℕ) (xs ys : List ℕ) → total f (xs ++ ys) ≡ total f xs + total f ys
unfolding total
total_append f [] ys = omega arith
total_append f (x ∷ xs) ys = omega (arith, total_append f xs ys)

-- Windows of at most H ticks, some up and some down, that lead from x to z together, wherever they pass. The ceilings of those that go up,
-- less the leasts of those that go down, come to at most u less l.
pub record Combination (H : ℕ) (c : Pair) (x z u l : ℕ) : Type 0 where
  pub ups : List ℕ
  pub downs : List ℕ
  pub ups_fit : Each (λ a. a ≤ H) ups
  pub downs_fit : Each (λ b. b ≤ H) downs
  pub lead : x + total (λ a. a) ups ≡ z + total (λ b. b) downs
  pub cost : total (upper_at c) ups + l ≤ u + total (lower_at c) downs

module _ (H : ℕ) (c : Pair) where
  none : Combination H c 0 0 0 0
  unfolding total
  none = record { ups = []; downs = []; ups_fit = tt; downs_fit = tt; lead = refl; cost = omega arith }

  -- The windows of two combinations lead as far as both do, from anywhere, and come to no more than both.
  pub together : {x z u l x' z' u' l' X Z U L : ℕ} → Combination H c x z u l → Combination H c x' z' u' l'
      → X + (z + z') ≡ x + x' + Z → u + u' + L ≤ U + (l + l') → Combination H c X Z U L
  together s t e h =
      record {
        ups = s.ups ++ t.ups;
        downs = s.downs ++ t.downs;
        ups_fit = each_append _ s.ups t.ups s.ups_fit t.ups_fit;
        downs_fit = each_append _ s.downs t.downs s.downs_fit t.downs_fit;
        lead = omega (arith, s.lead, t.lead, total_append (λ a. a) s.ups t.ups, total_append (λ b. b) s.downs t.downs);
        cost =
            omega (
              arith,
              s.cost,
              t.cost,
              total_append (upper_at c) s.ups t.ups,
              total_append (lower_at c) s.downs t.downs,
            );
      }

  dearer : {x z u l U L : ℕ} → Combination H c x z u l → u + L ≤ U + l → Combination H c x z U L
  dearer s h = together s none (omega arith) (omega arith)

  -- Every figure of e is a combination of figures of c: a ceiling of one that leads up by its window, a least of one that leads down.
  abbrev pub Combined : Pair → Type 0
  Combined e = (d : ℕ) → d ≤ H → Combination H c 0 d (upper_at e d) 0 × Combination H c d 0 0 (lower_at e d)

  -- Those of c itself, of one window each.
  pub single : Combined c
  unfolding total
  single d v = (
    record { ups = d ∷ []; downs = []; ups_fit = (v, tt); downs_fit = tt; lead = omega arith; cost = omega arith },
    record { ups = []; downs = d ∷ []; ups_fit = tt; downs_fit = (v, tt); lead = omega arith; cost = omega arith },
  )

  -- Those of a round: each is one of its candidates.
  pub round_combined : (e : Pair) → horizon e ≡ H → Combined e → Combined (round cut_off e)
  unfolding figure
  round_combined e h m zero v = m 0 v
  round_combined e h m (suc d) v =
      let w : suc d ≤ horizon e = rw h v in (
        rw (round_upper cut_off e (suc d) (omega arith) w)
            (new-holds cut_off min (horizon e) (upper_at e) (lower_at e) (suc d) (λ x. Combination H c 0 (suc d) x 0)
            (λ x y p q. elim (dec_le x y) [ yes l ↦ dearer p (omega arith) | no l ↦ dearer q (omega arith) ])
            (m (suc d) v).0
            (λ a p q. together (m a (omega arith)).0 (m (suc d - a) (omega arith)).0 (omega arith) (omega arith))
            (λ t p q. together (m (suc d + t) (rw h at q)).0 (m t (omega arith)).1 (omega arith) (omega arith))),
        rw (round_lower cut_off e (suc d) (omega arith) w)
            (new-holds cut_off max (horizon e) (lower_at e) (upper_at e) (suc d) (λ x. Combination H c (suc d) 0 0 x)
            (λ x y p q. elim (dec_le x y) [ yes l ↦ dearer q (omega arith) | no l ↦ dearer p (omega arith) ])
            (m (suc d) v).1
            (λ a p q. together (m a (omega arith)).1 (m (suc d - a) (omega arith)).1 (omega arith) (omega arith))
            (λ t p q.
            elim (dec_le (upper_at e t) (lower_at e (suc d + t))) [
              | yes l ↦ together (m (suc d + t) (rw h at q)).1 (m t (omega arith)).0 (omega arith) (omega arith)
              | no l ↦ dearer (m (suc d) v).1 (omega arith)
            ])),
      )
