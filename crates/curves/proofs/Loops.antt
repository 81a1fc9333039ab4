-- A walk of more than H edges comes to some place twice, and is no dearer without the loop. Assumes nothing.
use Rattle.laws.proofs.Base.{ℕ, zero, suc, ◌+◌, ◌-◌, ◌^◌, ◌≤◌, ◌≡◌, refl, sym, ap, ◌∙◌, cond, dec_le, dec_lt, zero-add, arith, lt-ltb, le-ltb}
use Rattle.laws.proofs.Base.{ltb}
use mathlib.Core.Path.{ap₂}
use native.Mathlib.Nat.{one-le-pow}
use Rattle.laws.proofs.Pigeonhole.{Repeats, pigeonhole}
use Rattle.curves.specs.Streams.{sum}
use Rattle.curves.specs.Pairs.{Pair}
use Rattle.curves.proofs.Sums.{split, alike}
use Rattle.curves.proofs.Edges.{rise, fall}
use Rattle.curves.proofs.Walks.{along, Levels, loop}

-- ---- a place in front of a walk
first : ℕ → (ℕ → ℕ) → ℕ → ℕ
first x at zero = x
first x at (suc t) = at t

along_first : (w : ℕ → ℕ → ℕ) (x : ℕ) (at : ℕ → ℕ) (n : ℕ)
    → sum (along w (first x at)) 0 (suc n) ≡ w x (at 0) + sum (along w at) 0 n
unfolding sum first
along_first w x at zero = omega arith
along_first w x at (suc n) =
    omega (arith, along_first w x at n, ap (along w (first x at)) (zero-add (suc n)), ap (along w at) (zero-add n))

-- ---- a walk without d of its edges, those that follow the first i and lead back
module _ (at : ℕ → ℕ) (i d : ℕ) (back : at (i + d) ≡ at i) where
  without : ℕ → ℕ
  without t = at (cond (ltb t i) t (t + d))

  without_after : (t : ℕ) → i ≤ t → without t ≡ at (t + d)
  unfolding without
  without_after t l = rw (le-ltb t i l)

  without_before : (t : ℕ) → t ≤ i → without t ≡ at t
  unfolding without
  without_before t l =
      elim (dec_lt t i) [
        | yes m ↦ rw (lt-ltb t i m)
        | no m ↦ let e : t ≡ i = omega arith in without_after t (omega arith) ∙ ap (λ s. at (s + d)) e ∙ back ∙ ap at (sym e)
      ]

  along_without : (w : ℕ → ℕ → ℕ) (m : ℕ)
      → sum (along w at) 0 (i + (d + m)) ≡ sum (along w without) 0 (i + m) + sum (along w at) i d
  along_without w m =
      omega (
        arith,
        rw (zero-add i) at (split (along w at) 0 i (d + m)),
        split (along w at) i d m,
        rw (zero-add i) at (split (along w without) 0 i m),
        alike (along w without) (along w at) 0 0 i
            (λ k l. ap₂ w (without_before (0 + k) (omega arith)) (without_before (suc (0 + k)) (omega arith))),
        alike (along w without) (along w at) i (i + d) m
            (λ k l. ap₂ w (after (i + k) _ (omega arith) (omega arith)) (after (suc (i + k)) _ (omega arith) (omega arith))),
      )
    where
      after : (t s : ℕ) → i ≤ t → t + d ≡ s → without t ≡ at s
      after t s l e = without_after t l ∙ ap at e

-- A walk of n edges between the places 0 to H, from x to z, that costs at most u less l.
pub record Walk (H : ℕ) (c : Pair) (n x z u l : ℕ) : Type 0 where
  pub at : ℕ → ℕ
  pub inside : (t : ℕ) → at t ≤ H
  pub from : at 0 ≡ x
  pub to : at n ≡ z
  pub cost : sum (along (rise c) at) 0 n + l ≤ u + sum (along (fall c) at) 0 n

-- One edge more, in front.
longer : (H : ℕ) (c : Pair) {n z u l U L : ℕ} (x y : ℕ) → x ≤ H → rise c x y + u + L ≤ U + (fall c x y + l)
    → Walk H c n y z u l → Walk H c (suc n) x z U L
unfolding first
longer H c {n} x y h e w =
    record {
      at = first x w.at;
      inside = inside;
      from = refl;
      to = w.to;
      cost =
          omega (
            arith,
            w.cost,
            along_first (rise c) x w.at n,
            along_first (fall c) x w.at n,
            ap (rise c x) w.from,
            ap (fall c x) w.from,
          );
    }
  where
    inside : (t : ℕ) → first x w.at t ≤ H
    inside zero = h
    inside (suc t) = w.inside t

-- A walk of at most H edges.
abbrev pub ShortWalk : ℕ → Pair → ℕ → ℕ → ℕ → ℕ → Type 0
ShortWalk H c x z u l = (n : ℕ) × (n ≤ H) × Walk H c n x z u l

-- Of no edge.
pub stay : (H : ℕ) (c : Pair) (x z : ℕ) → x ≤ H → x ≡ z → ShortWalk H c x z 0 0
unfolding sum
stay H c x z h e = (0, omega arith, record { at = λ t. x; inside = λ t. h; from = refl; to = e; cost = omega arith })

module _ (H k : ℕ) (c : ℕ → Pair) (levels : Levels H k c) where
  -- i edges lead to a loop, d are its own, and m follow it.
  unlooped : {n x z u l : ℕ} (i d m : ℕ) → i + (d + m) ≡ n → d ≤ 2 ^ suc k → (w : Walk H (c 0) n x z u l) → w.at (i + d) ≡ w.at i
      → Walk H (c 0) (i + m) x z u l
  unfolding without
  unlooped {n} i d m e b w back =
      let end : i + m + d ≡ n = omega arith in
      record {
        at = without w.at i d back;
        inside = λ t. w.inside _;
        from = without_before w.at i d back 0 (omega arith) ∙ w.from;
        to = without_after w.at i d back (i + m) (omega arith) ∙ ap w.at end ∙ w.to;
        cost =
            omega (
              arith,
              w.cost,
              loop H k c levels w.at w.inside i d b back,
              rw e at (along_without w.at i d back (rise (c 0)) m),
              rw e at (along_without w.at i d back (fall (c 0)) m),
            );
      }

  -- One edge in front of a short walk. H + 1 edges come to H + 2 places, two of which are one.
  pub ahead : {z u l U L : ℕ} (x y : ℕ) → x ≤ H → rise (c 0) x y + u + L ≤ U + (fall (c 0) x y + l)
      → ShortWalk H (c 0) y z u l → ShortWalk H (c 0) x z U L
  ahead {z} {U} {L} x y h e (n, few, rest) =
      let w : Walk H (c 0) (suc n) x z U L = longer H (c 0) x y h e rest in
      elim (dec_le (suc n) H) [
        | yes m ↦ (suc n, m, w)
        | no m ↦
            let r : Repeats w.at (suc n) = pigeonhole n w.at (λ i b. omega (arith, w.inside i)) in
            let around : r.first + (r.second - r.first) ≡ r.second = omega (arith, r.before) in (
              r.first + (suc n - r.second),
              omega (arith, r.before, r.within),
              unlooped r.first (r.second - r.first) (suc n - r.second)
                  (omega (arith, r.before, r.within))
                  (omega (arith, r.within, levels.short, one-le-pow k 2 (omega arith)))
                  w
                  (ap w.at around ∙ sym r.same),
            )
      ]
