-- One more tick: the counts that it can have are those from `lo` to before `end`, and on a closed pair, after a conforming stream,
-- there is one. Assumes nothing.
use Rattle.laws.proofs.Base.{ℕ, zero, suc, ◌+◌, ◌-◌, ◌≤◌, ◌<◌, min, max, ◌≡◌, refl, List, [], ◌∷◌, ◌++◌, ◌↔◌, dec_le, dec_lt}
use Rattle.laws.proofs.Base.{le_refl, arith, length, get_or, length-append}
use lib.Seq.{get_or_at}
use Rattle.laws.specs.Ranges.{fold}
use Rattle.laws.proofs.Best.{min_best, max_best, fold_each, fold_both}
use Rattle.curves.specs.Streams.{sum, counts_of}
use Rattle.curves.specs.Pairs.{Pair, horizon, figure, upper_at, lower_at}
use Rattle.curves.specs.Conformance.{Inside, Conforms}
use Rattle.curves.specs.Ticks.{then, last, Keeps, Extremes, Range}
use Rattle.curves.proofs.Sums.{split_at, sum_start}
use Rattle.curves.proofs.Closed.{Closed}
use Rattle.curves.proofs.Edges.{detour}

pub last_none : (xs : List ℕ) → last xs 0 ≡ 0
unfolding sum
last_none xs = refl

-- The last d = a + b ticks are a window of a ticks and the last b.
pub last_parts : (xs : List ℕ) (a b d : ℕ) → a + b ≡ d → d ≤ length xs → last xs d ≡ sum (counts_of xs) (length xs - d) a + last xs b
last_parts xs a b d e h =
    let e' : length xs - d + a ≡ length xs - b = omega arith in
    rw e' at (split_at (counts_of xs) (length xs - d) a b d e)

-- The last d + 1 ticks are the one before the last d, and these.
pub last_more : (xs : List ℕ) (d : ℕ) → d < length xs → last xs (suc d) ≡ last xs d + get_or xs (length xs - 1 - d) 0
unfolding sum
last_more xs d h =
    let i : length xs - suc d + 0 ≡ length xs - 1 - d = omega arith in
    omega (arith, rw i at (last_parts xs 1 d (suc d) (omega arith) h))

-- A window with one tick more.
sum_more : (s : ℕ → ℕ) (i d : ℕ) → sum s i (suc d) ≡ sum s i d + s (i + d)
unfolding sum
sum_more s i d = refl

module _ (xs : List ℕ) (x : ℕ) where
  pub length-then : length (then xs x) ≡ suc (length xs)
  length-then = omega (arith, length-append xs (x ∷ []))

  -- The window of d + 1 ticks that ends at the new one has its count and the d before it.
  pub last_next : (d : ℕ) → d ≤ length xs → last (then xs x) (suc d) ≡ last xs d + x
  last_next d h =
      let b : length (then xs x) - suc d ≡ length xs - d = omega (arith, length-then) in
      let s = sum_start xs (x ∷ []) (length xs - d) d (omega arith) in
      let e = get_or_at xs x [] 0 (length xs - d + d) (omega arith) in
      rw b (omega (arith, sum_more (counts_of (then xs x)) (length xs - d) d, s, e))

-- ---- conforming, tick by tick
pub conforms_keeps : (p : Pair) (xs : List ℕ) → Conforms p xs → Keeps p xs
conforms_keeps p xs c d j = c (length xs - d) d j.positive j.within (omega (arith, j.begun))

pub empty_conforms : (p : Pair) → Conforms p []
empty_conforms p i d u v w = absurd (omega arith)

pub conforms_start : (p : Pair) (xs ys : List ℕ) → Conforms p (xs ++ ys) → Conforms p xs
conforms_start p xs ys c i d u v w = rw (sum_start xs ys i d w) at (c i d u v (omega (arith, length-append xs ys)))

pub keeps_conforms : (p : Pair) (xs : List ℕ) (x : ℕ) → Conforms p xs → Keeps p (then xs x) → Conforms p (then xs x)
keeps_conforms p xs x c k i d u v w =
    elim (dec_le (i + d) (length xs)) [
      | yes h ↦ rw (sum_start xs (x ∷ []) i d h) (c i d u v h)
      | no h ↦
          let e : i ≡ length (then xs x) - d = omega (arith, length-then xs x) in
          rw e (k d (record { positive = u; within = v; begun = omega arith }))
    ]

-- ---- the counts that the next tick can have
-- Windows of 1 to `judged p xs` ticks end at the tick after xs.
abbrev judged : Pair → List ℕ → ℕ
judged p xs = min (horizon p) (suc (length xs))

-- What the window of d ticks asks of the count at least, and one above what it lets it be at most: 0 where none will do.
abbrev from : Pair → List ℕ → ℕ → ℕ
from p xs d = lower_at p d - last xs (d - 1)

abbrev before : Pair → List ℕ → ℕ → ℕ
before p xs d = suc (upper_at p d) - last xs (d - 1)

abbrev pub lo : Pair → List ℕ → ℕ
lo p xs = fold max 0 (from p xs) (judged p xs)

-- One above the largest; no count is below it where none will do.
abbrev end : Pair → List ℕ → ℕ
end p xs = fold min (suc (upper_at p 1)) (before p xs) (judged p xs)

-- A count keeps to the figures where, with the ticks before it, it keeps to those of each window.
keeps_windows : (p : Pair) (xs : List ℕ) (x : ℕ)
    → Keeps p (then xs x)
    ↔ ((d : ℕ) → 1 ≤ d → d ≤ judged p xs → (lower_at p d ≤ last xs (d - 1) + x) × (last xs (d - 1) + x ≤ upper_at p d))
keeps_windows p xs x = (
  (λ k d u v.
      omega (arith, sums d u v, k d (record { positive = u; within = omega arith; begun = omega (arith, length-then xs x) }))),
  (λ w d j.
      let v : d ≤ judged p xs = omega (arith, j.within, j.begun, length-then xs x) in
      omega (arith, sums d j.positive v, w d j.positive v)),
)
  where
    sums : (d : ℕ) → 1 ≤ d → d ≤ judged p xs → last (then xs x) d ≡ last xs (d - 1) + x
    sums d u v = let e : suc (d - 1) ≡ d = omega arith in rw e at (last_next xs x (d - 1) (omega arith))

pub keeps_range : (p : Pair) (xs : List ℕ) (x : ℕ) → 1 ≤ horizon p → Keeps p (then xs x) ↔ ((lo p xs ≤ x) × (x < end p xs))
unfolding sum
keeps_range p xs x h = (
  (λ k.
      let w = (keeps_windows p xs x).0 k in (
        fold_both (λ a b. b ≤ a) max max_best 0 (from p xs) x (judged p xs) (omega arith) (λ d u v. omega (arith, w d u v)),
        fold_both ◌≤◌ min min_best (suc (upper_at p 1)) (before p xs) (suc x) (judged p xs)
            (omega (arith, w 1 (omega arith) (omega arith))) (λ d u v. omega (arith, w d u v)),
      )),
  (λ r. (keeps_windows p xs x).1 (λ d u v.
      omega (
        arith,
        fold_each (λ a b. b ≤ a) max max_best 0 (from p xs) (judged p xs) d u v,
        fold_each ◌≤◌ min min_best (suc (upper_at p 1)) (before p xs) (judged p xs) d u v,
      ))),
)

-- ---- the smallest and the largest of some counts
module _ {Can : ℕ → Type 0} where
  pub range_once : (r s : Extremes Can) → (r.lo ≡ s.lo) × (r.hi ≡ s.hi)
  range_once r s = (
    omega (arith, r.smallest s.lo s.lo_keeps, s.smallest r.lo r.lo_keeps),
    omega (arith, r.largest s.hi s.hi_keeps, s.largest r.hi r.hi_keeps),
  )

  -- Where the counts are those from a to before b, there is a range exactly where a < b.
  module _ (a b : ℕ) (h : (x : ℕ) → Can x ↔ ((a ≤ x) × (x < b))) where
    unfoldable pub range_from : a < b → Extremes Can
    range_from l =
        record {
          lo = a;
          hi = b - 1;
          lo_keeps = (h a).1 (le_refl a, l);
          hi_keeps = (h (b - 1)).1 (omega arith, omega arith);
          smallest = λ x k. ((h x).0 k).0;
          largest = λ x k. omega (arith, ((h x).0 k).1);
        }

    pub no_range : b ≤ a → ¬ Extremes Can
    no_range l r = omega (arith, (h r.lo).0 r.lo_keeps)

    unfoldable pub extremes? : Dec (Extremes Can)
    extremes? = elim (dec_lt a b) [ yes l ↦ yes (range_from l) | no l ↦ no (no_range (omega arith)) ]

-- ---- the admissible range
module _ (p : Pair) (xs : List ℕ) where
  -- What lies between two counts that will do will do.
  pub keeps_between : (a b x : ℕ) → Keeps p (then xs a) → Keeps p (then xs b) → a ≤ x → x ≤ b → Keeps p (then xs x)
  keeps_between a b x k l u v =
      (keeps_windows p xs x).1 (λ d i j. omega (arith, (keeps_windows p xs a).0 k d i j, (keeps_windows p xs b).0 l d i j))

  pub range_whole : (r : Range p xs) (x : ℕ) → Keeps p (then xs x) ↔ ((r.lo ≤ x) × (x ≤ r.hi))
  range_whole r x = (
    (λ k. (r.smallest x k, r.largest x k)),
    (λ b. keeps_between r.lo r.hi x r.lo_keeps r.hi_keeps b.0 b.1),
  )

  pub keeps_has_range : 1 ≤ horizon p → (x : ℕ) → Keeps p (then xs x) → Range p xs
  keeps_has_range h x k = range_from (lo p xs) (end p xs) (λ y. keeps_range p xs y h) (omega (arith, (keeps_range p xs x h).0 k))

  -- With no window at all every count would do, and none is the largest.
  pub no_windows : ¬ (1 ≤ horizon p) → ¬ Range p xs
  no_windows n r = omega (arith, r.largest (suc r.hi) (λ d j. absurd (omega (arith, n, j.positive, j.within))))

  unfoldable pub range? : Dec (Range p xs)
  range? =
      elim (dec_le 1 (horizon p)) [
        | yes h ↦ extremes? (lo p xs) (end p xs) (λ x. keeps_range p xs x h)
        | no n ↦ no (no_windows n)
      ]

  -- ---- among the counts up to n
  pub within_iff : (n : ℕ) → 1 ≤ horizon p → (x : ℕ)
      → (Keeps p (then xs x) × (x ≤ n)) ↔ ((lo p xs ≤ x) × (x < min (end p xs) (suc n)))
  within_iff n h x = (
    (λ k. let b = (keeps_range p xs x h).0 k.0 in (b.0, omega (arith, b.1, k.1))),
    (λ b. ((keeps_range p xs x h).1 (b.0, omega arith), omega arith)),
  )

  pub within_has_range : (n : ℕ) → 1 ≤ horizon p → (x : ℕ) → Keeps p (then xs x) → x ≤ n
      → Extremes (λ x. Keeps p (then xs x) × (x ≤ n))
  within_has_range n h x k l =
      range_from (lo p xs) (min (end p xs) (suc n)) (within_iff n h) (omega (arith, (within_iff n h x).0 (k, l)))

  -- With no window at all, each of them would do.
  unfoldable pub range_within? : (n : ℕ) → Dec (Extremes (λ x. Keeps p (then xs x) × (x ≤ n)))
  range_within? n =
      elim (dec_le 1 (horizon p)) [
        | yes h ↦ extremes? (lo p xs) (min (end p xs) (suc n)) (within_iff n h)
        | no none ↦
            let all : (x : ℕ) → Keeps p (then xs x) = λ x d j. absurd (omega (arith, none, j.positive, j.within)) in
            yes (record {
              lo = 0;
              hi = n;
              lo_keeps = (all 0, omega arith);
              hi_keeps = (all n, le_refl n);
              smallest = λ x k. omega arith;
              largest = λ x k. k.1;
            })
      ]

-- ---- on a closed pair
module _ (p : Pair) (C : Closed p) (xs : List ℕ) (c : Conforms p xs) where
  -- A window of any length up to the horizon, none included.
  within : (i d : ℕ) → d ≤ horizon p → i + d ≤ length xs → (lower_at p d ≤ sum (counts_of xs) i d) × (sum (counts_of xs) i d ≤ upper_at p d)
  unfolding figure sum
  within i zero v w = omega arith
  within i (suc d) v w = let h : Inside p (suc d) (sum (counts_of xs) i (suc d)) = c i (suc d) (omega arith) v w in omega arith

  -- How far the last d = a + b ticks can stand above the last b.
  last_split : (a b d : ℕ) → a + b ≡ d → d ≤ horizon p → d ≤ length xs
      → (lower_at p a + last xs b ≤ last xs d) × (last xs d ≤ upper_at p a + last xs b)
  last_split a b d e v h = omega (arith, last_parts xs a b d e h, within (length xs - d) a (omega arith) (omega arith))

  -- By the window that one of the two lengths has more than the other, and the edge between them.
  pairwise : (d e : ℕ) → 1 ≤ d → d ≤ judged p xs → 1 ≤ e → e ≤ judged p xs → lower_at p d + last xs (e - 1) ≤ upper_at p e + last xs (d - 1)
  pairwise d e u v u' v' =
      let m : ℕ = min d e - 1 in
      omega (
        arith,
        detour p p C e d d e (omega arith) (omega arith) (omega arith),
        last_split (e - d) m (e - 1) (omega arith) (omega arith) (omega arith),
        last_split (d - e) m (d - 1) (omega arith) (omega arith) (omega arith),
      )

  room : (d : ℕ) → 1 ≤ d → d ≤ judged p xs → last xs (d - 1) ≤ upper_at p d
  room d u v =
      let k : d - 1 + 1 ≡ d = omega arith in
      omega (
        arith,
        last_split (d - 1) 0 (d - 1) (omega arith) (omega arith) (omega arith),
        last_none xs,
        rw k at (C.minus (d - 1) 1 (omega arith)),
      )

  pub lo_end : 1 ≤ horizon p → suc (lo p xs) ≤ end p xs
  lo_end h =
      fold_both ◌≤◌ min min_best (suc (upper_at p 1)) (before p xs) (suc (lo p xs)) (judged p xs)
      (omega (arith, under 1 (omega arith) (omega arith)))
      (λ e u v. omega (arith, under e u v, room e u v))
    where
      -- Each ceiling leaves the largest of the leasts its room.
      under : (e : ℕ) → 1 ≤ e → e ≤ judged p xs → lo p xs ≤ upper_at p e - last xs (e - 1)
      under e u v =
          fold_both (λ a b. b ≤ a) max max_best 0 (from p xs) (upper_at p e - last xs (e - 1)) (judged p xs) (omega arith)
          (λ d u' v'. omega (arith, pairwise d e u' v' u v, room e u v, room d u' v'))

  pub goes_on : 1 ≤ horizon p → Range p xs
  goes_on h = range_from (lo p xs) (end p xs) (λ x. keeps_range p xs x h) (lo_end h)
