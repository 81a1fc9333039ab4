-- Margins: the one of a window; the smallest over the judged windows, which there is, which is found, and which is the only one; and what
-- it leaves to the newest tick. Assumes nothing.
use Rattle.laws.proofs.Base.{ℕ, zero, suc, ◌+◌, ◌≤◌, ◌<◌, ◌≡◌, refl, sym, ap, ◌∙◌, subst, List, ◌↔◌, ◌⊎◌, inl, inr, ⊎_elim, ⊎_map, cond}
use Rattle.laws.proofs.Base.{dec_le, dec_lt, arith, length}
use lib.IntN.{ℤ, pos, ◌-ℤ◌}
use lib.Signed.{◌≤ℤ◌, ◌<ℤ◌, ≤ℤ_refl, <ℤ-≤ℤ_trans, <ℤ_irrefl, clash_ℤ}
use Rattle.laws.proofs.Whole.{up, down, le_parts, parts_le, less?, <ℤ_≤ℤ, ≤ℤ_trans, ≤ℤ_antisym, compared, minus_pos, minus_parts}
use Rattle.curves.specs.Streams.{count_limit}
use Rattle.curves.specs.Pairs.{Pair, horizon, figure, upper_at, lower_at}
use Rattle.curves.specs.Unlimited.{AnyPair, limited, unlimited, curves_of}
use Rattle.curves.specs.Conformance.{TooMany, Inside}
use Rattle.curves.specs.Ticks.{then, newest, last, Judged, Keeps}
use Rattle.curves.specs.Margins.{Counted, AtCeiling, margin_between, margin_of, Margin, Tightest}
use Rattle.curves.proofs.Highest.{length-highest, highest_at, last_within}
use Rattle.curves.proofs.NextTick.{length-then, last_next}
use Rattle.curves.proofs.Verdicts.{judged?, judged_alike, Alike, then_alike}

-- ---- of a sum x under a ceiling u and over a least l
module _ (u l x : ℕ) where
  -- It is the difference that is not the larger one.
  between : (P : ℤ → Type 0) → (u + l ≤ x + x → P (pos u -ℤ pos x)) → (x + x ≤ u + l → P (pos x -ℤ pos l)) → P (margin_between u l x)
  between P f g =
      compared (pos u -ℤ pos x) (pos x -ℤ pos l) (λ t. P (cond t (pos u -ℤ pos x) (pos x -ℤ pos l)))
      (λ h. f (omega (arith, minus_parts u x, minus_parts x l)))
      (λ h. g (omega (arith, minus_parts u x, minus_parts x l)))

  -- At least n are left exactly where n more and n fewer keep both figures.
  pub left_between : (n : ℕ) → (pos n ≤ℤ margin_between u l x) ↔ ((x + n ≤ u) × (l + n ≤ x))
  left_between n =
      between (λ z. (pos n ≤ℤ z) ↔ ((x + n ≤ u) × (l + n ≤ x)))
      (λ h. (
        (λ q. let a = le_parts (pos n) (pos u -ℤ pos x) q in (omega (arith, minus_parts u x), omega (arith, minus_parts u x))),
        (λ q. parts_le (pos n) (pos u -ℤ pos x) (omega (arith, minus_parts u x))),
      ))
      (λ h. (
        (λ q. let a = le_parts (pos n) (pos x -ℤ pos l) q in (omega (arith, minus_parts x l), omega (arith, minus_parts x l))),
        (λ q. parts_le (pos n) (pos x -ℤ pos l) (omega (arith, minus_parts x l))),
      ))

  -- It is negative exactly outside, whether the figures cross or not.
  pub negative_between : (margin_between u l x <ℤ pos 0) ↔ (¬ ((¬ (u < x)) × (¬ (x < l))))
  negative_between = (
    (λ h i. clash_ℤ h ((left_between 0).1 (omega (arith, i.0), omega (arith, i.1)))),
    (λ o.
        elim (less? (margin_between u l x) (pos 0)) [
          | inl h ↦ h
          | inr h ↦ let k = (left_between 0).0 h in absurd (o ((λ m. omega arith), (λ m. omega arith)))
        ]),
  )

  -- So it has too few, where it has not too many.
  pub below_between : margin_between u l x <ℤ pos 0 → x ≤ u → x < l
  below_between h m = elim (dec_lt x l) [ yes f ↦ f | no f ↦ absurd (negative_between.0 h ((λ q. omega arith), f)) ]

  -- Where it is n, one of the limits is n away.
  pub exact_between : (n : ℕ) → margin_between u l x ≡ pos n → (x + n ≡ u) ⊎ (l + n ≡ x)
  exact_between n =
      between (λ z. z ≡ pos n → (x + n ≡ u) ⊎ (l + n ≡ x))
      (λ k e. inl (omega (arith, minus_parts u x, ap up e, ap down e)))
      (λ k e. inr (omega (arith, minus_parts x l, ap up e, ap down e)))

  -- It is 0 exactly on a limit, where they do not cross.
  pub zero_between : l ≤ u → (margin_between u l x ≡ pos 0) ↔ ((x ≡ u) ⊎ (x ≡ l))
  zero_between h = (
    (λ e. ⊎_map (λ a. omega arith) (λ b. omega arith) (exact_between 0 e)),
    (λ e.
        between (λ z. z ≡ pos 0)
        (λ k. let e' : x ≡ u = ⊎_elim (λ e. e) (λ e. omega arith) e in minus_pos u x (omega arith) ∙ ap pos (omega arith))
        (λ k. let e' : x ≡ l = ⊎_elim (λ e. omega arith) (λ e. e) e in minus_pos x l (omega arith) ∙ ap pos (omega arith))),
  )

-- ---- of a window of any pair
-- The sum keeps the ceiling, if there is one.
abbrev pub Under : AnyPair → ℕ → ℕ → Type 0
Under (limited p) d x = x ≤ upper_at p d
Under (unlimited h ls) d x = Unit {0}

-- At least n are left exactly where n more and n fewer keep both figures.
pub left_of : (p : AnyPair) (d x n : ℕ) → (pos n ≤ℤ margin_of p d x) ↔ (Under p d (x + n) × (lower_at (curves_of p) d + n ≤ x))
left_of (limited p) d x n = left_between _ _ _ n
left_of (unlimited h ls) d x n =
    let (l, e) : (l : ℕ) × (figure 0 ls d ≡ l) = (figure 0 ls d, refl) in
    rw e (
      (λ q. let a = le_parts (pos n) (pos x -ℤ pos l) q in (tt, omega (arith, minus_parts x l))),
      (λ q. parts_le (pos n) (pos x -ℤ pos l) (omega (arith, minus_parts x l, q.1))),
    )

-- Where it is n, one of the limits is n away.
exact_of : (p : AnyPair) (d x n : ℕ) → margin_of p d x ≡ pos n → AtCeiling p d (x + n) ⊎ (lower_at (curves_of p) d + n ≡ x)
exact_of (limited p) d x n e = exact_between _ _ _ n e
exact_of (unlimited h ls) d x n e =
    let l = figure 0 ls d in inr (omega (arith, minus_parts x l, ap up e, ap down e))

-- And more than it is too many.
past_ceiling : (p : AnyPair) (d x n : ℕ) → AtCeiling p d (x + n) → (y : ℕ) → x + n < y → ¬ (¬ TooMany (curves_of p) d y)
past_ceiling (limited p) d x n e y l k = k (omega arith)
past_ceiling (unlimited h ls) d x n e y l k = e

-- No ceiling is passed, where the ticks are counts.
inside_of : (p : AnyPair) (xs : List ℕ) (d : ℕ) → Counted p xs → Judged (curves_of p) xs d → Under p d (last xs d)
    → lower_at (curves_of p) d ≤ last xs d → Inside (curves_of p) d (last xs d)
inside_of (limited p) xs d c j u l = ((λ q. omega arith), (λ q. omega arith))
inside_of (unlimited h ls) xs d c j u l = (
  (λ q. omega (arith, q, highest_at h d j.positive (rw (length-highest h) at j.within), last_within count_limit xs d c)),
  (λ q. omega arith),
)

under_less : (p : AnyPair) (d x y : ℕ) → y ≤ x → Under p d x → Under p d y
under_less (limited p) d x y h u = omega arith
under_less (unlimited h ls) d x y l u = tt

-- A negative one tells that the sum is outside.
negative_of : (p : AnyPair) (d x : ℕ) → margin_of p d x <ℤ pos 0 → ¬ Inside (curves_of p) d x
negative_of (limited p) d x n i = (negative_between _ _ _).0 n i
negative_of (unlimited h ls) d x n i = clash_ℤ n ((left_of (unlimited h ls) d x 0).1 (tt, omega (arith, i.1)))

-- ---- the smallest over the judged windows
module _ (p : AnyPair) (xs : List ℕ) where
  abbrev pub margin_at : ℕ → ℤ
  margin_at d = margin_of p d (last xs d)

  -- The margin of the window of d ticks, with that window.
  abbrev pub with_window : ℕ → Margin
  with_window d = record { value = margin_at d; window = d }

  -- The smallest over the judged windows of up to n ticks.
  pub record TightestTo (n : ℕ) (m : Margin) : Type 0 where
    pub within : m.window ≤ n
    pub window_judged : Judged (curves_of p) xs m.window
    pub has_it : margin_at m.window ≡ m.value
    pub none_smaller : (d : ℕ) → d ≤ n → Judged (curves_of p) xs d → m.value ≤ℤ margin_at d
    pub shorter_larger : (d : ℕ) → d < m.window → Judged (curves_of p) xs d → m.value <ℤ margin_at d

  pub tightest_one : Judged (curves_of p) xs 1 → TightestTo 1 (with_window 1)
  tightest_one j =
      record {
        within = omega arith;
        window_judged = j;
        has_it = refl;
        none_smaller = λ d l i. let e : d ≡ 1 = omega (arith, i.positive) in rw e (≤ℤ_refl (margin_at 1));
        shorter_larger = λ d l i. absurd (omega (arith, i.positive));
      }

  -- One window more: it has no smaller one, or it has.
  pub tightest-kept :
      (n : ℕ) (m : Margin) → TightestTo n m → (Judged (curves_of p) xs (suc n) → m.value ≤ℤ margin_at (suc n)) → TightestTo (suc n) m
  tightest-kept n m t k =
      record {
        within = omega (arith, t.within);
        window_judged = t.window_judged;
        has_it = t.has_it;
        none_smaller = λ d l j.
            elim (dec_le d n) [ yes h ↦ t.none_smaller d h j | no h ↦ let e : d ≡ suc n = omega arith in rw e (k (rw e at j)) ];
        shorter_larger = t.shorter_larger;
      }

  pub tightest_new : (n : ℕ) (m : Margin) → TightestTo n m → Judged (curves_of p) xs (suc n) → margin_at (suc n) <ℤ m.value
      → TightestTo (suc n) (with_window (suc n))
  tightest_new n m t j l =
      let below : (d : ℕ) → d ≤ n → Judged (curves_of p) xs d → margin_at (suc n) <ℤ margin_at d =
      λ d h i. <ℤ-≤ℤ_trans l (t.none_smaller d h i) in
      record {
        within = omega arith;
        window_judged = j;
        has_it = refl;
        none_smaller = λ d h i.
            elim (dec_le d n) [
              | yes k ↦ <ℤ_≤ℤ (margin_at (suc n)) (margin_at d) (below d k i)
              | no k ↦ let e : d ≡ suc n = omega arith in rw e (≤ℤ_refl (margin_at (suc n)))
            ];
        shorter_larger = λ d h i. below d (omega arith) i;
      }

  -- It is the smallest of all, where no judged window is longer.
  pub tightest_all : (n : ℕ) (m : Margin) → ((d : ℕ) → Judged (curves_of p) xs d → d ≤ n) → TightestTo n m → Tightest p xs m
  tightest_all n m all t =
      record {
        window_judged = t.window_judged;
        has_it = t.has_it;
        none_smaller = λ d j. t.none_smaller d (all d j) j;
        none_shorter = λ d l j e. <ℤ_irrefl (subst (λ z. m.value <ℤ z) e (t.shorter_larger d l j));
      }

  unfoldable pub tightest_to : Judged (curves_of p) xs 1 → (n : ℕ) → (m : Margin) × TightestTo (suc n) m
  tightest_to j zero = (with_window 1, tightest_one j)
  tightest_to j (suc n) =
      let (m, t) = tightest_to j n in
      elim (judged? (curves_of p) xs (suc (suc n))) [
        | yes i ↦
            ⊎_elim
            (λ l. (with_window (suc (suc n)), tightest_new (suc n) m t i l))
            (λ k. (m, tightest-kept (suc n) m t (λ _. k)))
            (less? (margin_at (suc (suc n))) m.value)
        | no f ↦ (m, tightest-kept (suc n) m t (λ i. absurd (f i)))
      ]

  -- ---- and no other
  no_larger : (m m' : Margin) → Tightest p xs m → Tightest p xs m' → m.value ≤ℤ m'.value
  no_larger m m' t t' = subst (λ z. m.value ≤ℤ z) t'.has_it (t.none_smaller m'.window t'.window_judged)

  no_shorter : (m m' : Margin) → Tightest p xs m → Tightest p xs m' → m.value ≡ m'.value → ¬ (m.window < m'.window)
  no_shorter m m' t t' e l = t'.none_shorter m.window l t.window_judged (t.has_it ∙ e)

  pub tightest_once : (m m' : Margin) → Tightest p xs m → Tightest p xs m' → m ≡ m'
  tightest_once m m' t t' =
      let e : m.value ≡ m'.value = ≤ℤ_antisym m.value m'.value (no_larger m m' t t') (no_larger m' m t' t) in
      let w : m.window ≡ m'.window = omega (arith, no_shorter m m' t t' e, no_shorter m' m t' t (sym e)) in
      λ i. record { value = e i; window = w i }

  pub tightest_exactly : (m : Margin) → Tightest p xs m → (m' : Margin) → (m ≡ m') ↔ Tightest p xs m'
  tightest_exactly m t m' = ((λ e. subst (Tightest p xs) e t), (λ t'. tightest_once m m' t t'))

-- ---- of the newest tick
-- With another count in it the same windows are judged, and their sums differ by what the counts do.
module _ (p : Pair) (xs : List ℕ) (x y : ℕ) where
  judged_with : (d : ℕ) → Judged p (then xs x) d → Judged p (then xs y) d
  judged_with d j =
      record { positive = j.positive; within = j.within; begun = omega (arith, j.begun, length-then xs x, length-then xs y) }

  sum_with : (d : ℕ) → Judged p (then xs x) d → last (then xs y) d + x ≡ last (then xs x) d + y
  sum_with zero j = absurd (omega (arith, j.positive))
  sum_with (suc d) j =
      let h : d ≤ length xs = omega (arith, j.begun, length-then xs x) in
      omega (arith, last_next xs x d h, last_next xs y d h)

module _ (p : AnyPair) (xs : List ℕ) (x : ℕ) where
  pub tick_judged : 1 ≤ horizon (curves_of p) → Judged (curves_of p) (then xs x) 1
  tick_judged h = record { positive = omega arith; within = h; begun = omega (arith, length-then xs x) }

  unfoldable pub tightest? : 1 ≤ horizon (curves_of p) → (m : Margin) × Tightest p (then xs x) m
  tightest? h =
      let (m, t) = tightest_to p (then xs x) (tick_judged h) (horizon (curves_of p)) in
      (m, tightest_all p (then xs x) (suc (horizon (curves_of p))) m (λ d j. omega (arith, j.within)) t)

  pub tightest_is : (h : 1 ≤ horizon (curves_of p)) (m : Margin) → Tightest p (then xs x) m → m ≡ (tightest? h).0
  tightest_is h m t = tightest_once p (then xs x) m (tightest? h).0 t (tightest? h).1

  -- ---- what it leaves
  module _ (m : Margin) (t : Tightest p (then xs x) m) where
    -- Where it is n or more, so is that of each window.
    left_each : (n : ℕ) → pos n ≤ℤ m.value → (d : ℕ) → Judged (curves_of p) (then xs x) d
        → Under p d (last (then xs x) d + n) × (lower_at (curves_of p) d + n ≤ last (then xs x) d)
    left_each n h d j = (left_of p d _ n).0 (≤ℤ_trans (pos n) m.value _ h (t.none_smaller d j))

    -- Where it is not negative every window is kept, and where it is, the one that has it is not.
    pub tightest_keeps : Counted p (then xs x) → pos 0 ≤ℤ m.value → Keeps (curves_of p) (then xs x)
    tightest_keeps c h d j =
        let k = left_each 0 h d j in inside_of p (then xs x) d c j (under_less p d _ _ (omega arith) k.0) (omega (arith, k.1))

    pub tightest_negative : Counted p (then xs x) → (m.value <ℤ pos 0) ↔ (¬ Keeps (curves_of p) (then xs x))
    tightest_negative c = (
      (λ h k. negative_of p m.window _ (subst (λ z. z <ℤ pos 0) (sym t.has_it) h) (k m.window t.window_judged)),
      (λ o.
          elim (less? m.value (pos 0)) [
            | inl h ↦ h
            | inr h ↦ absurd (o (tightest_keeps c h))
          ]),
    )

    -- Where it is n, as many more, and as many fewer, keep every window.
    pub within_tightest : (n : ℕ) → m.value ≡ pos n → (y : ℕ) → Counted p (then xs y) → x ≤ y + n → y ≤ x + n
        → Keeps (curves_of p) (then xs y)
    within_tightest n e y c a b d j =
        let i = judged_with (curves_of p) xs y x d j in
        let k = left_each n (subst (λ z. pos n ≤ℤ z) (sym e) (≤ℤ_refl (pos n))) d i in
        let s = sum_with (curves_of p) xs x y d i in
        inside_of p (then xs y) d c j (under_less p d _ _ (omega arith) k.0) (omega (arith, k.1))

    -- More than that breaks the window that has it, on the side of the limit that is n away.
    pub beyond_tightest : (n : ℕ) → m.value ≡ pos n
        → (AtCeiling p m.window (last (then xs x) m.window + n)
        × ((y : ℕ) → x + n < y → ¬ Keeps (curves_of p) (then xs y)))
        ⊎ ((lower_at (curves_of p) m.window + n ≡ last (then xs x) m.window)
        × ((y : ℕ) → y + n < x → ¬ Keeps (curves_of p) (then xs y)))
    beyond_tightest n e =
        let w = m.window in
        let j = t.window_judged in
        ⊎_map
        (λ a. (
          a,
          λ y l k.
              past_ceiling p w _ n a _ (omega (arith, sum_with (curves_of p) xs x y w j)) (k w (judged_with (curves_of p) xs x y w j)).0,
        ))
        (λ b. (b, λ y l k. (k w (judged_with (curves_of p) xs x y w j)).1 (omega (arith, sum_with (curves_of p) xs x y w j))))
        (exact_of p w _ n (t.has_it ∙ e))

-- ---- the last H ticks, with the newest, settle it
pub tightest_alike : (p : AnyPair) (xs ys : List ℕ) (m : Margin) → Alike (curves_of p) xs ys → Tightest p xs m → Tightest p ys m
tightest_alike p xs ys m a t =
    let back : (d : ℕ) → Judged (curves_of p) ys d → Judged (curves_of p) xs d = λ d j. judged_alike (sym a.lengths) j in
    record {
      window_judged = judged_alike a.lengths t.window_judged;
      has_it = rw (a.sums m.window t.window_judged) at t.has_it;
      none_smaller = λ d j. rw (a.sums d (back d j)) at (t.none_smaller d (back d j));
      none_shorter = λ d l j. rw (a.sums d (back d j)) at (t.none_shorter d l (back d j));
    }

pub tightest_newest : (p : AnyPair) (n : ℕ) (xs : List ℕ) (x : ℕ) (m : Margin) → horizon (curves_of p) ≤ suc n
    → Tightest p (then (newest n xs) x) m → Tightest p (then xs x) m
tightest_newest p n xs x m h t = tightest_alike p _ _ m (then_alike (curves_of p) n xs h x) t
