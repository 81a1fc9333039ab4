-- The verdict on the newest tick: there is one that is right, it is found, and there is no other; and it depends on the last H ticks alone.
-- Assumes nothing.
use Rattle.laws.proofs.Base.{ℕ, zero, suc, ◌+◌, ◌-◌, ◌≤◌, ◌<◌, min, ◌≡◌, refl, sym, ap, ◌∙◌, subst, List, ◌↔◌, ◌⊎◌, inl, inr, ⊎_elim}
use Rattle.laws.proofs.Base.{dec_and, dec_le, dec_lt, arith, length, drop, length-drop, get_or-drop}
use lib.Seq.{drop-drop, drop-append-le}
use Rattle.curves.specs.Streams.{counts_of}
use Rattle.curves.specs.Pairs.{Pair, horizon, upper_at, lower_at}
use Rattle.curves.specs.Conformance.{TooMany, Inside}
use Rattle.curves.specs.Ticks.{then, newest, last, Judged, Keeps, Shortest, Verdict, passed, too_many, too_few, Right, Range}
use Rattle.curves.proofs.NextTick.{length-then}
use Rattle.curves.proofs.Sums.{alike}

-- ---- there is one
module _ (p : Pair) (xs : List ℕ) where
  unfoldable pub inside? : (d : ℕ) → Dec (Inside p d (last xs d))
  inside? d = dec_and (not? (dec_lt (upper_at p d) (last xs d))) (not? (dec_lt (last xs d) (lower_at p d)))
    where
      not? : {A : Type 0} → Dec A → Dec (¬ A)
      not? (yes a) = no (λ f. f a)
      not? (no f) = yes f

  -- The judged windows of up to n ticks keep their figures.
  abbrev pub KeptTo : ℕ → Type 0
  KeptTo n = (e : ℕ) → e ≤ n → Judged p xs e → Inside p e (last xs e)

  pub kept_none : KeptTo 0
  kept_none e l j = absurd (omega (arith, j.positive))

  pub kept_more : (n : ℕ) → KeptTo n → (Judged p xs (suc n) → Inside p (suc n) (last xs (suc n))) → KeptTo (suc n)
  kept_more n all i e l j =
      elim (dec_le e n) [ yes h ↦ all e h j | no h ↦ let q : e ≡ suc n = omega arith in rw q (i (rw q at j)) ]

  pub shortest : (n : ℕ) → KeptTo n → Judged p xs (suc n) → ¬ Inside p (suc n) (last xs (suc n)) → Shortest p xs (suc n)
  shortest n all j o = record { window_judged = j; outside = o; shorter = λ e l i. all e (omega arith) i }

  unfoldable pub judged? : (d : ℕ) → Dec (Judged p xs d)
  judged? d =
      elim (dec_and (dec_le 1 d) (dec_and (dec_le d (horizon p)) (dec_le d (length xs)))) [
        | yes h ↦ yes (record { positive = h.0; within = h.1.0; begun = h.1.1 })
        | no h ↦ no (λ j. h (j.positive, (j.within, j.begun)))
      ]

  unfoldable pub find : (n : ℕ) → KeptTo n ⊎ ((d : ℕ) × Shortest p xs d)
  find zero = inl kept_none
  find (suc n) =
      ⊎_elim
      (λ all.
      elim (inside? (suc n)) [
        | yes i ↦ inl (kept_more n all (λ j. i))
        | no o ↦
            elim (judged? (suc n)) [
              | yes j ↦ inr (suc n, shortest n all j o)
              | no f ↦ inl (kept_more n all (λ j. absurd (f j)))
            ]
      ])
      inr
      (find n)

  unfoldable pub rejected : (d : ℕ) → Shortest p xs d → (v : Verdict) × Right p xs v
  rejected d s =
      elim (dec_lt (upper_at p d) (last xs d)) [
        | yes h ↦ (too_many d, (s, h))
        | no h ↦
            (too_few d, (s, h, elim (dec_lt (last xs d) (lower_at p d)) [ yes l ↦ l | no l ↦ absurd (s.outside (h, l)) ]))
      ]

  unfoldable pub verdict? : (v : Verdict) × Right p xs v
  verdict? = ⊎_elim (λ all. (passed, λ d j. all d j.within j)) (λ s. rejected s.0 s.1) (find (horizon p))

  -- ---- and no other
  no_shorter : {d e : ℕ} → Shortest p xs d → Shortest p xs e → ¬ (d < e)
  no_shorter {d} s t l = s.outside (t.shorter d l s.window_judged)

  one_window : {d e : ℕ} → Shortest p xs d → Shortest p xs e → d ≡ e
  one_window s t = omega (arith, no_shorter s t, no_shorter t s)

  kept_or_not : {d : ℕ} → Keeps p xs → Shortest p xs d → ⊥
  kept_or_not {d} k s = s.outside (k d s.window_judged)

  many_or_few : (d e : ℕ) → Right p xs (too_many d) → Right p xs (too_few e) → ⊥
  many_or_few d e r q = q.1 (subst (λ (k : ℕ). TooMany p k (last xs k)) (one_window r.0 q.0) r.1)

  pub right_once : (v w : Verdict) → Right p xs v → Right p xs w → v ≡ w
  right_once passed passed r q = refl
  right_once passed (too_many e) r q = absurd (kept_or_not r q.0)
  right_once passed (too_few e) r q = absurd (kept_or_not r q.0)
  right_once (too_many d) passed r q = absurd (kept_or_not q r.0)
  right_once (too_many d) (too_many e) r q = ap too_many (one_window r.0 q.0)
  right_once (too_many d) (too_few e) r q = absurd (many_or_few d e r q)
  right_once (too_few d) passed r q = absurd (kept_or_not q r.0)
  right_once (too_few d) (too_many e) r q = absurd (many_or_few e d q r)
  right_once (too_few d) (too_few e) r q = ap too_few (one_window r.0 q.0)

  pub verdict_is : (v : Verdict) → Right p xs v → verdict?.0 ≡ v
  verdict_is v r = right_once verdict?.0 v verdict?.1 r

-- ---- streams with the same judged windows get the same verdict
pub judged_alike : {p : Pair} {xs ys : List ℕ} {d : ℕ} → min (horizon p) (length xs) ≡ min (horizon p) (length ys)
    → Judged p xs d → Judged p ys d
judged_alike e j = record { positive = j.positive; within = j.within; begun = omega (arith, j.within, j.begun) }

pub record Alike (p : Pair) (xs ys : List ℕ) : Type 0 where
  pub lengths : min (horizon p) (length xs) ≡ min (horizon p) (length ys)
  pub sums : (d : ℕ) → Judged p xs d → last xs d ≡ last ys d

pub alike_sym : (p : Pair) (xs ys : List ℕ) → Alike p xs ys → Alike p ys xs
alike_sym p xs ys a =
    let e : min (horizon p) (length ys) ≡ min (horizon p) (length xs) = sym a.lengths in
    record { lengths = e; sums = λ d j. sym (a.sums d (judged_alike e j)) }

module _ (p : Pair) (xs ys : List ℕ) (a : Alike p xs ys) where
  inside_alike : (d : ℕ) → (Judged p xs d → Inside p d (last xs d)) → Judged p ys d → Inside p d (last ys d)
  inside_alike d k j = let i : Judged p xs d = judged_alike (sym a.lengths) j in rw (a.sums d i) at (k i)

  pub keeps_alike : Keeps p xs → Keeps p ys
  keeps_alike k d = inside_alike d (k d)

  shortest_alike : (d : ℕ) → Shortest p xs d → Shortest p ys d
  shortest_alike d s =
      record {
        window_judged = judged_alike a.lengths s.window_judged;
        outside = λ i. s.outside (rw (a.sums d s.window_judged) i);
        shorter = λ e l. inside_alike e (s.shorter e l);
      }

  pub right_alike : (v : Verdict) → Right p xs v → Right p ys v
  right_alike passed r = keeps_alike r
  right_alike (too_many d) r = (shortest_alike d r.0, rw (a.sums d r.0.window_judged) at r.1)
  right_alike (too_few d) r =
      let e : last xs d ≡ last ys d = a.sums d r.0.window_judged in (shortest_alike d r.0, rw e at r.1, rw e at r.2)

-- ---- the last H ticks, with the newest, have all judged windows
module _ (n : ℕ) (xs : List ℕ) where
  pub length-newest : length (newest n xs) ≡ length xs - (length xs - n)
  length-newest = length-drop (length xs - n) xs

  pub last_newest : (d : ℕ) → d ≤ n → d ≤ length xs → last (newest n xs) d ≡ last xs d
  last_newest d u v =
      alike (counts_of (newest n xs)) (counts_of xs) _ _ d (λ k l.
      let e : length xs - n + (length (newest n xs) - d + k) ≡ length xs - d + k = omega (arith, length-newest) in
      get_or-drop (length xs - n) xs (length (newest n xs) - d + k) 0 ∙ ap (counts_of xs) e)

  pub then_newest : (x : ℕ) → then (newest n xs) x ≡ newest (suc n) (then xs x)
  then_newest x =
      let e : length (then xs x) - suc n ≡ length xs - n = omega (arith, length-then xs x) in
      sym (drop-append-le (length xs - n) xs _ (omega arith)) ∙ ap (λ k. drop k (then xs x)) (sym e)

  pub newest_newest : (m : ℕ) → m ≤ n → newest m (newest n xs) ≡ newest m xs
  newest_newest m l =
      let e : length xs - n + (length (newest n xs) - m) ≡ length xs - m = omega (arith, length-newest) in
      drop-drop (length (newest n xs) - m) (length xs - n) xs ∙ ap (λ k. drop k xs) e

pub newest_alike : (p : Pair) (n : ℕ) (xs : List ℕ) → horizon p ≤ n → Alike p (newest n xs) xs
newest_alike p n xs h =
    record {
      lengths = omega (arith, length-newest n xs);
      sums = λ d j. last_newest n xs d (omega (arith, j.within)) (omega (arith, j.begun, length-newest n xs));
    }

module _ (p : Pair) (n : ℕ) (xs : List ℕ) (h : horizon p ≤ suc n) where
  pub then_alike : (x : ℕ) → Alike p (then (newest n xs) x) (then xs x)
  then_alike x = rw (then_newest n xs x) (newest_alike p (suc n) (then xs x) h)

  pub keeps_newest : (x : ℕ) → Keeps p (then (newest n xs) x) ↔ Keeps p (then xs x)
  keeps_newest x = (keeps_alike p _ _ (then_alike x), keeps_alike p _ _ (alike_sym p _ _ (then_alike x)))

  pub right_newest : (x : ℕ) (v : Verdict) → Right p (then (newest n xs) x) v ↔ Right p (then xs x) v
  right_newest x v = (right_alike p _ _ (then_alike x) v, right_alike p _ _ (alike_sym p _ _ (then_alike x)) v)

  pub range_newest : Range p xs → Range p (newest n xs)
  range_newest r =
      record {
        lo = r.lo;
        hi = r.hi;
        lo_keeps = (keeps_newest r.lo).1 r.lo_keeps;
        hi_keeps = (keeps_newest r.hi).1 r.hi_keeps;
        smallest = λ x k. r.smallest x ((keeps_newest x).0 k);
        largest = λ x k. r.largest x ((keeps_newest x).0 k);
      }
