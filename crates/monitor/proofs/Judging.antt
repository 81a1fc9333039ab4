-- Laws over plain variables for the loops over the windows that end at a tick: what a turn of each keeps, the verdict at each way out of
-- the judge's, the smallest margin, which another finds, and whether all windows keep their figures, which a third tells.
-- Assumes nothing.
use Rattle.laws.proofs.Base.{ℕ, suc, ◌+◌, ◌-◌, ◌*◌, ◌^◌, ◌≤◌, ◌<◌, ◌≡◌, refl, sym, ap, ◌∙◌, subst, Bool, true, false, ◌&&◌, List, add-one}
use Rattle.laws.proofs.Base.{◌↔◌, ltb, cond, arith, length, get_or}
use Rattle.std.specs.Prelude.{◌/◌, Option, Some, None, unwrap_or}
use mathlib.Core.Bool.{not}
use lib.Dec as dec
use borrow.Author.Tests.{ltb-true, ltb-false}
use lib.IntN.{ℤ, pos, ◌-ℤ◌}
use lib.Signed.{◌≤ℤ◌, ◌<ℤ◌, le_z, lt_z, lt_z_yes, lt_z_no}
use mir.Syntax.{w64}
use mir.Val.{to_z, of_z}
use Rattle.laws.specs.Tests.{Tells}
use Rattle.laws.proofs.Tests.{either_true, either_false, tells_same, both_told}
use Rattle.laws.proofs.Signed.{minus_read}
use Rattle.curves.specs.Streams.{count_limit}
use Rattle.curves.specs.Pairs.{Pair, pair_of, figure}
use Rattle.curves.specs.Unlimited.{AnyPair, with_mark, curves_of}
use Rattle.curves.specs.Conformance.{TooMany, TooFew, Inside}
use Rattle.curves.specs.Ticks as ticks
use Rattle.curves.specs.Ticks.{then, last, Judged, Keeps, Right}
use Rattle.curves.specs.Margins.{Margin, Tightest}
use Rattle.curves.proofs.Highest.{highest_at}
use Rattle.curves.proofs.NextTick.{last_none, last_more, length-then, last_next}
use Rattle.curves.proofs.Verdicts.{KeptTo, kept_more, shortest, verdict_is}
use Rattle.curves.proofs.Margins.{margin_at, TightestTo, tightest_one, tightest-kept, tightest_new, tightest_all}
use Rattle.history.proofs.Slicing.{judged-next}
use Rattle.history.specs.Steps.{Slices, view_with}
use Rattle.monitor.specs.declared.Verdict.{Verdict}
use Rattle.monitor.specs.declared.Verdict.TheVariants as verdict
use Rattle.monitor.specs.declared.windows.Margin as declared
use Rattle.monitor.specs.Monitoring.{judged, verdict_on}
use Rattle.monitor.specs.Answers.{ruling_of}
use Rattle.monitor.specs.Steps.{margin_as, tighter_of, margin_with, outside_with}

-- ---- the margin of a window
-- The difference from the ceiling, where there is one and it is not the larger; else the one from the least. The bits of each are read as
-- what it is.
module _ (b : Bool) (u l x : ℕ) (above : u + x < 2 ^ 63) (below : x + l < 2 ^ 63) where
  -- What the test compares.
  abbrev bits : ℕ → ℕ → ℤ
  bits m n = to_z w64 (of_z w64 (to_z w64 m -ℤ to_z w64 n))

  abbrev less : Bool
  less = not b && le_z (bits u x) (bits x l)

  tested : (t : Bool) → less ≡ t → not b && le_z (pos u -ℤ pos x) (pos x -ℤ pos l) ≡ t
  tested t e = (λ i. not b && le_z (sym (minus_read u x above) i) (sym (minus_read x l below) i)) ∙ e

  pub margin_above : less ≡ true → bits u x ≡ margin_with b u l x
  margin_above e = minus_read u x above ∙ go b (tested true e)
    where
      go : (b : Bool) → not b && le_z (pos u -ℤ pos x) (pos x -ℤ pos l) ≡ true → pos u -ℤ pos x ≡ margin_with b u l x
      go false e = rw e refl
      go true e = let z : ◌≡◌ {A = ℕ} 0 1 = cc in absurd (omega arith)

  pub margin_below : less ≡ false → bits x l ≡ margin_with b u l x
  margin_below e = minus_read x l below ∙ go b (tested false e)
    where
      go : (b : Bool) → not b && le_z (pos u -ℤ pos x) (pos x -ℤ pos l) ≡ false → pos x -ℤ pos l ≡ margin_with b u l x
      go false e = rw e refl
      go true e = refl

-- ---- one window
-- The figures of d + 1 ticks are the entries with index d, and s is a sum of as many counts.
module _ (us ls : List ℕ) (d s : ℕ) where
  abbrev u : ℕ
  u = get_or us d 0

  abbrev l : ℕ
  l = get_or ls d 0

  margin_with_lem : (b : Bool) (ys : List ℕ) → last ys (suc d) ≡ s → margin_at (with_mark us ls b) ys (suc d) ≡ margin_with b u l s
  unfolding figure
  margin_with_lem false ys e = ap (margin_with false u l) e
  margin_with_lem true ys e = ap (margin_with true u l) e

  -- The sum keeps the figures of a pair with ceilings.
  pub inside_figures : ((l ≤ s) × (s ≤ u)) ↔ Inside (pair_of us ls) (suc d) s
  unfolding figure
  inside_figures = ((λ h. ((λ q. omega (arith, h.1)), (λ q. omega (arith, h.0)))), (λ i. (omega (arith, i.1), omega (arith, i.0))))

  -- What is said of it: nothing, where it keeps the figures by the mark; or that it has too many, or else too few. Where there are no
  -- ceilings none is passed.
  abbrev Most : Bool → Type 0
  Most b = ¬ TooMany (curves_of (with_mark us ls b)) (suc d) s

  most_with : (b : Bool) → d < length us → s ≤ (d + 1) * count_limit → not b && ltb u s ≡ false → Most b
  unfolding figure
  most_with false w c e = λ q. omega (arith, ltb-false u s e)
  most_with true w c e = λ q. omega (arith, q, highest_at (length us) (suc d) (omega arith) w)

  many_with : (b : Bool) → not b && ltb u s ≡ true → TooMany (curves_of (with_mark us ls b)) (suc d) s
  unfolding figure
  many_with false e = ltb-true u s e
  many_with true e = let z : ◌≡◌ {A = ℕ} 0 1 = cc in absurd (omega arith)

  few_with : (b : Bool) → ltb s l ≡ true → TooFew (curves_of (with_mark us ls b)) (suc d) s
  unfolding figure
  few_with false e = ltb-true s l e
  few_with true e = ltb-true s l e

  least_with : (b : Bool) → ltb s l ≡ false → ¬ TooFew (curves_of (with_mark us ls b)) (suc d) s
  unfolding figure
  least_with false e q = omega (arith, ltb-false s l e, q)
  least_with true e q = omega (arith, ltb-false s l e, q)

module _ (us ls : List ℕ) (b : Bool) (xs : List ℕ) (count : ℕ) where
  abbrev pub p : AnyPair
  p = with_mark us ls b

  abbrev curves : Pair
  curves = curves_of p

  abbrev ys : List ℕ
  ys = then xs count

  -- Where the turn for the window of d + 1 ticks begins: there are the ticks for it, and the sum is that of this window, of as many counts.
  pub record SummedTo (s d : ℕ) : Type 0 where
    pub held : d ≤ length xs
    pub summed : s ≡ last xs d + count
    pub small : s ≤ (d + 1) * count_limit

  -- The first turn is for the window of the new tick alone, and each has one tick more than that before.
  pub summed_none : count ≤ count_limit → SummedTo count 0
  summed_none c = record { held = omega arith; summed = omega (arith, last_none xs); small = omega arith }

  pub summed_more : (s d i : ℕ) → SummedTo s d → i + 1 + d ≡ length xs → get_or xs i 0 ≤ count_limit
      → SummedTo (s + get_or xs i 0) (d + 1)
  summed_more s d i R e c =
      let l : d < length xs = omega arith in
      let same : i ≡ length xs - 1 - d = omega arith in
      record {
        held = omega arith;
        summed = rw (add-one d) (omega (arith, R.summed, last_more xs d l, ap (λ i. get_or xs i 0) same));
        small = omega (arith, R.small);
      }

  -- A turn adds two of them.
  pub summed_turn : (s t : ℕ) → SummedTo s (2 * t) → t < length xs / 2 → ((k : ℕ) → get_or xs k 0 ≤ count_limit)
      → let one : ℕ = s + get_or xs (length xs - 1 - 2 * t) 0 in
      SummedTo one (2 * t + 1) × SummedTo (one + get_or xs (length xs - 2 - 2 * t) 0) (2 * t + 2)
  summed_turn s t R l c =
      let one = summed_more s (2 * t) (length xs - 1 - 2 * t) R (omega arith) (c _) in
      let both = summed_more _ (2 * t + 1) (length xs - 2 - 2 * t) one (omega arith) (c _) in
      let next : 2 * t + 1 + 1 ≡ 2 * t + 2 = omega arith in (one, rw next at both)

  -- Where they are odd in number, the oldest is left at the end.
  pub summed_last : (s t : ℕ) → SummedTo s (2 * t) → 2 * t + 1 ≡ length xs → get_or xs 0 0 ≤ count_limit
      → SummedTo (s + get_or xs 0 0) (length xs)
  summed_last s t R odd c = rw odd at (summed_more s (2 * t) 0 R (omega arith) c)

  module _ (S : Slices us ls xs) (s d : ℕ) (R : SummedTo s d) where
    -- What the turn looks at: its sum is the window's, and there are figures of d + 1 ticks.
    window : last ys (suc d) ≡ s
    window = omega (arith, last_next xs count d R.held, R.summed)

    wide : d < length us
    wide = omega (arith, R.held, S.fewer)

    is_judged : Judged curves ys (suc d)
    is_judged = judged-next us ls xs b count d S R.held

    -- Where there is no tick before it, no judged window is longer.
    none_longer : length xs ≤ d → (e : ℕ) → Judged curves ys e → e ≤ d + 1
    none_longer l e j = let b : e ≤ length ys = j.begun in omega (arith, length-then xs count)

    -- ---- the windows of up to d ticks keep their figures
    -- Where that of d + 1 ticks does, those of up to so many do; and all, where there is no tick before it. If all do, it does.
    pub kept_here : KeptTo curves ys d → Inside curves (suc d) s → KeptTo curves ys (d + 1)
    kept_here K i = rw (add-one d) (kept_more curves ys d K (λ j. rw window i))

    pub all_kept : length xs ≤ d → KeptTo curves ys (d + 1) → Keeps curves ys
    all_kept l K e j = K e (none_longer l e j) j

    pub kept_at : Keeps curves ys → Inside curves (suc d) s
    kept_at K = rw window at (K (suc d) is_judged)

    -- ---- judging
    abbrev pub said : Option Verdict
    said = outside_with b (get_or us d 0) (get_or ls d 0) s (d + 1)

    -- The verdict is the one by the figures; and the right one is.
    abbrev pub IsVerdict : Verdict → Type 0
    IsVerdict v = ruling_of v ≡ judged (verdict_on (view_with us ls b xs) count)

    right_many : Right curves ys (ticks.too_many (d + 1)) → IsVerdict (verdict.TooMany (d + 1))
    right_many r = ap judged (sym (verdict_is curves ys (ticks.too_many (d + 1)) r))

    right_few : Right curves ys (ticks.too_few (d + 1)) → IsVerdict (verdict.TooFew (d + 1))
    right_few r = ap judged (sym (verdict_is curves ys (ticks.too_few (d + 1)) r))

    module _ (K : KeptTo curves ys d) where
      -- It is outside, and the first that is.
      found_many : not b && ltb (get_or us d 0) s ≡ true → IsVerdict (verdict.TooMany (d + 1))
      found_many t =
          let many : TooMany curves (suc d) (last ys (suc d)) = rw window (many_with us ls d s b t) in
          right_many (rw (add-one d) (shortest curves ys d K is_judged (λ i. i.0 many), many))

      found_few : not b && ltb (get_or us d 0) s ≡ false → ltb s (get_or ls d 0) ≡ true → IsVerdict (verdict.TooFew (d + 1))
      found_few t f =
          let most : ¬ TooMany curves (suc d) (last ys (suc d)) = rw window (most_with us ls d s b wide R.small t) in
          let few : TooFew curves (suc d) (last ys (suc d)) = rw window (few_with us ls d s b f) in
          right_few (rw (add-one d) (shortest curves ys d K is_judged (λ i. i.1 few), most, few))

      -- Or it keeps its figures, too.
      one_more : not b && ltb (get_or us d 0) s ≡ false → ltb s (get_or ls d 0) ≡ false → KeptTo curves ys (d + 1)
      one_more t f = kept_here K (most_with us ls d s b wide R.small t, least_with us ls d s b f)

      pub said_nothing : said ≡ None → KeptTo curves ys (d + 1)
      said_nothing = go (not b && ltb (get_or us d 0) s) (ltb s (get_or ls d 0)) refl refl
        where
          go : (t f : Bool) → not b && ltb (get_or us d 0) s ≡ t → ltb s (get_or ls d 0) ≡ f
              → cond t (Some (verdict.TooMany (d + 1))) (cond f (Some (verdict.TooFew (d + 1))) None) ≡ None → KeptTo curves ys (d + 1)
          go true f t' f' e = cc
          go false true t' f' e = cc
          go false false t' f' e = one_more t' f'

      pub said_verdict : (v : Verdict) → said ≡ Some v → IsVerdict v
      said_verdict v = go (not b && ltb (get_or us d 0) s) (ltb s (get_or ls d 0)) refl refl
        where
          go : (t f : Bool) → not b && ltb (get_or us d 0) s ≡ t → ltb s (get_or ls d 0) ≡ f
              → cond t (Some (verdict.TooMany (d + 1))) (cond f (Some (verdict.TooFew (d + 1))) None) ≡ Some v → IsVerdict v
          go true f t' f' e = let same : verdict.TooMany (d + 1) ≡ v = cc in subst IsVerdict same (found_many t')
          go false true t' f' e = let same : verdict.TooFew (d + 1) ≡ v = cc in subst IsVerdict same (found_few t' f')
          go false false t' f' e = cc

      -- Where there is no tick before it, the tick passes if nothing is said.
      pub said_last : length xs ≤ d → said ≡ None → IsVerdict verdict.Passed
      said_last l e = ap judged (sym (verdict_is curves ys ticks.passed (all_kept l (said_nothing e))))

    -- ---- the smallest margin, over the windows of up to d + 1 ticks
    abbrev here : ℤ
    here = margin_with b (get_or us d 0) (get_or ls d 0) s

    margin_is : margin_at p ys (suc d) ≡ here
    margin_is = margin_with_lem us ls d s b ys window

    abbrev pub here_of : declared.Margin
    here_of = record { value = here; window = d + 1 }

    -- It takes the place of the smallest over the shorter ones where it is smaller, and else that stays.
    tightest_here : (m : Margin) → TightestTo p ys d m → here <ℤ m.value → TightestTo p ys (d + 1) (margin_as here_of)
    tightest_here m T l =
        rw (add-one d)
        (subst (λ z. TightestTo p ys (suc d) (record { value = z; window = suc d })) margin_is
        (tightest_new p ys d m T is_judged (subst (λ z. z <ℤ m.value) (sym margin_is) l)))

    tightest_stays : (m : Margin) → TightestTo p ys d m → m.value ≤ℤ here → TightestTo p ys (d + 1) m
    tightest_stays m T l = rw (add-one d) (tightest-kept p ys d m T (λ j. subst (λ z. m.value ≤ℤ z) (sym margin_is) l))

    pub tightest_turn : (m o r : declared.Margin) → TightestTo p ys d (margin_as m) → o ≡ here_of → r ≡ tighter_of m o
        → TightestTo p ys (d + 1) (margin_as r)
    tightest_turn m o r T e is = rw (is, e) (go (lt_z here m.value) refl)
      where
        go : (t : Bool) → lt_z here m.value ≡ t → TightestTo p ys (d + 1) (margin_as (cond t here_of m))
        go true t = tightest_here (margin_as m) T (lt_z_yes (subst dec.T (sym t) tt))
        go false t = tightest_stays (margin_as m) T (lt_z_no (subst (λ b. dec.T (not b)) (sym t) tt))

    -- Where there is no tick before it, it is the smallest of all.
    pub tightest_ends : (m : Margin) → length xs ≤ d → TightestTo p ys (d + 1) m → Tightest p ys m
    tightest_ends m l = tightest_all p ys (d + 1) m (none_longer l)

  module _ (S : Slices us ls xs) where
    -- That of the new tick alone is the first.
    pub tightest_first : (c : count ≤ count_limit) (o : declared.Margin) → o ≡ here_of S count 0 (summed_none c)
        → TightestTo p ys 1 (margin_as o)
    tightest_first c o e =
        rw e (subst (λ z. TightestTo p ys 1 (record { value = z; window = 1 })) (margin_is S count 0 (summed_none c))
        (tightest_one p ys (is_judged S count 0 (summed_none c))))

    -- Two windows more.
    pub tightest_twice : (s t d : ℕ) (R : SummedTo s (d + 1)) (Q : SummedTo t (d + 2)) (m o r q n : declared.Margin)
        → TightestTo p ys (d + 1) (margin_as m) → o ≡ here_of S s (d + 1) R → r ≡ tighter_of m o
        → q ≡ here_of S t (d + 2) Q → n ≡ tighter_of r q → TightestTo p ys (d + 2 + 1) (margin_as n)
    tightest_twice s t d R Q m o r q n T at-s is at-t is' =
        let same : d + 1 + 1 ≡ d + 2 = omega arith in
        tightest_turn S t (d + 2) Q r q n
        (subst (λ e. TightestTo p ys e (margin_as r)) same (tightest_turn S s (d + 1) R m o r T at-s is)) at-t is'

-- Whether windows keep the figures of a pair with ceilings.
module _ (us ls xs : List ℕ) (count : ℕ) (S : Slices us ls xs) where
  abbrev pub Fit : ℕ → ℕ → Type 0
  Fit s d = (get_or ls d 0 ≤ s) × (s ≤ get_or us d 0)

  abbrev Sum : ℕ → ℕ → Type 0
  Sum s d = SummedTo us ls false xs count s d

  abbrev Kept : ℕ → Type 0
  Kept n = KeptTo (pair_of us ls) (then xs count) n

  abbrev All : Type 0
  All = Keeps (pair_of us ls) (then xs count)

  pub more_kept : (s d : ℕ) → Sum s d → Kept d → Fit s d → Kept (d + 1)
  more_kept s d R K f = kept_here us ls false xs count S s d R K ((inside_figures us ls d s).0 f)

  pub fit_from : (s d : ℕ) → Sum s d → All → Fit s d
  fit_from s d R K = (inside_figures us ls d s).1 (kept_at us ls false xs count S s d R K)

  -- Two windows more, of which two tests tell.
  module _ (s t d : ℕ) (R : Sum s (d + 1)) (Q : Sum t (d + 2)) (a b : Bool) (one : Tells a (Fit s (d + 1)))
      (two : Tells b (Fit t (d + 2))) where
    pub kept_twice : a && b ≡ true → Kept (d + 1) → Kept (d + 2 + 1)
    kept_twice e K =
        let (f, g) : Fit s (d + 1) × Fit t (d + 2) = either_true _ _ _ e (both_told _ _ a b one two) in
        let same : d + 1 + 1 ≡ d + 2 = omega arith in
        more_kept t (d + 2) Q (subst Kept same (more_kept s (d + 1) R K f)) g

    pub not_kept : a && b ≡ false → ¬ All
    not_kept e K =
        let n : ¬ (Fit s (d + 1) × Fit t (d + 2)) = either_false _ _ _ e (both_told _ _ a b one two) in
        n (fit_from s (d + 1) R K, fit_from t (d + 2) Q K)

  -- Where no tick is left, all of them do.
  pub ends_kept : (s d : ℕ) → Sum s d → length xs ≤ d → Kept (d + 1) → All
  ends_kept s d R l K = all_kept us ls false xs count S s d R l K

  -- Or one window is.
  pub last_told : (s d : ℕ) (b : Bool) → Sum s d → length xs ≤ d → Kept d → Tells b (Fit s d) → Tells b All
  last_told s d b R l K = tells_same b ((λ f. ends_kept s d R l (more_kept s d R K f)), fit_from s d R)
