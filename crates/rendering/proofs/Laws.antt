-- Laws over plain variables that the proofs of this crate's functions cite.
-- Assumes nothing.
use Rattle.std.specs.Prelude.{Option}
use Rattle.std.specs.Bool.{then_some}
use Rattle.laws.proofs.Base.{ℕ, zero, suc, ◌+◌, ◌-◌, ◌*◌, ◌%◌, ◌≤◌, ◌<◌, ◌≡◌, refl, sym, ap, ◌∙◌, Bool, true, false, List, [], ◌∷◌, ◌++◌, dec_le}
use Rattle.laws.proofs.Base.{append_assoc, add-one, arith, length, get_or, take, drop, length-append}
use Prim.Native.Nat.{◌/◌}
use mathlib.Core.Bool.{not}
use borrow.Rule.Slice.PartMut.{put_mid}
use lib.Seq.{sets-eq, drop-drop}
use Rattle.laws.specs.Ranges.{fold}
use Rattle.laws.specs.Writing.{Wrote}
use Rattle.curves.specs.Pairs.{horizon, figure, lower_at}
use Rattle.curves.specs.Unlimited.{AnyPair, limited, unlimited, with_mark, curves_of}
use Rattle.curves.proofs.Highest.{horizon_with, lower_with}
use Rattle.curves.specs.Questions.{AllYes}
use Rattle.bounds.specs.declared.Curves.{Curves}
use Rattle.bounds.specs.Bounds.{figure_limit, pair_questions}
use Rattle.bounds.specs.Answers.{curves_in}
use Rattle.csv_text.specs.Text.{header, crlf, Bytes}
use Rattle.csv_text.specs.Numbers.{decimal}
use Rattle.csv_text.specs.Records.{Most, none, up_to, most_in, MostWithin}
use Rattle.csv_text.proofs.Numbers.{decimal_small, decimal_step, decimal_few}
use Rattle.rendering.specs.Rendering.{most_field, line, most_at, text_of, longest}
use Rattle.rendering.specs.Steps.{line_length}

-- ---- numbers, by two digits
-- Two are left behind those of the hundredth, or are all.
abbrev pub last_two : ℕ → Bytes
last_two n = (48 + n / 10 % 10) ∷ (48 + n % 10) ∷ []

pub decimal_two : (n : ℕ) → 10 ≤ n → n < 100 → decimal n ≡ last_two n
decimal_two n h l =
    let one : n / 10 < 10 = omega arith in
    let same : n / 10 % 10 ≡ n / 10 = omega arith in
    rw (decimal_step n h, decimal_small (n / 10) one, same) refl

pub decimal_more : (n : ℕ) → 100 ≤ n → decimal n ≡ decimal (n / 100) ++ last_two n
decimal_more n h =
    let tenth : 10 ≤ n / 10 = omega arith in
    let same : n / 10 / 10 ≡ n / 100 = omega arith in
    rw (decimal_step n (omega arith), decimal_step (n / 10) tenth, same)
    (append_assoc (decimal (n / 100)) ((48 + n / 10 % 10) ∷ []) ((48 + n % 10) ∷ []))

-- The tenth has one digit fewer, and the hundredth two.
pub tenth_shorter : (n : ℕ) → 10 ≤ n → length (decimal n) ≡ length (decimal (n / 10)) + 1
tenth_shorter n h = ap length (decimal_step n h) ∙ length-append (decimal (n / 10)) _

pub hundredth_shorter : (n : ℕ) → 100 ≤ n → length (decimal n) ≡ length (decimal (n / 100)) + 2
hundredth_shorter n h =
    let tenth : 10 ≤ n / 10 = omega arith in
    let same : n / 10 / 10 ≡ n / 100 = omega arith in
    omega (arith, tenth_shorter n (omega arith), tenth_shorter (n / 10) tenth, ap (λ k. length (decimal k)) same)

-- The digits of a window d of at most 256 ticks: one, and one more from 10 on, and from 100 on.
window_digits : (d : ℕ) → d ≤ 256 → length (decimal d) + (d - 10) + (d - 100) ≤ 1 + (d - 9) + (d - 99)
window_digits d h =
    elim (dec_le 100 d) [
      | yes g ↦ omega (arith, decimal_few d 3 (omega arith) (omega arith))
      | no g ↦
          elim (dec_le 10 d) [
            | yes f ↦ omega (arith, decimal_few d 2 (omega arith) (omega arith))
            | no f ↦ omega (arith, decimal_few d 1 (omega arith) (omega arith))
          ]
    ]

pub line-length : (w l : ℕ) (m : Most) → length (line w l m) ≡ line_length w l m
unfolding line
line-length w l m = simp length-append (omega arith)

-- The digits of a figure within the limit, and of a most.
figure_digits : (n : ℕ) → n ≤ figure_limit → length (decimal n) ≤ 8
figure_digits n h = decimal_few n 8 (omega arith) (omega arith)

most_digits : (m : Most) → MostWithin figure_limit m → length (most_field m) ≤ 8
most_digits none h = omega arith
most_digits (up_to m) h = figure_digits m h

-- A text copied into the part of a list that begins at `at` and has as many entries is put in from there on.
pub wrote_part : (found t part : List ℕ) (at k : ℕ) → at + length t ≤ length found → part ≡ t → k ≡ length t
    → Wrote found at t (put_mid at k found part) (at + length t)
wrote_part found t part at k h e n =
    record {
      entries = rw (e, n) (simp drop-drop (sym (sets-eq t found at h ∙ append_assoc (take at found) t (drop (at + length t) found))));
      place = refl;
    }

-- ---- the text of a pair, up to the window k
abbrev pub text_to : AnyPair → ℕ → Bytes
text_to p k = fold ◌++◌ (header ++ crlf) (λ d. line d (lower_at (curves_of p) d) (most_at p d)) k

module _ (p : AnyPair) where
  text_header : text_to p 0 ≡ header ++ crlf
  unfolding fold
  text_header = refl

  text_one_more : (k : ℕ) → text_to p (suc k) ≡ text_to p k ++ line (suc k) (lower_at (curves_of p) (suc k)) (most_at p (suc k))
  unfolding fold
  text_one_more k = refl

  pub text_whole : (k : ℕ) → k ≡ horizon (curves_of p) → text_of p ≡ text_to p k
  unfolding text_of
  text_whole k e = ap (text_to p) (sym e)

-- No figure that is written is above the limit.
figures_within : (p : AnyPair) → AllYes (pair_questions p) → (d : ℕ) → 1 ≤ d → d ≤ horizon (curves_of p)
    → (lower_at (curves_of p) d ≤ figure_limit) × MostWithin figure_limit (most_at p d)
figures_within (limited p) all d u v = (all.1.1.0.1 d u (omega (arith, all.1.0)), all.1.1.0.0 d u v)
figures_within (unlimited h ls) all d u v = (all.1.1.0 d u (omega (arith, all.1.0)), tt)

module _ (p : AnyPair) (all : AllYes (pair_questions p)) where
  -- The record of a window with two figures within the limit has 20 bytes and those of the window, at most.
  record_short : (d a : ℕ) (m : Most) → d ≤ horizon (curves_of p) → a ≤ figure_limit → MostWithin figure_limit m
      → line_length d a m + (d - 10) + (d - 100) ≤ 21 + (d - 9) + (d - 99)
  record_short d a m l u v =
      omega (arith, window_digits d (omega (arith, all.0.1)), figure_digits a u, most_digits m v)

  text_short : (k : ℕ) → k ≤ horizon (curves_of p) → length (text_to p k) ≤ 19 + 21 * k + (k - 9) + (k - 99)
  text_short zero l = rw text_header (omega arith)
  text_short (suc k) l =
      let (u, v) = figures_within p all (suc k) (omega arith) l in
      let next = record_short (suc k) (lower_at (curves_of p) (suc k)) (most_at p (suc k)) l u v in
      rw (text_one_more p k, length-append, line-length) (omega (arith, next, text_short k (omega arith)))

  -- So the text fits.
  pub text_within : (k : ℕ) → k ≤ horizon (curves_of p) → length (text_to p k) ≤ longest
  text_within k l = omega (arith, text_short k l)

-- ---- two lists and a mark
most_with : (us ls : List ℕ) (b : Bool) (i : ℕ)
    → most_in (then_some (not b) (get_or us i 0)) ≡ most_at (with_mark us ls b) (suc i)
unfolding figure
most_with us ls false i = refl
most_with us ls true i = refl

least_with : (us ls : List ℕ) (b : Bool) (i : ℕ) → get_or ls i 0 ≡ lower_at (curves_of (with_mark us ls b)) (suc i)
unfolding figure
least_with us ls false i = refl
least_with us ls true i = refl

module _ (c : Curves) where
  -- The horizon is the number of leasts, and no more than the ceilings are.
  pub leasts_in : AllYes (pair_questions (curves_in c))
      → (length c.lower.now ≡ horizon (curves_of (curves_in c))) × (length c.lower.now ≡ length c.upper.now)
  leasts_in all =
      let e = ap length (sym (lower_with c.upper.now c.lower.now c.unlimited)) ∙ all.1.0 in
      (e, e ∙ horizon_with c.upper.now c.lower.now c.unlimited)

  -- The record after those of the first i windows, its most as it is given; and that there is room for it.
  module _ (i : ℕ) (m : Option ℕ) (given : m ≡ then_some (not c.unlimited) (get_or c.upper.now i 0)) where
    pub text_next : text_to (curves_in c) (i + 1) ≡ text_to (curves_in c) i ++ line (i + 1) (get_or c.lower.now i 0) (most_in m)
    text_next =
        rw (add-one i, given, most_with c.upper.now c.lower.now c.unlimited i, least_with c.upper.now c.lower.now c.unlimited i)
        (text_one_more (curves_in c) i)

    pub next_fits : AllYes (pair_questions (curves_in c)) → i < length c.lower.now
        → length (text_to (curves_in c) i) + length (line (i + 1) (get_or c.lower.now i 0) (most_in m)) ≤ longest
    next_fits all l =
        let within = text_within (curves_in c) all (i + 1) (omega (arith, leasts_in all)) in
        omega (arith, within, ap length text_next, length-append {A = ℕ})
