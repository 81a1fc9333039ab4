-- Laws over plain variables for the loop over the counts: what it knows before each, and what a count that keeps the figures adds to it.
-- Assumes nothing.
use Rattle.laws.proofs.Base.{ℕ, zero, suc, ◌+◌, ◌-◌, ◌≤◌, ◌<◌, ◌≡◌, refl, sym, ap, ◌∙◌, subst, true, List, ◌++◌}
use Rattle.laws.proofs.Base.{append_assoc, append-nil, add-one, below_more, dec_lt, drop_of_length-le, arith}
use Rattle.laws.proofs.Base.{length, get_or, take, drop, length-append, length-drop, get_or-drop, length-take-le, take-suc, take_all}
use Rattle.laws.proofs.Base.{list_get_or-append}
use lib.Seq.{get_or-append-add, take-add}
use borrow.Rule.Slice.PartMut.{put_mid, post_of, same_len_mid}
use Rattle.curves.specs.Ticks.{then, last}
use Rattle.curves.proofs.NextTick.{last_none, length-then, last_next}
use Rattle.scripts.specs.Steps.{sum_limit, KeptSums, Kept, LaterKept, Placed, InsideAt, Grown, KeepsTurned, KeepFirst, KeepOn}

-- ---- parts of a list
-- The part from the place s on: its entries, and how many there are.
abbrev part : ℕ → List ℕ → List ℕ
part s us = take (length us - s) (drop s us)

part_whole : (s : ℕ) (us : List ℕ) → part s us ≡ drop s us
part_whole s us = take_all (length us - s) (drop s us) (omega (arith, length-drop s us))

part_at : (s : ℕ) (us : List ℕ) (i j : ℕ) → s + i ≡ j → get_or (part s us) i 0 ≡ get_or us j 0
part_at s us i j e = ap (λ ys. get_or ys i 0) (part_whole s us) ∙ get_or-drop s us i 0 ∙ ap (λ k. get_or us k 0) e

part_length : (s : ℕ) (us : List ℕ) → length (part s us) ≡ length us - s
part_length s us = ap length (part_whole s us) ∙ length-drop s us

part_kept : (s : ℕ) (us : List ℕ) → Kept us → Kept (part s us)
part_kept s us k i l =
    let l' : s + i < length us = omega (arith, part_length s us) in
    omega (arith, part_at s us i (s + i) (omega arith), k (s + i) l')

-- From the first place on it is the list itself, and so is what is put there.
part_none : (us : List ℕ) → part 0 us ≡ us
part_none us = part_whole 0 us

put_whole : (us vs : List ℕ) → length vs ≡ length us → put_mid 0 (length us - 0) us vs ≡ vs
put_whole us vs e = ap (λ ws. vs ++ ws) (drop_of_length-le us {i = length us - 0} (omega arith)) ∙ append-nil vs

-- Other sums, as many.
pub placed_same : (found sums ceilings leasts : List ℕ) → length sums ≡ length found → Placed found ceilings leasts
    → Placed sums ceilings leasts
placed_same found sums ceilings leasts e P =
    record {
      sums_more = e ∙ P.sums_more;
      leasts_same = P.leasts_same;
      ceilings_kept = P.ceilings_kept;
      leasts_kept = P.leasts_kept;
    }

-- Sums that have grown and are within are none above the limit.
pub later_grown : (sums ceilings leasts : List ℕ) (x : ℕ) (grown : List ℕ) → Placed sums ceilings leasts → LaterKept sums
    → Grown sums ceilings leasts x grown true → LaterKept grown
later_grown sums ceilings leasts x grown P K G i l =
    elim (dec_lt (i + 1) (length ceilings)) [
      | yes h ↦ omega (arith, (G.told (i + 1) h).1, P.ceilings_kept (i + 1) h)
      | no h ↦
          let e : length ceilings ≡ i + 1 = omega (arith, G.whole, P.sums_more) in
          omega (arith, rw e at G.none, K i (omega (arith, G.whole)))
    ]

-- ---- one tick
-- The sums of up to k of the ticks xs are kept; the place of the window of one more is `first`.
module _ (sums ceilings leasts xs : List ℕ) (P : Placed sums ceilings leasts) (first k : ℕ) (place : first + suc k ≡ length ceilings)
    (K : KeptSums xs k sums) where
  -- A kept sum, by its place.
  kept_at : (d j : ℕ) → d ≤ k → j + d ≡ length ceilings → get_or sums j 0 ≡ last xs d
  kept_at d j l e =
      let e' : length sums - 1 - d ≡ j = omega (arith, P.sums_more) in
      ap (λ i. get_or sums i 0) (sym e') ∙ K.sum_is d l

  -- The parts that a count is added with.
  pub part_placed : Placed (part first sums) (part first ceilings) (part first leasts)
  part_placed =
      record {
        sums_more = omega (arith, part_length first sums, part_length first ceilings, P.sums_more);
        leasts_same = omega (arith, part_length first leasts, part_length first ceilings, P.leasts_same);
        ceilings_kept = part_kept first ceilings P.ceilings_kept;
        leasts_kept = part_kept first leasts P.leasts_kept;
      }

  pub part_later : LaterKept (part first sums)
  part_later i l =
      let d : ℕ = k - i in
      let in-sums : i ≤ k = omega (arith, part_length first sums, P.sums_more) in
      omega (
        arith,
        part_at first sums (i + 1) (first + (i + 1)) (omega arith),
        kept_at d (first + (i + 1)) (omega arith) (omega arith),
        K.small d (omega arith),
      )

  -- They have grown, and are within.
  module _ (held : k ≤ length xs) (x : ℕ) (grown : List ℕ)
      (G : Grown (part first sums) (part first ceilings) (part first leasts) x grown true) where
    abbrev left : List ℕ
    left = put_mid first (length sums - first) sums grown

    abbrev ys : List ℕ
    ys = then xs x

    windows : length (part first ceilings) ≡ suc k
    windows = omega (arith, part_length first ceilings)

    pub left_length : length left ≡ length sums
    left_length = same_len_mid first (length sums - first) sums grown G.whole

    left_at : (i j : ℕ) → i ≤ suc k → first + i ≡ j → get_or left j 0 ≡ get_or grown i 0
    left_at i j l e =
        let e' : length (take first sums) + i ≡ j = omega (arith, length-take-le first sums (omega (arith, P.sums_more))) in
        rw e' at (get_or-append-add (take first sums) (grown ++ post_of first (length sums - first) sums) i 0)
        ∙ list_get_or-append grown _ 0 i (omega (arith, G.whole, part_length first sums, P.sums_more))

    -- The sum of d + 1 ticks is that of the d before, and the count.
    grown_is : (d i : ℕ) → i + d ≡ k → get_or grown i 0 ≡ last ys (suc d)
    grown_is d i e =
        omega (
          arith,
          G.next i (omega (arith, windows)),
          part_at first sums (i + 1) (first + (i + 1)) (omega arith),
          kept_at d (first + (i + 1)) (omega arith) (omega arith),
          last_next xs x d (omega arith),
        )

    -- It is within its figures, at the place j.
    grown_keeps : (d i j : ℕ) → i + d ≡ k → first + i ≡ j → (get_or leasts j 0 ≤ last ys (suc d)) × (last ys (suc d) ≤ get_or ceilings j 0)
    grown_keeps d i j e s =
        let inside : InsideAt grown (part first ceilings) (part first leasts) i = G.told i (omega (arith, windows)) in
        let u = part_at first ceilings i j s in
        let l = part_at first leasts i j s in
        let is = grown_is d i e in
        (omega (arith, inside.0), omega (arith, inside.1))

    -- So every window that ends at the count is, where there are no longer ones.
    pub next_keeps : ((d : ℕ) → d ≤ length ceilings → d ≤ suc (length xs) → d ≤ suc k) → KeepsTurned ceilings leasts ys
    next_keeps none_longer zero u v w = absurd (omega arith)
    next_keeps none_longer (suc d) u v w =
        let l : suc d ≤ suc k = none_longer (suc d) v (omega (arith, length-then xs x)) in
        grown_keeps d (k - d) (length ceilings - suc d) (omega arith) (omega arith)

    -- And the sums are kept.
    pub next_kept : KeptSums ys (suc k) left
    next_kept = record { sum_is = is; small = low }
      where
        is : (d : ℕ) → d ≤ suc k → get_or left (length left - 1 - d) 0 ≡ last ys d
        is zero l =
            left_at (suc k) _ (omega arith) (omega (arith, left_length, P.sums_more))
            ∙ omega (
              arith,
              rw windows at G.none,
              part_at first sums (suc k) (length ceilings) place,
              kept_at 0 (length ceilings) (omega arith) (omega arith),
              last_none xs,
              last_none ys,
            )
        is (suc d) l =
            left_at (k - d) _ (omega arith) (omega (arith, left_length, P.sums_more)) ∙ grown_is d (k - d) (omega arith)

        low : (d : ℕ) → d ≤ suc k → last ys d ≤ sum_limit
        low zero l = omega (arith, last_none ys)
        low (suc d) l =
            omega (
              arith,
              grown_keeps d (k - d) (first + (k - d)) (omega arith) (omega arith),
              P.ceilings_kept (first + (k - d)) (omega arith),
            )

-- ---- count after count
module _ (ceilings leasts xs counts : List ℕ) where
  -- The ticks, and the counts before i behind them.
  abbrev before : ℕ → List ℕ
  before i = xs ++ take i counts

  before-length : (i : ℕ) → i ≤ length counts → length (before i) ≡ length xs + i
  before-length i l = omega (arith, length-append xs (take i counts), length-take-le i counts l)

  before_next : (i : ℕ) → i < length counts → then (before i) (get_or counts i 0) ≡ before (suc i)
  before_next i l = append_assoc xs (take i counts) _ ∙ ap (λ zs. xs ++ zs) (sym (take-suc counts i 0 l))

  -- How many ticks' sums are kept where the longest window that is judged has the place `first`.
  abbrev behind : ℕ → ℕ
  behind first = length ceilings - 1 - first

  -- Before the turn at i.
  pub record Passing (sums : List ℕ) (first i : ℕ) : Type 0 where
    pub place : first ≡ length ceilings - 1 - (length xs + i)
    pub sums_kept : KeptSums (before i) (behind first) sums
    pub keeps : (k : ℕ) → k < i → KeepsTurned ceilings leasts (before (suc k))

  kept_to : (zs zs' sums : List ℕ) (k k' : ℕ) → zs ≡ zs' → k' ≤ k → KeptSums zs k sums → KeptSums zs' k' sums
  kept_to zs zs' sums k k' e l K =
      subst (λ us. KeptSums us k' sums) e
      (record { sum_is = λ d m. K.sum_is d (omega arith); small = λ d m. K.small d (omega arith) })

  module _ (some : 1 ≤ length ceilings) {sums : List ℕ} {first i : ℕ} (p : Passing sums first i) (P : Placed sums ceilings leasts)
      (l : i < length counts) where
    here : first + suc (behind first) ≡ length ceilings
    here = omega (arith, p.place)

    pub passing_placed : Placed (part first sums) (part first ceilings) (part first leasts)
    passing_placed = part_placed sums ceilings leasts (before i) P first (behind first) here p.sums_kept

    pub passing_later : LaterKept (part first sums)
    passing_later = part_later sums ceilings leasts (before i) P first (behind first) here p.sums_kept

    module _ (grown : List ℕ)
        (G : Grown (part first sums) (part first ceilings) (part first leasts) (get_or counts i 0) grown true) where
      held : behind first ≤ length (before i)
      held = omega (arith, p.place, before-length i (omega arith))

      none_longer : (d : ℕ) → d ≤ length ceilings → d ≤ suc (length (before i)) → d ≤ suc (behind first)
      none_longer d u v = omega (arith, p.place, before-length i (omega arith))

      pub passing_length : length (put_mid first (length sums - first) sums grown) ≡ length sums
      passing_length =
          left_length sums ceilings leasts (before i) P first (behind first) here p.sums_kept held (get_or counts i 0) grown G

      pub passing_more : (next : ℕ) → next ≡ first - 1 → Passing (put_mid first (length sums - first) sums grown) next (i + 1)
      passing_more next e =
          record {
            place = omega (arith, p.place);
            sums_kept =
                kept_to _ _ _ _ _ on (omega arith)
                (next_kept sums ceilings leasts (before i) P first (behind first) here p.sums_kept held (get_or counts i 0) grown G);
            keeps =
                below_more (λ k. KeepsTurned ceilings leasts (before (suc k))) i p.keeps
                (subst (KeepsTurned ceilings leasts) (before_next i l)
                (next_keeps sums ceilings leasts (before i) P first (behind first) here p.sums_kept held (get_or counts i 0) grown G
                none_longer));
          }
        where
          on : then (before i) (get_or counts i 0) ≡ before (i + 1)
          on = before_next i l ∙ ap before (sym (add-one i))

  -- ---- all windows are judged: what grows are the sums themselves
  pub passing_grown : 1 ≤ length ceilings → (sums : List ℕ) (i : ℕ) → Passing sums 0 i → Placed sums ceilings leasts → i < length counts
      → (grown : List ℕ) → Grown sums ceilings leasts (get_or counts i 0) grown true → Passing grown 0 (i + 1)
  passing_grown some sums i p P l grown G =
      subst (λ us. Passing us 0 (i + 1)) (put_whole sums grown G.whole)
      (passing_more some p P l grown (rw (part_none sums, part_none ceilings, part_none leasts) G) 0 refl)

  -- From there on the rest of the counts is gone through by the sums alone.
  module _ (sums : List ℕ) (i : ℕ) (p : Passing sums 0 i) where
    pub passing_kept : 1 ≤ length ceilings → Placed sums ceilings leasts → i < length counts → LaterKept sums
    passing_kept some P l = subst LaterKept (part_none sums) (passing_later some p P l)

    -- It is what the counts behind i have, which are behind i of the counts.
    rest_is : (k : ℕ) → before i ++ take (suc k) (part i counts) ≡ before (suc (i + k))
    rest_is k =
        let e : i + suc k ≡ suc (i + k) = omega arith in
        ap (λ ys. before i ++ take (suc k) ys) (part_whole i counts)
        ∙ append_assoc xs (take i counts) (take (suc k) (drop i counts))
        ∙ ap (λ ys. xs ++ ys) (sym (take-add i (suc k) counts) ∙ ap (λ n. take n counts) e)

    pub passing_rest : i < length counts → (n : ℕ) → KeepOn ceilings leasts sums (part i counts) n
        → KeepFirst ceilings leasts xs counts (i + n)
    passing_rest l n on = (omega (arith, rest.0, part_length i counts), go)
      where
        rest : KeepFirst ceilings leasts (before i) (part i counts) n
        rest =
            on (before i) (omega (arith, p.place, before-length i (omega arith)))
            (kept_to (before i) (before i) sums (behind 0) _ refl (omega arith) p.sums_kept)

        go : (k : ℕ) → k < i + n → KeepsTurned ceilings leasts (before (suc k))
        go k h =
            elim (dec_lt k i) [
              | yes f ↦ p.keeps k f
              | no f ↦
                  let e : i + (k - i) ≡ k = omega arith in
                  subst (λ j. KeepsTurned ceilings leasts (before (suc j))) e
                  (subst (KeepsTurned ceilings leasts) (rest_is (k - i)) (rest.1 (k - i) (omega arith)))
            ]

-- ---- after any ticks that have the sums at first
module _ (ceilings leasts first counts : List ℕ) where
  -- The first i counts keep the figures, and the sums are those of the ticks and these counts.
  abbrev pub PassingOn : List ℕ → ℕ → Type 0
  PassingOn sums i =
      (xs : List ℕ) → length ceilings ≤ length xs + 1 → KeptSums xs (length ceilings - 1) first → Passing ceilings leasts xs counts sums 0 i

  module _ (some : 1 ≤ length ceilings) (sums : List ℕ) (i : ℕ) (P : Placed sums ceilings leasts) (p : PassingOn sums i) where
    pub on_more : i < length counts → (grown : List ℕ) → Grown sums ceilings leasts (get_or counts i 0) grown true → PassingOn grown (i + 1)
    on_more l grown G xs long K = passing_grown ceilings leasts xs counts some sums i (p xs long K) P l grown G

    pub on_twice : i + 1 < length counts → LaterKept sums → (grown middle : List ℕ)
        → Grown sums ceilings leasts (get_or counts i 0) middle true → Grown middle ceilings leasts (get_or counts (i + 1) 0) grown true
        → LaterKept grown × PassingOn grown (i + 1 + 1)
    on_twice l K grown middle G H =
        let Q : Placed middle ceilings leasts = placed_same sums middle ceilings leasts G.whole P in (
          later_grown middle ceilings leasts _ grown Q (later_grown sums ceilings leasts _ middle P K G) H,
          λ xs long k.
              passing_grown ceilings leasts xs counts some middle (i + 1) (on_more (omega arith) middle G xs long k) Q l grown H,
        )
