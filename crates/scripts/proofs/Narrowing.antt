-- Laws over plain variables for the limits that windows leave of the next tick's count, and for a tick that is entered.
-- Assumes nothing.
use Rattle.laws.proofs.Base.{ℕ, zero, suc, ◌+◌, ◌-◌, ◌≤◌, ◌<◌, min, max, ◌≡◌, refl, sym, ap, ◌∙◌, List, ◌++◌, ◌↔◌}
use Rattle.laws.proofs.Base.{add-one, arith, below_none, below_more, length, get_or, take, drop, length-drop, get_or-drop}
use Rattle.laws.proofs.Base.{list_get_or-append, length-take-le}
use lib.ListN.{length-take}
use lib.Seq.{get_or-take, get_or-append-add}
use borrow.Rule.Slice.PartMut.{put_mid, post_of, same_len_mid}
use Rattle.laws.proofs.Table.{Filled, later}
use Rattle.curves.specs.Ticks.{then, last}
use Rattle.curves.proofs.NextTick.{last_none, last_parts, length-then, last_next}
use Rattle.scripts.specs.Steps.{sum_limit, KeptSums, Signed, Raised, FiguresRaised, Narrowed, Ready, Entering, Entered}
use Rattle.scripts.proofs.Adding.{filled_entry}

-- ---- limits, window after window
module _ (u l s : ℕ → ℕ) (lo₀ hi₀ : ℕ) where
  pub narrowed_none : Narrowed u l s lo₀ hi₀ 0 lo₀ hi₀
  narrowed_none =
      record {
        lowest = λ y. ((λ h. (h, below_none _)), λ h. h.0);
        highest = λ y. ((λ h. (h, below_none _)), λ h. h.0);
      }

  module _ (n lo hi : ℕ) (N : Narrowed u l s lo₀ hi₀ n lo hi) where
    -- No larger than all that they are found from.
    pub narrowed_lo : (m : ℕ) → lo₀ ≤ m → ((j : ℕ) → j < n → l j ≤ m) → lo ≤ m
    narrowed_lo m h all = (N.lowest m).1 (h, λ j q. omega (arith, all j q))

    pub narrowed_hi : hi ≤ hi₀
    narrowed_hi = ((N.highest hi).0 (omega arith)).0

    -- A turn. The sum is not above the ceiling, so nothing is cut off.
    pub narrowed_more : (lo' hi' : ℕ) → s n ≤ u n → lo' ≡ max lo (l n - s n) → hi' ≡ min hi (u n - s n)
        → Narrowed u l s lo₀ hi₀ (n + 1) lo' hi'
    narrowed_more lo' hi' c e f = record { lowest = λ y. (low y, low_back y); highest = λ y. (high y, high_back y) }
      where
        low : (y : ℕ) → lo' ≤ y → (lo₀ ≤ y) × ((j : ℕ) → j < n + 1 → l j ≤ y + s j)
        low y h =
            let (a, all) = (N.lowest y).0 (omega arith) in (a, below_more (λ j. l j ≤ y + s j) n all (omega arith))

        low_back : (y : ℕ) → (lo₀ ≤ y) × ((j : ℕ) → j < n + 1 → l j ≤ y + s j) → lo' ≤ y
        low_back y (a, all) = omega (arith, (N.lowest y).1 (a, λ j q. all j (omega arith)), all n (omega arith))

        high : (y : ℕ) → y ≤ hi' → (y ≤ hi₀) × ((j : ℕ) → j < n + 1 → y + s j ≤ u j)
        high y h =
            let (a, all) = (N.highest y).0 (omega arith) in (a, below_more (λ j. y + s j ≤ u j) n all (omega arith))

        high_back : (y : ℕ) → (y ≤ hi₀) × ((j : ℕ) → j < n + 1 → y + s j ≤ u j) → y ≤ hi'
        high_back y (a, all) = omega (arith, (N.highest y).1 (a, λ j q. all j (omega arith)), all n (omega arith))

-- What is known in a turn: the sum s, the least l and the ceiling u of its window, and the limits.
pub record Turn (s l u lo hi : ℕ) : Type 0 where
  pub small : s ≤ sum_limit
  pub least : Raised l
  pub ceiling : Raised u
  pub lo_small : Signed lo
  pub hi_small : Signed hi

pub turn_at : (u l s : ℕ → ℕ) (lo₀ hi₀ n lo hi : ℕ) → Narrowed u l s lo₀ hi₀ n lo hi → Signed lo₀ → Signed hi₀
    → ((j : ℕ) → j < n + 1 → Raised (l j)) → Raised (u n) → s n ≤ sum_limit → Turn (s n) (l n) (u n) lo hi
turn_at u l s lo₀ hi₀ n lo hi N a b ls us small =
    record {
      small = small;
      least = ls n (omega arith);
      ceiling = us;
      lo_small =
          omega (arith, narrowed_lo u l s lo₀ hi₀ n lo hi N 2_147_483_647 (omega arith) (λ j q. omega (arith, (ls j (omega arith)).1)));
      hi_small = omega (arith, narrowed_hi u l s lo₀ hi₀ n lo hi N);
    }

-- In whatever order they were gone through: the turn j was for the window `of j`, and that for the window j was `of j`.
pub record Order (u l s U L S of : ℕ → ℕ) (k j : ℕ) : Type 0 where
  pub among : of j < k
  pub back : of (of j) ≡ j
  pub ceiling : u j ≡ U (suc (of j))
  pub least : l j ≡ L (suc (of j))
  pub sum : s j ≡ S (suc (of j))

module _ (u l s U L S of : ℕ → ℕ) (k lo₀ hi₀ lo hi : ℕ) (a : lo₀ ≡ L 0) (b : hi₀ ≡ U 0) (z : S 0 ≡ 0)
    (o : (j : ℕ) → j < k → Order u l s U L S of k j) (N : Narrowed u l s lo₀ hi₀ k lo hi) where
  pub lowest_of : (y : ℕ) → (lo ≤ y) ↔ ((d : ℕ) → d ≤ k → L d ≤ y + S d)
  lowest_of y = ((λ h. there ((N.lowest y).0 h)), λ h. (N.lowest y).1 (omega (arith, h 0 (omega arith)), back h))
    where
      there : (lo₀ ≤ y) × ((j : ℕ) → j < k → l j ≤ y + s j) → (d : ℕ) → d ≤ k → L d ≤ y + S d
      there (c, all) zero q = omega arith
      there (c, all) (suc d) q =
          let r = o d q in
          let t = o (of d) r.among in
          omega (arith, all (of d) r.among, t.least, t.sum, ap (λ i. L (suc i)) r.back, ap (λ i. S (suc i)) r.back)

      back : ((d : ℕ) → d ≤ k → L d ≤ y + S d) → (j : ℕ) → j < k → l j ≤ y + s j
      back h j q = let r = o j q in omega (arith, h (suc (of j)) r.among, r.least, r.sum)

  pub highest_of : (y : ℕ) → (y ≤ hi) ↔ ((d : ℕ) → d ≤ k → y + S d ≤ U d)
  highest_of y = ((λ h. there ((N.highest y).0 h)), λ h. (N.highest y).1 (omega (arith, h 0 (omega arith)), back h))
    where
      there : (y ≤ hi₀) × ((j : ℕ) → j < k → y + s j ≤ u j) → (d : ℕ) → d ≤ k → y + S d ≤ U d
      there (c, all) zero q = omega arith
      there (c, all) (suc d) q =
          let r = o d q in
          let t = o (of d) r.among in
          omega (arith, all (of d) r.among, t.ceiling, t.sum, ap (λ i. U (suc i)) r.back, ap (λ i. S (suc i)) r.back)

      back : ((d : ℕ) → d ≤ k → y + S d ≤ U d) → (j : ℕ) → j < k → y + s j ≤ u j
      back h j q = let r = o j q in omega (arith, h (suc (of j)) r.among, r.ceiling, r.sum)

-- ---- the limits after some ticks
-- The figure of d + 1 ticks, of h figures turned round.
abbrev figure_of : ℕ → List ℕ → ℕ → ℕ
figure_of h figures d = get_or figures (h - 1 - d) 0

one_at : (h : ℕ) (figures : List ℕ) → get_or figures (h - 1) 0 ≡ figure_of h figures 0
one_at h figures = let e : h - 1 ≡ h - 1 - 0 = omega arith in ap (λ i. get_or figures i 0) e

module _ (cs ls xs sums : List ℕ) (some : 1 ≤ length cs) (more : length sums ≡ length cs + 1) where
  abbrev h : ℕ
  h = length cs

  -- The turn j of the loop over all windows is for that of j + 2 ticks.
  abbrev pub longer_at : List ℕ → ℕ → ℕ
  longer_at figures j = get_or figures (h - 2 - j) 0

  abbrev pub sum_of : ℕ → ℕ
  sum_of j = get_or sums (h - 1 - j) 0

  longer_at_lem : (figures : List ℕ) (j : ℕ) → longer_at figures j ≡ figure_of h figures (suc j)
  longer_at_lem figures j = let e : h - 2 - j ≡ h - 1 - suc j = omega arith in ap (λ i. get_or figures i 0) e

  sum_of_lem : (k : ℕ) → KeptSums xs k sums → (j : ℕ) → j < k → sum_of j ≡ last xs (suc j)
  sum_of_lem k K j q =
      let e : h - 1 - j ≡ length sums - 1 - suc j = omega arith in ap (λ i. get_or sums i 0) e ∙ K.sum_is (suc j) q

  pub sum_small : (k : ℕ) → KeptSums xs k sums → (j : ℕ) → j < k → sum_of j ≤ sum_limit
  sum_small k K j q = omega (arith, sum_of_lem k K j q, K.small (suc j) q)

  pub ready_turn : (k lo hi : ℕ) → KeptSums xs k sums → FiguresRaised cs ls → (d : ℕ)
      → Narrowed (longer_at cs) (longer_at ls) sum_of (get_or ls (h - 1) 0) (get_or cs (h - 1) 0) d lo hi → d < k
      → Turn (sum_of d) (longer_at ls d) (longer_at cs d) lo hi
  ready_turn k lo hi K F d N l =
      turn_at _ _ _ _ _ d _ _ N (F.leasts_raised (h - 1) (omega arith)).1 (F.ceilings_raised (h - 1) (omega arith)).1
      (λ j q. F.leasts_raised (h - 2 - j) (omega arith)) (F.ceilings_raised (h - 2 - d) (omega arith)) (sum_small k K d l)

  pub ready_first : (lo hi : ℕ) → length xs < length cs → KeptSums xs (length xs) sums
      → Narrowed (longer_at cs) (longer_at ls) sum_of (get_or ls (h - 1) 0) (get_or cs (h - 1) 0) (length xs) lo hi
      → Ready cs ls xs (length xs) sums lo hi
  ready_first lo hi few K N =
      record {
        sums_more = more;
        held = omega arith;
        kept = K;
        lowest =
            lowest_of _ _ _ (figure_of h cs) (figure_of h ls) (last xs) (λ j. j) (length xs) _ _ lo hi
            (one_at h ls) (one_at h cs) (last_none xs) order N;
        highest =
            highest_of _ _ _ (figure_of h cs) (figure_of h ls) (last xs) (λ j. j) (length xs) _ _ lo hi
            (one_at h ls) (one_at h cs) (last_none xs) order N;
      }
    where
      order : (j : ℕ) → j < length xs
          → Order (longer_at cs) (longer_at ls) sum_of (figure_of h cs) (figure_of h ls) (last xs) (λ j. j) (length xs) j
      order j q =
          record {
            among = q;
            back = refl;
            ceiling = longer_at_lem cs j;
            least = longer_at_lem ls j;
            sum = sum_of_lem (length xs) K j q;
          }

module _ (cs ls xs sums : List ℕ) (k lo hi : ℕ) (F : FiguresRaised cs ls) (Y : Ready cs ls xs k sums lo hi) where
  -- The first window bounds both.
  pub lo_raised : sum_limit ≤ lo
  lo_raised =
      let r = F.leasts_raised (length cs - 1 - 0) (omega (arith, F.some)) in
      omega (arith, (Y.lowest lo).0 (omega arith) 0 (omega arith), last_none xs)

  pub hi_signed : Signed hi
  hi_signed =
      let r = F.ceilings_raised (length cs - 1 - 0) (omega (arith, F.some)) in
      omega (arith, (Y.highest hi).0 (omega arith) 0 (omega arith), last_none xs)

  -- The sum of all ticks that are held.
  pub sum_of_all : (first : ℕ) → first ≤ length cs → k ≡ length cs - first → get_or sums first 0 ≡ last xs k
  sum_of_all first l e =
      let p : first ≡ length sums - 1 - k = omega (arith, Y.sums_more) in ap (λ i. get_or sums i 0) p ∙ Y.kept.sum_is k (omega arith)

  pub sum_of_all_small : (first : ℕ) → first ≤ length cs → k ≡ length cs - first → get_or sums first 0 ≤ sum_limit
  sum_of_all_small first l e = omega (arith, sum_of_all first l e, Y.kept.small k (omega arith))

-- ---- a tick is entered
-- The sum that a turn reads is still as found.
pub sum_found : (sums grown : List ℕ) (x i : ℕ) → Filled (λ d. get_or sums d 0 + x) sums grown i
    → get_or grown (i + 1) 0 + x ≡ get_or sums (i + 1) 0 + x
sum_found sums grown x i t = ap (λ s. s + x) (later t (i + 1) (omega arith))

-- And so what is known in the turn.
pub entering_turn : (sums grown cs ls : List ℕ) (x lo₀ hi₀ lo hi i : ℕ) → Filled (λ d. get_or sums d 0 + x) sums grown i
    → Narrowed (λ j. get_or cs j 0) (λ j. get_or ls j 0) (λ j. get_or sums (j + 1) 0 + x) lo₀ hi₀ i lo hi
    → Entering sums cs ls x lo₀ hi₀ → i < length cs → Turn (get_or grown (i + 1) 0 + x) (get_or ls i 0) (get_or cs i 0) lo hi
entering_turn sums grown cs ls x lo₀ hi₀ lo hi i t N E l =
    rw (sum_found sums grown x i t)
    (turn_at _ _ _ _ _ i _ _ N E.lo_signed E.hi_signed (λ j q. E.leasts_raised j (omega arith)) (E.ceilings_raised i l) (E.small i l))

-- The part of a list from the place s on, n entries long.
part_at : (s n : ℕ) (xs : List ℕ) (j : ℕ) → j < n → get_or (take n (drop s xs)) j 0 ≡ get_or xs (s + j) 0
part_at s n xs j q = get_or-take n (drop s xs) j 0 q ∙ get_or-drop s xs j 0

part_length : (s n : ℕ) (xs : List ℕ) → s + n ≤ length xs → length (take n (drop s xs)) ≡ n
part_length s n xs q = omega (arith, length-take n (drop s xs), length-drop s xs)

-- An entry of a list whose part from the place s on is replaced.
put_at : (s n : ℕ) (xs ys : List ℕ) (i : ℕ) → s ≤ length xs → s ≤ i → i < s + length ys → get_or (put_mid s n xs ys) i 0 ≡ get_or ys (i - s) 0
put_at s n xs ys i l q r =
    let k : length (take s xs) + (i - s) ≡ i = omega (arith, length-take-le s xs l) in
    rw k at (get_or-append-add (take s xs) (ys ++ post_of s n xs) (i - s) 0) ∙ list_get_or-append ys _ 0 (i - s) (omega arith)

-- A window is no less than a shorter one.
last_below : (xs : List ℕ) (b d : ℕ) → b ≤ d → d ≤ length xs → last xs b ≤ last xs d
last_below xs b d q l = omega (arith, last_parts xs (d - b) b d (omega arith) l)

pub entered_all : (sums cs ls grown : List ℕ) (x lo₀ hi₀ n lo hi : ℕ) → n ≡ length cs
    → Filled (λ d. get_or sums d 0 + x) sums grown n
    → Narrowed (λ i. get_or cs i 0) (λ i. get_or ls i 0) (λ i. get_or sums (i + 1) 0 + x) lo₀ hi₀ n lo hi
    → Entered sums cs ls x lo₀ hi₀ grown lo hi
entered_all sums cs ls grown x lo₀ hi₀ n lo hi e t N =
    record {
      whole = t.whole;
      next = λ i l. filled_entry t i (omega arith) ∙ ap (λ d. get_or sums d 0 + x) (sym (add-one i));
      none = later t (length cs) (omega arith);
      narrowed = rw e at N;
    }

-- Places of the part, counted from its end.
place_of : (h m first d : ℕ) → m ≡ h + 1 → first ≤ h → d ≤ h - first → m - 1 - d ≡ first + (h - first - d)
place_of h m first d e l q = omega arith

before_end : (first n d m : ℕ) → m ≡ n + 1 → first + (n - d) < first + m
before_end first n d m e = omega arith

add_back : (first m : ℕ) → first + m - first ≡ m
add_back first m = omega arith

turned_round : (n j : ℕ) → j < n → (n - 1 - j < n) × (n - 1 - (n - 1 - j) ≡ j) × (j + suc (n - 1 - j) ≡ n)
turned_round n j q = (omega arith, omega arith, omega arith)

figure_place : (h first j : ℕ) → 1 ≤ first → first ≤ h → j < h - first → first - 1 + j ≡ h - 1 - suc (h - first - 1 - j)
figure_place h first j u l q = omega arith

-- The sums from the place `first` on are entered: those of up to h - first ticks.
module _ (cs ls xs sums : List ℕ) (k lo hi : ℕ) (F : FiguresRaised cs ls) (Y : Ready cs ls xs k sums lo hi) (x first : ℕ)
    (one : 1 ≤ first) (in_List : first ≤ length cs) (few : length cs - first ≡ min (length cs - 1) (suc (length xs)))
    (fits : last xs k + x ≤ sum_limit) where
  abbrev n : ℕ
  n = length cs - first

  abbrev part : List ℕ
  part = take (length cs + 1 - first) (drop first sums)

  abbrev figures : List ℕ → List ℕ
  figures us = take (length cs - 1 - (first - 1)) (drop (first - 1) us)

  reached : (d : ℕ) → d < n → (d ≤ k) × (d ≤ length xs)
  reached d q = (omega (arith, Y.held), omega arith)

  figures-length : (us : List ℕ) → length us ≡ length cs → length (figures us) ≡ n
  figures-length us e = omega (arith, part_length (first - 1) (length cs - 1 - (first - 1)) us (omega arith))

  sums_length : length part ≡ n + 1
  sums_length = omega (arith, part_length first (length cs + 1 - first) sums (omega (arith, Y.sums_more)))

  figures_at : (us : List ℕ) (j : ℕ) → j < n → get_or (figures us) j 0 ≡ get_or us (first - 1 + j) 0
  figures_at us j q = part_at (first - 1) (length cs - 1 - (first - 1)) us j (omega arith)

  -- The sum of d ticks stands at the place n - d of the part.
  part_sum : (j d : ℕ) → j + d ≡ n → d ≤ k → get_or part j 0 ≡ last xs d
  part_sum j d e q =
      let p : first + j ≡ length sums - 1 - d = omega (arith, Y.sums_more) in
      part_at first (length cs + 1 - first) sums j (omega arith) ∙ ap (λ i. get_or sums i 0) p ∙ Y.kept.sum_is d q

  next_sum : (j d : ℕ) → j + suc d ≡ n → get_or part (j + 1) 0 + x ≡ last xs d + x
  next_sum j d e = ap (λ s. s + x) (part_sum (j + 1) d (omega arith) (reached d (omega arith)).0)

  next_small : (d : ℕ) → d < n → last xs d + x ≤ sum_limit
  next_small d q = omega (arith, last_below xs d k (reached d q).0 (omega (arith, Y.held)))

  pub entering : Entering part (figures cs) (figures ls) x (get_or ls (length cs - 1) 0) (get_or cs (length cs - 1) 0)
  entering =
      let many = figures-length cs refl in
      record {
        sums_more = omega (arith, many, sums_length);
        leasts_same = omega (arith, many, figures-length ls F.leasts_same);
        small = λ i q.
            omega (arith, many, next_sum i (n - suc i) (omega (arith, many)), next_small (n - suc i) (omega (arith, many)));
        ceilings_raised = λ i q. rw (figures_at cs i (omega (arith, many))) (F.ceilings_raised (first - 1 + i) (omega (arith, many)));
        leasts_raised = λ i q. rw (figures_at ls i (omega (arith, many))) (F.leasts_raised (first - 1 + i) (omega (arith, many)));
        lo_signed = (F.leasts_raised (length cs - 1) (omega arith)).1;
        hi_signed = (F.ceilings_raised (length cs - 1) (omega arith)).1;
      }

  module _ (grown : List ℕ) (lo' hi' : ℕ)
      (E : Entered part (figures cs) (figures ls) x (get_or ls (length cs - 1) 0) (get_or cs (length cs - 1) 0) grown lo' hi') where
    abbrev ys : List ℕ
    ys = then xs x

    abbrev after : List ℕ
    after = put_mid first (length cs + 1 - first) sums grown

    after-length : length after ≡ length sums
    after-length = same_len_mid first (length cs + 1 - first) sums grown E.whole

    summed : (d : ℕ) → d ≤ n → get_or grown (n - d) 0 ≡ last ys d
    summed zero q =
        let p : n - 0 ≡ length (figures cs) = omega (arith, figures-length cs refl) in
        ap (λ i. get_or grown i 0) p ∙ E.none ∙ part_sum (length (figures cs)) 0 (omega (arith, figures-length cs refl)) (omega arith)
        ∙ last_none xs ∙ sym (last_none ys)
    summed (suc d) q =
        E.next (n - suc d) (omega (arith, figures-length cs refl))
        ∙ next_sum (n - suc d) d (omega arith)
        ∙ sym (last_next xs x d (reached d q).1)

    kept_next : KeptSums ys n after
    kept_next = record { sum_is = is; small = low }
      where
        is : (d : ℕ) → d ≤ n → get_or after (length after - 1 - d) 0 ≡ last ys d
        is d q =
            let p = place_of (length cs) (length after) first d (after-length ∙ Y.sums_more) in_List q in
            let r = add_back first (n - d) in
            ap (λ i. get_or after i 0) p
            ∙ put_at first (length cs + 1 - first) sums grown (first + (n - d)) (omega (arith, Y.sums_more)) (omega arith)
            (before_end first n d (length grown) (E.whole ∙ sums_length))
            ∙ ap (λ i. get_or grown i 0) r
            ∙ summed d q

        low : (d : ℕ) → d ≤ n → last ys d ≤ sum_limit
        low zero q = omega (arith, last_none ys)
        low (suc d) q = omega (arith, last_next xs x d (reached d q).1, next_small d q)

    abbrev of : ℕ → ℕ
    of j = n - 1 - j

    order : (j : ℕ) → j < n
        → Order (λ i. get_or (figures cs) i 0) (λ i. get_or (figures ls) i 0) (λ i. get_or part (i + 1) 0 + x) (figure_of (length cs) cs)
        (figure_of (length cs) ls) (last ys) of n j
    order j q =
        let p = figure_place (length cs) first j one in_List q in
        let (among, back, place) = turned_round n j q in
        record {
          among = among;
          back = back;
          ceiling = figures_at cs j q ∙ ap (λ i. get_or cs i 0) p;
          least = figures_at ls j q ∙ ap (λ i. get_or ls i 0) p;
          sum = next_sum j (of j) place ∙ sym (last_next xs x (of j) (reached (of j) among).1);
        }

    N : Narrowed (λ i. get_or (figures cs) i 0) (λ i. get_or (figures ls) i 0) (λ i. get_or part (i + 1) 0 + x)
        (get_or ls (length cs - 1) 0) (get_or cs (length cs - 1) 0) n lo' hi'
    N = rw (figures-length cs refl) at E.narrowed

    pub ready_next : Ready cs ls ys n after lo' hi'
    ready_next =
        let h : ℕ = length cs in
        record {
          sums_more = after-length ∙ Y.sums_more;
          held = omega (arith, length-then xs x);
          kept = kept_next;
          lowest =
              lowest_of _ _ _ (figure_of h cs) (figure_of h ls) (last ys) of n _ _ lo' hi' (one_at h ls) (one_at h cs)
              (last_none ys) order N;
          highest =
              highest_of _ _ _ (figure_of h cs) (figure_of h ls) (last ys) of n _ _ lo' hi' (one_at h ls) (one_at h cs)
              (last_none ys) order N;
        }
