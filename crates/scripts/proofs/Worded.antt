-- Words: what is read of them after other held ticks and another failed mark have been written. Assumes nothing.
use Rattle.laws.proofs.Base.{ℕ, zero, suc, ◌+◌, ◌-◌, ◌≤◌, ◌<◌, ◌≡◌, refl, sym, ap, ◌∙◌, Bool, true, false, List, [], ◌∷◌, ◌++◌, arith}
use Rattle.laws.proofs.Base.{length, get_or, set, sets, take, drop, length-set, length-drop, length-take-le, ext_get_or, get_or-drop, dec_lt}
use Rattle.laws.proofs.Base.{lt-ltb}
use Rattle.laws.proofs.Base.{append_assoc, take_all}
use Rattle.laws.specs.Writing.{over}
use lib.ListN.{take-append-drop}
use borrow.Rule.Slice.PartMut.{mid_of, put_mid}
use lib.Seq.{get_or-take, get_or-set_same, get_or-set_other, length-sets, take-take, set-set, set_comm, set-append_left, take-set-lt}
use lib.Seq.{drop-set-lt}
use lib.Seq.{drop-append-le, drop-drop, sets-eq}
use Rattle.curves.specs.Pairs.{pair_of}
use Rattle.curves.specs.Ticks.{newest}
use Rattle.history.specs.States.{View, entries, history_of, view_of}
use Rattle.history.specs.Steps.{view_with}
use Rattle.history.proofs.Histories.{Sizes, entries-take}
use Rattle.lists.specs.Pushing.{held_with_all, PushedAll}
use Rattle.scripts.specs.Runs.{held_after}
use Rattle.monitor.specs.Monitoring.{MonitorView, monitor_view, closed_in, monitor_view_of}
use Rattle.scripts.specs.Words.{mark_from, word, part, history_from, monitor_from, generator_words, monitor_words, with_held, failed_word}
use Rattle.scripts.specs.Words.{monitor_left}

-- ---- entries put into a list from a place on
pub sets-before : (vs l : List ℕ) (i j : ℕ) → j < i → get_or (sets l i vs) j 0 ≡ get_or l j 0
sets-before [] l i j h = refl
sets-before (a ∷ vs) l i j h =
    sets-before vs (set l i a) (suc i) j (omega arith) ∙ get_or-set_other l i j a 0 (λ e. omega arith)

pub sets-after : (vs l : List ℕ) (i j : ℕ) → i + length vs ≤ j → get_or (sets l i vs) j 0 ≡ get_or l j 0
sets-after [] l i j h = refl
sets-after (a ∷ vs) l i j h =
    sets-after vs (set l i a) (suc i) j (omega arith) ∙ get_or-set_other l i j a 0 (λ e. omega arith)

pub sets_inside : (vs l : List ℕ) (i j : ℕ) → i + length vs ≤ length l → j < length vs → get_or (sets l i vs) (i + j) 0 ≡ get_or vs j 0
sets_inside [] l i j h k = absurd (omega arith)
sets_inside (a ∷ vs) l i zero h k =
    ap (λ m. get_or (sets (set l i a) (suc i) vs) m 0) (omega arith)
    ∙ sets-before vs (set l i a) (suc i) i (omega arith)
    ∙ get_or-set_same l i a 0 (omega arith)
sets_inside (a ∷ vs) l i (suc j) h k =
    ap (λ m. get_or (sets (set l i a) (suc i) vs) m 0) (omega arith)
    ∙ sets_inside vs (set l i a) (suc i) j (omega (arith, length-set l i a)) (omega arith)

-- An entry behind them can be written before or after.
pub sets-set : (vs l : List ℕ) (i k a : ℕ) → i + length vs ≤ k → sets (set l k a) i vs ≡ set (sets l i vs) k a
sets-set [] l i k a h = refl
sets-set (v ∷ vs) l i k a h =
    ap (λ t. sets t (suc i) vs) (set_comm l k i a v (λ e. omega arith)) ∙ sets-set vs (set l i v) (suc i) k a (omega arith)

-- ---- parts of a list
pub part_length : (k n : ℕ) (ws : List ℕ) → k + n ≤ length ws → length (part k n ws) ≡ n
part_length k n ws h = length-take-le n (drop k ws) (omega (arith, length-drop k ws))

pub part_at : (k n j : ℕ) (ws : List ℕ) → j < n → get_or (part k n ws) j 0 ≡ word (k + j) ws
part_at k n j ws h = get_or-take n (drop k ws) j 0 h ∙ get_or-drop k ws j 0

pub part_same : (k n : ℕ) (ws ws' : List ℕ) → length ws ≡ length ws' → k + n ≤ length ws
    → ((j : ℕ) → k ≤ j → j < k + n → word j ws ≡ word j ws') → part k n ws ≡ part k n ws'
part_same k n ws ws' e h same =
    let l : length (part k n ws) ≡ n = part_length k n ws h in
    ext_get_or 0 (part k n ws) (part k n ws') (l ∙ sym (part_length k n ws' (omega arith)))
    (λ j q.
    let r : j < n = omega arith in
    part_at k n j ws r ∙ same (k + j) (omega arith) (omega arith) ∙ sym (part_at k n j ws' r))

-- The first m entries of a part, as a state's view has them.
pub part_entries : (k n m : ℕ) (ws : List ℕ) → k + n ≤ length ws → m ≤ n → entries m (part k n ws) ≡ part k m ws
part_entries k n m ws h l =
    entries-take m (part k n ws) (omega (arith, part_length k n ws h)) ∙ take-take m n (drop k ws) l

-- ---- other held ticks
module _ (ws xs : List ℕ) (long : generator_words ≤ length ws) (few : length xs ≤ 256) where
  pub held-length : length (with_held ws xs) ≡ length ws
  held-length = length-sets ws 514 (length xs ∷ xs)

  pub held_before : (j : ℕ) → j < 514 → word j (with_held ws xs) ≡ word j ws
  held_before j h = sets-before (length xs ∷ xs) ws 514 j h

  pub held_after_lem : (j : ℕ) → 515 + length xs ≤ j → word j (with_held ws xs) ≡ word j ws
  held_after_lem j h = sets-after (length xs ∷ xs) ws 514 j (omega arith)

  pub held_number : word 514 (with_held ws xs) ≡ length xs
  held_number = sets_inside (length xs ∷ xs) ws 514 0 (omega arith) (omega arith)

  pub held_tick : (j : ℕ) → j < length xs → word (515 + j) (with_held ws xs) ≡ get_or xs j 0
  held_tick j h =
      ap (λ m. word m (with_held ws xs)) (omega arith) ∙ sets_inside (length xs ∷ xs) ws 514 (suc j) (omega arith) (omega arith)

  pub held_ticks : entries (word 514 (with_held ws xs)) (part 515 256 (with_held ws xs)) ≡ xs
  held_ticks =
      ap (λ n. entries n (part 515 256 (with_held ws xs))) held_number
      ∙ part_entries 515 256 (length xs) (with_held ws xs) (omega (arith, held-length)) few
      ∙ (let l : length (part 515 (length xs) (with_held ws xs)) ≡ length xs =
      part_length 515 (length xs) (with_held ws xs) (omega (arith, held-length)) in
      ext_get_or 0 (part 515 (length xs) (with_held ws xs)) xs l
      (λ j q.
      let r : j < length xs = omega arith in
      part_at 515 (length xs) j (with_held ws xs) r ∙ held_tick j r))

  -- The view with them.
  abbrev with : View
  with = record { pair = (view_of (history_from ws)).pair; held = xs }

  pub held_view : view_of (history_from (with_held ws xs)) ≡ with
  held_view =
      let before : (k n : ℕ) → k + n ≤ 514 → part k n (with_held ws xs) ≡ part k n ws =
      (λ k n h. part_same k n (with_held ws xs) ws held-length (omega (arith, held-length)) (λ j p q. held_before j (omega arith))) in
      λ i. view_with
      (entries (held_before 0 (omega arith) i) (before 2 256 (omega arith) i))
      (entries (held_before 0 (omega arith) i) (before 258 256 (omega arith) i))
      (mark_from (held_before 1 (omega arith) i))
      (held_ticks i)

-- Written a second time, with no fewer: the first have left nothing.
pub held_held : (ws xs ys : List ℕ) → generator_words ≤ length ws → length ys ≤ 256 → length xs ≤ length ys
    → with_held (with_held ws xs) ys ≡ with_held ws ys
held_held ws xs ys long few l =
    ext_get_or 0 (with_held first ys) (with_held ws ys) (held-length first ys long_too few ∙ e ∙ sym (held-length ws ys long few)) (λ j _. at j)
  where
    first : List ℕ
    first = with_held ws xs

    e : length first ≡ length ws
    e = held-length ws xs long (omega arith)

    long_too : generator_words ≤ length first
    long_too = omega (arith, e)

    -- Inside, counted from the place of the number.
    inside : (j : ℕ) → j < suc (length ys) → word (514 + j) (with_held first ys) ≡ word (514 + j) (with_held ws ys)
    inside j h =
        sets_inside (length ys ∷ ys) first 514 j (omega (arith, long_too)) h ∙ sym (sets_inside (length ys ∷ ys) ws 514 j (omega arith) h)

    at : (j : ℕ) → word j (with_held first ys) ≡ word j (with_held ws ys)
    at j =
        elim (dec_lt j 514) [
          | yes h ↦
              held_before first ys long_too few j h ∙ held_before ws xs long (omega arith) j h ∙ sym (held_before ws ys long few j h)
          | no h ↦
              elim (dec_lt j (515 + length ys)) [
                | yes k ↦
                    let m : 514 + (j - 514) ≡ j = omega arith in
                    ap (λ n. word n (with_held first ys)) (sym m) ∙ inside (j - 514) (omega arith) ∙ ap (λ n. word n (with_held ws ys)) m
                | no k ↦
                    held_after_lem first ys long_too few j (omega arith)
                    ∙ held_after_lem ws xs long (omega arith) j (omega arith)
                    ∙ sym (held_after_lem ws ys long few j (omega arith))
              ]
        ]

-- ---- a monitor's words
module _ (ws : List ℕ) (w : MonitorView) (long : length ws ≡ monitor_words) (few : length w.view.held ≤ 256) where
  abbrev left : List ℕ
  left = monitor_left ws w

  abbrev middle : List ℕ
  middle = with_held ws w.view.held

  pub enough : generator_words ≤ length ws
  enough = omega arith

  pub left_length : length left ≡ monitor_words
  left_length =
      length-set middle 1_283 (failed_word (word 1_283 ws) w.failed) ∙ held-length ws w.view.held enough few ∙ long

  left_failed : word 1_283 left ≡ failed_word (word 1_283 ws) w.failed
  left_failed = get_or-set_same middle 1_283 _ 0 (omega (arith, held-length ws w.view.held enough few))

  left_other : (j : ℕ) → ¬ (j ≡ 1_283) → word j left ≡ word j middle
  left_other j n = get_or-set_other middle 1_283 j (failed_word (word 1_283 ws) w.failed) 0 n

  left_part : (k n : ℕ) → k + n ≤ 1_283 → part k n left ≡ part k n middle
  left_part k n h =
      part_same k n left middle (left_length ∙ sym (held-length ws w.view.held enough few ∙ long)) (omega (arith, left_length))
      (λ j p q. left_other j (λ e. omega arith))

  -- The history is that with the held ticks.
  left_history : history_from left ≡ history_from middle
  left_history =
      λ i. history_of (left_other 0 (λ e. omega arith) i) (left_part 2 256 (omega arith) i) (left_part 258 256 (omega arith) i)
      (mark_from (left_other 1 (λ e. omega arith) i)) (left_other 514 (λ e. omega arith) i) (left_part 515 256 (omega arith) i)

  left_closed : (k : ℕ) → 771 ≤ k → k + 256 ≤ 1_283 → part k 256 left ≡ part k 256 ws
  left_closed k g h =
      left_part k 256 h
      ∙ part_same k 256 middle ws (held-length ws w.view.held enough few) (omega (arith, held-length ws w.view.held enough few))
      (λ j p q. held_after_lem ws w.view.held enough few j (omega arith))

  pub left_view : monitor_view_of (monitor_from left)
      ≡ monitor_view (with ws w.view.held enough few) (monitor_view_of (monitor_from ws)).closed
      (mark_from (failed_word (word 1_283 ws) w.failed))
  left_view =
      let v : view_of (history_from left) ≡ with ws w.view.held enough few =
      ap view_of left_history ∙ held_view ws w.view.held enough few in
      let h : word 0 left ≡ word 0 ws = left_other 0 (λ e. omega arith) ∙ held_before ws w.view.held enough few 0 (omega arith) in
      λ i. monitor_view (v i)
      (closed_in (v i).pair (pair_of (entries (h i) (left_closed 771 (omega arith) (omega arith) i))
      (entries (h i) (left_closed 1_027 (omega arith) (omega arith) i))))
      (mark_from (left_failed i))

-- The failed mark: one that is set stays set.
pub failed_mark : (n : ℕ) (b : Bool) → (mark_from n ≡ true → b ≡ true) → mark_from (failed_word n b) ≡ b
failed_mark zero true h = refl
failed_mark zero false h = refl
failed_mark (suc n) b h = let set : mark_from (suc n) ≡ true = lt-ltb 0 (suc n) (omega arith) in set ∙ sym (h set)

pub failed_failed : (n : ℕ) (a b : Bool) → (a ≡ true → b ≡ true) → failed_word (failed_word n a) b ≡ failed_word n b
failed_failed zero true true h = refl
failed_failed zero true false h = let z : ◌≡◌ {A = ℕ} 0 1 = cc (h refl) in absurd (omega arith)
failed_failed zero false b h = refl
failed_failed (suc n) a b h = refl

-- Written a second time.
pub left_left : (ws : List ℕ) (w w' : MonitorView) → length ws ≡ monitor_words → length w'.view.held ≤ 256
    → length w.view.held ≤ length w'.view.held → (w.failed ≡ true → w'.failed ≡ true)
    → monitor_left (monitor_left ws w) w' ≡ monitor_left ws w'
left_left ws w w' long few more fails =
    ap (λ n. set (with_held (set mid 1_283 a) ys) 1_283 n)
    (ap (λ n. failed_word n w'.failed) (left_failed ws w long less)
    ∙ failed_failed (word 1_283 ws) w.failed w'.failed fails)
    ∙ ap (λ l. set l 1_283 b) (sets-set (length ys ∷ ys) mid 514 1_283 a (omega arith))
    ∙ set-set (with_held mid ys) 1_283 a b
    ∙ ap (λ l. set l 1_283 b) (held_held ws w.view.held ys (enough ws w long less) few more)
  where
    ys : List ℕ
    ys = w'.view.held

    mid : List ℕ
    mid = with_held ws w.view.held

    less : length w.view.held ≤ 256
    less = omega arith

    a : ℕ
    a = failed_word (word 1_283 ws) w.failed

    b : ℕ
    b = failed_word (word 1_283 ws) w'.failed

-- ---- how the held ticks are written
-- What follows the first n of a part, and what follows the part.
rest_whole : (d : List ℕ) (n m : ℕ) → n ≤ m → m ≤ length d → drop n (take m d) ++ drop m d ≡ drop n d
rest_whole d n m h l =
    sym (drop-append-le n (take m d) (drop m d) (omega (arith, length-take-le m d l))) ∙ ap (drop n) (take-append-drop m d)

module _ (ws xs : List ℕ) (m : ℕ) (long : 515 + m ≤ length ws) (few : length xs ≤ m) where
  -- The number before them.
  abbrev numbered : List ℕ
  numbered = set ws 514 (length xs)

  behind_number : drop 515 numbered ≡ drop 515 ws
  behind_number = drop-set-lt 515 ws 514 (length xs) (omega arith)

  pub held_put : (places : List ℕ) → places ≡ over xs (mid_of 515 m numbered) → put_mid 515 m numbered places ≡ with_held ws xs
  held_put places e =
      ap (put_mid 515 m numbered) e
      ∙ ap (λ t. take 515 numbered ++ t) (append_assoc (take (length (take m rest)) xs) (drop (length xs) (take m rest)) (drop m rest)
      ∙ ap (λ t. t ++ (drop (length xs) (take m rest) ++ drop m rest)) (take_all (length (take m rest)) xs (omega (arith, room)))
      ∙ ap (λ t. xs ++ t) (rest_whole rest (length xs) m few (omega (arith, all)) ∙ drop-drop (length xs) 515 numbered))
      ∙ sym (append_assoc (take 515 numbered) xs (drop (515 + length xs) numbered))
      ∙ sym (sets-eq xs numbered 515 (omega (arith, length-set ws 514 (length xs))))
    where
      rest : List ℕ
      rest = drop 515 numbered

      all : length rest ≡ length ws - 515
      all = length-drop 515 numbered ∙ ap (λ n. n - 515) (length-set ws 514 (length xs))

      room : length (take m rest) ≡ m
      room = length-take-le m rest (omega (arith, all))

  -- The number can be written after them.
  pub number_last : (places : List ℕ) → set (put_mid 515 m ws places) 514 (length xs) ≡ put_mid 515 m numbered places
  number_last places =
      set-append_left (take 515 ws) (places ++ drop m (drop 515 ws)) 514 (length xs) (omega (arith, length-take-le 515 ws (omega arith)))
      ∙ ap (λ t. t ++ (places ++ drop m (drop 515 ws))) (sym (take-set-lt 515 ws 514 (length xs) (omega arith)))
      ∙ ap (λ t. take 515 numbered ++ (places ++ drop m t)) (sym behind_number)

-- Written by themselves, behind their number.
pub held_written : (ws xs : List ℕ) (n : ℕ) → 515 + n ≤ length ws → n ≡ length xs
    → put_mid 515 (515 + n - 515) (set ws 514 n) xs ≡ with_held ws xs
held_written ws xs n long e =
    let k : 515 + n - 515 ≡ length xs = omega arith in
    let numbered : List ℕ = set ws 514 (length xs) in
    (λ i. put_mid 515 (k i) (set ws 514 (e i)) xs)
    ∙ ap (λ t. take 515 numbered ++ (xs ++ t)) (drop-drop (length xs) 515 numbered)
    ∙ sym (append_assoc (take 515 numbered) xs (drop (515 + length xs) numbered))
    ∙ sym (sets-eq xs numbered 515 (omega (arith, length-set ws 514 (length xs))))

-- What is held after counts are pushed behind the held ticks.
module _ (ws xs : List ℕ) (long : generator_words ≤ length ws) (Z : Sizes (history_from ws)) where
  abbrev places : List ℕ
  places = mid_of 515 (515 + (word 0 ws - 1) - 515) ws

  abbrev free : ℕ
  free = word 0 ws - 1

  free_is : 515 + free - 515 ≡ free
  free_is = omega arith

  places_length : length places ≡ free
  places_length = ap (λ n. length (take n (drop 515 ws))) free_is ∙ part_length 515 free ws (omega (arith, Z.within))

  pub held_pushed : held_with_all places (word 514 ws) xs ≡ held_after ws xs
  held_pushed =
      let first : take (word 514 ws) places ≡ entries (word 514 ws) (part 515 256 ws) =
      take-take (word 514 ws) (515 + free - 515) (drop 515 ws) (omega (arith, free_is, Z.fewer))
      ∙ sym (part_entries 515 256 (word 514 ws) ws (omega arith) (omega (arith, Z.within, Z.fewer))) in
      λ i. newest (places_length i) (first i ++ xs)

  held_few : length (held_after ws xs) ≤ free
  held_few = omega (arith, length-drop (length ((view_of (history_from ws)).held ++ xs) - free) ((view_of (history_from ws)).held ++ xs))

  pub pushed_held : (left : List ℕ) (n : ℕ) → PushedAll places (word 514 ws) xs left n
      → set (put_mid 515 (515 + free - 515) ws left) 514 n ≡ with_held ws (held_after ws xs)
  pushed_held left n p =
      let number : n ≡ length (held_after ws xs) = p.number ∙ ap length held_pushed in
      let front : left ≡ over (held_after ws xs) (mid_of 515 free (set ws 514 (length (held_after ws xs)))) =
      p.entries
      ∙ (λ i. over (held_pushed i) (take (free_is i) (drop 515 ws)))
      ∙ ap (λ d. over (held_after ws xs) (take free d)) (sym (drop-set-lt 515 ws 514 (length (held_after ws xs)) (omega arith))) in
      (λ i. set (put_mid 515 (free_is i) ws left) 514 (number i))
      ∙ number_last ws (held_after ws xs) free (omega (arith, Z.within)) held_few left
      ∙ held_put ws (held_after ws xs) free (omega (arith, Z.within)) held_few left front
