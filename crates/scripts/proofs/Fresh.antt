-- The words that an opening writes spell the state that it hands out. Assumes nothing.
use Rattle.laws.proofs.Base.{ℕ, ◌+◌, ◌-◌, ◌≤◌, ◌<◌, ◌≡◌, refl, sym, ap, ◌∙◌, true, false, List, [], ◌∷◌, ◌++◌, arith}
use Rattle.laws.proofs.Base.{length, get_or, take, drop, replicate, take_at, list_get_or-append, add-zero}
use Rattle.laws.proofs.Base.{length-drop}
use lib.Seq.{drop_at, drop-drop, drop-append-le, take-append-le, get_or-append-add}
use Rattle.laws.specs.Ranges.{table}
use Rattle.laws.proofs.Table.{length-table}
use Rattle.curves.specs.Pairs.{Pair, pair_of, horizon, figure}
use Rattle.curves.specs.Unlimited.{AnyPair, limited, unlimited, curves_of}
use Rattle.curves.specs.Questions.{AllYes, result}
use Rattle.curves.proofs.Asked.{yes_parts, result_from}
use Rattle.curves.proofs.Highest.{length-highest}
use Rattle.bounds.specs.Bounds.{max_horizon, pair_questions}
use Rattle.closure.specs.Closing.{question5}
use Rattle.closure.specs.Theorems.{closure_of, room}
use Rattle.closure.proofs.Given.{given_horizon, given_even}
use Rattle.history.specs.States.{entries, history_of, view_of}
use Rattle.history.specs.Opening.{fresh}
use Rattle.history.specs.Steps.{view_with}
use Rattle.history.proofs.Histories.{entries_padded}
use Rattle.monitor.specs.Monitoring.{monitor_view, closed_in, monitor_view_of}
use Rattle.monitor.specs.Opening.{monitor_questions, monitor_opening}
use Rattle.monitor.proofs.Opening.{opened_gives}
use Rattle.generator.proofs.Opening.{opened_from}
use Rattle.scripts.specs.Words.{mark_from, word, part, history_from, monitor_from, padded, opened_words}
use Rattle.scripts.specs.Theorems.{GeneratorWordsFresh, MonitorWordsFresh}
use Rattle.scripts.proofs.Opened.{padded-length, opened-length}

-- Words of two numbers, 256 of a list f, the leasts, and 0 behind them.
module _ (h m : ℕ) (f ls : List ℕ) (e : length f ≡ 256) (k : length ls ≡ h) (l : h ≤ 256) where
  abbrev zeros : List ℕ
  zeros = replicate 257 0

  abbrev spelled : List ℕ
  spelled = h ∷ m ∷ (f ++ (padded ls ++ zeros))

  leasts-length : length (padded ls) ≡ 256
  leasts-length = padded-length ls (omega arith)

  upper_part : part 2 256 spelled ≡ f
  upper_part = take_at f (padded ls ++ zeros) 256 e

  lower_part : part 258 256 spelled ≡ padded ls
  lower_part = ap (take 256) (drop_at f (padded ls ++ zeros) 256 e) ∙ take_at (padded ls) zeros 256 leasts-length

  none_held : word 514 spelled ≡ 0
  none_held =
      ap (λ n. get_or (f ++ (padded ls ++ zeros)) (n + 256) 0) (sym e)
      ∙ get_or-append-add f (padded ls ++ zeros) 256 0
      ∙ ap (λ n. get_or (padded ls ++ zeros) n 0) (sym leasts-length ∙ sym (add-zero (length (padded ls))))
      ∙ get_or-append-add (padded ls) zeros 0 0

  pub spelled_view : view_of (history_from spelled) ≡ view_with (entries h f) ls (mark_from m) []
  unfolding table
  spelled_view =
      (λ i. view_with (entries h (upper_part i)) (entries h (lower_part i)) (mark_from m) (entries (none_held i) (part 515 256 spelled)))
      ∙ ap (λ t. view_with (entries h f) t (mark_from m) []) (entries_padded ls _ h k)

view_fresh : (p : AnyPair) → AllYes (pair_questions p) → view_of (history_from (opened_words p)) ≡ fresh p
view_fresh (limited p) ys =
    spelled_view (length p.upper) 0 (padded p.upper) p.lower (padded-length p.upper ys.0.1) ys.1.0 ys.0.1
    ∙ ap (λ t. view_with t p.lower false []) (entries_padded p.upper _ (length p.upper) refl)
view_fresh (unlimited h ls) ys =
    spelled_view h 1 (replicate 256 0) ls refl (ys.1.0 ∙ length-highest h) (omega (arith, length-highest h, ys.0.1))
    ∙ ap (λ n. record { pair = unlimited n ls; held = [] }) (length-table (figure 0 (replicate 256 0)) h)

pub generator_words_fresh : GeneratorWordsFresh
generator_words_fresh p e = view_fresh p (opened_from p e).0

-- ---- a monitor's words: the same, and the closed figures behind them
-- The front of a list that goes on.
part_front : (xs ys : List ℕ) (k n : ℕ) → k + n ≤ length xs → part k n (xs ++ ys) ≡ part k n xs
part_front xs ys k n h =
    ap (take n) (drop-append-le k xs ys (omega arith)) ∙ take-append-le n (drop k xs) ys (omega (arith, length-drop k xs))

module _ (ws cu cl : List ℕ) (e : length ws ≡ 771) (few : length cu ≤ 256) (few' : length cl ≤ 256) where
  abbrev closed : List ℕ
  closed = padded cu ++ (padded cl ++ (0 ∷ []))

  abbrev all : List ℕ
  all = ws ++ closed

  number_front : (k : ℕ) → k < 771 → word k all ≡ word k ws
  number_front k h = list_get_or-append ws closed 0 k (omega arith)

  pub history_front : history_from all ≡ history_from ws
  history_front =
      λ i. history_of (number_front 0 (omega arith) i) (part_front ws closed 2 256 (omega arith) i)
      (part_front ws closed 258 256 (omega arith) i) (mark_from (number_front 1 (omega arith) i)) (number_front 514 (omega arith) i)
      (part_front ws closed 515 256 (omega arith) i)

  pub closed_upper_part : part 771 256 all ≡ padded cu
  closed_upper_part =
      ap (take 256) (drop_at ws closed 771 e) ∙ take_at (padded cu) (padded cl ++ (0 ∷ [])) 256 (padded-length cu few)

  pub closed_lower_part : part 1_027 256 all ≡ padded cl
  closed_lower_part =
      ap (take 256) (sym (drop-drop 256 771 all) ∙ ap (drop 256) (drop_at ws closed 771 e)
      ∙ drop_at (padded cu) (padded cl ++ (0 ∷ [])) 256 (padded-length cu few))
      ∙ take_at (padded cl) (0 ∷ []) 256 (padded-length cl few')

  pub not_failed : word 1_283 all ≡ 0
  not_failed =
      ap (λ n. get_or all (n + 512) 0) (sym e)
      ∙ get_or-append-add ws closed 512 0
      ∙ ap (λ n. get_or closed (n + 256) 0) (sym (padded-length cu few))
      ∙ get_or-append-add (padded cu) (padded cl ++ (0 ∷ [])) 256 0
      ∙ ap (λ n. get_or (padded cl ++ (0 ∷ [])) n 0) (sym (padded-length cl few') ∙ sym (add-zero (length (padded cl))))
      ∙ get_or-append-add (padded cl) (0 ∷ []) 0 0

  -- Its view, by that of the front.
  pub monitor_view_lem : (p : AnyPair) → view_of (history_from ws) ≡ fresh p
      → monitor_view_of (monitor_from all) ≡ monitor_view (fresh p)
      (closed_in p (pair_of (entries (word 0 ws) (padded cu)) (entries (word 0 ws) (padded cl)))) false
  monitor_view_lem p v =
      let w : view_of (history_from all) ≡ fresh p = ap view_of history_front ∙ v in
      let h : word 0 all ≡ word 0 ws = number_front 0 (omega arith) in
      λ i. monitor_view (w i) (closed_in (w i).pair (pair_of (entries (h i) (closed_upper_part i)) (entries (h i) (closed_lower_part i))))
      (mark_from (not_failed i))

yes_from : (p : AnyPair) → monitor_opening p ≡ result tt → AllYes (pair_questions p)
unfolding monitor_opening
yes_from p e = (yes_parts (pair_questions p) (question5 p ∷ []) (result_from (monitor_questions p) _ tt e).0).0

pub monitor_words_fresh : MonitorWordsFresh
monitor_words_fresh (limited p) e =
    let ys = yes_from (limited p) e in
    monitor_view_lem (opened_words (limited p)) q.upper q.lower
    (opened-length p.upper p.lower false ys.0.1 (omega (arith, ys.1.0, ys.0.1)))
    (omega (arith, wide, ys.0.1)) (omega (arith, even, ys.0.1)) (limited p) (view_fresh (limited p) ys)
    ∙ (λ i. monitor_view (fresh (limited p)) (pair_of (uppers i) (lowers i)) false)
  where
    q : Pair
    q = curves_of (closure_of (limited p) room)

    wide : horizon q ≡ length p.upper
    wide = given_horizon (limited p) room (opened_gives p e)

    even : length q.lower ≡ length p.upper
    even = given_even (limited p) room (opened_gives p e) ∙ wide

    uppers : entries (length p.upper) (padded q.upper) ≡ q.upper
    uppers = entries_padded q.upper (replicate (max_horizon - length q.upper) 0) (length p.upper) wide

    lowers : entries (length p.upper) (padded q.lower) ≡ q.lower
    lowers = entries_padded q.lower (replicate (max_horizon - length q.lower) 0) (length p.upper) even
monitor_words_fresh (unlimited h ls) e =
    let ys = yes_from (unlimited h ls) e in
    monitor_view_lem (opened_words (unlimited h ls)) [] []
    (opened-length [] ls true (omega arith) (omega (arith, ys.1.0, ys.0.1))) (omega arith) (omega arith) (unlimited h ls)
    (view_fresh (unlimited h ls) ys)
