-- The held ticks after counts that pass, and after counts that are sent: the last of all. Assumes nothing.
use Rattle.laws.proofs.Base.{ℕ, zero, suc, ◌+◌, ◌-◌, ◌≤◌, ◌<◌, ◌≡◌, refl, sym, ap, ◌∙◌, false, List, [], ◌∷◌, ◌++◌, map, arith}
use Rattle.laws.proofs.Base.{append_assoc, append-nil, dec_lt, length, get_or, set, take, drop, replicate, length-drop, ext_get_or}
use Rattle.laws.proofs.Base.{take_all}
use Rattle.laws.proofs.Base.{length-take-le, length-replicate}
use lib.ListN.{take-append-drop}
use lib.Seq.{set-get_or}
use borrow.Author.Tests.{ltb-false}
use Rattle.laws.specs.Writing.{over}
use Rattle.curves.specs.Pairs.{horizon}
use Rattle.curves.specs.Unlimited.{curves_of}
use Rattle.curves.specs.Ticks.{then, newest, passed}
use Rattle.curves.specs.Questions.{Reply, result}
use Rattle.curves.proofs.Verdicts.{then_newest, newest_newest}
use Rattle.history.specs.States.{View, view_of, added, Legal}
use Rattle.history.proofs.Histories.{Sizes, legal_sizes, horizon_seen, held_seen}
use Rattle.monitor.specs.Monitoring.{MonitorView, monitor_view, monitor_view_of, Ruling, judged, judging, LegalMonitor}
use Rattle.monitor.specs.Calls.{monitor_after, after_tick, after_ticks, rulings}
use Rattle.generator.specs.Generating.{sending}
use Rattle.generator.specs.Calls.{view_after, sendings, after_sendings}
use Rattle.scripts.specs.Codes.{ruling_code, sending_code}
use Rattle.scripts.specs.Words.{mark_from, word, history_from, monitor_from, LegalMonitorWords, LegalGeneratorWords}
use Rattle.scripts.specs.Words.{generator_words}
use Rattle.scripts.specs.Words.{with_held, failed_word, monitor_left}
use Rattle.scripts.specs.Steps.{PassesFirst, SendsFirst}
use Rattle.scripts.specs.Runs.{held_after, JudgedFirst, SentFirst}
use Rattle.scripts.proofs.Worded.{part_entries, part_at, sets_inside, held_before, held_after_lem, held-length}
use Rattle.scripts.proofs.Running.{codes, over_none}

-- A view whose held ticks are the last of xs, as many as its pair can use.
abbrev lasting : View → List ℕ → View
lasting v xs = record { pair = v.pair; held = newest (horizon (curves_of v.pair) - 1) xs }

lasting_added : (v : View) (xs : List ℕ) (x : ℕ) → added (lasting v xs) x ≡ lasting v (then xs x)
lasting_added v xs x =
    let n : ℕ = horizon (curves_of v.pair) - 1 in
    ap (λ ys. record { pair = v.pair; held = ys })
    (ap (newest n) (then_newest n xs x) ∙ newest_newest (suc n) (then xs x) n (omega arith))

lasting_none : (v : View) → Legal v → lasting v v.held ≡ v
lasting_none v l =
    let none : length v.held - (horizon (curves_of v.pair) - 1) ≡ 0 = omega (arith, l.fewer) in
    ap (λ k. record { pair = v.pair; held = drop k v.held }) none

-- ---- counts that pass
module _ (w : MonitorView) where
  abbrev on : List ℕ → MonitorView
  on xs = monitor_view (lasting w.view xs) w.closed false

  -- The first passes, and so do the others from where it leaves.
  head_passes : (u : MonitorView) (x : ℕ) (rs qs : List (Reply Ruling)) → judging u x ∷ rs ≡ result (judged passed) ∷ qs
      → (judging u x ≡ result (judged passed)) × (rs ≡ qs)
  head_passes u x rs qs e = (cc e, cc e)

  passes_on : (ys xs : List ℕ) → rulings (on ys) xs ≡ replicate (length xs) (result (judged passed)) → after_ticks (on ys) xs ≡ on (ys ++ xs)
  unfolding rulings after_ticks
  passes_on ys [] e = ap on (sym (append-nil ys))
  passes_on ys (x ∷ xs) e =
      let h = head_passes (on ys) x (rulings (after_tick (on ys) x) xs) (replicate (length xs) (result (judged passed))) e in
      let next : after_tick (on ys) x ≡ on (then ys x) =
      ap (λ r. monitor_after r (on ys) x) h.0 ∙ ap (λ v. monitor_view v w.closed false) (lasting_added w.view ys x) in
      ap (λ u. after_ticks u xs) next
      ∙ passes_on (then ys x) xs (ap (λ u. rulings u xs) (sym next) ∙ h.1)
      ∙ ap on (append_assoc ys (x ∷ []) xs)

  pub after_passing : LegalMonitor w → w.failed ≡ false → (xs : List ℕ) → rulings w xs ≡ replicate (length xs) (result (judged passed))
      → after_ticks w xs ≡ on (w.view.held ++ xs)
  after_passing l f xs e =
      let start : w ≡ on w.view.held = (λ i. monitor_view (sym (lasting_none w.view l.given) i) w.closed (f i)) in
      ap (λ u. after_ticks u xs) start ∙ passes_on w.view.held xs (ap (λ u. rulings u xs) (sym start) ∙ e)

-- ---- counts that are sent
sent_on : (v : View) (ys xs cs : List ℕ) → sendings (lasting v ys) xs ≡ map result cs → after_sendings (lasting v ys) xs ≡ lasting v
    (ys ++ cs)
unfolding sendings after_sendings
sent_on v ys [] [] e = ap (lasting v) (sym (append-nil ys))
sent_on v ys [] (c ∷ cs) e = let z : ◌≡◌ {A = ℕ} 0 1 = cc e in absurd (omega arith)
sent_on v ys (x ∷ xs) [] e = let z : ◌≡◌ {A = ℕ} 0 1 = cc e in absurd (omega arith)
sent_on v ys (x ∷ xs) (c ∷ cs) e =
    let first : sending (lasting v ys) x ≡ result c = cc e in
    let rest : sendings (view_after (sending (lasting v ys) x) (lasting v ys)) xs ≡ map result cs = cc e in
    let next : view_after (sending (lasting v ys) x) (lasting v ys) ≡ lasting v (then ys c) =
    ap (λ r. view_after r (lasting v ys)) first ∙ lasting_added v ys c in
    ap (λ u. after_sendings u xs) next
    ∙ sent_on v (then ys c) xs cs (ap (λ u. sendings u xs) (sym next) ∙ rest)
    ∙ ap (lasting v) (append_assoc ys (c ∷ []) cs)

pub after_sending : (v : View) → Legal v → (xs cs : List ℕ) → sendings v xs ≡ map result cs → after_sendings v xs ≡ lasting v (v.held ++ cs)
after_sending v l xs cs e =
    let start : v ≡ lasting v v.held = sym (lasting_none v l) in
    ap (λ u. after_sendings u xs) start ∙ sent_on v v.held xs cs (ap (λ u. sendings u xs) (sym start) ∙ e)

-- ---- words
-- Those that are held already, written again, change nothing.
pub held_same : (ws : List ℕ) → generator_words ≤ length ws → Sizes (history_from ws) → with_held ws (view_of (history_from ws)).held ≡ ws
held_same ws long Z =
    ext_get_or 0 (with_held ws xs) ws (held-length ws xs long few) (λ j _. at j)
  where
    xs : List ℕ
    xs = (view_of (history_from ws)).held

    many : length xs ≡ word 514 ws
    many = held_seen (history_from ws)

    few : length xs ≤ 256
    few = omega (arith, many, Z.within, Z.fewer)

    ticks : (j : ℕ) → j < length xs → get_or xs j 0 ≡ word (515 + j) ws
    ticks j h =
        ap (λ t. get_or t j 0) (part_entries 515 256 (word 514 ws) ws (omega arith) (omega (arith, many)))
        ∙ part_at 515 (word 514 ws) j ws (omega (arith, many))

    inside : (j : ℕ) → j < suc (length xs) → get_or (length xs ∷ xs) j 0 ≡ word (514 + j) ws
    inside zero h = many ∙ ap (λ n. word n ws) (omega arith)
    inside (suc j) h = ticks j (omega arith) ∙ ap (λ n. word n ws) (omega arith)

    at : (j : ℕ) → word j (with_held ws xs) ≡ word j ws
    at j =
        elim (dec_lt j 514) [
          | yes h ↦ held_before ws xs long few j h
          | no h ↦
              elim (dec_lt j (515 + length xs)) [
                | yes k ↦
                    let m : 514 + (j - 514) ≡ j = omega arith in
                    ap (λ n. word n (with_held ws xs)) (sym m)
                    ∙ sets_inside (length xs ∷ xs) ws 514 (j - 514) (omega (arith, few)) (omega arith)
                    ∙ inside (j - 514) (omega arith)
                    ∙ ap (λ n. word n ws) m
                | no k ↦ held_after_lem ws xs long few j (omega arith)
              ]
        ]

module _ (ws : List ℕ) (l : LegalMonitorWords ws) where
  sizes : Sizes (history_from ws)
  sizes = legal_sizes (history_from ws) l.1.given

  enough : generator_words ≤ length ws
  enough = omega (arith, l.0)

  abbrev shown : MonitorView
  shown = monitor_view_of (monitor_from ws)

  mark_same : (n : ℕ) → failed_word n (mark_from n) ≡ n
  mark_same zero = refl
  mark_same (suc n) = refl

  pub left_same : monitor_left ws shown ≡ ws
  left_same =
      ap (λ t. set t 1_283 (failed_word (word 1_283 ws) (mark_from (word 1_283 ws)))) (held_same ws enough sizes)
      ∙ ap (set ws 1_283) (mark_same (word 1_283 ws)) ∙ set-get_or ws 1_283 0

  -- No count is judged, as the mark is set.
  pub none_judged : (xs vs : List ℕ) → JudgedFirst ws xs vs ws vs 0
  unfolding rulings after_ticks
  none_judged xs vs = record { within = omega arith; state = sym left_same; verdicts = over_none vs }

  module _ (clear : false ≡ mark_from (word 1_283 ws)) (xs vs : List ℕ) (n : ℕ) (p : PassesFirst shown xs n) where
    unset : word 1_283 ws ≡ 0
    unset = omega (arith, ltb-false 0 (word 1_283 ws) (sym clear))

    all_pass : rulings shown (take n xs) ≡ replicate (length (take n xs)) (result (judged passed))
    all_pass = p.1 ∙ ap (λ k. replicate k (result (judged passed))) (sym (length-take-le n xs p.0))

    not_failed : shown.failed ≡ false
    not_failed = sym clear

    left_is : monitor_left ws (after_ticks shown (take n xs)) ≡ with_held ws (held_after ws (take n xs))
    left_is =
        let view : after_ticks shown (take n xs) ≡ on shown (shown.view.held ++ take n xs) =
        after_passing shown l.1 not_failed (take n xs) all_pass in
        let ticks : newest (horizon (curves_of shown.view.pair) - 1) (shown.view.held ++ take n xs) ≡ held_after ws (take n xs) =
        ap (λ h. newest (h - 1) (shown.view.held ++ take n xs)) (horizon_seen (history_from ws)) in
        ap (monitor_left ws) view
        ∙ (λ i. set (with_held ws (ticks i)) 1_283 (failed_word (unset i) false))
        ∙ ap (set (with_held ws (held_after ws (take n xs))) 1_283) (sym behind)
        ∙ set-get_or (with_held ws (held_after ws (take n xs))) 1_283 0
      where
        few : length (held_after ws (take n xs)) ≤ 256
        few =
            omega (
              arith,
              sizes.within,
              length-drop (length (shown.view.held ++ take n xs) - (word 0 ws - 1)) (shown.view.held ++ take n xs),
            )

        behind : word 1_283 (with_held ws (held_after ws (take n xs))) ≡ 0
        behind = held_after_lem ws (held_after ws (take n xs)) enough few 1_283 (omega (arith, few)) ∙ unset

    pub first_judged : length vs ≡ length xs → (left after : List ℕ) → left ≡ with_held ws (held_after ws (take n xs))
        → after ≡ replicate (length (take n vs)) 0 ++ drop n vs → JudgedFirst ws xs vs left after n
    first_judged e left after s v = record { within = p.0; state = s ∙ sym left_is; verdicts = v ∙ sym zeros }
      where
        codes_zero : (k : ℕ) → map ruling_code (replicate k (result (judged passed))) ≡ replicate k 0
        codes_zero zero = refl
        codes_zero (suc k) = ap (λ t. 0 ∷ t) (codes_zero k)

        zeros : over (codes shown (take n xs)) vs ≡ replicate (length (take n vs)) 0 ++ drop n vs
        zeros =
            let k : length (take n vs) ≡ n = length-take-le n vs (omega (arith, p.0)) in
            ap (λ t. over t vs) (ap (map ruling_code) p.1 ∙ codes_zero n)
            ∙ ap (λ t. t ++ drop (length (replicate {A = ℕ} n 0)) vs)
            (take_all (length vs) (replicate n 0) (omega (arith, p.0, length-replicate {A = ℕ} n 0)))
            ∙ (λ i. replicate (sym k i) 0 ++ drop (length-replicate {A = ℕ} n 0 i) vs)

module _ (ws : List ℕ) (l : LegalGeneratorWords ws) where
  abbrev seen : View
  seen = view_of (history_from ws)

  pub first_sent : (xs cs left after : List ℕ) (n : ℕ) → SendsFirst seen xs cs after n → length cs ≡ length xs
      → left ≡ with_held ws (held_after ws (take n after)) → SentFirst ws xs cs left after n
  first_sent xs cs left after n s e h =
      record {
        within = s.within;
        state =
            h ∙ ap (with_held ws)
            (sym (ap (λ (u : View). u.held) (after_sending seen l.1 (take n xs) (take n after) s.sent)
            ∙ ap (λ k. newest (k - 1) (seen.held ++ take n after)) (horizon_seen (history_from ws))));
        counts =
            sym (take-append-drop n after) ∙ ap (λ t. take n after ++ t) s.others
            ∙ sym (ap (λ t. over t cs) (ap (map sending_code) s.sent ∙ codes_counts (take n after))
            ∙ ap (λ t. t ++ drop (length (take n after)) cs) (take_all (length cs) (take n after) (omega (arith, k, s.within)))
            ∙ ap (λ m. take n after ++ drop m cs) k);
      }
    where
      k : length (take n after) ≡ n
      k = length-take-le n after (omega (arith, s.within, s.whole))

      codes_counts : (ys : List ℕ) → map sending_code (map result ys) ≡ ys
      codes_counts [] = refl
      codes_counts (y ∷ ys) = ap (λ t. y ∷ t) (codes_counts ys)
