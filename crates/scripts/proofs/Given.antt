-- What the operations on words give back: refused with 12, or run. Assumes nothing.
use Rattle.laws.proofs.Base.{ℕ, ◌-◌, ◌≤◌, min, ◌≡◌, refl, sym, ap, ◌∙◌, subst⁻¹, List, [], ◌∷◌, ◌++◌, ◌⊎◌, inl, inr, ⊎_elim, arith}
use Rattle.laws.proofs.Base.{length, take, drop, take_all, length-take-le, append-nil, drop_of_length-le, dec_le, take_at, length-drop}
use Rattle.laws.proofs.Base.{length-append}
use Rattle.std.proofs.Common.{Result, Ok, Err, IsErr}
use lib.IntN.{ℤ}
use lib.ListN.{take-append-drop}
use lib.Seq.{drop-nil}
use borrow.Rule.Slice.PartMut.{mid_of, put_mid}
use Rattle.laws.specs.Writing.{over}
use Rattle.laws.proofs.Copying.{over_whole}
use Rattle.curves.specs.Questions.{AllYes, FirstNo, Reply, refusal, ask}
use Rattle.curves.proofs.Asked.{said_yes, said_no}
use Rattle.history.specs.declared.BadState.{BadState}
use Rattle.history.specs.States.{View, view_of}
use Rattle.monitor.specs.Monitoring.{MonitorView, monitor_view_of}
use Rattle.monitor.specs.Calls.{after_ticks}
use Rattle.generator.specs.Generating.{RangeAnswer, ranging}
use Rattle.generator.specs.Calls.{after_sendings}
use Rattle.scripts.specs.Codes.{minus}
use Rattle.scripts.specs.Answers.{counted}
use Rattle.scripts.specs.Words.{history_from, monitor_from, LegalMonitorWords, LegalGeneratorWords, with_held, monitor_left}
use Rattle.scripts.specs.Words.{generator_question12}
use Rattle.scripts.specs.Scripts.{judged, judged_all, sent, sent_all, looked, looking, range_number}
use Rattle.scripts.specs.Runs.{JudgedFirst, JudgedRest, SentFirst, SentRest}
use Rattle.scripts.proofs.Pieces.{after_view, after_legal, after_more, sent_view, sent_more}
use Rattle.scripts.proofs.Pieces as pieces
use Rattle.scripts.proofs.Running.{codes, values, sends, codes_append, sends_append, codes_length, sends_length}

-- A refusal is 12 with a minus sign.
pub counted_err : (r : Result ℕ BadState) → IsErr r → counted r ≡ minus 12
counted_err (Ok n) e = cc
counted_err (Err b) e = refl

module _ (ws xs vs : List ℕ) (ms : List ℤ) where
  pub judged_bad : ¬ LegalMonitorWords ws → judged_all ws xs vs ms ≡ judged (minus 12) ws vs ms
  unfolding judged_all
  judged_bad n = said_no _ _ _ 12 (inl (refl, n))

  pub judged_legal : LegalMonitorWords ws → let w = monitor_view_of (monitor_from ws) in
      judged_all ws xs vs ms ≡ judged (length xs) (monitor_left ws (after_ticks w xs)) (over (codes w xs) vs) (over (values w xs) ms)
  unfolding judged_all
  judged_legal l = said_yes _ _ _ _ (l, tt) (λ ys. refl)

module _ (ws xs cs : List ℕ) where
  pub sent_bad : ¬ LegalGeneratorWords ws → sent_all ws xs cs ≡ sent (minus 12) ws cs
  unfolding sent_all
  sent_bad n = said_no _ _ _ 12 (inl (refl, n))

  pub sent_legal : LegalGeneratorWords ws → let v = view_of (history_from ws) in
      sent_all ws xs cs ≡ sent (length xs) (with_held ws (after_sendings v xs).held) (over (sends v xs) cs)
  unfolding sent_all
  sent_legal l = said_yes _ _ _ _ (l, tt) (λ ys. refl)

pub looking_bad : (ws : List ℕ) → ¬ LegalGeneratorWords ws → looking ws ≡ refusal 12
unfolding looking
looking_bad ws n = said_no _ _ _ 12 (inl (refl, n))

pub looking_legal : (ws : List ℕ) → LegalGeneratorWords ws → looking ws ≡ ranging (view_of (history_from ws))
unfolding looking
looking_legal ws l = said_yes _ _ _ _ (l, tt) (λ ys. refl)

-- The number of a look is that of its answer.
pub looked_number : (ws : List ℕ) → looked ws ≡ range_number (looking ws)
unfolding looked looking
looked_number ws = go (ask (generator_question12 ws ∷ []))
  where
    found : Reply RangeAnswer
    found = ranging (view_of (history_from ws))

    go : (a : AllYes (generator_question12 ws ∷ []) ⊎ ((n : ℕ) × FirstNo (generator_question12 ws ∷ []) n))
        → ⊎_elim (λ _. range_number found) (λ f. minus f.0) a ≡ range_number (⊎_elim (λ _. found) (λ f. refusal f.0) a)
    go (inl ys) = refl
    go (inr f) = refl

-- ---- as many as both lists have
take-shorter : (xs : List ℕ) (n m : ℕ) → n ≡ min (length xs) m → take n xs ≡ take m xs
take-shorter xs n m e =
    elim (dec_le (length xs) m) [
      | yes h ↦ take_all n xs (omega arith) ∙ sym (take_all m xs h)
      | no h ↦ let k : n ≡ m = omega arith in ap (λ k. take k xs) k
    ]

-- Answers to the first n entries, and what is behind them.
over_front : (ys vs : List ℕ) (n : ℕ) → length ys ≡ n → n ≤ length vs → ys ++ drop n vs ≡ over ys vs
over_front ys vs n e h =
    sym (ap (λ t. t ++ drop (length ys) vs) (take_all (length vs) ys (omega arith)) ∙ ap (λ k. ys ++ drop k vs) e)

pub judged_run : (ws xs vs : List ℕ) (ms : List ℤ) (n : ℕ) (left after : List ℕ) (ms' : List ℤ) → LegalMonitorWords ws
    → n ≡ min (length xs) (length vs) → JudgedRest ws (take n xs) ms left after ms'
    → judged n left (after ++ drop n vs) ms' ≡ judged_all ws (take (length vs) xs) vs ms
judged_run ws xs vs ms n left after ms' l e j =
    (λ i. judged (sym many i) (j.state i) (verdicts i) (j.margins_left i))
    ∙ sym (judged_legal ws (take n xs) vs ms l)
    ∙ ap (λ t. judged_all ws t vs ms) (take-shorter xs n (length vs) e)
  where
    w : MonitorView
    w = monitor_view_of (monitor_from ws)

    many : length (take n xs) ≡ n
    many = length-take-le n xs (omega arith)

    verdicts : after ++ drop n vs ≡ over (codes w (take n xs)) vs
    verdicts =
        ap (λ t. t ++ drop n vs) j.verdicts
        ∙ over_front (codes w (take n xs)) vs n (codes_length w (take n xs) ∙ many) (omega arith)

pub sent_run : (ws xs cs : List ℕ) (n : ℕ) (left after : List ℕ) → LegalGeneratorWords ws → n ≡ min (length xs) (length cs)
    → SentRest ws (take n xs) left after → sent n left (after ++ drop n cs) ≡ sent_all ws (take (length cs) xs) cs
sent_run ws xs cs n left after l e j =
    (λ i. sent (sym many i) (j.state i) (counts i))
    ∙ sym (sent_legal ws (take n xs) cs l)
    ∙ ap (λ t. sent_all ws t cs) (take-shorter xs n (length cs) e)
  where
    v : View
    v = view_of (history_from ws)

    many : length (take n xs) ≡ n
    many = length-take-le n xs (omega arith)

    counts : after ++ drop n cs ≡ over (sends v (take n xs)) cs
    counts =
        ap (λ t. t ++ drop n cs) j.counts
        ∙ over_front (sends v (take n xs)) cs n (sends_length v (take n xs) ∙ many) (omega arith)

-- ---- the first of a list, and then the others
-- There is no place for a margin.
none_there : (ms : List ℤ) → length ms ≤ 0 → (ys : List ℤ) → over ys ms ≡ ms
none_there [] h ys = drop-nil (length ys)
none_there (m ∷ ms) h ys = absurd (omega arith)

-- Answers behind answers.
joined : (ys rest found first : List ℕ) (n : ℕ) → first ≡ over ys found → length ys ≡ n → n ≤ length found
    → put_mid n (length first - n) first rest ≡ ys ++ rest
joined ys rest found first n e k h =
    let split : first ≡ ys ++ drop n found = e ∙ sym (over_front ys found n k h) in
    let front : take n first ≡ ys = ap (take n) split ∙ take_at ys (drop n found) n k in
    let none : drop (length first - n) (drop n first) ≡ [] =
    drop_of_length-le (drop n first) {i = length first - n} (omega (arith, length-drop n first)) in
    (λ i. front i ++ (rest ++ none i)) ∙ ap (λ t. ys ++ t) (append-nil rest)

-- The others are all that follow.
others_are : (xs : List ℕ) (n : ℕ) → mid_of n (length xs - n) xs ≡ drop n xs
others_are xs n = take_all (length xs - n) (drop n xs) (omega (arith, length-drop n xs))

over-length : (ys found : List ℕ) → length ys ≤ length found → length (over ys found) ≡ length found
over-length ys found h =
    ap length (sym (over_front ys found (length ys) refl h))
    ∙ length-append ys (drop (length ys) found) ∙ omega (arith, length-drop (length ys) found)

rest_same : (xs ys : List ℕ) (n : ℕ) → length xs ≡ length ys → length (mid_of n (length xs - n) xs) ≡ length (mid_of n (length ys - n) ys)
rest_same xs ys n e =
    ap length (others_are xs n) ∙ length-drop n xs ∙ ap (λ k. k - n) e ∙ sym (length-drop n ys) ∙ ap length (sym (others_are ys n))

module _ (ws xs vs : List ℕ) (ms : List ℤ) (l : LegalMonitorWords ws) (same : length vs ≡ length xs) (empty : length ms ≤ 0)
    (n : ℕ) (mid first : List ℕ) (j : JudgedFirst ws xs vs mid first n) where
  abbrev w : MonitorView
  w = monitor_view_of (monitor_from ws)

  -- What is asked of the others: the state is legal still, and there is a place for each.
  pub judged_asked : LegalMonitorWords mid × (length (mid_of n (length first - n) first) ≡ length (mid_of n (length xs - n) xs))
  judged_asked =
      let k : length (codes w (take n xs)) ≡ n = codes_length w (take n xs) ∙ length-take-le n xs j.within in (
        subst⁻¹ LegalMonitorWords j.state (after_legal ws l (take n xs)),
        rest_same first xs n (ap length j.verdicts ∙ over-length (codes w (take n xs)) vs (omega (arith, j.within)) ∙ same),
      )

  pub judged_all_lem : length xs ≤ n → JudgedRest ws xs ms mid first ms
  judged_all_lem h =
      let all : take n xs ≡ xs = take_all n xs h in
      record {
        state = j.state ∙ ap (λ t. monitor_left ws (after_ticks w t)) all;
        verdicts = j.verdicts ∙ ap (λ t. over (codes w t) vs) all ∙ over_whole (codes w xs) vs (same ∙ sym (codes_length w xs));
        margins_left = sym (none_there ms empty (values w xs));
      }

  pub judged_both : (left rest : List ℕ) (ms' : List ℤ) → JudgedRest mid (mid_of n (length xs - n) xs) ms left rest ms'
      → JudgedRest ws xs ms left (put_mid n (length first - n) first rest) ms'
  judged_both left rest ms' k =
      record {
        state =
            k.state
            ∙ (λ i. monitor_left (j.state i) (after_ticks (monitor_view_of (monitor_from (j.state i))) (others_are xs n i)))
            ∙ after_more ws l (take n xs) (drop n xs)
            ∙ ap (λ t. monitor_left ws (after_ticks w t)) (take-append-drop n xs);
        verdicts =
            joined (codes w (take n xs)) rest vs first n j.verdicts
            (codes_length w (take n xs) ∙ length-take-le n xs j.within) (omega (arith, j.within))
            ∙ ap (λ t. codes w (take n xs) ++ t) (k.verdicts ∙ (λ i. codes (view i) (others_are xs n i)))
            ∙ sym (codes_append w (take n xs) (drop n xs))
            ∙ ap (codes w) (take-append-drop n xs);
        margins_left = k.margins_left ∙ none_there ms empty _ ∙ sym (none_there ms empty (values w xs));
      }
    where
      view : monitor_view_of (monitor_from mid) ≡ after_ticks w (take n xs)
      view = ap (λ t. monitor_view_of (monitor_from t)) j.state ∙ after_view ws l (take n xs)

module _ (ws xs cs : List ℕ) (l : LegalGeneratorWords ws) (same : length cs ≡ length xs)
    (n : ℕ) (mid first : List ℕ) (j : SentFirst ws xs cs mid first n) where
  abbrev v : View
  v = view_of (history_from ws)

  pub sent_asked : LegalGeneratorWords mid × (length (mid_of n (length first - n) first) ≡ length (mid_of n (length xs - n) xs))
  sent_asked =
      let k : length (sends v (take n xs)) ≡ n = sends_length v (take n xs) ∙ length-take-le n xs j.within in (
        subst⁻¹ LegalGeneratorWords j.state (pieces.sent_legal ws l (take n xs)),
        rest_same first xs n (ap length j.counts ∙ over-length (sends v (take n xs)) cs (omega (arith, j.within)) ∙ same),
      )

  pub sent_all_lem : length xs ≤ n → SentRest ws xs mid first
  sent_all_lem h =
      let all : take n xs ≡ xs = take_all n xs h in
      record {
        state = j.state ∙ ap (λ t. with_held ws (after_sendings v t).held) all;
        counts = j.counts ∙ ap (λ t. over (sends v t) cs) all ∙ over_whole (sends v xs) cs (same ∙ sym (sends_length v xs));
      }

  pub sent_both : (left rest : List ℕ) → SentRest mid (mid_of n (length xs - n) xs) left rest
      → SentRest ws xs left (put_mid n (length first - n) first rest)
  sent_both left rest k =
      record {
        state =
            k.state
            ∙ (λ i. with_held (j.state i) (after_sendings (view_of (history_from (j.state i))) (others_are xs n i)).held)
            ∙ sent_more ws l (take n xs) (drop n xs)
            ∙ ap (λ t. with_held ws (after_sendings v t).held) (take-append-drop n xs);
        counts =
            joined (sends v (take n xs)) rest cs first n j.counts
            (sends_length v (take n xs) ∙ length-take-le n xs j.within) (omega (arith, j.within))
            ∙ ap (λ t. sends v (take n xs) ++ t) (k.counts ∙ (λ i. sends (view i) (others_are xs n i)))
            ∙ sym (sends_append v (take n xs) (drop n xs))
            ∙ ap (sends v) (take-append-drop n xs);
      }
    where
      view : view_of (history_from mid) ≡ after_sendings v (take n xs)
      view = ap (λ t. view_of (history_from t)) j.state ∙ sent_view ws l (take n xs)
