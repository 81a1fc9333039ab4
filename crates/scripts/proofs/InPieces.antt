-- Lists of ticks in pieces are one list. Assumes nothing.
use Rattle.laws.proofs.Base.{ℕ, ◌+◌, ◌≡◌, sym, ap, ◌∙◌, List, [], ◌∷◌, ◌++◌, ◌⊎◌, inl, inr, ⊎_elim, arith}
use Rattle.laws.proofs.Base.{append_assoc, append-nil, length, take, drop, length-append, take_all, drop_of_length-le}
use lib.IntN.{ℤ}
use lib.Seq.{take-append-add, drop-append-add, drop-nil}
use Rattle.laws.specs.Writing.{over}
use Rattle.history.specs.States.{View, view_of}
use Rattle.monitor.specs.Monitoring.{MonitorView, monitor_view_of}
use Rattle.monitor.specs.Calls.{after_ticks}
use Rattle.generator.specs.Calls.{after_sendings}
use Rattle.scripts.specs.Codes.{minus}
use Rattle.scripts.specs.Words.{history_from, monitor_from, LegalMonitorWords, LegalGeneratorWords, monitor_question12, with_held}
use Rattle.scripts.specs.Words.{generator_question12, monitor_left}
use Rattle.scripts.specs.Scripts.{Judged, judged, judged_all, judged_counts, Sent, sent, sent_all, sent_choices}
use Rattle.scripts.specs.Theorems.{JudgedAlike, SentAlike, JudgedInPieces, SentInPieces}
use Rattle.scripts.proofs.Pieces.{after_view, after_legal, after_more, sent_view, sent_more}
use Rattle.scripts.proofs.Pieces as pieces
use Rattle.scripts.proofs.Running.{codes, values, sends, codes_append, values_append, sends_append, codes_length, values_length}
use Rattle.scripts.proofs.Running.{sends_length}
use Rattle.scripts.proofs.Given.{judged_bad, judged_legal, sent_bad}
use Rattle.scripts.proofs.Given as goal

-- Lists of equal lengths, put over each other one behind the other.
over-append : {A : Type 0} (rs qs cs ds : List A) → length cs ≡ length rs → over (rs ++ qs) (cs ++ ds) ≡ over rs cs ++ over qs ds
over-append rs qs cs ds e =
    (λ i. take (long i) (rs ++ qs) ++ drop (many i) (cs ++ ds))
    ∙ (λ i. take-append-add rs qs (length ds) i ++ drop-append-add cs ds (length qs) i)
    ∙ append_assoc rs (take (length ds) qs) (drop (length qs) ds)
    ∙ sym (ap (λ t. t ++ over qs ds) whole)
  where
    long : length (cs ++ ds) ≡ length rs + length ds
    long = length-append cs ds ∙ ap (λ n. n + length ds) e

    many : length (rs ++ qs) ≡ length cs + length qs
    many = length-append rs qs ∙ ap (λ n. n + length qs) (sym e)

    whole : over rs cs ≡ rs
    whole =
        (λ i. take_all (length cs) rs (omega arith) i ++ drop_of_length-le cs {i = length rs} (omega arith) i) ∙ append-nil rs

-- Where there is a place for each answer, all ticks run.
all_run : (xs vs : List ℕ) → length vs ≡ length xs → take (length vs) xs ≡ xs
all_run xs vs e = take_all (length vs) xs (omega arith)

-- ---- counts
module _ (ws xs ys vs us : List ℕ) (ms ns : List ℤ) (e : length vs ≡ length xs) (f : length us ≡ length ys)
    (m : (length ms ≡ length xs) ⊎ (ms ++ ns ≡ [])) where
  abbrev first : Judged
  first = judged_counts ws xs vs ms

  abbrev second : Judged
  second = judged_counts first.state ys us ns

  abbrev whole : Judged
  whole = judged_counts ws (xs ++ ys) (vs ++ us) (ms ++ ns)

  refused : ¬ LegalMonitorWords ws → JudgedAlike first second whole
  refused n =
      let one : first ≡ judged (minus 12) ws vs ms = judged_bad ws (take (length vs) xs) vs ms n in
      let two : second ≡ judged (minus 12) ws us ns =
      ap (λ (a : Judged). judged_counts a.state ys us ns) one ∙ judged_bad ws (take (length us) ys) us ns n in
      let both : whole ≡ judged (minus 12) ws (vs ++ us) (ms ++ ns) =
      judged_bad ws (take (length (vs ++ us)) (xs ++ ys)) (vs ++ us) (ms ++ ns) n in
      record {
        answer = inr (ap (λ (a : Judged). a.answer) one, ap (λ (a : Judged). a.answer) two, ap (λ (a : Judged). a.answer) both);
        state = ap (λ (a : Judged). a.state) both ∙ sym (ap (λ (a : Judged). a.state) two);
        verdicts = ap (λ (a : Judged). a.verdicts) both ∙ sym (λ i. (one i).verdicts ++ (two i).verdicts);
        margins = ap (λ (a : Judged). a.margins) both ∙ sym (λ i. (one i).margins ++ (two i).margins);
      }

  module _ (l : LegalMonitorWords ws) where
    abbrev w : MonitorView
    w = monitor_view_of (monitor_from ws)

    abbrev mid : List ℕ
    mid = monitor_left ws (after_ticks w xs)

    one : first ≡ judged (length xs) mid (over (codes w xs) vs) (over (values w xs) ms)
    one = ap (λ t. judged_all ws t vs ms) (all_run xs vs e) ∙ judged_legal ws xs vs ms l

    two : second ≡ judged (length ys) (monitor_left ws (after_ticks w (xs ++ ys))) (over (codes (after_ticks w xs) ys) us)
        (over (values (after_ticks w xs) ys) ns)
    two =
        ap (λ (a : Judged). judged_counts a.state ys us ns) one
        ∙ ap (λ t. judged_all mid t us ns) (all_run ys us f)
        ∙ judged_legal mid ys us ns (after_legal ws l xs)
        ∙ (λ i. judged (length ys) (after_more ws l xs ys i) (over (codes (after_view ws l xs i) ys) us)
        (over (values (after_view ws l xs i) ys) ns))

    both : whole ≡ judged (length (xs ++ ys)) (monitor_left ws (after_ticks w (xs ++ ys))) (over (codes w (xs ++ ys)) (vs ++ us))
        (over (values w (xs ++ ys)) (ms ++ ns))
    both =
        ap (λ t. judged_all ws t (vs ++ us) (ms ++ ns))
        (all_run (xs ++ ys) (vs ++ us) (length-append vs us ∙ (λ i. e i + f i) ∙ sym (length-append xs ys)))
        ∙ judged_legal ws (xs ++ ys) (vs ++ us) (ms ++ ns) l

    margins_are : over (values w (xs ++ ys)) (ms ++ ns) ≡ over (values w xs) ms ++ over (values (after_ticks w xs) ys) ns
    margins_are = ⊎_elim each none m
      where
        each : length ms ≡ length xs → over (values w (xs ++ ys)) (ms ++ ns) ≡ over (values w xs) ms ++ over (values (after_ticks w xs) ys)
            ns
        each k =
            ap (λ t. over t (ms ++ ns)) (values_append w xs ys)
            ∙ over-append (values w xs) (values (after_ticks w xs) ys) ms ns (k ∙ sym (values_length w xs))

        none : ms ++ ns ≡ [] → over (values w (xs ++ ys)) (ms ++ ns) ≡ over (values w xs) ms ++ over (values (after_ticks w xs) ys) ns
        none k = go ms ns k
          where
            go : (ms ns : List ℤ) → ms ++ ns ≡ []
                → over (values w (xs ++ ys)) (ms ++ ns) ≡ over (values w xs) ms ++ over (values (after_ticks w xs) ys) ns
            go [] [] k =
                drop-nil (length (values w (xs ++ ys)))
                ∙ sym (λ i. drop-nil (length (values w xs)) i ++ drop-nil (length (values (after_ticks w xs) ys)) i)
            go [] (n ∷ ns) k = let z : ◌≡◌ {A = ℕ} 0 1 = cc k in absurd (omega arith)
            go (n ∷ ms) ns k = let z : ◌≡◌ {A = ℕ} 0 1 = cc k in absurd (omega arith)

    run : JudgedAlike first second whole
    run =
        record {
          answer =
              inl (ap (λ (a : Judged). a.answer) both ∙ length-append xs ys ∙ sym (λ i. (one i).answer + (two i).answer));
          state = ap (λ (a : Judged). a.state) both ∙ sym (ap (λ (a : Judged). a.state) two);
          verdicts =
              ap (λ (a : Judged). a.verdicts) both
              ∙ ap (λ t. over t (vs ++ us)) (codes_append w xs ys)
              ∙ over-append (codes w xs) (codes (after_ticks w xs) ys) vs us (e ∙ sym (codes_length w xs))
              ∙ sym (λ i. (one i).verdicts ++ (two i).verdicts);
          margins = ap (λ (a : Judged). a.margins) both ∙ margins_are ∙ sym (λ i. (one i).margins ++ (two i).margins);
        }

pub judged_in_pieces : JudgedInPieces
judged_in_pieces ws xs ys vs us ms ns e f m =
    elim (monitor_question12 ws).answered [
      | yes l ↦ run ws xs ys vs us ms ns e f m l
      | no n ↦ refused ws xs ys vs us ms ns e f m n
    ]

-- ---- choices
module _ (ws xs ys cs ds : List ℕ) (e : length cs ≡ length xs) (f : length ds ≡ length ys) where
  abbrev sent_first : Sent
  sent_first = sent_choices ws xs cs

  abbrev sent_second : Sent
  sent_second = sent_choices sent_first.state ys ds

  abbrev sent_whole : Sent
  sent_whole = sent_choices ws (xs ++ ys) (cs ++ ds)

  none_sent : ¬ LegalGeneratorWords ws → SentAlike sent_first sent_second sent_whole
  none_sent n =
      let one : sent_first ≡ sent (minus 12) ws cs = sent_bad ws (take (length cs) xs) cs n in
      let two : sent_second ≡ sent (minus 12) ws ds =
      ap (λ (a : Sent). sent_choices a.state ys ds) one ∙ sent_bad ws (take (length ds) ys) ds n in
      let both : sent_whole ≡ sent (minus 12) ws (cs ++ ds) = sent_bad ws (take (length (cs ++ ds)) (xs ++ ys)) (cs ++ ds) n in
      record {
        answer = inr (ap (λ (a : Sent). a.answer) one, ap (λ (a : Sent). a.answer) two, ap (λ (a : Sent). a.answer) both);
        state = ap (λ (a : Sent). a.state) both ∙ sym (ap (λ (a : Sent). a.state) two);
        counts = ap (λ (a : Sent). a.counts) both ∙ sym (λ i. (one i).counts ++ (two i).counts);
      }

  all_sent : LegalGeneratorWords ws → SentAlike sent_first sent_second sent_whole
  all_sent l =
      record {
        answer = inl (ap (λ (a : Sent). a.answer) both ∙ length-append xs ys ∙ sym (λ i. (one i).answer + (two i).answer));
        state = ap (λ (a : Sent). a.state) both ∙ sym (ap (λ (a : Sent). a.state) two);
        counts =
            ap (λ (a : Sent). a.counts) both
            ∙ ap (λ t. over t (cs ++ ds)) (sends_append v xs ys)
            ∙ over-append (sends v xs) (sends (after_sendings v xs) ys) cs ds (e ∙ sym (sends_length v xs))
            ∙ sym (λ i. (one i).counts ++ (two i).counts);
      }
    where
      v : View
      v = view_of (history_from ws)

      mid : List ℕ
      mid = with_held ws (after_sendings v xs).held

      one : sent_first ≡ sent (length xs) mid (over (sends v xs) cs)
      one = ap (λ t. sent_all ws t cs) (all_run xs cs e) ∙ goal.sent_legal ws xs cs l

      two : sent_second ≡ sent (length ys) (with_held ws (after_sendings v (xs ++ ys)).held) (over (sends (after_sendings v xs) ys) ds)
      two =
          ap (λ (a : Sent). sent_choices a.state ys ds) one
          ∙ ap (λ t. sent_all mid t ds) (all_run ys ds f)
          ∙ goal.sent_legal mid ys ds (pieces.sent_legal ws l xs)
          ∙ (λ i. sent (length ys) (sent_more ws l xs ys i) (over (sends (sent_view ws l xs i) ys) ds))

      both : sent_whole ≡ sent (length (xs ++ ys)) (with_held ws (after_sendings v (xs ++ ys)).held) (over (sends v (xs ++ ys)) (cs ++ ds))
      both =
          ap (λ t. sent_all ws t (cs ++ ds))
          (all_run (xs ++ ys) (cs ++ ds) (length-append cs ds ∙ (λ i. e i + f i) ∙ sym (length-append xs ys)))
          ∙ goal.sent_legal ws (xs ++ ys) (cs ++ ds) l

pub sent_in_pieces : SentInPieces
sent_in_pieces ws xs ys cs ds e f =
    elim (generator_question12 ws).answered [
      | yes l ↦ all_sent ws xs ys cs ds e f l
      | no n ↦ none_sent ws xs ys cs ds e f n
    ]
