-- Document 01's marked figures hold: what is computed of each case of the list, and what it proves. Assumes nothing.
use Rattle.laws.proofs.Base.{ℕ, ◌≡◌, refl, sym, ap, ◌∙◌, Bool, true, false, List, [], ◌∷◌, ◌++◌, map, ⊎_map, dec_and, dec_le, dec_lt}
use Rattle.laws.proofs.Base.{ℕ_discrete, arith, length, drop}
use mathlib.Core.Logic.Dec
use lib.Dec.{T}
use Rattle.laws.specs.Ranges.{fold, table}
use Rattle.laws.proofs.Search.{every, every?}
use Rattle.laws.proofs.Tests.{each?, each_map, equal_lists?}
use Rattle.laws.specs.Tests.{Each}
use Rattle.curves.specs.Pairs.{Pair, pair_of, horizon, figure}
use Rattle.curves.specs.Unlimited.{AnyPair, limited, curves_of}
use Rattle.curves.specs.Conformance.{Conforms}
use Rattle.curves.specs.Ticks.{passed}
use Rattle.curves.specs.Streams.{sum}
use Rattle.curves.specs.Questions.{Question, AllYes, ask, result, refusal}
use Rattle.curves.specs.Rounds.{whole, new_figure, round, figures_of, after, Arrives}
use Rattle.curves.proofs.Asked.{yes_append, yes_parts}
use Rattle.curves.proofs.Figures.{full_same, same_refl}
use Rattle.curves.proofs.Arrival.{never_both, arrives_once, crossed?, equal?}
use Rattle.curves.proofs.Closure.{causal?}
use Rattle.curves.proofs.Computed.{left?, left, same?, runs?, arrives?, arrives_computed, crosses?, crosses_by?, crosses_by}
use Rattle.curves.proofs.NextTick.{empty_conforms, range_from, extremes?, range?}
use Rattle.curves.proofs.Verdicts.{inside?, judged?, find, rejected, verdict?}
use Rattle.closure.specs.Theorems.{GivesClosure, closure_of, room}
use Rattle.closure.proofs.Said.{refused_is, closed_is, fifth}
use Rattle.closure.proofs.Room.{four_yes, room_passes}
use Rattle.closure.proofs.Given.{arrived, given_even}
use Rattle.csv_text.specs.Text.{Bytes, records, fields}
use Rattle.csv_text.specs.Numbers.{value_after}
use Rattle.csv_text.proofs.Decisions.{digit?, numeral?, numeral_or_empty?, most_within?, well_formed?, in_range?}
use Rattle.constraints.specs.Constraints.{named}
use Rattle.constraints.specs.Reading.{later, horizon_of, text_pair, question6, record_questions, question10}
use Rattle.constraints.proofs.Said.{pair_iff_all_yes, given_is_text_pair}
use Rattle.history.specs.States.{view_of, legal?}
use Rattle.bounds.specs.Bounds.{pair_questions}
use Rattle.history.specs.Opening.{fresh}
use Rattle.monitor.specs.Monitoring.{monitor_view, legal_monitor?, judged, lost, already_failed, judging}
use Rattle.monitor.specs.Opening.{fresh_monitor}
use Rattle.monitor.specs.Calls.{rulings}
use Rattle.monitor.proofs.Opening.{opening_yes}
use Rattle.generator.specs.Generating.{ranging, sent_from}
use Rattle.generator.specs.Opening.{generator_opening}
use Rattle.generator.specs.Calls.{added_all}
use Rattle.guarantees.specs.Marked.{published_triples, Case, reads, closes, refuses, goes_on, loses_first, stops, CaseHolds, marked_cases}
use Rattle.guarantees.specs.Marked.{hand_built, MarkedFigures}
use Rattle.guarantees.proofs.Monitoring.{start, pass_iff}

-- Questions 1, 2 and 4, which the result lists have no part in.
passes? : Pair → Bool
passes? p = left? (ask (pair_questions (limited p)))

asked : (p : Pair) → T (passes? p) → AllYes (pair_questions (limited p))
unfolding passes?
asked p t = left (ask (pair_questions (limited p))) t

-- Questions 6 to 10, likewise.
abbrev text_questions : Bytes → List Question
text_questions t = question6 t ∷ record_questions [] (later t) ++ (question10 t ∷ [])

-- Every tick of a start passes a monitor by the figures as given, in a state that holds them for closed ones too.
abbrev Passes : Pair → List ℕ → Type 0
Passes p xs = rulings (monitor_view (fresh (limited p)) p false) xs ≡ map (λ _. result (judged passed)) xs

-- What is computed of a case. No marked pair takes more than 4 rounds.
abbrev Computed : Case → Type 0
Computed (reads t q) = T (left? (ask (text_questions t))) × (horizon_of t ≡ horizon q) × (text_pair t ≡ limited q)
Computed (closes p n q) = T (passes? p) × T (arrives? p n q)
Computed (refuses p) = T (passes? p) × T (crosses_by? p 4)
Computed (goes_on p xs b) =
    T (passes? p) × (generator_opening (limited p) ≡ result tt) × Passes p xs × (ranging (added_all (fresh (limited p)) xs) ≡ result b)
Computed (loses_first p x xs) =
    T (passes? p)
    × Passes p (x ∷ xs)
    × ((n : ℕ) × (q : Pair) × T (arrives? p n q) × (length q.lower ≡ horizon q)
    × (rulings (monitor_view (fresh (limited p)) q false) (x ∷ xs) ≡ result lost ∷ map (λ _. result already_failed) xs))
Computed (stops p xs g) =
    T (passes? p)
    × (generator_opening (limited p) ≡ refusal 15)
    × Passes p xs
    × (view_of g.history ≡ added_all (fresh (limited p)) xs)
    × (ranging (view_of g.history) ≡ refusal 13)

all_passed : (xs : List ℕ) → Each (λ r. r ≡ result (judged passed)) (map (λ _. result (judged passed)) xs)
all_passed [] = tt
all_passed (x ∷ xs) = (refl, all_passed xs)

pass_conforms : (p : Pair) (xs : List ℕ) → T (passes? p) → Passes p xs → Conforms p xs
pass_conforms p xs ok pass =
    let ys = asked p ok in
    let none = empty_conforms p in
    ((pass_iff (limited p) p ys ys.1.1.0 refl (monitor_view (fresh (limited p)) p false) [] xs
    (start (limited p) p ys ys.1.1.0 refl) (none, none)).1 (rw pass (all_passed xs))).0

-- A monitor of the pair has the closure that the rounds arrive at for its closed figures.
fresh_closed : (p q : Pair) (n : ℕ) → AllYes (pair_questions (limited p)) → Arrives whole p n q → length q.lower ≡ horizon q
    → fresh_monitor (limited p) ≡ monitor_view (fresh (limited p)) q false
fresh_closed p q n ys a full =
    let r : AnyPair = limited p in
    let g : GivesClosure r room = ap (λ a. a.number) (closed_is r room n q (room_passes p ys) a) in
    let same = (arrives_once p (curves_of (closure_of r room)) q _ n (arrived r room g) a).1 in
    ap (λ c. monitor_view (fresh r) c false) (full_same 0 (curves_of (closure_of r room)) q (given_even r room g) full same)

holds : (c : Case) → Computed c → CaseHolds c
holds (reads t q) (yes-told, h, is) =
    λ found u l.
    let ys = left (ask (text_questions t)) yes-told in
    let (rs, more) = yes_parts (record_questions [] (later t)) (question10 t ∷ []) ys.1 in
    let g = (pair_iff_all_yes t found).1
    (ys.0, yes_append (record_questions [] (later t)) _ rs (more.0, ((omega arith, omega arith), tt))) in
    (g, rw ((given_is_text_pair t found g).1 ∙ is) (record { marks = refl; curves = same_refl 0 q }))
holds (closes p n q) (ok, a) =
    λ found u l. closed_is (limited p) found n q (four_yes p found (asked p ok) (u, l)) (arrives_computed p n q a)
holds (refuses p) (ok, x) =
    λ found u l.
    let (k, crosses) = crosses_by p 4 x in
    refused_is (limited p) found 5
    (fifth (limited p) found (four_yes p found (asked p ok) (u, l)) (λ a. never_both p a.1 a.0 k a.2 crosses))
holds (goes_on p xs b) (ok, opened, pass, shown) = (opened, pass_conforms p xs ok pass, shown, λ choice. rw shown)
holds (loses_first p x xs) (ok, pass, (n, q, t, full, told)) =
    let a = arrives_computed p n q t in (
      sym (opening_yes (limited p) (asked p ok) (n, q, a)),
      pass_conforms p (x ∷ xs) ok pass,
      rw (fresh_closed p q n (asked p ok) a full) told,
    )
holds (stops p xs g) (ok, refused, pass, same, shown) =
    (refused, pass_conforms p xs ok pass, same, (λ r a. a ∙ shown), λ choice r a. a.answer ∙ ap (λ b. sent_from b choice) shown)

pub marked_figures : MarkedFigures
unfolding marked_cases published_triples hand_built passes? ask ⊎_map every every? dec_le ℕ_discrete dec_and left? crossed? equal? same? runs?
    arrives? crosses? crosses_by? records fields value_after named each? digit? numeral? well_formed? in_range? Dec.not equal_lists? fold table
    figure new_figure round figures_of after rulings added_all judging ranging legal_monitor? legal? verdict? find rejected inside? judged?
    range? range_from extremes? dec_lt sum generator_opening causal? numeral_or_empty? most_within?
marked_figures =
    let c : T true × T true = (tt, tt) in
    each_map Computed CaseHolds marked_cases holds (c, (c, (c, (c, (c, (c, (c, ((tt, refl, refl), (c, streams)))))))))
  where
    closed : Pair
    closed = pair_of (1 ∷ 2 ∷ 3 ∷ 4 ∷ 5 ∷ []) (1 ∷ 2 ∷ 3 ∷ 4 ∷ 5 ∷ [])

    -- The last four are about streams.
    streams : Each Computed (drop 9 marked_cases)
    streams = (
      (tt, refl, (4, closed, tt, refl, refl)),
      ((tt, refl, refl, refl, refl), ((tt, refl, refl, refl), ((tt, refl, refl, refl), tt))),
    )
