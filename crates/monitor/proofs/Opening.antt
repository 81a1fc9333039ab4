-- Laws over plain variables for an opening: its answer from those of the questions and of closing, and the state that is handed out.
-- Assumes nothing.
use Rattle.std.specs.Prelude.{Result, Ok, Err}
use Rattle.laws.proofs.Base.{ℕ, ◌≤◌, ◌^◌, ◌≡◌, refl, sym, ap, ◌∙◌, subst, Bool, true, false, List, ⊎_elim, arith, length, take}
use Rattle.std.proofs.lemmas.Bool.{false≢true}
use Rattle.curves.specs.Streams.{count_limit}
use Rattle.curves.specs.Pairs.{Pair, pair_of, first, horizon, FiguresWithin}
use Rattle.curves.specs.Unlimited.{AnyPair, limited, unlimited, with_mark, curves_of, sums_after}
use Rattle.curves.specs.Questions.{AllYes, FirstNo, result, refusal}
use Rattle.curves.proofs.Asked.{no_refusal}
use Rattle.curves.specs.Theorems.{Closes, leasts_only}
use Rattle.curves.proofs.Highest.{length-highest}
use Rattle.curves.proofs.Parts.{sums_arrive_within_logarithm}
use Rattle.bounds.specs.Bounds.{max_horizon, pair_questions}
use Rattle.bounds.specs.declared.PairRefusal.TheVariants.{UpperLength, LowerLength, FigureLimit}
use Rattle.bounds.specs.Answers.{pair_refusal_number}
use Rattle.bounds.proofs.Said.{asking_yes, more_yes, more_first_no, more_no, more_from}
use Rattle.closure.specs.declared.Closed.{Closed}
use Rattle.closure.specs.declared.ClosingRefusal.{ClosingRefusal}
use Rattle.closure.specs.declared.ClosingRefusal.TheVariants as closing_refusal
use Rattle.closure.specs.Closing.{question5, ClosingAnswer, closing}
use Rattle.closure.specs.Answers.{closing_refusal_number, closing_answer}
use Rattle.closure.specs.Theorems.{GivesClosure, closure_of, room}
use Rattle.closure.proofs.Said.{refused_is, closed_is, cases}
use Rattle.closure.proofs.Given.{answer_mark}
use Rattle.closure.proofs.Room.{room_passes, told}
use Rattle.history.specs.declared.History.{History}
use Rattle.history.specs.States.{View, view_of, entries}
use Rattle.history.specs.Opening.{opening, fresh, Begun, zero_history}
use Rattle.history.proofs.Histories.{entries-take, horizon_seen}
use Rattle.monitor.specs.declared.Monitor.{Monitor}
use Rattle.monitor.specs.declared.MonitorRefusal.{MonitorRefusal}
use Rattle.monitor.specs.declared.MonitorRefusal.TheVariants as monitor_refusal
use Rattle.monitor.specs.Monitoring.{monitor_of, monitor_view, closed_in, monitor_view_of}
use Rattle.monitor.specs.Opening.{monitor_opening, fresh_monitor, zero_monitor, MonitorBegun}
use Rattle.monitor.specs.Steps.{OpeningAsked}

-- ---- the answer
module _ (p : AnyPair) where
  pub opening_yes : AllYes (pair_questions p) → Closes (curves_of p) → result tt ≡ monitor_opening p
  unfolding monitor_opening
  opening_yes = more_yes p (question5 p)

  pub first_no : (n : ℕ) → FirstNo (pair_questions p) n → refusal n ≡ monitor_opening p
  unfolding monitor_opening
  first_no = more_first_no p (question5 p)

  pub opening_fifth : AllYes (pair_questions p) → ¬ Closes (curves_of p) → refusal 5 ≡ monitor_opening p
  unfolding monitor_opening
  opening_fifth = more_no p (question5 p)

  -- Where it is not refused, all are answered yes.
  opened_from : monitor_opening p ≡ result tt → AllYes (pair_questions p) × Closes (curves_of p)
  unfolding monitor_opening
  opened_from = more_from p (question5 p)

  pub opened_yes : monitor_opening p ≡ result tt → AllYes (pair_questions p)
  opened_yes e = (opened_from e).0

-- ---- of a pair with ceilings
-- No refusal has the number 0.
numbered : (e : ClosingRefusal) → 1 ≤ closing_refusal_number e
numbered (closing_refusal.Pair UpperLength) = omega arith
numbered (closing_refusal.Pair LowerLength) = omega arith
numbered (closing_refusal.Pair FigureLimit) = omega arith
numbered closing_refusal.ResultLength = omega arith
numbered closing_refusal.NoClosure = omega arith

module _ (c : Pair) where
  -- Where the opening is not refused, closing gives the closure.
  pub opened_gives : monitor_opening (limited c) ≡ result tt → GivesClosure (limited c) room
  opened_gives e =
      let (ys, (n, q, a)) = opened_from (limited c) e in
      ap (λ r. r.number) (closed_is (limited c) room n q (room_passes c ys) a)

  closed_left : (k : Closed) (left : Pair) → closing_answer (Ok k) left ≡ closing (limited c) room
      → first (horizon c) left ≡ curves_of (closure_of (limited c) room)
  closed_left k left e =
      let r : Pair = (closing (limited c) room).results in
      let mark : (closing (limited c) room).unlimited ≡ false = answer_mark (limited c) room (sym (ap (λ a. a.number) e)) in
      ap (λ (a : ClosingAnswer). first (horizon c) a.results) e
      ∙ (λ i. curves_of (with_mark (take (horizon c) r.upper) (take (horizon c) r.lower) (sym mark i)))

  -- A refusal leaves the lists as they were.
  none_left : (e : ClosingRefusal) (left : Pair) → closing_answer (Err e) left ≡ closing (limited c) room → left ≡ room
  none_left e left a =
      ⊎_elim
      (λ (n, f). ap (λ r. r.results) (a ∙ refused_is (limited c) room n f))
      (λ (ok, (n, q, s)). absurd (omega (arith, numbered e, ap (λ r. r.number) (a ∙ closed_is (limited c) room n q ok s))))
      (cases (limited c) room)

  -- And where the opening is refused, closing leaves them so.
  refused_left : (n : ℕ) → refusal n ≡ monitor_opening (limited c) → first (horizon c) room ≡ curves_of (closure_of (limited c) room)
  refused_left n e =
      ⊎_elim
      (λ (m, f). ap (λ (a : ClosingAnswer). curves_of (with_mark (take (horizon c) a.results.upper) (take (horizon c) a.results.lower) a.unlimited))
      (sym (refused_is (limited c) room m f)))
      (λ (ok, closes). absurd (no_refusal tt n (opening_yes (limited c) (ok.0, (ok.1.0, (ok.1.1.1.0, tt))) closes ∙ sym e)))
      (cases (limited c) room)

-- ---- of an unlimited one
-- Question 5 is always answered yes.
pub leasts_close : (h : ℕ) (ls : List ℕ) → AllYes (pair_questions (unlimited h ls)) → Closes (curves_of (unlimited h ls))
leasts_close h ls ys =
    let e : length ls ≡ h = ys.1.0 ∙ length-highest h in
    let short : length ls ≤ 2 ^ 8 = omega (arith, ys.0.1, ys.1.0) in
    let small : FiguresWithin count_limit ls = λ d u v. omega (arith, ys.1.1.0 d u v) in
    let (n, few, a) = sums_arrive_within_logarithm ls 8 small short in
    subst (λ k. Closes (curves_of (unlimited k ls))) e (n, leasts_only (sums_after n ls), a)

-- ---- the answer to the questions on the lists and a mark
module _ (us ls : List ℕ) where
  pub without_ceilings : (b : Bool) (left : Pair) → b ≡ true → AllYes (pair_questions (with_mark us ls b))
      → OpeningAsked (with_mark us ls b) left (Ok tt)
  without_ceilings true left e ys =
      record {
        answer = opening_yes (unlimited (length us) ls) ys (leasts_close (length us) ls ys);
        closed = refl;
      }
  without_ceilings false left e ys = absurd (false≢true e)

  -- What follows from each answer of closing.
  abbrev pub From_closing : Bool → Pair → Result Closed ClosingRefusal → Type 0
  From_closing b left (Ok k) = OpeningAsked (with_mark us ls b) left (Ok tt)
  From_closing b left (Err (closing_refusal.Pair r)) = OpeningAsked (with_mark us ls b) left (Err (monitor_refusal.Pair r))
  From_closing b left (Err closing_refusal.ResultLength) = ⊥
  From_closing b left (Err closing_refusal.NoClosure) = OpeningAsked (with_mark us ls b) left (Err monitor_refusal.NoClosure)

  in_room : (left : Pair) (r : Result Closed ClosingRefusal) → closing_answer r left ≡ closing (with_mark us ls false) room
      → From_closing false left r
  in_room left (Ok k) e =
      let c : Pair = pair_of us ls in
      let (ys, (q, a)) = told c (Ok k) left e in
      record { answer = opening_yes (limited c) ys (k.rounds, q, a); closed = closed_left c k left e }
  in_room left (Err (closing_refusal.Pair r)) e =
      let c : Pair = pair_of us ls in
      record {
        answer = first_no (limited c) (pair_refusal_number r) (told c (Err (closing_refusal.Pair r)) left e);
        closed = none_left c (closing_refusal.Pair r) left e;
      }
  in_room left (Err closing_refusal.ResultLength) e = told (pair_of us ls) (Err closing_refusal.ResultLength) left e
  in_room left (Err closing_refusal.NoClosure) e =
      let c : Pair = pair_of us ls in
      let (ys, n) = told c (Err closing_refusal.NoClosure) left e in
      record { answer = opening_fifth (limited c) ys n; closed = none_left c closing_refusal.NoClosure left e }

  pub from_closing : (b : Bool) (found left : Pair) (k r : Result Closed ClosingRefusal) → b ≡ false → found ≡ room
      → closing_answer k left ≡ closing (with_mark us ls b) found → k ≡ r → From_closing b left r
  from_closing true found left k r f z e is = absurd (false≢true (sym f))
  from_closing false found left k r f z e is =
      subst (From_closing false left) is (in_room left k (e ∙ ap (closing (with_mark us ls false)) z))

-- ---- the state
-- What is left in the lists, up to the horizon, is what closing leaves in lists of zeros.
closure_left : (p : AnyPair) (left : Pair) (r : Result (Unit {0}) MonitorRefusal) → OpeningAsked p left r
    → closed_in p (first (horizon (curves_of p)) left) ≡ closed_in p (curves_of (closure_of p room))
closure_left p left (Ok u) asked = asked.closed
closure_left (limited c) left (Err e) asked = ap (first (horizon c)) asked.closed ∙ refused_left c _ asked.answer
closure_left (unlimited h ls) left (Err e) asked = refl

module _ (p : AnyPair) (h : History) (us ls : List ℕ) where
  abbrev state : Monitor
  state = monitor_of h us ls false

  -- The closed figures that count, up to the horizon, are the closure, whatever the answer.
  fresh_is : length us ≡ max_horizon → length ls ≡ max_horizon → (r : Result (Unit {0}) MonitorRefusal) → OpeningAsked p (pair_of us ls) r
      → horizon (curves_of p) ≤ max_horizon → view_of h ≡ fresh p → monitor_view_of state ≡ fresh_monitor p
  fresh_is wide wide' r asked short v =
      let is : h.horizon ≡ horizon (curves_of p) = sym (horizon_seen h) ∙ ap (λ (w : View). horizon (curves_of w.pair)) v in
      let all : (xs : List ℕ) → length xs ≡ max_horizon → entries h.horizon xs ≡ take (horizon (curves_of p)) xs =
      λ xs l. entries-take h.horizon xs (omega arith) ∙ ap (λ n. take n xs) is in
      (λ i. monitor_view (v i) (closed_in (v i).pair (pair_of (all us wide i) (all ls wide' i))) false)
      ∙ ap (λ q. monitor_view (fresh p) q false) (closure_left p (pair_of us ls) r asked)

  pub opened_state : length us ≡ max_horizon → length ls ≡ max_horizon → OpeningAsked p (pair_of us ls) (Ok tt)
      → Begun (opening p) p h → MonitorBegun (monitor_opening p) p state
  opened_state wide wide' asked b =
      let ys : AllYes (pair_questions p) = opened_yes p (sym asked.answer) in
      rw (← asked.answer) (fresh_is wide wide' (Ok tt) asked ys.0.1 (subst (λ r. Begun r p h) (sym (asking_yes p ys)) b))

  zero_is : h ≡ zero_history → pair_of us ls ≡ room → state ≡ zero_monitor
  unfolding zero_monitor
  zero_is z e = λ i. monitor_of (z i) (e i).upper (e i).lower false

  pub refused_state : (e : MonitorRefusal) → OpeningAsked p (pair_of us ls) (Err e) → h ≡ zero_history
      → MonitorBegun (monitor_opening p) p state
  refused_state e asked z = rw (← asked.answer) (zero_is z asked.closed)
