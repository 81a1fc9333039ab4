-- Request P2: an opened monitor passes the extendable streams, and 'lost' is what it says of the others that conform. Assumes nothing.
use Rattle.laws.proofs.Base.{ℕ, ◌≤◌, ◌≡◌, refl, sym, ap, ◌∙◌, subst, subst⁻¹, List, [], ◌↔◌, ⊎_elim, dec_lt, arith, length}
use mathlib.Core.Logic.Iff
use Rattle.laws.specs.Tests.{Each}
use Rattle.curves.specs.Streams.{count_limit, Stream}
use Rattle.curves.specs.Pairs.{Pair, horizon, FiguresWithin}
use Rattle.curves.specs.Unlimited.{AnyPair, limited, unlimited, curves_of, alike, AllWithin}
use Rattle.curves.specs.Conformance.{Conforms, Conforms∞, Extendable}
use Rattle.curves.specs.Ticks.{then, Keeps, passed, too_many, too_few}
use Rattle.curves.specs.Questions.{AllYes, result, refusal}
use Rattle.curves.specs.Theorems.{Closes}
use Rattle.curves.proofs.Asked.{no_refusal}
use Rattle.curves.proofs.Arrival.{arrives_or_crosses}
use Rattle.curves.proofs.Kept.{crossed_has_no_stream}
use Rattle.curves.proofs.Highest.{length-highest}
use Rattle.curves.proofs.Unlimited.{leasts_extendable}
use Rattle.curves.proofs.Closure.{closure_streams, closure_begins, causal_takes_no_round}
use Rattle.curves.proofs.Filled.{closure_filled}
use Rattle.curves.proofs.Extension.{start_conforms}
use Rattle.curves.proofs.NextTick.{empty_conforms, conforms_keeps, keeps_conforms}
use Rattle.bounds.specs.Bounds.{figure_limit, question4, pair_questions}
use Rattle.closure.specs.Theorems.{GivesClosure, closure_of, room}
use Rattle.closure.proofs.Given.{arrived, given_horizon, closure_alike, within_closed, stream_by}
use Rattle.closure.proofs.Promised.{closure_passes, conforms_iff_extendable, given_is_causal}
use Rattle.history.specs.States.{View}
use Rattle.monitor.specs.Monitoring.{MonitorView, closed_in, Ruling, judged, lost}
use Rattle.monitor.specs.Opening.{monitor_opening, fresh_monitor}
use Rattle.monitor.specs.Calls.{after_ticks, rulings}
use Rattle.generator.specs.Generating.{sending}
use Rattle.monitor.proofs.Opening.{opening_yes, opening_fifth, opened_yes, opened_gives}
use Rattle.guarantees.specs.Exact.{LegalUnfailed, Answers, JudgedOutside, Offered, Opens, AllPass, RightOfWholeStream}
use Rattle.guarantees.specs.Exact.{NothingPassesAfter}
use Rattle.guarantees.specs.Lost.{MonitorRefusedIffNoStream, AllPassIffExtendable, LostIffNotExtendable, MonitorOpensOnClosure}
use Rattle.guarantees.specs.Lost.{PassedIffExtendable, OutsideIffNotConforming, LostBeforeHorizon, NeverLostOnClosure}
use Rattle.guarantees.specs.Lost.{MonitorNeverRefused, PassesIffExtendable}
use Rattle.guarantees.proofs.Held.{held_of}
use Rattle.guarantees.proofs.Rulings.{RightRuling, outside_iff, neither_iff}
use Rattle.guarantees.proofs.Generating.{sends_iff_neither}
use Rattle.guarantees.proofs.Monitoring.{NotLost, after, start, legal, keeps_whole, right_of_all, pass_iff, after_passing}
use Rattle.guarantees.proofs.Monitoring.{failed_after, answered_all, never_lost}

-- ---- opening
pub monitor_refused_iff_no_stream : MonitorRefusedIffNoStream
monitor_refused_iff_no_stream p ys = (there, back)
  where
    there : monitor_opening p ≡ refusal 5 → (s : Stream) → Conforms∞ (curves_of p) s.counts → ⊥
    there e s k =
        ⊎_elim
        (λ a. no_refusal tt 5 (opening_yes p ys a ∙ e))
        (λ x. crossed_has_no_stream (curves_of p) x.0 x.1.crossed s.counts k)
        (arrives_or_crosses (curves_of p))

    back : ((s : Stream) → Conforms∞ (curves_of p) s.counts → ⊥) → monitor_opening p ≡ refusal 5
    back none =
        sym (opening_fifth p ys (λ (n, q, a).
        let (s, b, k) = closure_begins (curves_of p) q n a ys.0.0 [] (empty_conforms q) in
        none (stream_by p ys.0 ys.1.1.0 s k) k))

-- ---- the closed figures that an opened monitor holds
extendable_conforms : (p : Pair) (xs : List ℕ) → Extendable p xs → Conforms p xs
extendable_conforms p xs (s, b, c) = start_conforms p xs s.counts b c

abbrev held_in : AnyPair → Pair
held_in p = closed_in p (curves_of (closure_of p room))

held_bounded : (p : AnyPair) → Opens p → (question4 (alike p (held_in p))).asked
held_bounded (limited c) o =
    let g = opened_gives c o in
    subst⁻¹ (AllWithin figure_limit) (closure_alike (limited c) room g) (within_closed (limited c) room g)
held_bounded (unlimited h ls) o = (opened_yes (unlimited h ls) o).1.1.0

held_horizon : (p : AnyPair) → Opens p → horizon (held_in p) ≡ horizon (curves_of p)
held_horizon (limited c) o = given_horizon (limited c) room (opened_gives c o)
held_horizon (unlimited h ls) o = refl

-- The streams that conform to them are the extendable ones; without ceilings every stream that conforms is.
held_extendable : (p : AnyPair) → Opens p → (xs : List ℕ) → Conforms (held_in p) xs ↔ Extendable (curves_of p) xs
held_extendable (limited c) o xs = conforms_iff_extendable (limited c) room (opened_gives c o) xs
held_extendable (unlimited h ls) o xs =
    let ys = opened_yes (unlimited h ls) o in
    let e : length ls ≡ h = ys.1.0 ∙ length-highest h in
    let small : FiguresWithin count_limit ls = λ d u v. omega (arith, ys.1.1.0 d u v) in
    let on = leasts_extendable ls xs (omega (arith, ys.0.0, length-highest h)) small in
    (subst (λ k. Conforms (curves_of (unlimited k ls)) xs → Extendable (curves_of (unlimited k ls)) xs) e on, extendable_conforms _ xs)

-- With as many ticks there as the horizon, what conforms to the pair conforms to them.
held_filled : (p : AnyPair) → Opens p → (xs : List ℕ) (x : ℕ) → Conforms (held_in p) xs → Conforms (curves_of p) (then xs x)
    → horizon (curves_of p) ≤ length (then xs x) → Conforms (held_in p) (then xs x)
held_filled (limited c) o xs x k n h = closure_filled c _ _ (arrived (limited c) room (opened_gives c o)) xs x k n h
held_filled (unlimited h ls) o xs x k n l = n

-- ---- a monitor that was opened on p
-- Behind a conforming stream, to keep every window is to conform.
keeps_iff : (p : Pair) (xs : List ℕ) (x : ℕ) → Conforms p xs → Keeps p (then xs x) ↔ Conforms p (then xs x)
keeps_iff p xs x c = (keeps_conforms p xs x c, conforms_keeps p (then xs x))

module _ (p : AnyPair) (o : Opens p) where
  abbrev c : Pair
  c = curves_of p

  abbrev q : Pair
  q = held_in p

  yes_p : AllYes (pair_questions p)
  yes_p = opened_yes p o

  bound : (question4 (alike p q)).asked
  bound = held_bounded p o

  same : horizon q ≡ horizon c
  same = held_horizon p o

  abbrev holding : List ℕ → MonitorView
  holding = after p q yes_p bound same

  begun : fresh_monitor p ≡ holding []
  begun = start p q yes_p bound same

  -- The streams that conform to the closed figures are the extendable ones.
  extendable_iff : (xs : List ℕ) → Conforms q xs ↔ Extendable c xs
  extendable_iff = held_extendable p o

  passes_iff : (xs : List ℕ) → AllPass p xs ↔ Extendable c xs
  passes_iff xs =
      Iff.trans (Iff.symm (pass_iff p q yes_p bound same (fresh_monitor p) [] xs begun (empty_conforms c, empty_conforms q)))
      (λ k. (extendable_iff xs).0 k.1, λ e. (extendable_conforms c xs e, (extendable_iff xs).1 e))

  -- While every tick has passed.
  module _ (xs : List ℕ) (es : AllPass p xs) (x : ℕ) where
    abbrev now : MonitorView
    now = after_ticks (fresh_monitor p) xs

    now_is : now ≡ holding xs
    now_is = after_passing p q yes_p bound same (fresh_monitor p) [] xs begun es

    pub now_view : now.view ≡ held_of p xs
    now_view = ap (λ (w : MonitorView). w.view) now_is

    pub now_unfailed : LegalUnfailed now
    now_unfailed = rw now_is (record { legal = legal p q yes_p bound same xs; mark = refl })

    next_right : (r : Ruling) → Answers now x r ↔ RightRuling c q (then xs x) r
    next_right r = right_of_all p q yes_p bound same now xs now_is x r

    -- To keep every window is to conform to the pair, and to begin an unbounded stream by the closure.
    given_iff : Keeps c (then xs x) ↔ Conforms c (then xs x)
    given_iff = keeps_iff c xs x (extendable_conforms c xs ((passes_iff xs).0 es))

    closed_iff : Keeps q (then xs x) ↔ Extendable c (then xs x)
    closed_iff = Iff.trans (keeps_iff q xs x ((extendable_iff xs).1 ((passes_iff xs).0 es))) (extendable_iff (then xs x))

    next_lost : Answers now x lost ↔ (Conforms c (then xs x) × (¬ Extendable c (then xs x)))
    next_lost = Iff.trans (next_right lost) (Iff.and given_iff (Iff.not closed_iff))

    next_passed : Answers now x (judged passed) ↔ Extendable c (then xs x)
    next_passed =
        Iff.trans (next_right (judged passed))
        (λ k. closed_iff.0 k.1, λ e. (given_iff.1 (extendable_conforms c (then xs x) e), closed_iff.1 e))

    -- The held ticks are as good as the whole stream.
    now_keeps : Keeps (curves_of now.view.pair) (then now.view.held x) ↔ Conforms c (then xs x)
    now_keeps = rw now_is (Iff.trans (keeps_whole p q yes_p bound same xs x) given_iff)

    next_outside : JudgedOutside now x ↔ (¬ Conforms c (then xs x))
    next_outside = Iff.trans (outside_iff now x now_unfailed) (Iff.not now_keeps)

pub all_pass_iff_extendable : AllPassIffExtendable
all_pass_iff_extendable p o xs = passes_iff p o xs

pub monitor_never_refused : MonitorNeverRefused
monitor_never_refused p o xs = answered_all p (q p o) (yes_p p o) (bound p o) (same p o) (fresh_monitor p) [] xs (begun p o)

pub lost_iff_not_extendable : LostIffNotExtendable
lost_iff_not_extendable p o xs es x = next_lost p o xs es x

pub passed_iff_extendable : PassedIffExtendable
passed_iff_extendable p o xs es x = next_passed p o xs es x

pub outside_iff_not_conforming : OutsideIffNotConforming
outside_iff_not_conforming p o xs es x = next_outside p o xs es x

-- With as many ticks there as the horizon, what conforms to the pair would conform to the closure.
pub lost_before_horizon : LostBeforeHorizon
lost_before_horizon p o xs es x e =
    let (c, n) = (next_lost p o xs es x).0 e in
    elim (dec_lt (length (then xs x)) (horizon (curves_of p))) [
      | yes h ↦ h
      | no h ↦
          let k : Conforms (q p o) xs = (extendable_iff p o xs).1 ((passes_iff p o xs).0 es) in
          absurd (n ((extendable_iff p o (then xs x)).0 (held_filled p o xs x k c (omega arith))))
    ]

pub right_of_whole_stream : RightOfWholeStream
right_of_whole_stream p o xs es x d =
    (next_right p o xs es x (judged (too_many d)), next_right p o xs es x (judged (too_few d)))

pub nothing_passes_after : NothingPassesAfter
nothing_passes_after p o xs es x =
    failed_after p (q p o) (yes_p p o) (bound p o) (same p o) (fresh_monitor p) [] xs x (begun p o) es

-- ---- on a closure
module _ (p : AnyPair) (found : Pair) (g : GivesClosure p found) where
  abbrev r : AnyPair
  r = closure_of p found

  -- It is its own closure.
  opens : Opens r
  opens =
      let own : Closes (curves_of r) = (0, curves_of r, causal_takes_no_round (curves_of r) (given_is_causal p found g)) in
      sym (opening_yes r (closure_passes p found g) own)

  -- The same streams begin unbounded ones that conform to the pair and to the closure.
  pub extendable_same : (xs : List ℕ) → Extendable (curves_of p) xs ↔ Extendable (curves_of r) xs
  extendable_same xs =
      let streams = closure_streams (curves_of p) (curves_of r) _ (arrived p found g) in
      (λ (s, b, k). (s, b, (streams s.counts).0 k), λ (s, b, k). (s, b, (streams s.counts).1 k))

  never : (xs : List ℕ) → Each NotLost (rulings (fresh_monitor r) xs)
  never xs =
      never_lost r (q r opens) (yes_p r opens) (bound r opens) (same r opens)
      (λ zs k. (extendable_iff r opens zs).1 ((extendable_same zs).0 ((conforms_iff_extendable p found g zs).0 k)))
      (fresh_monitor r) [] xs (begun r opens) (empty_conforms (curves_of r))

pub monitor_opens_on_closure : MonitorOpensOnClosure
monitor_opens_on_closure = opens

pub never_lost_on_closure : NeverLostOnClosure
never_lost_on_closure = never

pub passes_iff_extendable : PassesIffExtendable
passes_iff_extendable p found g xs =
    Iff.trans (passes_iff (closure_of p found) (opens p found g) xs) (Iff.symm (extendable_same p found g xs))

-- ---- beside a generator with the same history
-- Where every stream that conforms is extendable, what is neither 'too many' nor 'too few' passes.
pub sends_where_passes : (p : AnyPair) → Opens p → ((ys : List ℕ) → Conforms (curves_of p) ys ↔ Extendable (curves_of p) ys) → (xs : List ℕ)
    → AllPass p xs → (x : ℕ)
    → let w : MonitorView = after_ticks (fresh_monitor p) xs in
    ((choice : ℕ) × (choice ≤ count_limit) × (sending w.view choice ≡ result x)) ↔ (Answers w x (judged passed) × Offered p x)
sends_where_passes p o extends xs es x =
    let w : MonitorView = after_ticks (fresh_monitor p) xs in
    let f : LegalUnfailed w = now_unfailed p o xs es x in
    let pair : w.view.pair ≡ p = ap (λ (v : View). v.pair) (now_view p o xs es x) in
    Iff.trans (sends_iff_neither w f x)
    (Iff.and
    (Iff.trans (neither_iff w x f)
    (Iff.trans (now_keeps p o xs es x)
    (Iff.trans (extends (then xs x)) (Iff.symm (next_passed p o xs es x)))))
    (subst (λ (r : AnyPair). Offered r x ↔ Offered p x) (sym pair) Iff.rfl))
