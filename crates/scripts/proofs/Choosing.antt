-- Laws over plain variables for the counts that choices lead to: those between the limits can be sent, and one tick after the other.
-- Assumes nothing.
use Rattle.laws.proofs.Base.{ℕ, zero, suc, ◌+◌, ◌-◌, ◌%◌, ◌≤◌, ◌<◌, min, max, ◌≡◌, refl, sym, ap, ◌∙◌, Bool, true, false}
use Rattle.laws.proofs.Base.{List, [], ◌∷◌, ◌++◌, map, append_assoc, append-nil, ◌↔◌, dec_le, le_refl, add-one, mod-lt, arith}
use Rattle.laws.proofs.Base.{length, get_or, set, take, drop, length-set}
use lib.Seq.{take-suc-set, drop-set-lt, take-suc, drop-drop}
use borrow.Rule.Slice.PartMut.{put_mid}
use Rattle.curves.specs.Pairs.{Pair, horizon, figure}
use Rattle.curves.specs.Unlimited.{with_mark, curves_of}
use Rattle.curves.specs.Conformance.{Inside}
use Rattle.curves.specs.Ticks.{then, newest, last, Judged, Keeps, Extremes}
use Rattle.curves.specs.Questions.{result}
use Rattle.curves.proofs.Highest.{highest_at, horizon_with}
use Rattle.curves.proofs.NextTick.{last_none, length-then, last_next}
use Rattle.curves.proofs.Verdicts.{keeps_newest, then_newest, newest_newest, length-newest}
use Rattle.bounds.specs.Bounds.{figure_limit}
use Rattle.history.specs.States.{View, Legal}
use Rattle.history.specs.Steps.{view_with}
use Rattle.generator.specs.Generating.{Sendable, sending}
use Rattle.generator.specs.Calls.{view_after, sendings}
use Rattle.generator.proofs.Said.{ranging_range, sendable_iff}
use Rattle.scripts.specs.Steps.{sum_limit, SendsBy, ceilings_from, RaisedFrom, FiguresRaised, Ready, Entering, Entered}
use Rattle.scripts.proofs.Narrowing.{sum_of_all, entering, ready_next}

-- ---- one window
-- Of d + 1 ticks, of which those before the next one have the sum s.
window_iff : (b : Bool) (us ls : List ℕ) (d s x : ℕ) → d < length us → s ≤ sum_limit → (d ≡ 0 → s ≡ 0) → x ≤ figure_limit
    → Inside (curves_of (with_mark us ls b)) (suc d) (s + x) ↔ ((get_or ls d 0 ≤ x + s) × (x + s ≤ ceilings_from b us d))
unfolding figure
window_iff false us ls d s x l c z f =
    ((λ i. (omega (arith, i.1), omega (arith, i.0))), (λ h. ((λ q. omega (arith, h.1)), (λ q. omega (arith, h.0)))))
window_iff true us ls zero s x l c z f = (
  (λ i. (omega (arith, i.1), omega (arith, z refl))),
  (λ h. ((λ q. omega (arith, q, highest_at (length us) 1 (omega arith) l)), (λ q. omega (arith, h.0)))),
)
window_iff true us ls (suc d) s x l c z f = (
  (λ i. (omega (arith, i.1), omega arith)),
  (λ h. ((λ q. omega (arith, q, highest_at (length us) (suc (suc d)) (omega arith) l)), (λ q. omega (arith, h.0)))),
)

-- The window of one tick keeps counts within the limit of figures.
first_ceiling : (b : Bool) (us ls xs : List ℕ) → Legal (view_with us ls b xs) → ceilings_from b us 0 ≤ figure_limit
unfolding figure
first_ceiling false us ls xs l = l.figures.0 1 (omega arith) l.lengths.0
first_ceiling true us ls xs l = omega arith

-- ---- the next tick
module _ (us ls : List ℕ) (b : Bool) where
  abbrev p : Pair
  p = curves_of (with_mark us ls b)

  -- What is held of the ticks zs.
  abbrev held_of : List ℕ → List ℕ
  held_of zs = newest (horizon p - 1) zs

  abbrev view_at : List ℕ → View
  view_at zs = view_with us ls b (held_of zs)

  held_all : (xs : List ℕ) → Legal (view_with us ls b xs) → held_of xs ≡ xs
  held_all xs l = let e : length xs - (horizon p - 1) ≡ 0 = omega (arith, l.fewer) in ap (λ k. drop k xs) e

  held_then : (zs : List ℕ) (x : ℕ) → 1 ≤ horizon p → held_of (then (held_of zs) x) ≡ held_of (then zs x)
  held_then zs x h =
      ap held_of (then_newest (horizon p - 1) zs x) ∙ newest_newest (suc (horizon p - 1)) (then zs x) (horizon p - 1) (omega arith)

  module _ (xs : List ℕ) (l : Legal (view_with us ls b xs)) where
    some : 1 ≤ horizon p
    some = l.lengths.0

    legal_at : (zs : List ℕ) → Legal (view_at zs)
    legal_at zs =
        record { lengths = l.lengths; figures = l.figures; fewer = omega (arith, some, length-newest (horizon p - 1) zs) }

    module _ (cs ms : List ℕ) (C : RaisedFrom (length us) (ceilings_from b us) cs) (M : RaisedFrom (length us) (λ d. get_or ls d 0) ms)
        (zs : List ℕ) (k : ℕ) (sums : List ℕ) (lo hi : ℕ) (Y : Ready cs ms zs k sums lo hi) where
      -- With the count x every window keeps its figures.
      abbrev Holds : ℕ → Type 0
      Holds x = (d : ℕ) → d ≤ k → (get_or ls d 0 ≤ x + last zs d) × (x + last zs d ≤ ceilings_from b us d)

      inside : (d : ℕ) → d ≤ k → d < length us
      inside d q = omega (arith, Y.held, C.whole, some, horizon_with us ls b)

      least_at : (d : ℕ) → d ≤ k → get_or ms (length cs - 1 - d) 0 ≡ get_or ls d 0 + sum_limit
      least_at d q = rw C.whole (M.entry d (inside d q))

      ceiling_at : (d : ℕ) → d ≤ k → get_or cs (length cs - 1 - d) 0 ≡ ceilings_from b us d + sum_limit
      ceiling_at d q = rw C.whole (C.entry d (inside d q))

      limits_iff : (x : ℕ) → ((lo ≤ x + sum_limit) × (x + sum_limit ≤ hi)) ↔ Holds x
      limits_iff x = (
        (λ r d q. (
          omega (arith, (Y.lowest (x + sum_limit)).0 r.0 d q, least_at d q),
          omega (arith, (Y.highest (x + sum_limit)).0 r.1 d q, ceiling_at d q),
        )),
        (λ h. (
          (Y.lowest (x + sum_limit)).1 (λ d q. omega (arith, (h d q).0, least_at d q)),
          (Y.highest (x + sum_limit)).1 (λ d q. omega (arith, (h d q).1, ceiling_at d q)),
        )),
      )

      zero_sum : (d : ℕ) → d ≡ 0 → last zs d ≡ 0
      zero_sum d e = ap (last zs) e ∙ last_none zs

      one_window : (x d : ℕ) → d ≤ k → x ≤ figure_limit
          → Inside p (suc d) (last zs d + x) ↔ ((get_or ls d 0 ≤ x + last zs d) × (x + last zs d ≤ ceilings_from b us d))
      one_window x d q f = window_iff b us ls d (last zs d) x (inside d q) (Y.kept.small d q) (zero_sum d) f

      keeps_iff : (x : ℕ) → (Keeps p (then zs x) × (x ≤ figure_limit)) ↔ Holds x
      keeps_iff x = (there, back)
        where
          there : Keeps p (then zs x) × (x ≤ figure_limit) → Holds x
          there (keeps, f) d q =
              let j : Judged p (then zs x) (suc d) =
              record {
                positive = omega arith;
                within = omega (arith, inside d q, horizon_with us ls b);
                begun = omega (arith, Y.held, length-then zs x);
              } in
              (one_window x d q f).0 (rw (last_next zs x d (omega (arith, Y.held))) at (keeps (suc d) j))

          back : Holds x → Keeps p (then zs x) × (x ≤ figure_limit)
          back h =
              let f : x ≤ figure_limit = omega (arith, h 0 (omega arith), first_ceiling b us ls xs l) in
              ((λ d j. window f d j.positive j.within j.begun), f)
            where
              window : x ≤ figure_limit → (d : ℕ) → 1 ≤ d → d ≤ horizon p → d ≤ length (then zs x) → Inside p d (last (then zs x) d)
              window f zero u v w = absurd (omega arith)
              window f (suc d) u v w =
                  let n : d ≤ length zs = omega (arith, length-then zs x) in
                  let q : d ≤ k = omega (arith, Y.held, C.whole, horizon_with us ls b) in
                  rw (last_next zs x d n) ((one_window x d q f).1 (h d q))

      sent_iff : (x : ℕ) → Sendable (with_mark us ls b) (held_of zs) x ↔ ((lo ≤ x + sum_limit) × (x + sum_limit ≤ hi))
      sent_iff x =
          let a = sendable_iff (view_at zs) (legal_at zs) x in
          let c = keeps_newest p (horizon p - 1) zs (omega (arith, some)) x in (
            (λ s. let (k, f) = a.0 s in (limits_iff x).1 ((keeps_iff x).0 (c.0 k, f))),
            (λ r. let (k, f) = (keeps_iff x).1 ((limits_iff x).0 r) in a.1 (c.1 k, f)),
          )

      lo_raised : sum_limit ≤ lo
      lo_raised = omega (arith, (Y.lowest lo).0 (le_refl lo) 0 (omega arith), last_none zs, least_at 0 (omega arith))

      -- Where there is a count, the choice leads to it.
      ready_sends : lo ≤ hi → (choice : ℕ) → sending (view_at zs) choice ≡ result (lo - sum_limit + choice % (hi - lo + 1))
      ready_sends q choice =
          let w = lo_raised in
          let r : Extremes (Sendable (with_mark us ls b) (held_of zs)) =
          record {
            lo = lo - sum_limit;
            hi = hi - sum_limit;
            lo_keeps = (sent_iff (lo - sum_limit)).1 (omega arith, omega arith);
            hi_keeps = (sent_iff (hi - sum_limit)).1 (omega arith, omega arith);
            smallest = λ x s. omega (arith, ((sent_iff x).0 s).0);
            largest = λ x s. omega (arith, ((sent_iff x).0 s).1);
          } in
          let e : suc (hi - sum_limit - (lo - sum_limit)) ≡ hi - lo + 1 = omega arith in
          rw (ranging_range (view_at zs) (legal_at zs) r) (ap (λ n. result (lo - sum_limit + choice % n)) e)

    -- ---- one tick after the other
    -- A choice more, after those that sent the counts ys.
    sendings_more : (choices zs ys : List ℕ) (choice x : ℕ) → sendings (view_at zs) choices ≡ map result ys
        → sending (view_at (zs ++ ys)) choice ≡ result x
        → sendings (view_at zs) (choices ++ (choice ∷ [])) ≡ map result (ys ++ (x ∷ []))
    unfolding sendings
    sendings_more [] zs [] choice x e f =
        let g : sending (view_at zs) choice ≡ result x = (rw append-nil at f) in cc
    sendings_more [] zs (y ∷ ys) choice x e f = absurd (omega (arith, ap length e))
    sendings_more (c ∷ choices) zs [] choice x e f = absurd (omega (arith, ap length e))
    sendings_more (c ∷ choices) zs (y ∷ ys) choice x e f =
        let a : sending (view_at zs) c ≡ result y = cc in
        let v : view_after (sending (view_at zs) c) (view_at zs) ≡ view_at (then zs y) =
        ap (λ r. view_after r (view_at zs)) a ∙ ap (λ hs. view_with us ls b hs) (held_then zs y some) in
        let rest : sendings (view_at (then zs y)) choices ≡ map result ys = ap (λ w. sendings w choices) (sym v) ∙ cc in
        let last : sending (view_at (then zs y ++ ys)) choice ≡ result x = rw append_assoc f in
        let all = sendings_more choices (then zs y) ys choice x rest last in
        cc

-- ---- the loop over the choices
-- The place of the next sum of all, which lies within the list as the one before does.
pub next_place : (h first first' : ℕ) → first' ≡ max 1 (first - 1) → (1 ≤ first) × (first ≤ h)
    → (1 ≤ first') × (first' ≤ h) × (first' - 1 ≤ h - 1) × (first' - 1 < h)
next_place h first first' e (u, l) = (omega arith, omega arith, omega arith, omega arith)

one_more : (h first first' : ℕ) → first' ≡ max 1 (first - 1) → (1 ≤ first) × (first ≤ h) → h - first' ≡ min (h - 1) (suc (h - first))
one_more h first first' e (u, l) =
    elim (dec_le 2 first) [
      | yes g ↦ let f : first ≡ suc first' = omega arith in below h first first' (omega arith) f l
      | no g ↦ let f : first ≡ 1 = omega arith in let f' : first' ≡ 1 = omega arith in rw (f, f') (omega arith)
    ]
  where
    below : (h first first' : ℕ) → 1 ≤ first' → first ≡ suc first' → first ≤ h → h - first' ≡ min (h - 1) (suc (h - first))
    below h first first' g f l = omega arith

min_more : (k m n k' : ℕ) → k ≡ min m n → k' ≡ min m (suc k) → k' ≡ min m (suc n)
min_more k m n k' e f = omega arith

pub chosen_fits : (lo hi choice : ℕ) → lo ≤ hi → sum_limit ≤ lo → lo - sum_limit + choice % (hi - lo + 1) ≤ hi
chosen_fits lo hi choice l r =
    let m : choice % (hi - lo + 1) < hi - lo + 1 = mod-lt choice {m = hi - lo + 1} (omega arith) in omega arith

module _ (cs ms ticks choices found : List ℕ) where
  -- Before the turn i: the choices before it are sent, and all is ready for the next tick.
  pub record SentTo (sums counts : List ℕ) (first lo hi i : ℕ) : Type 0 where
    pub turn : i ≤ length choices
    pub place : (1 ≤ first) × (first ≤ length cs)
    pub sums_whole : length sums ≡ length cs + 1
    pub whole : length counts ≡ length found
    pub others : drop i counts ≡ drop i found
    pub ready : Ready cs ms (ticks ++ take i counts) (length cs - first) sums lo hi
    pub sent : (us ls : List ℕ) (b : Bool) → RaisedFrom (length us) (ceilings_from b us) cs
        → RaisedFrom (length us) (λ d. get_or ls d 0) ms → Legal (view_with us ls b ticks)
        → sendings (view_with us ls b ticks) (take i choices) ≡ map result (take i counts)

  pub sent_none : (sums : List ℕ) (first lo hi : ℕ) → length ticks < length cs → first ≡ length cs - length ticks
      → Ready cs ms ticks (length ticks) sums lo hi → SentTo sums found first lo hi 0
  unfolding sendings
  sent_none sums first lo hi few e Y =
      let k : length ticks ≡ length cs - first = omega arith in
      record {
        turn = omega arith;
        place = (omega arith, omega arith);
        sums_whole = Y.sums_more;
        whole = refl;
        others = refl;
        ready = rw (append-nil, ← k) Y;
        sent = λ us ls b C M l. refl;
      }

  -- Nothing is sent.
  pub sends_none : SendsBy cs ms ticks choices found found 0
  unfolding sendings
  sends_none us ls b C M l = record { within = omega arith; sent = refl; whole = refl; others = refl }

  module _ (F : FiguresRaised cs ms) (same : length found ≡ length choices) (sums counts : List ℕ) (first lo hi i x first' : ℕ)
      (T : SentTo sums counts first lo hi i) (more : i < length choices) (some : lo ≤ hi)
      (is : x ≡ lo - sum_limit + get_or choices i 0 % (hi - lo + 1)) (low : x ≤ sum_limit - get_or sums first 0)
      (step : first' ≡ max 1 (first - 1)) where
    abbrev zs : List ℕ
    zs = ticks ++ take i counts

    one : 1 ≤ first'
    one = (next_place (length cs) first first' step T.place).0

    in_list : first' ≤ length cs
    in_list = (next_place (length cs) first first' step T.place).1

    few : length cs - first' ≡ min (length cs - 1) (suc (length zs))
    few = min_more _ _ (length zs) _ T.ready.held (one_more (length cs) first first' step T.place)

    fits : last zs (length cs - first) + x ≤ sum_limit
    fits =
        let s = sum_of_all cs ms zs sums (length cs - first) lo hi F T.ready first T.place.1 refl in
        omega (arith, T.ready.kept.small (length cs - first) (le_refl _))

    pub entering_more : Entering (take (length cs + 1 - first') (drop first' sums))
        (take (length cs - 1 - (first' - 1)) (drop (first' - 1) cs)) (take (length cs - 1 - (first' - 1)) (drop (first' - 1) ms)) x
        (get_or ms (length cs - 1) 0) (get_or cs (length cs - 1) 0)
    entering_more = entering cs ms zs sums (length cs - first) lo hi F T.ready x first' one in_list few fits

    taken : ticks ++ take (i + 1) (set counts i x) ≡ then zs x
    taken =
        rw (add-one i, take-suc-set counts i x (omega (arith, T.whole)))
        (sym (append_assoc ticks (take i counts) (x ∷ [])))

    sent_next : (us ls : List ℕ) (b : Bool) → RaisedFrom (length us) (ceilings_from b us) cs
        → RaisedFrom (length us) (λ d. get_or ls d 0) ms → Legal (view_with us ls b ticks)
        → sendings (view_with us ls b ticks) (take (i + 1) choices) ≡ map result (take (i + 1) (set counts i x))
    sent_next us ls b C M l =
        let all = held_all us ls b ticks l in
        let e : sendings (view_at us ls b ticks) (take i choices) ≡ map result (take i counts) = rw all (T.sent us ls b C M l) in
        let f : sending (view_at us ls b zs) (get_or choices i 0) ≡ result x =
        ready_sends us ls b ticks l cs ms C M zs (length cs - first) sums lo hi T.ready some (get_or choices i 0)
        ∙ ap result (sym is) in
        let g = sendings_more us ls b ticks l (take i choices) ticks (take i counts) (get_or choices i 0) x e f in
        rw (add-one i, take-suc choices i 0 more, take-suc-set counts i x (omega (arith, T.whole)), ← all) g

    pub sent_more : (grown : List ℕ) (lo' hi' : ℕ)
        → Entered (take (length cs + 1 - first') (drop first' sums)) (take (length cs - 1 - (first' - 1)) (drop (first' - 1) cs))
        (take (length cs - 1 - (first' - 1)) (drop (first' - 1) ms)) x (get_or ms (length cs - 1) 0) (get_or cs (length cs - 1) 0)
        grown lo' hi'
        → SentTo (put_mid first' (length cs + 1 - first') sums grown) (set counts i x) first' lo' hi' (i + 1)
    sent_more grown lo' hi' E =
        let Y = ready_next cs ms zs sums (length cs - first) lo hi F T.ready x first' one in_list few fits grown lo' hi' E in
        record {
          turn = omega arith;
          place = (one, in_list);
          sums_whole = Y.sums_more;
          whole = length-set counts i x ∙ T.whole;
          others =
              rw (add-one i) (drop-set-lt (suc i) counts i x (omega arith) ∙ behind);
          ready = rw taken Y;
          sent = sent_next;
        }
      where
        behind : drop (suc i) counts ≡ drop (suc i) found
        behind =
            let n : i + 1 ≡ suc i = add-one i in
            sym (ap (λ k. drop k counts) n) ∙ sym (drop-drop 1 i counts) ∙ ap (drop 1) T.others ∙ drop-drop 1 i found
            ∙ ap (λ k. drop k found) n
