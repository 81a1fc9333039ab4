-- Laws over plain variables for counts that pass on a monitor: the stricter figures stand for the given and the closed ones, and ticks that
-- keep both pass one after the other. Assumes nothing.
use Rattle.laws.proofs.Base.{ℕ, zero, suc, ◌+◌, ◌-◌, ◌≤◌, ◌<◌, ◌≡◌, refl, sym, ap, ◌∙◌, subst, Bool, true, false, List, [], ◌∷◌, ◌++◌}
use Rattle.laws.proofs.Base.{append_assoc, arith, length, get_or, take, drop, replicate, length-append, length-take-le, length-replicate}
use Rattle.laws.proofs.Base.{take_at}
use lib.ListN.{get_or-replicate}
use lib.Seq.{get_or-take}
use Rattle.curves.specs.Pairs.{Pair, pair_of, horizon, figure}
use Rattle.curves.specs.Unlimited.{AnyPair, with_mark, curves_of}
use Rattle.curves.specs.Ticks.{then, newest, last, Keeps, passed}
use Rattle.curves.specs.Questions.{result}
use Rattle.curves.proofs.Highest.{length-highest, highest_at, horizon_with}
use Rattle.curves.proofs.Verdicts.{verdict_is, length-newest, then_newest, newest_newest, keeps_newest}
use Rattle.history.specs.Steps.{Slices, view_with}
use Rattle.monitor.specs.Monitoring.{MonitorView, monitor_view, closed_in, LegalMonitor, judged, ruled, judging}
use Rattle.monitor.specs.Calls.{after_tick, monitor_after, rulings}
use Rattle.monitor.proofs.Said.{judging_unfailed}
use Rattle.scripts.specs.Steps.{sum_limit, strict_ceiling, strict_least, TurnedBy, Placed, KeepsTurned, KeepFirst}
use Rattle.scripts.specs.Steps.{PassesFirst}

-- ---- sums at the beginning of an array
-- The first n entries of one of 0 alone.
module _ (found : List ℕ) (n : ℕ) (zeros : found ≡ replicate 257 0) (some : 1 ≤ n) (few : n ≤ 257) where
  room : n ≤ length found
  room = omega (arith, ap length zeros ∙ length-replicate {A = ℕ} 257 0)

  pub front_length : n ≡ length (take n found)
  front_length = sym (length-take-le n found room)

  pub front_last : get_or (take n found) (length (take n found) - 1) 0 ≡ 0
  front_last =
      let l : length (take n found) - 1 < n = omega (arith, front_length) in
      get_or-take n found (length (take n found) - 1) 0 l
      ∙ ap (λ ys. get_or ys (length (take n found) - 1) 0) zeros
      ∙ get_or-replicate 257 (length (take n found) - 1) 0 0 (omega arith)

  -- Others are put there, as many.
  module _ (left : List ℕ) (same : length left ≡ length (take n found)) where
    pub front_room : n ≤ length (left ++ drop n found)
    front_room = omega (arith, length-append left (drop n found), front_length)

    pub front_is : take n (left ++ drop n found) ≡ left
    front_is = take_at left (drop n found) n (same ∙ sym front_length)

-- ---- ticks that keep both pairs
module _ (p : AnyPair) (q : Pair) where
  -- One fewer tick than the horizon is held.
  abbrev most : ℕ
  most = horizon (curves_of p) - 1

  -- A monitor after the ticks xs, none of them rejected.
  abbrev after : List ℕ → MonitorView
  after xs = monitor_view (record { pair = p; held = newest most xs }) q false

  abbrev KeepsBoth : List ℕ → Type 0
  KeepsBoth xs = Keeps (curves_of p) xs × Keeps q xs

  module _ (xs₀ : List ℕ) (L : LegalMonitor (after xs₀)) (same : horizon q ≡ horizon (curves_of p)) where
    after_legal : (xs : List ℕ) → LegalMonitor (after xs)
    after_legal xs =
        let g = L.given in
        let some : 1 ≤ horizon (curves_of p) = g.lengths.0 in
        record {
          given = record { lengths = g.lengths; figures = g.figures; fewer = omega (arith, length-newest most xs) };
          bounded = L.bounded;
        }

    tick_passes : (xs : List ℕ) (x : ℕ) → KeepsBoth (then xs x) → judging (after xs) x ≡ result (judged passed)
    tick_passes xs x k =
        judging_unfailed (after xs) x (after_legal xs) refl
        ∙ (λ i. result (ruled
        (verdict_is (curves_of p) (then (newest most xs) x) passed ((keeps_newest (curves_of p) most xs (omega arith) x).1 k.0) i)
        (verdict_is q (then (newest most xs) x) passed ((keeps_newest q most xs (omega arith) x).1 k.1) i)))

    tick_after : (xs : List ℕ) (x : ℕ) → KeepsBoth (then xs x) → after_tick (after xs) x ≡ after (then xs x)
    tick_after xs x k =
        ap (λ a. monitor_after a (after xs) x) (tick_passes xs x k)
        ∙ ap (λ ys. monitor_view (record { pair = p; held = ys }) q false)
        (ap (newest most) (then_newest most xs x) ∙ newest_newest (suc most) (then xs x) most (omega arith))

    pub ticks_pass : (xs counts : List ℕ) (n : ℕ) → n ≤ length counts → ((k : ℕ) → k < n → KeepsBoth (xs ++ take (suc k) counts))
        → rulings (after xs) (take n counts) ≡ replicate n (result (judged passed))
    unfolding rulings
    ticks_pass xs counts zero l h = refl
    ticks_pass xs [] (suc n) l h = absurd (omega arith)
    ticks_pass xs (x ∷ counts) (suc n) l h =
        let k : KeepsBoth (then xs x) = h 0 (omega arith) in
        let rest = ticks_pass (then xs x) counts n (omega arith)
        (λ j m. subst KeepsBoth (sym (append_assoc xs (x ∷ []) (take (suc j) counts))) (h (suc j) (omega arith))) in
        λ i. tick_passes xs x k i ∷ (ap (λ w. rulings w (take n counts)) (tick_after xs x k) ∙ rest) i

-- ---- the stricter figures
module _ (us ls : List ℕ) (b : Bool) (cus cls : List ℕ) where
  abbrev p : AnyPair
  p = with_mark us ls b

  abbrev q : Pair
  q = closed_in p (pair_of cus cls)

  abbrev h : ℕ
  h = length us

  -- A monitor of these figures that holds xs.
  abbrev seen : List ℕ → MonitorView
  seen xs = monitor_view (view_with us ls b xs) q false

  -- Every judged window of ys is within them, by its number of ticks.
  abbrev KeepsStrict : Bool → List ℕ → Type 0
  KeepsStrict b ys =
      (d : ℕ) → 1 ≤ d → d ≤ h → d ≤ length ys
      → (strict_least b (figure 0 ls d) (figure 0 cls d) ≤ last ys d) × (last ys d ≤ strict_ceiling b (figure 0 us d) (figure 0 cus d))

  -- Then both pairs are kept: without ceilings, no kept sum is above the figures that stand for them.
  strict_keeps : length cus ≡ h → (b : Bool) (ys : List ℕ) → KeepsStrict b ys
      → Keeps (curves_of (with_mark us ls b)) ys × Keeps (closed_in (with_mark us ls b) (pair_of cus cls)) ys
  strict_keeps e false ys k = (
    (λ d j. let r = k d j.positive j.within j.begun in ((λ m. omega (arith, r.1)), (λ m. omega (arith, r.0)))),
    (λ d j. let r = k d j.positive (omega (arith, j.within)) j.begun in ((λ m. omega (arith, r.1)), (λ m. omega (arith, r.0)))),
  )
  strict_keeps e true ys k = (leasts_alone, leasts_alone)
    where
      leasts_alone : Keeps (curves_of (with_mark us ls true)) ys
      leasts_alone d j =
          let l : d ≤ h = omega (arith, j.within, length-highest h) in
          let r = k d j.positive l j.begun in
          let some : 1 ≤ d = j.positive in
          ((λ m. omega (arith, r.1, highest_at h d some l)), (λ m. omega (arith, r.0)))

  -- None of them is above the limit of the sums.
  strict_small : (b : Bool) (xs : List ℕ) → length ls ≡ h → length cus ≡ h → length cls ≡ h
      → LegalMonitor (monitor_view (view_with us ls b xs) (closed_in (with_mark us ls b) (pair_of cus cls)) false)
      → (d : ℕ) → 1 ≤ d → d ≤ h
      → (strict_ceiling b (figure 0 us d) (figure 0 cus d) ≤ sum_limit) × (strict_least b (figure 0 ls d) (figure 0 cls d) ≤ sum_limit)
  strict_small false xs e e' e'' L d u v = (
    omega (arith, L.given.figures.0 d u v),
    omega (arith, L.given.figures.1 d u (omega arith), L.bounded.1 d u (omega arith)),
  )
  strict_small true xs e e' e'' L d u v = (omega arith, omega (arith, L.given.figures d u (omega arith)))

  module _ (xs : List ℕ) (S : Slices us ls xs) (S' : Slices cus cls xs) (same : length cus ≡ h)
      (L : LegalMonitor (seen xs)) (ceilings leasts : List ℕ)
      (C : TurnedBy (λ x y z. z ≡ strict_ceiling b x y) us cus ceilings) (D : TurnedBy (λ x y z. z ≡ strict_least b x y) ls cls leasts) where
    ceilings_length : length (take h ceilings) ≡ h
    ceilings_length = length-take-le h ceilings C.room

    leasts-length : length (take h leasts) ≡ h
    leasts-length = length-take-le h leasts (omega (arith, D.room, S.lowers))

    -- A ceiling and a least by the number of ticks, at the place j.
    ceiling_at : (d j : ℕ) → 1 ≤ d → j + d ≡ h → get_or (take h ceilings) j 0 ≡ strict_ceiling b (figure 0 us d) (figure 0 cus d)
    ceiling_at d j u e =
        let e' : h - d ≡ j = omega arith in
        get_or-take h ceilings j 0 (omega arith) ∙ rw e' at (C.entry d u (omega arith))

    least_at : (d j : ℕ) → 1 ≤ d → j + d ≡ h → get_or (take h leasts) j 0 ≡ strict_least b (figure 0 ls d) (figure 0 cls d)
    least_at d j u e =
        let e' : length ls - d ≡ j = omega (arith, S.lowers) in
        get_or-take h leasts j 0 (omega arith) ∙ rw e' at (D.entry d u (omega (arith, S.lowers)))

    small : (d : ℕ) → 1 ≤ d → d ≤ h
        → (strict_ceiling b (figure 0 us d) (figure 0 cus d) ≤ sum_limit) × (strict_least b (figure 0 ls d) (figure 0 cls d) ≤ sum_limit)
    small = strict_small b xs S.lowers same (S'.lowers ∙ same) L

    pub strict_placed : (sums : List ℕ) → length sums ≡ h + 1 → Placed sums (take h ceilings) (take h leasts)
    strict_placed sums e =
        record {
          sums_more = omega (arith, ceilings_length);
          leasts_same = omega (arith, ceilings_length, leasts-length);
          ceilings_kept = λ i l.
              let m : i < h = omega (arith, ceilings_length) in
              omega (arith, ceiling_at (h - i) i (omega arith) (omega arith), (small (h - i) (omega arith) (omega arith)).0);
          leasts_kept = λ i l.
              let m : i < h = omega (arith, leasts-length) in
              omega (arith, least_at (h - i) i (omega arith) (omega arith), (small (h - i) (omega arith) (omega arith)).1);
        }

    turned_strict : (ys : List ℕ) → KeepsTurned (take h ceilings) (take h leasts) ys → KeepsStrict b ys
    turned_strict ys k d u v w =
        let j : ℕ = h - d in
        let r = rw ceilings_length at (k d u (omega (arith, ceilings_length)) w) in
        (omega (arith, r.0, least_at d j u (omega arith)), omega (arith, r.1, ceiling_at d j u (omega arith)))

    pub first_pass : (counts : List ℕ) (n : ℕ) → KeepFirst (take h ceilings) (take h leasts) xs counts n
        → PassesFirst (seen xs) counts n
    first_pass counts n k = (k.0, whole)
      where
        -- Of the held ticks none is too many.
        held : newest (horizon (curves_of p) - 1) xs ≡ xs
        held = let e : length xs - (horizon (curves_of p) - 1) ≡ 0 = omega (arith, S.fewer, horizon_with us ls b) in ap (λ j. drop j xs) e

        closed_horizon : (b : Bool) → horizon (closed_in (with_mark us ls b) (pair_of cus cls)) ≡ horizon (curves_of (with_mark us ls b))
        closed_horizon false = same
        closed_horizon true = refl

        whole : rulings (seen xs) (take n counts) ≡ replicate n (result (judged passed))
        whole =
            ap (λ ys. rulings (seen ys) (take n counts)) (sym held)
            ∙ ticks_pass p q xs (subst (λ ys. LegalMonitor (seen ys)) (sym held) L) (closed_horizon b) xs counts n k.0
            (λ j m. strict_keeps same b (xs ++ take (suc j) counts) (turned_strict (xs ++ take (suc j) counts) (k.1 j m)))
