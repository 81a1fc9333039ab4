-- One more piece of a list: what is known of the answers to the whole list before it, and after it. Assumes nothing.
use Rattle.laws.proofs.Base.{ℕ, ◌+◌, ◌-◌, ◌≤◌, ◌<◌, ◌≡◌, refl, sym, ap, ◌∙◌, subst, subst⁻¹, min, List, arith}
use Rattle.laws.proofs.Base.{◌++◌, length, get_or, take, drop, length-append, length-drop, dec_lt, length-take-le, take_all, take_at}
use lib.ListN.{get_or-eq_default}
use lib.Seq.{take-add, drop_at, drop-drop, get_or-take}
use Rattle.monitor.specs.Monitoring.{MonitorView, monitor_view_of}
use Rattle.monitor.specs.Calls.{after_ticks}
use Rattle.scripts.specs.Codes.{minus}
use Rattle.scripts.specs.Words.{monitor_from, LegalMonitorWords, monitor_question12}
use Rattle.scripts.proofs.Pieces.{after-append}
use Rattle.preview.specs.Steps.{RanAs, LeadingZeros}
use Rattle.preview.proofs.Fed.{codes, codes_length, codes_take, codes_drop, Tried}
use Rattle.preview.proofs.Ran.{SpellsState, Ran, ran, refused}

-- The first i of the answers to a list are passes, and the words spell the state that those ticks leave.
pub record Passed (w : MonitorView) (xs : List ℕ) (i : ℕ) (ws : List ℕ) : Type 0 where
  pub within : i ≤ length xs
  pub state : SpellsState ws (after_ticks w (take i xs))
  pub passes : (k : ℕ) → k < i → get_or (codes w xs) k 0 ≡ 0

-- At first there are none of them.
pub none_passed : (ws xs : List ℕ) → LegalMonitorWords ws → Passed (monitor_view_of (monitor_from ws)) xs 0 ws
unfolding after_ticks
none_passed ws xs l =
    record { within = omega arith; state = record { legal = l; view = refl }; passes = λ k h. absurd (omega arith) }

-- At the end they are all.
pub all_pass : (w : MonitorView) (xs ws : List ℕ) (i : ℕ) → length xs ≤ i → Passed w xs i ws → Tried w xs i 0
all_pass w xs ws i h p =
    record {
      leading =
          record {
            within = omega (arith, codes_length w xs, p.within);
            before = p.passes;
            behind = λ l. absurd (omega (arith, codes_length w xs));
          };
      there = sym (get_or-eq_default (codes w xs) 0 {n = i} (omega (arith, codes_length w xs)));
    }

-- ---- question 12
-- What is known before a piece runs: where the words that were lent are a state, that the counts before i have passed; where they are none,
-- that they are as they were lent.
pub record Begun (lent xs : List ℕ) (i : ℕ) (ws : List ℕ) : Type 0 where
  pub passed : LegalMonitorWords lent → Passed (monitor_view_of (monitor_from lent)) xs i ws
  pub same : ¬ LegalMonitorWords lent → ws ≡ lent

pub not_begun : (ws xs : List ℕ) → Begun ws xs 0 ws
not_begun ws xs = record { passed = none_passed ws xs; same = λ n. refl }

-- A piece runs exactly where they are a state.
module _ {lent xs ws ys vs left after : List ℕ} {i r : ℕ} (before : Begun lent xs i ws) (e : RanAs ws ys vs left after r) where
  pub refused_is : length vs ≡ 1_024 → r ≡ minus 12 → ¬ LegalMonitorWords lent
  refused_is room z l =
      let few : r ≡ min (length vs) (length ys) = (ran ws ys vs left after r e (before.passed l).state.legal).number in
      omega (arith, few, z, room)

  pub ran_is : r ≤ 1_024 → LegalMonitorWords lent
  ran_is few =
      elim (monitor_question12 lent).answered [
        | yes l ↦ l
        | no n ↦
            let twelve : r ≡ minus 12 =
            refused ws ys vs left after r e (subst⁻¹ (λ t. ¬ LegalMonitorWords t) (before.same n) n) in
            absurd (omega arith)
      ]

-- Of an empty list they are asked whether they are a state, and nothing runs.
module _ {ws xs vs left after : List ℕ} {n : ℕ} (e : RanAs ws xs vs left after n) (few : n ≤ 1_024) (none : length xs ≡ 0) where
  pub none_legal : LegalMonitorWords ws
  none_legal = ran_is (not_begun ws xs) e few

  pub none_run : Begun ws xs 0 left
  none_run =
      record {
        passed =
            λ l. record {
              within = omega arith;
              state =
                  let r = ran ws xs vs left after n e l in
                  let zero : n ≡ 0 = omega (arith, r.number) in
                  subst (λ k. SpellsState left (after_ticks (monitor_view_of (monitor_from ws)) (take k xs))) zero r.state;
              passes = λ k h. absurd (omega arith);
            };
        same = λ none_such. absurd (none_such none_legal);
      }

-- ---- a piece has run
abbrev view_in : List ℕ → MonitorView
view_in ws = monitor_view_of (monitor_from ws)

-- The counts ys, of which there are no more than places, and which the list has from i on.
module _ {lent xs ws ys vs left after : List ℕ} {i n : ℕ} (rest : List ℕ) (before : Begun lent xs i ws) (e : RanAs ws ys vs left after n)
    (few : n ≤ 1_024) (part : drop i xs ≡ ys ++ rest) (room : length ys ≤ length vs) (whole : length after ≡ length vs) where
  pub legal : LegalMonitorWords lent
  legal = ran_is before e few

  so_far : Passed (view_in lent) xs i ws
  so_far = before.passed legal

  piece : Ran ws ys (length vs) left after n
  piece = ran ws ys vs left after n e so_far.state.legal

  taken : length (take n after) ≡ n
  taken = length-take-le n after (omega (arith, piece.number))

  ran_part : ys ≡ take n (drop i xs)
  ran_part = sym (ap (take n) part ∙ take_at ys rest n (omega (arith, piece.number)))

  pub goes_behind : rest ≡ drop (i + n) xs
  goes_behind = sym (drop_at ys rest n (omega (arith, piece.number))) ∙ sym (ap (drop n) part) ∙ drop-drop n i xs

  inside : i + n ≤ length xs
  inside = omega (arith, piece.number, so_far.within, length-drop i xs, ap length part, length-append ys rest)

  -- The verdicts of the piece are those of the list from i on.
  at : (k : ℕ) → k < n → get_or after k 0 ≡ get_or (codes (view_in lent) xs) (i + k) 0
  at k h =
      piece.verdicts k h
      ∙ ap (λ zs. get_or (codes (view_in ws) zs) k 0) ran_part
      ∙ codes_take (view_in ws) (drop i xs) n k h
      ∙ ap (λ u. get_or (codes u (drop i xs)) k 0) so_far.state.view
      ∙ codes_drop (view_in lent) xs i k

  passes : (m : ℕ) → m ≤ n → LeadingZeros (take n after) m → (k : ℕ) → k < i + m → get_or (codes (view_in lent) xs) k 0 ≡ 0
  passes m l zeros k h =
      elim (dec_lt k i) [
        | yes p ↦ so_far.passes k p
        | no p ↦
            let e : i + (k - i) ≡ k = omega arith in
            let short : k - i < n = omega arith in
            ap (λ j. get_or (codes (view_in lent) xs) j 0) (sym e) ∙ sym (at (k - i) short) ∙ sym (get_or-take n after (k - i) 0 short)
            ∙ zeros.before (k - i) (omega arith)
      ]

  moved : after_ticks (view_in ws) (take n ys) ≡ after_ticks (view_in lent) (take (i + n) xs)
  moved =
      ap (after_ticks (view_in ws)) (take_all n ys (omega (arith, piece.number)) ∙ ran_part)
      ∙ ap (λ u. after_ticks u (take n (drop i xs))) so_far.state.view
      ∙ sym (after-append (view_in lent) (take i xs) (take n (drop i xs)))
      ∙ ap (after_ticks (view_in lent)) (sym (take-add i n xs))

  -- Where one does not pass, it is the first of all.
  pub rejects : (m : ℕ) → m < length (take n after) → LeadingZeros (take n after) m → Tried (view_in lent) xs (i + m) (get_or after m 0)
  rejects m l zeros =
      let h : m < n = omega (arith, taken) in
      record {
        leading =
            record {
              within = omega (arith, codes_length (view_in lent) xs, inside);
              before = passes m (omega arith) zeros;
              behind = λ p. omega (arith, zeros.behind l, get_or-take n after m 0 h, at m h);
            };
        there = at m h;
      }

  -- Else the list goes on behind the piece.
  pub goes_on : LeadingZeros (take n after) (length (take n after)) → Begun lent xs (i + n) left
  goes_on zeros =
      record {
        passed =
            λ l. record {
              within = inside;
              state = subst (SpellsState left) moved piece.state;
              passes = passes n (omega arith) (subst (LeadingZeros (take n after)) taken zeros);
            };
        same = λ none. absurd (none legal);
      }
