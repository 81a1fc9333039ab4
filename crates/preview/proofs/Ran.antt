-- What a run leaves: a state, and a verdict for each tick of its piece. Assumes nothing.
use Rattle.laws.proofs.Base.{ℕ, zero, suc, ◌≤◌, ◌<◌, min, ◌≡◌, refl, sym, ap, ◌∙◌, subst, List, [], ◌∷◌, ◌++◌, arith}
use Rattle.laws.proofs.Base.{length, get_or, take, drop, take_all, list_get_or-append}
use lib.ListN.{length-take}
use Rattle.laws.specs.Writing.{over}
use Rattle.monitor.specs.Monitoring.{MonitorView, monitor_view_of}
use Rattle.monitor.specs.Calls.{after_ticks, margins}
use Rattle.scripts.specs.Codes.{minus}
use Rattle.scripts.specs.Words.{monitor_from, LegalMonitorWords, monitor_left}
use Rattle.scripts.specs.Scripts.{Judged, judged, margin_values}
use Rattle.scripts.proofs.Pieces.{after_view, after_legal}
use Rattle.scripts.proofs.Given.{judged_bad, judged_legal}
use Rattle.preview.specs.Steps.{RanAs}
use Rattle.preview.proofs.Fed.{codes, codes_length, codes_take}

-- Words that are a state, and spell this one.
pub record SpellsState (ws : List ℕ) (w : MonitorView) : Type 0 where
  pub legal : LegalMonitorWords ws
  pub view : monitor_view_of (monitor_from ws) ≡ w

-- The first n of the counts, as many as there are places, have run.
pub record Ran (ws xs : List ℕ) (places : ℕ) (left after : List ℕ) (n : ℕ) : Type 0 where
  pub number : n ≡ min places (length xs)
  pub state : SpellsState left (after_ticks (monitor_view_of (monitor_from ws)) (take n xs))
  pub verdicts : (j : ℕ) → j < n → get_or after j 0 ≡ get_or (codes (monitor_view_of (monitor_from ws)) xs) j 0

take_taken : (n : ℕ) (xs : List ℕ) → take (length (take n xs)) xs ≡ take n xs
take_taken zero xs = refl
take_taken (suc n) [] = refl
take_taken (suc n) (x ∷ xs) = ap (λ ys. x ∷ ys) (take_taken n xs)

-- The words that ticks leave.
spells : (ws left xs : List ℕ) → LegalMonitorWords ws → left ≡ monitor_left ws (after_ticks (monitor_view_of (monitor_from ws)) xs)
    → SpellsState left (after_ticks (monitor_view_of (monitor_from ws)) xs)
spells ws left xs l e =
    subst (λ t. SpellsState t (after_ticks (monitor_view_of (monitor_from ws)) xs)) (sym e)
    record { legal = after_legal ws l xs; view = after_view ws l xs }

-- Entries over the front of a list.
over_at : (cs vs : List ℕ) (k : ℕ) → length cs ≤ length vs → k < length cs → get_or (over cs vs) k 0 ≡ get_or cs k 0
over_at cs vs k h l =
    ap (λ t. get_or (t ++ drop (length cs) vs) k 0) (take_all (length vs) cs h) ∙ list_get_or-append cs (drop (length cs) vs) 0 k l

-- What a run is answered: 12 with a minus sign, or what has run.
pub refused : (ws xs vs left after : List ℕ) (r : ℕ) → RanAs ws xs vs left after r → ¬ LegalMonitorWords ws → r ≡ minus 12
refused ws xs vs left after r e n = ap (λ (a : Judged). a.answer) (e.ran ∙ judged_bad ws (take (length vs) xs) vs e.lent n)

module _ (ws xs vs left after : List ℕ) (r : ℕ) (e : RanAs ws xs vs left after r) where
  abbrev w : MonitorView
  w = monitor_view_of (monitor_from ws)

  abbrev ys : List ℕ
  ys = take (length vs) xs

  pub ran : LegalMonitorWords ws → Ran ws xs (length vs) left after r
  ran l =
      record {
        number = number ∙ length-take (length vs) xs;
        state = subst (λ t. SpellsState left (after_ticks w t)) (sym (ap (λ n. take n xs) number ∙ take_taken (length vs) xs))
            (spells ws left ys l (ap (λ (a : Judged). a.state) both));
        verdicts = λ k h. ap (λ (a : Judged). get_or a.verdicts k 0) both
            ∙ over_at (codes w ys) vs k (omega (arith, many, length-take (length vs) xs)) (omega (arith, many, number))
            ∙ codes_take w xs (length vs) k (omega (arith, number, length-take (length vs) xs));
      }
    where
      both : judged r left after e.margins ≡ judged (length ys) (monitor_left ws (after_ticks w ys)) (over (codes w ys) vs)
          (over (margin_values (margins w ys)) e.lent)
      both = e.ran ∙ judged_legal ws ys vs e.lent l

      number : r ≡ length ys
      number = ap (λ (a : Judged). a.answer) both

      many : length (codes w ys) ≡ length ys
      many = codes_length w ys
