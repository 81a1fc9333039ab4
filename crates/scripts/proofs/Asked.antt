-- Question 12 of words: what stands in them is what counts of the state that is spelled. Assumes nothing.
use Rattle.laws.proofs.Base.{ℕ, ◌+◌, ◌-◌, ◌≤◌, ◌<◌, ◌≡◌, sym, ap, ◌∙◌, Bool, true, false, List, ◌↔◌, arith}
use Rattle.laws.proofs.Base.{length, take, drop}
use Rattle.laws.proofs.Table.{length-table}
use Rattle.curves.specs.Pairs.{pair_of, figure}
use Rattle.curves.specs.Unlimited.{AnyPair, with_mark, alike, AllWithin}
use Rattle.bounds.specs.declared.Curves.{Curves}
use Rattle.bounds.specs.Bounds.{figure_limit, question4}
use Rattle.history.specs.States.{entries, view_of, Legal}
use Rattle.history.proofs.Histories.{horizon_seen, held_seen, legal_sizes}
use Rattle.history.specs.declared.View as declared
use Rattle.history.specs.Answers.{view_in}
use Rattle.monitor.specs.Monitoring.{monitor_view, closed_in, monitor_view_of, LegalMonitor}
use Rattle.scripts.specs.Words.{mark_from, word, part, history_from, monitor_from}
use Rattle.scripts.specs.Steps.{monitor_in}
use Rattle.scripts.specs.Runs.{ClosedWithin, ClosedWords}
use Rattle.scripts.proofs.Worded.{part_entries}

-- The slice of h words from k on is what a view has of the 256 words there.
pub slice_entries : (k h : ℕ) (ws : List ℕ) → k + 256 ≤ length ws → h ≤ 256 → take (k + h - k) (drop k ws) ≡ entries h (part k 256 ws)
slice_entries k h ws r l =
    let e : k + h - k ≡ h = omega arith in
    ap (λ n. take n (drop k ws)) e ∙ sym (part_entries k 256 h ws r l)

-- As many as are asked for.
pub entries_length : (h : ℕ) (xs us : List ℕ) → us ≡ entries h xs → length us ≡ h
entries_length h xs us e = ap length e ∙ length-table (figure 0 xs) h

-- The history is legal where its sizes are and no figure is too large.
module _ (ws : List ℕ) where
  pub too_long : 256 < word 0 ws → ¬ Legal (view_of (history_from ws))
  too_long h l = omega (arith, (legal_sizes (history_from ws) l).within)

  pub too_many_lem : word 0 ws ≤ word 514 ws → ¬ Legal (view_of (history_from ws))
  too_many_lem h l = omega (arith, (legal_sizes (history_from ws) l).fewer)

  pub history_legal : word 0 ws ≤ 256 → word 514 ws < word 0 ws → AllWithin figure_limit (view_of (history_from ws)).pair
      → Legal (view_of (history_from ws))
  history_legal h k a =
      record {
        lengths = (omega (arith, horizon_seen (history_from ws)), omega (arith, horizon_seen (history_from ws)));
        figures = a;
        fewer = omega (arith, horizon_seen (history_from ws), held_seen (history_from ws));
      }

-- Of a monitor, question 12 asks no more of an unlimited state than of its history.
module _ (us ls : List ℕ) (h : ℕ) (cus cls : List ℕ) where
  abbrev Asked : Bool → Type 0
  Asked b =
      let p : AnyPair = with_mark us ls b in
      (question4 (alike p (closed_in p (pair_of (entries h cus) (entries h cls))))).asked

  bounded_from : (b : Bool) → (question4 (with_mark us ls b)).asked → ClosedWithin h b cus cls → Asked b
  bounded_from false g c = c
  bounded_from true g c = g

  within_from : (b : Bool) → Asked b → ClosedWithin h b cus cls
  within_from false a = a
  within_from true a = tt

pub legal_parts : (ws : List ℕ) → (Legal (view_of (history_from ws)) × ClosedWords ws) ↔ LegalMonitor (monitor_view_of (monitor_from ws))
legal_parts ws = (
  λ p. record { given = p.0; bounded = bounded_from _ _ _ _ _ (mark_from (word 1 ws)) p.0.figures p.1 },
  λ l. (l.given, within_from _ _ _ _ _ (mark_from (word 1 ws)) l.bounded),
)

-- A monitor that has not failed, of what stands in its words.
pub monitor_seen : (ws : List ℕ) (v : declared.View) (q : Curves) → view_in v ≡ view_of (history_from ws)
    → q.upper.now ≡ entries (word 0 ws) (part 771 256 ws) → q.lower.now ≡ entries (word 0 ws) (part 1_027 256 ws)
    → false ≡ mark_from (word 1_283 ws) → monitor_in v q ≡ monitor_view_of (monitor_from ws)
monitor_seen ws v q e u l f =
    λ i. monitor_view (e i) (closed_in (e i).pair (pair_of (u i) (l i))) (f i)
