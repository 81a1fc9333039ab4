-- What is written of a state by value after ticks: the words that these leave. Assumes nothing.
use Rattle.laws.proofs.Base.{ℕ, ◌≤◌, ◌≡◌, ap, ◌∙◌, List, arith, length, set}
use Rattle.history.specs.declared.History.{History}
use Rattle.history.specs.States.{View, view_of}
use Rattle.history.proofs.Histories.{held_seen}
use Rattle.monitor.specs.declared.Monitor.{Monitor}
use Rattle.monitor.specs.Monitoring.{MonitorView, monitor_view_of}
use Rattle.monitor.specs.Calls.{after_ticks}
use Rattle.generator.specs.Calls.{after_sendings}
use Rattle.scripts.specs.Words.{history_from, monitor_from, LegalMonitorWords, LegalGeneratorWords, word, with_held}
use Rattle.scripts.specs.Words.{failed_word, monitor_left}
use Rattle.scripts.proofs.Worded.{held_after_lem}
use Rattle.scripts.proofs.Pieces.{after_few, sent_few}

-- No more ticks are held than there are words for.
held_fits : (h : History) (v : View) → view_of h ≡ v → length v.held ≤ 256 → h.held ≤ 256
held_fits h v is few = omega (arith, held_seen h, ap (λ (u : View). length u.held) is)

module _ (ws : List ℕ) (l : LegalMonitorWords ws) (xs : List ℕ) (r : Monitor)
    (is : monitor_view_of r ≡ after_ticks (monitor_view_of (monitor_from ws)) xs) where
  abbrev after : MonitorView
  after = after_ticks (monitor_view_of (monitor_from ws)) xs

  pub ticks_fit : r.history.held ≤ 256
  ticks_fit = held_fits r.history after.view (ap (λ (w : MonitorView). w.view) is) (after_few ws l xs)

  pub left_written : (mid left : List ℕ) → mid ≡ with_held ws (view_of r.history).held
      → left ≡ set mid 1_283 (failed_word (word 1_283 mid) r.failed) → left ≡ monitor_left ws after
  left_written mid left e f =
      let held : mid ≡ with_held ws after.view.held = e ∙ ap (λ (w : MonitorView). with_held ws w.view.held) is in
      let mark : word 1_283 mid ≡ word 1_283 ws =
      ap (word 1_283) held
      ∙ held_after_lem ws after.view.held (omega (arith, l.0)) (after_few ws l xs) 1_283 (omega (arith, after_few ws l xs)) in
      f ∙ (λ i. set (held i) 1_283 (failed_word (mark i) (is i).failed))

module _ (ws : List ℕ) (l : LegalGeneratorWords ws) (xs : List ℕ) (h : History)
    (is : view_of h ≡ after_sendings (view_of (history_from ws)) xs) where
  pub sent_fit : h.held ≤ 256
  sent_fit = held_fits h (after_sendings (view_of (history_from ws)) xs) is (sent_few ws l xs)
