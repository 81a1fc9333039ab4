-- The margin that a tick carries beside its verdict (request P5): how near it came to the figures as given.
use Rattle.std.specs.Prelude.{ℕ, cond, [], ◌∷◌, pos}
use Rattle.curves.specs.Ticks.{then}
use Rattle.curves.specs.Margins.{Margin, Tightest}
use Rattle.curves.specs.Questions.{answer_to}
use Rattle.curves.proofs.Margins.{tightest?}
use Rattle.history.specs.States.{View, Legal}
use Rattle.monitor.specs.Monitoring.{MonitorView, monitor_question12}

-- The margin of a tick with the count x by the figures of a view: the one that is `Tightest`.
abbrev pub margin_on : (v : View) → Legal v → ℕ → Margin
margin_on v l x =
    let found : (m : Margin) × Tightest v.pair (then v.held x) m = tightest? v.pair v.held x l.lengths.0 in found.0

-- 0, of window 0.
abbrev pub no_margin : Margin
no_margin = record { value = pos 0; window = 0 }

-- What a tick carries: with 12 and with 'already failed' nothing, as no window is judged; else the margin by the pair as given, also where
-- the stream is lost.
unfoldable pub carried : MonitorView → ℕ → Margin
carried w x =
    answer_to (monitor_question12 w ∷ [])
    (λ yeses. cond w.failed no_margin (margin_on w.view yeses.0.given x))
    (λ n. no_margin)
