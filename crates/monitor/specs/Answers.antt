-- Document 01's number for each refusal of a monitor, what results answer, and the margin of a judgement.
use Rattle.std.specs.Prelude.{ℕ, Result}
use Rattle.curves.specs.Ticks.{passed, too_many, too_few}
use Rattle.curves.specs.Margins.{Margin}
use Rattle.curves.specs.Questions.{Reply, reply_of}
use Rattle.bounds.specs.Answers.{pair_refusal_number}
use Rattle.history.specs.declared.BadState.{BadState}
use Rattle.monitor.specs.declared.MonitorRefusal.{MonitorRefusal}
use Rattle.monitor.specs.declared.MonitorRefusal.TheVariants as opening
use Rattle.monitor.specs.declared.Verdict.{Verdict}
use Rattle.monitor.specs.declared.Verdict.TheVariants.{Passed, TooMany, TooFew, Lost, AlreadyFailed}
use Rattle.monitor.specs.declared.Judgement.{Judgement}
use Rattle.monitor.specs.Monitoring.{Ruling, judged, lost, already_failed}

abbrev pub monitor_refusal_number : MonitorRefusal → ℕ
monitor_refusal_number (opening.Pair r) = pair_refusal_number r
monitor_refusal_number opening.NoClosure = 5

abbrev pub monitor_opening_reply : Result (Unit {0}) MonitorRefusal → Reply (Unit {0})
monitor_opening_reply r = reply_of (λ u. u) monitor_refusal_number r

abbrev pub ruling_of : Verdict → Ruling
ruling_of Passed = judged passed
ruling_of (TooMany d) = judged (too_many d)
ruling_of (TooFew d) = judged (too_few d)
ruling_of Lost = lost
ruling_of AlreadyFailed = already_failed

abbrev pub verdict_reply : Result Verdict BadState → Reply Ruling
verdict_reply r = reply_of ruling_of (λ _. 12) r

-- What a judgement carries beside its verdict.
abbrev pub margin_in : Judgement → Margin
margin_in r = record { value = r.margin; window = r.window }
