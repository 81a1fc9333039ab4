-- Demand 1: refusals of the monitor and the generator. Assumes nothing.
use Rattle.laws.proofs.Base.{◌≡◌, [], ◌∷◌}
use mathlib.Core.Logic.Iff
use Rattle.curves.specs.Questions.{Reply, result, refusal}
use Rattle.curves.proofs.Asked.{refusal_iff}
use Rattle.bounds.specs.Bounds.{pair_questions, asking}
use Rattle.monitor.specs.Monitoring.{monitor_question12, judging}
use Rattle.monitor.specs.Opening.{monitor_questions, monitor_opening}
use Rattle.generator.specs.Generating.{range_questions, RangeAnswer, ranging, sent_from}
use Rattle.generator.specs.Opening.{generator_questions, generator_opening}
use Rattle.guarantees.specs.Total.{OpeningRefused, MonitorOpeningRefused, GeneratorOpeningRefused, JudgingRefused, RangingRefused}
use Rattle.guarantees.specs.Total.{SendingRefused, RefusedMonitorStays, RefusedGeneratorStays}

pub opening_refused : OpeningRefused
unfolding asking
opening_refused p n = refusal_iff (pair_questions p) _ n

pub monitor_opening_refused : MonitorOpeningRefused
unfolding monitor_opening
monitor_opening_refused p n = refusal_iff (monitor_questions p) _ n

pub generator_opening_refused : GeneratorOpeningRefused
unfolding generator_opening
generator_opening_refused p n = refusal_iff (generator_questions p) _ n

pub judging_refused : JudgingRefused
unfolding judging
judging_refused w x n = refusal_iff (monitor_question12 w ∷ []) _ n

pub ranging_refused : RangingRefused
unfolding ranging
ranging_refused v n = refusal_iff (range_questions v) _ n

pub sending_refused : SendingRefused
sending_refused v choice n = Iff.trans (there (ranging v), λ e. rw e) (ranging_refused v n)
  where
    there : (a : Reply RangeAnswer) → sent_from a choice ≡ refusal n → a ≡ refusal n
    there (result b) e = cc
    there (refusal k) e = cc

pub refused_monitor_stays : RefusedMonitorStays
refused_monitor_stays m x n r t e = rw (← t.answer, e) at t.next

pub refused_generator_stays : RefusedGeneratorStays
refused_generator_stays g choice n r t e = rw (← t.answer, e) at t.next
