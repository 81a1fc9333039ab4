-- Answers as numbers: a refusal's, and those of the ticks of a list.
use Rattle.std.specs.Prelude.{ℕ, ◌+◌, ◌-◌}
use Rattle.curves.specs.Ticks.{passed, too_many, too_few}
use Rattle.curves.specs.Questions.{Reply, result, refusal}
use Rattle.monitor.specs.Monitoring.{Ruling, judged, lost, already_failed}

-- A refusal's number with a minus sign, in 64 bits.
abbrev pub minus : ℕ → ℕ
minus n = 18_446_744_073_709_551_616 - n

-- A refusal as an entry of a list.
abbrev pub refused_entry : ℕ → ℕ
refused_entry n = 4_000_000_000 + n

abbrev pub ruling_code : Reply Ruling → ℕ
ruling_code (result (judged passed)) = 0
ruling_code (result (judged (too_many d))) = 1_000 + d
ruling_code (result (judged (too_few d))) = 2_000 + d
ruling_code (result already_failed) = 3_000
ruling_code (result lost) = 4_000
ruling_code (refusal n) = refused_entry n

abbrev pub sending_code : Reply ℕ → ℕ
sending_code (result x) = x
sending_code (refusal n) = refused_entry n
