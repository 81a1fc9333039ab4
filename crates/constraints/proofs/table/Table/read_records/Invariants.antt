-- Before a turn the records before the rest are sound and in the table.
use Rattle.std.proofs.Common.{◌≤◌, length}
use Rattle.csv_text.specs.Text.{records}
use Rattle.constraints.specs.Reading.{text_limit}
use Rattle.constraints.proofs.Asking.{Reached}
use Rattle.constraints.proofs.table.Table.read_records.Given as goal

abbrev pub invariant-loop-rest : goal.invariant-loop-rest
invariant-loop-rest l =
    record { short : length l.rest ≤ text_limit; reached : Reached (records l.text) l.self (records l.rest) }

abbrev pub decreases-loop-rest : goal.decreases-loop-rest
decreases-loop-rest l = length l.rest
