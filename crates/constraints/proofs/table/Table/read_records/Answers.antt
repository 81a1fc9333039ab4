-- A faulty record, one more, and the end.
use Rattle.std.proofs.Common.{◌≡◌, ◌+◌, ◌≤◌, [], length, length-drop, ap, arith}
use Rattle.std.proofs.lemmas.Result.{err_from_is_err_and}
use Rattle.csv_text.proofs.Splitting.{record_short}
use Rattle.constraints.proofs.Asking.{empty_is, found_in_range, found_length, refused_record, again_at, onward_at, reached_end}
use Rattle.constraints.proofs.table.Table.read_records.Goals as goal

pub returns-in_err-record : goal.returns-in_err-record
returns-in_err-record c =
    let p = err_from_is_err_and c.from_residual.result c.from_residual.ensures.1 in
    let some : 1 ≤ length c.loop-rest.rest.now = grind arith in
    rw (p.1, p.2) (refused_record _ _ _ some c.loop-rest.invariant.reached _ c.in_err-record.ensures)

pub add-requires : goal.add-requires
add-requires c =
    let range = found_in_range _ _ c.in_ok-record.ensures in (range.some, range.window)

pub returns-in_err-add : goal.returns-in_err-add
returns-in_err-add c =
    let p = err_from_is_err_and c.from_residual-in_err-add.result c.from_residual-in_err-add.ensures.1 in
    let some : 1 ≤ length c.loop-rest.rest.now = grind arith in
    let again = c.in_err-add.ensures in
    rw (p.1, p.2, again.1) (again_at _ _ _ some c.loop-rest.invariant.reached _ c.in_ok-record.ensures again.0)

pub overflow_add-record : goal.overflow_add-record
overflow_add-record c = omega (arith, found_length _ _ c.in_ok-record.ensures, record_short c.loop-rest.rest.now)

pub loop-rest-preserved : goal.loop-rest-preserved
loop-rest-preserved c =
    let some : 1 ≤ length c.loop-rest.rest.now = grind arith in
    let added = c.in_ok-add.ensures in
    record {
      short = omega (arith, ap length c.skip-rest.ensures, length-drop (c.in_ok-record.record.length + 2) c.loop-rest.rest.now);
      reached = rw (c.skip-rest.ensures, added.1) (onward_at _ _ _ some c.loop-rest.invariant.reached _ c.in_ok-record.ensures added.0);
    }

pub returns : goal.returns
returns c =
    let none : c.loop-rest.rest.now ≡ [] = empty_is _ (grind arith) in
    reached_end _ _ (rw none at c.loop-rest.invariant.reached)
