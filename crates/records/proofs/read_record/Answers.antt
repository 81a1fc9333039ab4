-- There are three fields where a comma follows the first two, and none the third.
use Rattle.std.proofs.Common.{◌≡◌, arith}
use Rattle.std.proofs.lemmas.Result.{err_from_is_err_and}
use Rattle.records.specs.declared.RecordRefusal.TheVariants.{Malformed}
use Rattle.records.proofs.Fields.{one_field, two_fields, more_fields, three_fields}
use Rattle.records.proofs.read_record.Goals as goal

pub returns-in_err-after_window : goal.returns-in_err-after_window
returns-in_err-after_window c =
    let p = err_from_is_err_and c.from_residual.result c.from_residual.ensures.1 in
    let e : c.in_err-after_window.field-0.0 ≡ Malformed = grind arith in
    rw (p.1, p.2, e) (one_field _ _ _ c.split_field.ensures c.in_err-after_window.ensures.ok_part)

pub returns-in_err-after_least : goal.returns-in_err-after_least
returns-in_err-after_least c =
    let exit = c.from_residual-in_err-after_least in
    let p = err_from_is_err_and exit.result exit.ensures.1 in
    let e : c.in_err-after_least.field-0.0 ≡ Malformed = grind arith in
    rw (p.1, p.2, e)
    (two_fields _ _ _ _ c.split_field.ensures c.in_ok-after_window.ensures.ok_part
    _ _ c.split_field-2.ensures c.in_err-after_least.ensures.ok_part)

pub returns-then-is_some : goal.returns-then-is_some
returns-then-is_some c =
    more_fields _ _ _ _ c.split_field.ensures c.in_ok-after_window.ensures.ok_part
    _ _ _ c.split_field-2.ensures c.in_ok-after_least.ensures.ok_part
    _ _ c.split_field-3.ensures c.if-is_some.ensures

pub returns : goal.returns
returns c =
    three_fields _ _ _ _ c.split_field.ensures c.in_ok-after_window.ensures.ok_part
    _ _ _ c.split_field-2.ensures c.in_ok-after_least.ensures.ok_part
    _ _ c.split_field-3.ensures (grind arith)
    c.parse_fields.result c.parse_fields.ensures
