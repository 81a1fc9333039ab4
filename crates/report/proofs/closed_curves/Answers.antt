-- `report::closed_curves` meets its contract: the first refusal of a step, or the text that the last one gives.
use Rattle.std.proofs.lemmas.Result.{err_from_is_err_and}
use Rattle.laws.proofs.Base.{◌≤◌, ap, ◌∙◌, arith}
use Rattle.curves.specs.Pairs.{pair_of}
use Rattle.bounds.specs.Bounds.{max_horizon}
use Rattle.bounds.specs.Answers.{curves_in}
use Rattle.constraints.proofs.Streams.{read_within}
use Rattle.rendering.specs.Rendering.{written}
use Rattle.report.specs.Report.{zero_lists}
use Rattle.report.proofs.Answered.{rendering_refused, closing_refused, reading_refused, output_read, output_closed, output_rendered, text_shown}
use Rattle.report.proofs.closed_curves.Goals as goal

pub returns-in_err-read : goal.returns-in_err-read
unfolding zero_lists
returns-in_err-read c =
    let told = err_from_is_err_and c.from_residual.result c.from_residual.ensures.1 in
    let left = pair_of c.read.new.upper c.read.new.lower in
    rw (told.1, told.2, ← reading_refused c.in_err-read.field-0.0 left)
    (ap written (output_read c.args.text.now _ c.in_err-read.ensures))

pub first-curves-requires : goal.first-curves-requires
first-curves-requires c =
    let within : c.in_ok-read.read.horizon ≤ max_horizon = read_within _ _ _ (ap (λ a. a.horizon) c.in_ok-read.ensures) in
    (omega (arith, within), omega (arith, within))

pub returns-in_err-closed : goal.returns-in_err-closed
unfolding zero_lists
returns-in_err-closed c =
    let told = err_from_is_err_and c.from_residual-in_err-closed.result c.from_residual-in_err-closed.ensures.1 in
    let left = pair_of c.close.new.closed_upper c.close.new.closed_lower in
    let read = output_read c.args.text.now _ c.in_ok-read.ensures in
    rw (told.1, told.2, ← closing_refused c.in_err-closed.field-0.0 c.in_ok-read.read.horizon left)
    (ap written (output_closed c.args.text.now _ _ _ _ _ read c.first-curves.ensures c.in_err-closed.ensures))

pub first-closure-requires : goal.first-closure-requires
first-closure-requires c =
    let within : c.in_ok-read.read.horizon ≤ max_horizon = read_within _ _ _ (ap (λ a. a.horizon) c.in_ok-read.ensures) in
    (omega (arith, within), omega (arith, within))

pub returns-in_err-render : goal.returns-in_err-render
unfolding zero_lists
returns-in_err-render c =
    let told = err_from_is_err_and c.from_residual-in_err-render.result c.from_residual-in_err-render.ensures.1 in
    let h = c.in_ok-read.read.horizon in
    let left = pair_of c.read.new.upper c.read.new.lower in
    let closed_left = pair_of c.close.new.closed_upper c.close.new.closed_lower in
    let read = output_read c.args.text.now _ c.in_ok-read.ensures in
    let closed = output_closed c.args.text.now h left _ _ _ read c.first-curves.ensures c.in_ok-closed.ensures in
    rw (told.1, told.2, ← rendering_refused c.in_err-render.field-0.0)
    (ap written (output_rendered c.args.text.now h closed_left _ _ _ closed c.first-closure.ensures c.in_err-render.ensures))

pub returns : goal.returns
unfolding zero_lists
returns c =
    let h = c.in_ok-read.read.horizon in
    let left = pair_of c.read.new.upper c.read.new.lower in
    let closed_left = pair_of c.close.new.closed_upper c.close.new.closed_lower in
    let read = output_read c.args.text.now _ c.in_ok-read.ensures in
    let closed = output_closed c.args.text.now h left _ _ _ read c.first-curves.ensures c.in_ok-closed.ensures in
    text_shown (curves_in c.first-closure.result) c.in_ok-render.field-0 c.in_ok-render.ensures
    ∙ ap written (output_rendered c.args.text.now h closed_left _ _ _ closed c.first-closure.ensures c.in_ok-render.ensures)
