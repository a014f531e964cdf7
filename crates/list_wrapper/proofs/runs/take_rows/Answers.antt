use Rattle.std.proofs.Common.{◌≡◌, length, ap, ◌∙◌, arith, rules}
use Rattle.list_wrapper.specs.Runs.{rows_in}
use Rattle.list_wrapper.proofs.RunsOfRows.{total_is, fewer_stay}
use Rattle.list_wrapper.proofs.runs.take_rows.Goals as goal

pub recount-requires : goal.recount-requires
recount-requires c =
    let runs = c.args.runs.now.items in
    let many : c.len.result ≡ length runs = search rules in
    let total = total_is runs c.deref.result.now c.len.result c.start_of-count.result c.deref.ensures.value many c.start_of-count.ensures in
    let fits = c.start_of-count.type_inv in
    let same = ap length (c.drop_empty_runs.ensures ∙ c.take_out_of_each.ensures) in
    let fewer = fewer_stay (rows_in runs) c.args.gone.now in
    omega arith
