use Rattle.std.proofs.Common.{◌≤◌, ◌<◌, length, ap, sym, arith, rules}
use Rattle.list_wrapper.specs.declared.runs.Run.{Run}
use Rattle.list_wrapper.proofs.RunsOfRows.{end_at}
use Rattle.list_wrapper.proofs.runs.is_of_run.Goals as goal

pub returns : goal.returns
returns c = λ told.
    (let runs = c.args.runs.now in
    let lt : c.args.at < length runs = search rules in
    let end = end_at runs c.args.at c.index-runs-at.result c.requires lt c.index-runs-at.is in
    let start = c.start_of.ensures in
    let from : c.start_of.result ≤ c.args.place = search rules in
    let is = ap (λ (r : Run). r.end) (sym c.index-runs-at.is) in
    let below = c.if-place-runs.false in
    (lt, (omega arith), (omega arith)))
