use Rattle.std.proofs.Common.{◌≡◌, ◌<◌, ℕ, List, length, get_or, ap, sym, ◌∙◌, arith, rules}
use Rattle.med_value.specs.declared.value.Row.{Row}
use Rattle.list_wrapper.specs.Runs.{rows_in, run_rows}
use Rattle.list_wrapper.proofs.RunsOfRows.{run_is, row_is}
use Rattle.list_wrapper.proofs.runs.row_at.Goals as goal

pub index-requires : goal.index-requires
index-requires c =
    let runs = c.args.runs.now in
    let s = c.spot_of-spot.ensures in
    let x = c.index-runs-spot.result in
    let here : run_rows runs c.spot_of-spot.result.run ≡ x.rows.items = run_is runs c.spot_of-spot.result.run x s.there c.index-runs-spot.is in
    let long = ap length here in
    let within = s.within in
    let lt : c.spot_of-spot.result.at < length x.rows.items = omega arith in
    rw (← c.index-runs-spot.is) (search rules)

pub returns : goal.returns
returns c =
    let runs = c.args.runs.now in
    let s = c.spot_of-spot.ensures in
    let run = c.spot_of-spot.result.run in
    let at = c.spot_of-spot.result.at in
    let x = c.index-runs-spot.result in
    let d = c.index.result.now in
    let here : run_rows runs run ≡ x.rows.items = run_is runs run x s.there c.index-runs-spot.is in
    let read : d ≡ get_or x.rows.items at d = search rules in
    read ∙ sym (ap (λ (l : List Row). get_or l at d) here) ∙ sym (row_is runs run at d s.within) ∙ ap (λ (n : ℕ). get_or (rows_in runs) n d) s.is
