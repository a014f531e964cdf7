use Rattle.std.proofs.Common.{◌≡◌, ◌+◌, ◌-◌, ◌++◌, ◌∷◌, [], List, length, ap, sym, ◌∙◌, arith, rules}
use Rattle.med_value.specs.declared.value.Row.{Row}
use Rattle.list_wrapper.specs.Runs.{run_rows}
use Rattle.list_wrapper.proofs.RunsOfRows.{run_is, row_more, count_last, room_is, room_last, end_at, before_more, some_run}
use Rattle.list_wrapper.proofs.runs.push_row.Goals as goal

pub overflow_add-run : goal.overflow_add-run
overflow_add-run c =
    let runs = c.args.runs.now.items in
    let many : c.len-last.result ≡ length runs = search rules in
    let some = some_run runs c.requires.room in
    let room = room_is runs (c.len-last.result - 1) c.index_mut-run.result.now (omega arith) c.index_mut-run.ensures.value in
    let more = c.requires.room in
    omega arith

pub unreachable-requires : goal.unreachable-requires
unreachable-requires c =
    let runs = c.args.runs.now.items in
    let many : c.len-last.result ≡ length runs = search rules in
    let some = some_run runs c.requires.room in
    let room = room_is runs (c.len-last.result - 1) c.index_mut-run.result.now (omega arith) c.index_mut-run.ensures.value in
    let more = c.requires.room in
    let full = c.in-Err.ensures.full in
    absurd (omega arith)

pub returns-clause-counted : goal.returns-clause-counted
returns-clause-counted c =
    let runs = c.args.runs.now.items in
    let at = c.len-last.result - 1 in
    let r = c.index_mut-run.result.now in
    let many : c.len-last.result ≡ length runs = search rules in
    let some = some_run runs c.requires.room in
    let last : at + 1 ≡ length runs = omega arith in
    let end = end_at runs at r c.requires.counted (omega arith) c.index_mut-run.ensures.value in
    let next = before_more runs at in
    let here : length (run_rows runs at) ≡ length r.rows.items = ap length (run_is runs at r (omega arith) c.index_mut-run.ensures.value) in
    let more : length c.push.new.self.items ≡ length r.rows.items + 1 = search rules in
    count_last 0 runs at record { rows = c.push.new.self; end = r.end + 1 } last c.requires.counted (omega arith)

pub returns-clause-rows : goal.returns-clause-rows
returns-clause-rows c =
    let runs = c.args.runs.now.items in
    let at = c.len-last.result - 1 in
    let r = c.index_mut-run.result.now in
    let many : c.len-last.result ≡ length runs = search rules in
    let some = some_run runs c.requires.room in
    let last : at + 1 ≡ length runs = omega arith in
    let more : c.push.new.self.items ≡ r.rows.items ++ c.args.row ∷ [] = search rules in
    row_more runs at c.args.row record { rows = c.push.new.self; end = r.end + 1 } last
    (more ∙ ap (λ (l : List Row). l ++ c.args.row ∷ []) (sym (run_is runs at r (omega arith) c.index_mut-run.ensures.value)))

pub returns-clause-room : goal.returns-clause-room
returns-clause-room c =
    let runs = c.args.runs.now.items in
    let at = c.len-last.result - 1 in
    let r = c.index_mut-run.result.now in
    let many : c.len-last.result ≡ length runs = search rules in
    let some = some_run runs c.requires.room in
    let last : at + 1 ≡ length runs = omega arith in
    let old = room_is runs at r last c.index_mut-run.ensures.value in
    let new = room_last runs at record { rows = c.push.new.self; end = r.end + 1 } last in
    let more = c.push.ensures.capacity in
    let one = c.push.ensures.upper_bound in
    omega arith
