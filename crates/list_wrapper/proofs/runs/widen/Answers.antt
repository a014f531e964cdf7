use Rattle.std.proofs.Common.{◌≡◌, ◌≤◌, ℕ, length, refl, ap, sym, ◌∙◌, subst, arith}
use Rattle.list_wrapper.specs.Runs.{before}
use Rattle.list_wrapper.proofs.RunsOfRows.{run_is, same_rows, count_same, room_last, end_at, before_all}
use Rattle.list_wrapper.proofs.runs.widen.Goals as goal

pub returns-in_err-reserve-clause-counted : goal.returns-in_err-reserve-clause-counted
returns-in_err-reserve-clause-counted c =
    let last = c.requires.last in
    count_same 0 c.args.runs.now.items c.args.last c.index_mut-run.result.now _ (omega arith) c.index_mut-run.ensures.value refl (ap length c.reserve.ensures.items) c.requires.counted

pub returns-in_err-reserve-clause-rows : goal.returns-in_err-reserve-clause-rows
returns-in_err-reserve-clause-rows c =
    let last = c.requires.last in
    same_rows c.args.runs.now.items c.args.last _ (c.reserve.ensures.items ∙ sym (run_is c.args.runs.now.items c.args.last c.index_mut-run.result.now (omega arith) c.index_mut-run.ensures.value))

pub returns-clause-counted : goal.returns-clause-counted
returns-clause-counted c =
    let last = c.requires.last in
    count_same 0 c.args.runs.now.items c.args.last c.index_mut-run.result.now _ (omega arith) c.index_mut-run.ensures.value refl (ap length c.reserve.ensures.items) c.requires.counted

pub returns-clause-rows : goal.returns-clause-rows
returns-clause-rows c =
    let last = c.requires.last in
    same_rows c.args.runs.now.items c.args.last _ (c.reserve.ensures.items ∙ sym (run_is c.args.runs.now.items c.args.last c.index_mut-run.result.now (omega arith) c.index_mut-run.ensures.value))

pub returns-clause-ok : goal.returns-clause-ok
returns-clause-ok c =
    let runs = c.args.runs.now.items in
    let r = c.index_mut-run.result.now in
    let last = c.requires.last in
    let few = c.requires.few in
    let room = c.in_ok-reserve.ensures.ok in
    let all = before_all runs in
    let end : r.end ≡ before runs (length runs) = end_at runs c.args.last r c.requires.counted (omega arith) c.index_mut-run.ensures.value ∙ ap (before runs) last in
    subst (λ (n : ℕ). c.args.count ≤ n) (sym (room_last runs c.args.last record { rows = c.reserve.new.self; end = r.end } last)) (omega arith)
