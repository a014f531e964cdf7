use Rattle.std.proofs.Common.{◌≡◌, ◌<◌, ℕ, List, length, set, refl, ap, sym, ◌∙◌, subst, arith, rules, length-set}
use Rattle.med_value.specs.declared.value.Row.{Row}
use Rattle.list_wrapper.specs.declared.runs.Run.{Run}
use Rattle.list_wrapper.specs.Runs.{rows_in, IsSpot}
use Rattle.list_wrapper.proofs.RunsOfRows.{run_is, row_put, count_same, room_same}
use Rattle.std.specs.Vec.{with_item}
use Rattle.list_wrapper.specs.declared.runs.Spot.{Spot}
use Rattle.list_wrapper.proofs.runs.put_row.Goals as goal

spot_in : (seen runs : List Run) (place : ℕ) (s : Spot) → seen ≡ runs → IsSpot seen place s → IsSpot runs place s
spot_in seen runs place s e h = subst (λ (l : List Run). IsSpot l place s) e h

pub index_mut-requires : goal.index_mut-requires
index_mut-requires c =
    let runs = c.args.runs.now.items in
    let s = spot_in c.deref.result.now runs c.args.place c.spot_of-spot.result c.deref.ensures.value c.spot_of-spot.ensures in
    let x = c.index_mut-run.result.now in
    let long = ap length (run_is runs c.spot_of-spot.result.run x s.there c.index_mut-run.ensures.value) in
    let within = s.within in
    let lt : c.spot_of-spot.result.at < length x.rows.items = omega arith in
    search rules

pub returns-clause-counted : goal.returns-clause-counted
returns-clause-counted c =
    let runs = c.args.runs.now.items in
    let s = spot_in c.deref.result.now runs c.args.place c.spot_of-spot.result c.deref.ensures.value c.spot_of-spot.ensures in
    let x = c.index_mut-run.result.now in
    count_same 0 runs c.spot_of-spot.result.run x _ s.there c.index_mut-run.ensures.value refl (length-set x.rows.items c.spot_of-spot.result.at c.args.row) c.requires.counted

pub returns-clause-rows : goal.returns-clause-rows
returns-clause-rows c =
    let runs = c.args.runs.now.items in
    let s = spot_in c.deref.result.now runs c.args.place c.spot_of-spot.result c.deref.ensures.value c.spot_of-spot.ensures in
    let run = c.spot_of-spot.result.run in
    let at = c.spot_of-spot.result.at in
    let x = c.index_mut-run.result.now in
    let r : Run = record { rows = with_item x.rows at c.args.row; end = x.end } in
    row_put runs run at c.args.row r s.within (ap (λ (l : List Row). set l at c.args.row) (sym (run_is runs run x s.there c.index_mut-run.ensures.value)))
    ∙ ap (λ (n : ℕ). set (rows_in runs) n c.args.row) s.is

pub returns-clause-room : goal.returns-clause-room
returns-clause-room c =
    let runs = c.args.runs.now.items in
    let s = spot_in c.deref.result.now runs c.args.place c.spot_of-spot.result c.deref.ensures.value c.spot_of-spot.ensures in
    let x = c.index_mut-run.result.now in
    room_same runs c.spot_of-spot.result.run x record { rows = with_item x.rows c.spot_of-spot.result.at c.args.row; end = x.end } c.index_mut-run.ensures.value s.there refl
