use Rattle.std.proofs.Common.{◌≡◌, ◌<◌, ◌+◌, ◌++◌, ℕ, List, length, drop, take, ap, sym, ◌∙◌, subst, arith, rules}
use Rattle.med_value.specs.declared.value.Row.{Row}
use Rattle.list_wrapper.specs.declared.runs.Run.{Run}
use Rattle.list_wrapper.specs.Runs.{rows_in, IsSpot}
use Rattle.list_wrapper.proofs.RunsOfRows.{run_is, row_out}
use Rattle.list_wrapper.specs.declared.runs.Spot.{Spot}
use Rattle.list_wrapper.proofs.runs.take_row.Goals as goal

spot_in : (seen runs : List Run) (place : ℕ) (s : Spot) → seen ≡ runs → IsSpot seen place s → IsSpot runs place s
spot_in seen runs place s e h = subst (λ (l : List Run). IsSpot l place s) e h

pub remove-row-requires : goal.remove-row-requires
remove-row-requires c =
    let runs = c.args.runs.now.items in
    let s = spot_in c.deref.result.now runs c.args.place c.spot_of-spot.result c.deref.ensures.value c.spot_of-spot.ensures in
    let x = c.index_mut-run.result.now in
    let long = ap length (run_is runs c.spot_of-spot.result.run x s.there c.index_mut-run.ensures.value) in
    let within = s.within in
    let lt : c.spot_of-spot.result.at < length x.rows.items = omega arith in
    search rules

pub returns : goal.returns
returns c =
    let runs = c.args.runs.now.items in
    let s = spot_in c.deref.result.now runs c.args.place c.spot_of-spot.result c.deref.ensures.value c.spot_of-spot.ensures in
    let run = c.spot_of-spot.result.run in
    let at = c.spot_of-spot.result.at in
    let x = c.index_mut-run.result.now in
    let here = run_is runs run x s.there c.index_mut-run.ensures.value in
    row_out runs run at record { rows = c.remove-row.new.self; end = x.end } s.within
    (c.remove-row.ensures.by_index.2 ∙ ap (λ (l : List Row). take at l ++ drop (at + 1) l) (sym here))
    ∙ ap (λ (n : ℕ). take n (rows_in runs) ++ drop (n + 1) (rows_in runs)) s.is
