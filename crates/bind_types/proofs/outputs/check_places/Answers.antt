use Rattle.std.proofs.Common.{◌<◌, ◌+◌, ◌∙◌, ◌-◌, ℕ, map, flat_map, ap, sym, arith}
use Rattle.std.proofs.lemmas.Result.{err_from_is_err_and}
use Rattle.bind_types.specs.Kinds.{types_in}
use Rattle.bind_types.specs.Typing.{in_place, place_causes}
use Rattle.bind_names.proofs.Causes.{tells_first, next_causes}
use Rattle.bind_types.proofs.OutputPlaces.{range_step, range_done}
use Rattle.bind_types.proofs.outputs.check_places.Goals as goal

pub returns-in_err-check_place : goal.returns-in_err-check_place
returns-in_err-check_place c =
    let f = λ (place : ℕ). place_causes (in_place (map types_in c.args.rows.now) place) in
    let lt : c.loop-place.place < c.args.width = omega arith in
    let p = err_from_is_err_and c.from_residual.result c.from_residual.ensures.1 in
    rw (p.1, p.2) (tells_first _ (f c.loop-place.place) _ _ (c.loop-place.invariant ∙ ap (flat_map f) (range_step c.loop-place.place c.args.width lt)) c.in_err-check_place.ensures)

pub loop-place-preserved : goal.loop-place-preserved
loop-place-preserved c =
    let f = λ (place : ℕ). place_causes (in_place (map types_in c.args.rows.now) place) in
    let lt : c.loop-place.place < c.args.width = omega arith in
    next_causes _ (f c.loop-place.place) _ (c.loop-place.invariant ∙ ap (flat_map f) (range_step c.loop-place.place c.args.width lt)) c.in_ok-check_place.ensures

pub returns : goal.returns
returns c =
    let f = λ (place : ℕ). place_causes (in_place (map types_in c.args.rows.now) place) in
    c.loop-place.invariant ∙ ap (flat_map f) (range_done c.loop-place.place c.args.width (omega arith))
