use Rattle.std.proofs.Common.{◌≡◌, ◌-◌, ℕ, map, flat_map}
use Rattle.std.specs.List.{range_with_len}
use Rattle.bind_types.specs.Kinds.{types_in}
use Rattle.bind_types.specs.Typing.{in_place, place_causes}
use Rattle.bind_types.proofs.outputs.check_places.Given as goal

abbrev pub invariant-loop-place : goal.invariant-loop-place
invariant-loop-place l =
    let f = λ (place : ℕ). place_causes (in_place (map types_in l.rows) place) in
    flat_map f (range_with_len 0 l.width) ≡ flat_map f (range_with_len l.place (l.width - l.place))
