use Rattle.std.proofs.Common.{◌≡◌, map, drop}
use Rattle.bind_types.specs.Kinds.{types_in}
use Rattle.bind_types.specs.Typing.{in_place, place_type}
use Rattle.bind_types.proofs.outputs.place_kind.Given as goal

abbrev pub invariant-loop-row : goal.invariant-loop-row
invariant-loop-row l =
    place_type (in_place (map types_in l.rows) l.place) ≡ place_type (in_place (map types_in (drop l.row-index l.rows)) l.place)
