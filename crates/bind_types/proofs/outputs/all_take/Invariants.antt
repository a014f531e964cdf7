use Rattle.std.proofs.Common.{◌≡◌, map, drop}
use Rattle.std.specs.List.{list_all}
use Rattle.bind_types.specs.Kinds.{types_in}
use Rattle.bind_types.specs.Typing.{in_place, takes}
use Rattle.bind_types.proofs.outputs.all_take.Given as goal

abbrev pub invariant-loop-row : goal.invariant-loop-row
invariant-loop-row l =
    list_all (takes l.kind) (in_place (map types_in l.rows) l.place) ≡ list_all (takes l.kind) (in_place (map types_in (drop l.row-index l.rows)) l.place)
