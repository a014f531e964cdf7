use Rattle.std.proofs.Common.{◌≡◌, List, Option, map, drop, length, nat_eq}
use Rattle.std.specs.List.{list_all}
use Rattle.med_value.specs.declared.value.ColType.{ColType}
use Rattle.bind_types.specs.Kinds.{types_in}
use Rattle.bind_types.proofs.outputs.are_so_many.Given as goal

abbrev pub invariant-loop-row : goal.invariant-loop-row
invariant-loop-row l =
    list_all (λ (ts : List (Option ColType)). nat_eq (length ts) l.width) (map types_in l.rows) ≡ list_all (λ (ts : List (Option ColType)). nat_eq (length ts) l.width) (map types_in (drop l.row-index l.rows))
