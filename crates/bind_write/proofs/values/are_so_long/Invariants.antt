use Rattle.std.proofs.Common.{◌≡◌, map, drop, length, nat_eq}
use Rattle.std.specs.List.{list_all}
use Rattle.med_write.specs.Form.{trees_of}
use Rattle.bind_write.proofs.values.are_so_long.Given as goal

abbrev pub invariant-loop-row : goal.invariant-loop-row
invariant-loop-row l =
    list_all (λ ts. nat_eq (length ts) l.count) (map trees_of l.rows) ≡ list_all (λ ts. nat_eq (length ts) l.count) (map trees_of (drop l.row-index l.rows))
