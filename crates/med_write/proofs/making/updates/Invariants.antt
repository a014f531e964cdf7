use Rattle.std.proofs.Common.{map, take, option_map}
use Rattle.tri_expr.specs.Tree.{tree}
use Rattle.fdw_api.specs.Prelude.{Updates, row_of}
use Rattle.med_write.specs.Form.{change_of}
use Rattle.med_write.specs.Writing.{row_made}
use Rattle.med_write.specs.Making.{Makes}
use Rattle.med_write.proofs.making.updates.Given as goal

abbrev pub invariant-loop-old : goal.invariant-loop-old
invariant-loop-old l = Makes l.columns (λ r. row_made (map (option_map tree) l.sets) r.cells) (λ r row. Updates r.id row) (map row_of (take l.old-index l.chosen)) (map change_of l.out.items)
