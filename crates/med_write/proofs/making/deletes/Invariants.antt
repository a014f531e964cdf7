use Rattle.std.proofs.Common.{◌≡◌, map, take}
use Rattle.fdw_api.specs.Prelude.{Deletes, row_of}
use Rattle.med_write.specs.Form.{change_of}
use Rattle.med_write.proofs.making.deletes.Given as goal

abbrev pub invariant-loop-old : goal.invariant-loop-old
invariant-loop-old l = map change_of l.out.items ≡ map (λ r. Deletes r.id) (map row_of (take l.old-index l.chosen))
