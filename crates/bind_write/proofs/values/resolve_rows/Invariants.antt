use Rattle.std.proofs.Common.{◌≡◌, ◌++◌, map, flat_map, drop}
use Rattle.med_syntax.specs.WriteView.{row_tree}
use Rattle.med_write.specs.Form.{trees_of}
use Rattle.bind_write.specs.Meaning.{row_meant}
use Rattle.bind_write.specs.Naming.{row_name_causes}
use Rattle.bind_write.proofs.values.resolve_rows.Given as goal

abbrev pub invariant-loop-row : goal.invariant-loop-row
invariant-loop-row l = record {
  causes : flat_map row_name_causes (map row_tree l.rows) ≡ flat_map row_name_causes (map row_tree (drop l.row-index l.rows));
  rows : map trees_of l.out.items ++ map row_meant (map row_tree (drop l.row-index l.rows)) ≡ map row_meant (map row_tree l.rows);
}
