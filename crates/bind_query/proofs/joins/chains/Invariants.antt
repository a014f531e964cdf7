use Rattle.std.proofs.Common.{◌≡◌, ◌++◌, map, flat_map, drop}
use Rattle.med_syntax.specs.QueryView.{chain_tree}
use Rattle.med_query.specs.Form.{chain_form}
use Rattle.bind_names.specs.Prelude.{table_shape, chain_name_causes, chains_meant}
use Rattle.bind_query.proofs.joins.chains.Given as goal

abbrev pub invariant-loop-written : goal.invariant-loop-written
invariant-loop-written l = record {
  causes : flat_map (chain_name_causes (map table_shape l.tables)) (map chain_tree l.chains) ≡ flat_map (chain_name_causes (map table_shape l.tables)) (map chain_tree (drop l.written-index l.chains));
  chains : map chain_form l.out.items ++ chains_meant (map table_shape l.tables) l.number (map chain_tree (drop l.written-index l.chains)) ≡ chains_meant (map table_shape l.tables) l.first (map chain_tree l.chains);
}
