use Rattle.std.proofs.Common.{◌≡◌, ◌++◌, List, map, flat_map}
use Rattle.med_value.specs.Datum.{Tuple, tuple}
use Rattle.fdw_api.specs.Writes.{inserted}
use Rattle.wrapper_parts.specs.Staged.{change_is}
use Rattle.tab_tests.specs.Kept.{no_line, as_held, rows_left}
use Rattle.tab_tests.proofs.rows.sort_changes.Given as goal

abbrev pub invariant-loop-change : goal.invariant-loop-change
invariant-loop-change l = record {
  fates : (rows : List Tuple) → rows_left rows l.fates.items (map change_is l.change-iterator.rest.items)
      ≡ rows_left rows l.initial.fates.items (map change_is l.initial.change-iterator.rest.items);
  fresh : map as_held (map tuple l.fresh.items) ++ flat_map (inserted no_line) (map change_is l.change-iterator.rest.items)
      ≡ flat_map (inserted no_line) (map change_is l.initial.change-iterator.rest.items);
}
