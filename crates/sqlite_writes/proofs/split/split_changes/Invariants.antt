use Rattle.std.proofs.Common.{◌≡◌, ◌++◌, true, map}
use Rattle.std.specs.List.{list_all, list_any}
use Rattle.med_value.specs.Datum.{tuple}
use Rattle.fdw_api.specs.Writes.{row_of_change_fits}
use Rattle.wrapper_parts.specs.Staged.{change_is}
use Rattle.sqlite_tables.specs.Layouts.{kinds_in}
use Rattle.sqlite_writes.specs.Rewriting.{has_place}
use Rattle.sqlite_writes.specs.Kinds.{lacks_key}
use Rattle.sqlite_writes.specs.Splitting.{keys_gone, rows_come, is_holdable}
use Rattle.sqlite_writes.proofs.split.split_changes.Given as goal

abbrev pub invariant-loop-change : goal.invariant-loop-change
invariant-loop-change l = record {
  fit : list_all (row_of_change_fits (kinds_in l.shape)) (map change_is l.change-iterator.rest.items) ≡ true;
  gone : l.gone.items ++ keys_gone (map change_is l.change-iterator.rest.items) ≡ keys_gone
      (map change_is l.initial.change-iterator.rest.items);
  fresh : map tuple l.fresh.items ++ rows_come (map change_is l.change-iterator.rest.items) ≡ rows_come
      (map change_is l.initial.change-iterator.rest.items);
  placed : list_all (has_place l.shape) (map tuple l.fresh.items) ≡ true;
  holdable : list_all is_holdable (map tuple l.fresh.items) ≡ true;
  keyed : list_any lacks_key (map change_is l.initial.change-iterator.rest.items) ≡ list_any lacks_key
      (map change_is l.change-iterator.rest.items);
}
