use Rattle.std.proofs.Common.{◌≡◌, map, take}
use Rattle.med_value.specs.Datum.{datum}
use Rattle.fdw_api.specs.Scan.{pick}
use Rattle.jsonl_wrapper.specs.Tables.{row_cells}
use Rattle.jsonl_wrapper.proofs.placed.picked.Given as goal

abbrev pub invariant-loop-column : goal.invariant-loop-column
invariant-loop-column l = map datum l.cells.items ≡ pick (take l.column-index l.wanted) (row_cells l.table l.at)
