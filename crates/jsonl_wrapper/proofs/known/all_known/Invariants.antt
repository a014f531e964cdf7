use Rattle.std.proofs.Common.{◌≡◌, true, false, map, length}
use Rattle.med_value.specs.Datum.{datum}
use Rattle.fdw_api.specs.Scan.{restriction_form, meets_exact}
use Rattle.jsonl_wrapper.specs.Tables.{row_cells}
use Rattle.jsonl_wrapper.proofs.known.all_known.Given as goal

abbrev pub invariant-loop-restriction : goal.invariant-loop-restriction
invariant-loop-restriction l = record {
  fails : meets_exact (map restriction_form l.offered) l.answers (map datum l.params) (row_cells l.table l.at) ≡ false
      → meets_exact (map restriction_form l.initial.offered) l.initial.answers (map datum l.params) (row_cells l.table l.at) ≡ false;
  same : l.certain ≡ true
      → meets_exact (map restriction_form l.offered) l.answers (map datum l.params) (row_cells l.table l.at)
      ≡ meets_exact (map restriction_form l.initial.offered) l.initial.answers (map datum l.params) (row_cells l.table l.at);
}

abbrev pub decreases-loop-restriction : goal.decreases-loop-restriction
decreases-loop-restriction l = length l.offered
