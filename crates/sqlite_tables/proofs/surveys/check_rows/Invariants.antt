use Rattle.std.proofs.Common.{◌≡◌, true, take}
use Rattle.std.specs.List.{list_all}
use Rattle.sqlite_tables.specs.Surveys.{fits_in, last_key}
use Rattle.sqlite_tables.proofs.surveys.check_rows.Given as goal

abbrev pub invariant-loop-row : goal.invariant-loop-row
invariant-loop-row l = record {
  fit : list_all (fits_in l.shape) (take l.row-index l.page) ≡ true;
  last : l.last ≡ last_key (take l.row-index l.page);
}
