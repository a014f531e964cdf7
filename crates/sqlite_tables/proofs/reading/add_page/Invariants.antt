use Rattle.std.proofs.Common.{◌≡◌, take}
use Rattle.sqlite_tables.specs.Surveys.{last_key}
use Rattle.sqlite_tables.specs.Lookups.{Adds}
use Rattle.sqlite_tables.proofs.reading.add_page.Given as goal

abbrev pub invariant-loop-row : goal.invariant-loop-row
invariant-loop-row l = record {
  adds : Adds l.shape l.column (take l.row-index l.page) l.initial.read l.read;
  last : l.last ≡ last_key (take l.row-index l.page);
}
