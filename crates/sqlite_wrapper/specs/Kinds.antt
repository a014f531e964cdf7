-- SQLite sources: the shapes of their remote tables, and what binding and writing one gives.
use Rattle.std.specs.Prelude.{List, [], ◌∷◌, map, Option, Some}
use Rattle.med_value.specs.declared.value.ColType.{ColType}
use Rattle.med_value.specs.declared.cause.Cause.{Cause}
use Rattle.med_value.specs.declared.cause.Cause.TheVariants.{InvalidOptionName}
use Rattle.fdw_api.specs.Kinds.{Kind, OptionForm, Entry, Stored, Held, kinds_of}
use Rattle.sqlite_tables.specs.Readings.{sqlite_reading, sqlite_fits}
use Rattle.sqlite_writes.specs.Kinds.{no_line, by_key, sqlite_refusals}

-- the only option of a sqlite table is `table`, its remote name: each further one is HV00D
abbrev pub sqlite_objections : List OptionForm → List Cause
sqlite_objections [] = []
sqlite_objections (s ∷ ss) = InvalidOptionName ∷ []

-- a written table has its types and these rows
abbrev pub sqlite_image : List ColType → Option Entry → List Held → Option Entry
sqlite_image declared entry rows = Some (Stored declared (map (λ r. r.cells) rows))

abbrev pub sqlite_kind : Kind
sqlite_kind = record {
  objections = λ columns settings. sqlite_objections settings;
  reads = λ columns settings entry. sqlite_reading (kinds_of columns) entry;
  typed = λ columns settings entry none. sqlite_fits (kinds_of columns) entry none;
  line = λ columns settings. no_line;
  image = λ columns settings. sqlite_image (kinds_of columns);
  arrangement = λ columns settings. by_key;
  refuses = λ columns settings. sqlite_refusals;
}
