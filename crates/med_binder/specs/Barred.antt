-- Phase 3, rights: what a user may not do with the tables of a statement. A list is read as a set. To use a table a user, the owner too,
-- needs a user mapping on its server; to write to it one of mode write.
use Rattle.std.specs.Prelude.{List, [], ◌∷◌, Option, Some, None, flat_map}
use Rattle.med_value.specs.declared.cause.Cause.{Cause}
use Rattle.med_value.specs.declared.cause.Cause.TheVariants.{UndefinedObject, NoPrivilege}
use Rattle.med_syntax.specs.Prelude.{Name, EntryTree, SelectTree}
use Rattle.bind_names.specs.Scope.{query_entries}
use Rattle.med_catalog.specs.declared.kind.Mode.{Mode}
use Rattle.med_catalog.specs.declared.kind.Mode.TheVariants.{Read, Write}
use Rattle.med_catalog.specs.Prelude.{TableObject, Objects, table_named, mode_for}

-- 42704 without a mapping
abbrev pub reading_causes : Option Mode → List Cause
reading_causes None = UndefinedObject ∷ []
reading_causes (Some mode) = []

-- 42501 under mode read too
abbrev pub writing_causes : Option Mode → List Cause
writing_causes None = UndefinedObject ∷ []
writing_causes (Some Read) = NoPrivilege ∷ []
writing_causes (Some Write) = []

-- of a table that is there, by what the user may do on its server
abbrev pub table_causes : (Option Mode → List Cause) → Objects → Name → Option TableObject → List Cause
table_causes causes o user None = []
table_causes causes o user (Some t) = causes (mode_for o user t.server)

-- of the tables of a query
abbrev pub query_right_causes : Objects → Name → SelectTree → List Cause
query_right_causes o user q = flat_map (λ (e : EntryTree). table_causes reading_causes o user (table_named o e.table)) (query_entries q)

-- of the table that is written
abbrev pub target_right_causes : Objects → Name → Name → List Cause
target_right_causes o user name = table_causes writing_causes o user (table_named o name)
