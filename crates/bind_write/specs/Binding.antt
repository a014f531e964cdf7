-- What binding a write over the tables of a catalogue answers.
use Rattle.std.specs.Prelude.{◌≡◌, ◌≤◌, ◌⊎◌, List, [], map, true, Some, None, Option}
use Rattle.med_value.specs.declared.cause.Cause.{Cause}
use Rattle.med_value.specs.declared.cause.Cause.TheVariants.{OutOfMemory}
use Rattle.med_syntax.specs.Prelude.{Name, ExprTree, SelectTree, GivenTree, values, rows_of, WriteTree, insert, update, delete}
use Rattle.med_query.specs.Select.{are_safe_cores}
use Rattle.bind_names.specs.Scope.{place_named, query_scope}
use Rattle.med_binder.specs.Prelude.{IsMeant, bound_widths, widths, shapes, Attached, IsPlaceOf, ArePlaces, meant_by}
use Rattle.med_binder.specs.declared.bound.BoundQuery.{BoundQuery}
use Rattle.med_binder.specs.Place as offered
use Rattle.med_catalog.specs.Prelude.{phase, Objects}
use Rattle.med_write.specs.Form.{form_of}
use Rattle.bind_write.specs.declared.bound.TableWrite.{TableWrite}
use Rattle.bind_write.specs.Meaning.{target_of, columns_in, written_column, write_meant}
use Rattle.bind_write.specs.Naming.{names_of, WriteNames}
use Rattle.bind_write.specs.Typing.{types_of, WriteTypes}

-- no cause of names, rights or types stands
pub record IsBindable (o : Objects) (user : Name) (t : WriteTree) : Type 0 where
  pub names : (c : Cause) → WriteNames o user t c → ⊥
  pub types : (c : Cause) → WriteTypes o t c → ⊥

-- why a write is not bound: of types only where none of names or rights stands
abbrev pub NotBound : Objects → Name → WriteTree → Cause → Type 0
NotBound o user t c = (c ≡ OutOfMemory) ⊎ (WriteNames o user t c ⊎ (WriteTypes o t c × ((d : Cause) → WriteNames o user t d → ⊥)))

-- a cause that stands, of the least phase in which one does
pub record IsLeast (o : Objects) (user : Name) (t : WriteTree) (c : Cause) : Type 0 where
  pub stands : WriteNames o user t c ⊎ WriteTypes o t c
  pub least : (d : Cause) → WriteNames o user t d ⊎ WriteTypes o t d → phase c ≤ phase d

-- the query of an INSERT that has one: its entries have the columns of their tables and are read where these are bound, and no ON may fault
abbrev pub IsGivenQuery : Objects → List Attached → GivenTree → Option BoundQuery → Type 0
IsGivenQuery o bound (values rows) None = Unit {0}
IsGivenQuery o bound (values rows) (Some b) = ⊥
IsGivenQuery o bound (rows_of q) None = ⊥
IsGivenQuery o bound (rows_of q) (Some b) =
    IsMeant (meant_by o q) b × ArePlaces bound (meant_by o q).entries (map offered.entry_place b.entries.items)
    × (bound_widths b ≡ widths (query_scope (shapes o) q)) × (are_safe_cores b.select.cores.items ≡ true)

abbrev pub IsQueryOf : Objects → List Attached → WriteTree → Option BoundQuery → Type 0
IsQueryOf o bound (insert i) q = IsGivenQuery o bound i.given q
IsQueryOf o bound (update u) q = q ≡ None
IsQueryOf o bound (delete d) q = q ≡ None

-- the write, to the table of its name, and where the rows of that table are
pub record IsMeantWrite (o : Objects) (bound : List Attached) (t : WriteTree) (w : TableWrite) : Type 0 where
  pub place : place_named (shapes o) (target_of t) ≡ Some w.place
  pub there : IsPlaceOf bound w.place (record { source = w.source; table = w.table.number })
  pub columns : w.write.columns.items ≡ map written_column (columns_in (shapes o) (target_of t))
  pub form : form_of w.write.rows ≡ write_meant (shapes o) t
  pub query : IsQueryOf o bound t w.query

-- it is bound, and no cause stands; or one is told
pub record IsBoundWrite (o : Objects) (bound : List Attached) (user : Name) (t : WriteTree) (w : TableWrite) : Type 0 where
  pub meant : IsMeantWrite o bound t w
  pub names : names_of o user t ≡ []
  pub types : types_of o t ≡ []

-- INSERT INTO table [(names)] VALUES rows
abbrev pub values_write : Name → Option (List Name) → List (List ExprTree) → WriteTree
values_write table names rows = insert (record { table = table; columns = names; given = values rows })

-- INSERT INTO table [(names)] query
abbrev pub query_write : Name → Option (List Name) → SelectTree → WriteTree
query_write table names q = insert (record { table = table; columns = names; given = rows_of q })
