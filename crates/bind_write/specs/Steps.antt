-- What the steps of binding a write answer.
use Rattle.std.specs.Prelude.{◌≡◌, List, [], ◌++◌, map, string_bytes, true, Option, Result, Ok, Err}
use Rattle.med_value.specs.Column.{Column}
use Rattle.med_value.specs.declared.cause.Cause.{Cause}
use Rattle.med_value.specs.declared.cause.Cause.TheVariants.{OutOfMemory}
use Rattle.med_syntax.specs.Prelude.{Name, expr_tree, SelectTree, SetTree, WriteTree}
use Rattle.med_query.specs.Select.{are_safe_cores}
use Rattle.bind_names.specs.Prelude.{entered_causes, asked_causes, once_known, query_scope}
use Rattle.bind_types.specs.Typing.{answer_types, select_type_causes}
use Rattle.med_binder.specs.Prelude.{IsMeant, bound_kinds, bound_widths, widths, TellsInTurn, entry_place, query_right_causes, Attached, ArePlaces, meant_by, shapes}
use Rattle.med_binder.specs.declared.bound.BoundQuery.{BoundQuery}
use Rattle.med_catalog.specs.Objects.{Objects}
use Rattle.bind_write.specs.Naming.{named_causes, names_of, set_names, set_values}
use Rattle.bind_write.specs.Typing.{types_of}
use Rattle.bind_write.specs.declared.bound.TableWrite.{TableWrite}
use Rattle.bind_write.specs.declared.updating.SetList.{SetList}
use Rattle.bind_write.specs.Binding.{IsBoundWrite}

-- ---- the whole

abbrev pub BindsWrite : Objects → List Attached → Name → WriteTree → Result TableWrite Cause → Type 0
BindsWrite o bound user t (Ok w) = IsBoundWrite o bound user t w
BindsWrite o bound user t (Err c) = TellsInTurn (names_of o user t) (types_of o t) c

-- ---- SET

-- the columns of SET, and the expressions; refused only where memory is
pub record AreSets (sets : List SetTree) (s : SetList) : Type 0 where
  pub names : map string_bytes s.names.items ≡ set_names sets
  pub values : map expr_tree s.values.items ≡ set_values sets

abbrev pub SplitsSets : List SetTree → Result SetList Cause → Type 0
SplitsSets sets (Ok s) = AreSets sets s
SplitsSets sets (Err c) = c ≡ OutOfMemory

-- ---- the query of an INSERT

-- its causes of names and rights, and those of the list of columns, which is looked up once the tables of FROM are known
abbrev pub query_names : Objects → Name → List Column → Option (List Name) → SelectTree → List Cause
query_names o user columns names q =
    once_known (entered_causes (shapes o) q) (named_causes columns names ++ asked_causes (shapes o) q) ++ query_right_causes o user q

-- it is bound, and no cause stands
pub record IsAskedQuery (o : Objects) (bound : List Attached) (user : Name) (columns : List Column) (list : Option (List Name))
    (q : SelectTree) (b : BoundQuery) : Type 0 where
  pub meant : IsMeant (meant_by o q) b
  pub there : ArePlaces bound (meant_by o q).entries (map entry_place b.entries.items)
  pub widths : bound_widths b ≡ widths (query_scope (shapes o) q)
  pub kinds : bound_kinds b ≡ answer_types (shapes o) q
  pub safe : are_safe_cores b.select.cores.items ≡ true
  pub names : query_names o user columns list q ≡ []
  pub types : select_type_causes (shapes o) q ≡ []

abbrev pub AsksQuery : Objects → List Attached → Name → List Column → Option (List Name) → SelectTree → Result BoundQuery Cause → Type 0
AsksQuery o bound user columns names q (Ok b) = IsAskedQuery o bound user columns names q b
AsksQuery o bound user columns names q (Err c) = TellsInTurn (query_names o user columns names q) (select_type_causes (shapes o) q) c
