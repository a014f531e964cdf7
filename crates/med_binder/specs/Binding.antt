-- What binding a statement answers.
use Rattle.std.specs.Prelude.{◌≡◌, ◌⊎◌, List, map, length, Option, Some, slice_get, string_bytes}
use Rattle.med_value.specs.declared.cause.Cause.{Cause}
use Rattle.med_value.specs.declared.value.ColType.{ColType}
use Rattle.med_syntax.specs.QueryTree.{StatementTree, select}
use Rattle.med_query.specs.Form.{form_of}
use Rattle.bind_names.specs.Prelude.{TableShape, NameCauses, Meant, meant}
use Rattle.bind_types.specs.Kinds.{types_in}
use Rattle.bind_types.specs.Typing.{answer_types, TypeCauses}
use Rattle.bind_names.specs.declared.table.TableView.{TableView}
use Rattle.med_binder.specs.declared.bound.BoundEntry.{BoundEntry}
use Rattle.med_binder.specs.declared.bound.BoundQuery.{BoundQuery}

-- the bound query is this one
pub record IsMeant (m : Meant) (b : BoundQuery) : Type 0 where
  pub names : map string_bytes b.names.items ≡ m.names
  pub entries : map (λ (e : BoundEntry). e.place) b.entries.items ≡ m.entries
  pub form : form_of b.select ≡ m.form

-- it has the names and the form of this one, whatever its entries are
pub record AsksMeant (m : Meant) (b : BoundQuery) : Type 0 where
  pub names : map string_bytes b.names.items ≡ m.names
  pub form : form_of b.select ≡ m.form

-- an entry is the table in its place
pub record IsEntryOf (tables : List TableView) (e : BoundEntry) : Type 0 where
  pub table : TableView
  pub there : slice_get tables e.place ≡ Some table
  pub source : e.source ≡ table.source
  pub number : e.table ≡ table.number
  pub width : e.width ≡ length table.columns.now

-- the bound query is the statement over these tables
abbrev pub IsBound : List TableShape → StatementTree → BoundQuery → Type 0
IsBound tables statement b = IsMeant (meant tables statement) b

-- the types of what each core answers
abbrev pub bound_kinds : BoundQuery → List (List (Option ColType))
bound_kinds b = map types_in b.kinds.items

abbrev pub kinds_of_answer : List TableShape → StatementTree → List (List (Option ColType))
kinds_of_answer tables (select q) = answer_types tables q

-- a cause of names or types stands
abbrev pub BindCauses : List TableShape → StatementTree → Cause → Type 0
BindCauses tables statement c = NameCauses tables statement c ⊎ TypeCauses tables statement c

-- one that may be told: of names, or of types where none of names stands
abbrev pub BindTells : List TableShape → StatementTree → Cause → Type 0
BindTells tables statement c =
    NameCauses tables statement c ⊎ (TypeCauses tables statement c × ((d : Cause) → NameCauses tables statement d → ⊥))
