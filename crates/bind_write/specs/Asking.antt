-- What looking up the parts of a write answers: the table that is written, and expressions over what is in view.
use Rattle.std.specs.Prelude.{◌≡◌, List, [], ◌++◌, map, flat_map, Option, Some, Result, Ok, Err}
use Rattle.med_value.specs.Column.{Column, column_of}
use Rattle.med_value.specs.declared.cause.Cause.{Cause}
use Rattle.med_syntax.specs.Prelude.{Name, ExprTree, EntryTree}
use Rattle.tri_expr.specs.Tree.{Tree, tree}
use Rattle.bind_names.specs.Prelude.{TableShape, Scope, exposed_name, place_named, name_causes, condition_name_causes, resolved, conditions_of, TellsCause}
use Rattle.bind_types.specs.Typing.{type_causes, condition_type_causes, no_aggregate}
use Rattle.med_binder.specs.Prelude.{TellsInTurn, target_right_causes, shapes, Attached, IsPlaceOf}
use Rattle.med_catalog.specs.Objects.{Objects}
use Rattle.bind_write.specs.declared.target.Target.{Target}
use Rattle.bind_write.specs.declared.write_values.BoundValues.{BoundValues}
use Rattle.bind_write.specs.Meaning.{columns_in}
use Rattle.bind_write.specs.Naming.{target_causes}
use Rattle.bind_write.specs.Typing.{asked_types}

-- ---- the table that is written

-- the table of this name, which the user may write to
pub record IsTarget (o : Objects) (bound : List Attached) (user : Name) (name : Name) (t : Target) : Type 0 where
  pub place : place_named (shapes o) name ≡ Some t.place
  pub there : IsPlaceOf bound t.place (record { source = t.source; table = t.table.number })
  pub columns : map column_of t.columns.now ≡ columns_in (shapes o) name
  pub known : target_causes (shapes o) name ≡ []
  pub rights : target_right_causes o user name ≡ []

abbrev pub FindsTarget : Objects → List Attached → Name → Name → Result Target Cause → Type 0
FindsTarget o bound user name (Ok t) = IsTarget o bound user name t
FindsTarget o bound user name (Err c) = TellsCause (target_causes (shapes o) name ++ target_right_causes o user name) c

-- ---- expressions over what is in view

-- a table with these columns, under the entry's alias or else its name
abbrev pub view_of : EntryTree → List Column → TableShape
view_of e columns = record { name = exposed_name e; columns = columns }

-- the causes of their names and of those of WHERE
abbrev pub value_names : Scope → List ExprTree → Option ExprTree → List Cause
value_names s es condition = flat_map (name_causes s) es ++ condition_name_causes s condition

-- the causes of their types, where they mean these trees and WHERE these conjuncts
abbrev pub types_over : Scope → List ExprTree → Option ExprTree → List Tree → List Tree → List Cause
types_over s es condition ts conjuncts =
    flat_map (type_causes s) es ++ (condition_type_causes s condition ++ (no_aggregate conjuncts ++ no_aggregate ts))

-- they are resolved, and no cause stands
pub record AreBound (s : Scope) (es : List ExprTree) (condition : Option ExprTree) (v : BoundValues) : Type 0 where
  pub values : map tree v.values.items ≡ map (resolved s) es
  pub conditions : map tree v.conditions.items ≡ conditions_of s condition
  pub names : value_names s es condition ≡ []
  pub types : asked_types s es condition ≡ []

abbrev pub BindsValues : Scope → List ExprTree → Option ExprTree → Result BoundValues Cause → Type 0
BindsValues s es condition (Ok v) = AreBound s es condition v
BindsValues s es condition (Err c) = TellsInTurn (value_names s es condition) (asked_types s es condition) c
