-- What is written of a statement that writes rows is spelled so.
use Rattle.std.proofs.Common.{List, [], ◌∷◌, ◌++◌, refl, codes}
use Rattle.std.specs.Prelude.{Option, Some, None}
use Rattle.med_syntax.specs.Prelude.{Name, Terminal, ExprTree, spelling, SpellsExpr, values, UpdateTree, DeleteTree}
use Rattle.sql_print.specs.QueryPrinting.{entry_written, list_written}
use Rattle.sql_print.proofs.QuerySpelled.{Spelled, list_spelled, condition_spelled, entry_spelled}
use Rattle.write_parser.specs.WriteGrammar.{SpellsTuple, SpellsName, SpellsColumns, SpellsTarget, SpellsValues, SpellsInsert, SpellsSet, SpellsUpdate, SpellsDelete}
use Rattle.sql_print.specs.WritePrinting.{tuple_written, name_written, columns_written, target_written, row_written, given_written, set_written, where_written, update_written, delete_written}

tuple_spelled : {X : Type 0} (Spelling : X → List Terminal → Type 0) (written : X → List Terminal) → Spelled Spelling written → (xs : List X) (ts : List Terminal) → SpellsTuple Spelling xs ts → SpellsTuple Spelling xs (tuple_written written xs)
tuple_spelled Spelling written item xs ts s = (list_written written xs, refl, list_spelled Spelling written item xs s.0 s.2)

name_spelled : Spelled SpellsName name_written
name_spelled n ts s = refl

expr_spelled : Spelled SpellsExpr spelling
expr_spelled e ts s = record { fits = s.fits; spelled = refl }

row_spelled : Spelled (SpellsTuple SpellsExpr) row_written
row_spelled es ts s = tuple_spelled SpellsExpr spelling expr_spelled es ts s

columns_spelled : Spelled SpellsColumns columns_written
columns_spelled None ts s = refl
columns_spelled (Some ns) ts s = tuple_spelled SpellsName name_written name_spelled ns ts s

pub target_spelled : (n : Name) (c : Option (List Name)) (ts : List Terminal) → SpellsTarget n c ts → SpellsTarget n c (target_written n c)
target_spelled n c ts s = (columns_written c, refl, columns_spelled c s.0 s.2)

values_spelled : (rows : List (List ExprTree)) (ts : List Terminal) → SpellsValues rows ts → SpellsValues rows (given_written (values rows))
values_spelled rows ts s = (list_written row_written rows, refl, list_spelled (SpellsTuple SpellsExpr) row_written row_spelled rows s.0 s.2)

pub insert_spelled : (n : Name) (c : Option (List Name)) (rows : List (List ExprTree)) (ts : List Terminal) → SpellsInsert n c rows ts → SpellsInsert n c rows (target_written n c ++ given_written (values rows))
insert_spelled n c rows ts s = (target_written n c, given_written (values rows), refl, target_spelled n c s.0 s.3, values_spelled rows s.1 s.4)

set_spelled : Spelled SpellsSet set_written
set_spelled x ts s = (spelling x.value, refl, record { fits = (s.2).fits; spelled = refl })

pub update_spelled : (u : UpdateTree) (ts : List Terminal) → SpellsUpdate u ts → SpellsUpdate u (update_written u)
update_spelled u ts s = record {
  entry = entry_written u.entry;
  sets = list_written set_written u.sets;
  condition = where_written u.condition;
  is = refl;
  named = entry_spelled u.entry s.entry s.named;
  changed = list_spelled SpellsSet set_written set_spelled u.sets s.sets s.changed;
  filtered = condition_spelled (codes "where" ∷ []) u.condition s.condition s.filtered;
}

pub delete_spelled : (d : DeleteTree) (ts : List Terminal) → SpellsDelete d ts → SpellsDelete d (delete_written d)
delete_spelled d ts s = record {
  entry = entry_written d.entry;
  condition = where_written d.condition;
  is = refl;
  named = entry_spelled d.entry s.entry s.named;
  filtered = condition_spelled (codes "where" ∷ []) d.condition s.condition s.filtered;
}
