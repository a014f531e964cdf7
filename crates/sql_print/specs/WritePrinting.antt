-- Statements that write rows written out: keywords in upper case, every name in double quotes, AS before each alias, and one space between
-- tokens. An entry, a condition and a query are written as in queries.
use Rattle.std.specs.Prelude.{ℕ, List, [], ◌∷◌, ◌++◌, codes, Option, Some, None}
use Rattle.med_value.specs.declared.order.Comparison.TheVariants.{Equal}
use Rattle.med_lexer.specs.Printing.{printed}
use Rattle.med_syntax.specs.Prelude.{Name, Terminal, ExprTree, spelling, keywords, GivenTree, values, rows_of, InsertTree, SetTree, UpdateTree, DeleteTree, WriteTree, insert, update, delete}
use Rattle.med_syntax.specs.Terminal as t
use Rattle.expr_writer.specs.ExprPrinting.{shapes_for}
use Rattle.sql_print.specs.QueryPrinting.{entry_written, list_written, perhaps_written, select_written}

-- ( x {, x} )
abbrev pub tuple_written : {X : Type 0} → (X → List Terminal) → List X → List Terminal
tuple_written written xs = t.LeftParen ∷ (list_written written xs ++ t.RightParen ∷ [])

abbrev pub name_written : Name → List Terminal
name_written n = t.Name n ∷ []

-- [( name {, name} )]
abbrev pub columns_written : Option (List Name) → List Terminal
columns_written None = []
columns_written (Some names) = tuple_written name_written names

-- INSERT INTO name [( name {, name} )]
abbrev pub target_written : Name → Option (List Name) → List Terminal
target_written table columns = keywords (codes "insert" ∷ codes "into" ∷ []) ++ t.Name table ∷ columns_written columns

-- one row of VALUES
abbrev pub row_written : List ExprTree → List Terminal
row_written = tuple_written spelling

-- VALUES ( expr {, expr} ) {, ( expr {, expr} )}, or the query
abbrev pub given_written : GivenTree → List Terminal
given_written (values rows) = t.Reserved (codes "values") ∷ list_written row_written rows
given_written (rows_of q) = select_written q

abbrev pub insert_written : InsertTree → List Terminal
insert_written i = target_written i.table i.columns ++ given_written i.given

-- name = expr
abbrev pub set_written : SetTree → List Terminal
set_written s = t.Name s.column ∷ t.Compare Equal ∷ spelling s.value

-- [WHERE expr]
abbrev pub where_written : Option ExprTree → List Terminal
where_written = perhaps_written (codes "where" ∷ []) spelling

-- SET name = expr {, name = expr} [WHERE expr]
abbrev pub sets_written : UpdateTree → List Terminal
sets_written u = t.Reserved (codes "set") ∷ (list_written set_written u.sets ++ where_written u.condition)

abbrev pub update_written : UpdateTree → List Terminal
update_written u = t.Reserved (codes "update") ∷ (entry_written u.entry ++ sets_written u)

abbrev pub delete_written : DeleteTree → List Terminal
delete_written d = keywords (codes "delete" ∷ codes "from" ∷ []) ++ (entry_written d.entry ++ where_written d.condition)

-- the terminals that a statement is written by
abbrev pub write_written : WriteTree → List Terminal
write_written (insert i) = insert_written i
write_written (update u) = update_written u
write_written (delete d) = delete_written d

abbrev pub printed_write : WriteTree → List ℕ
printed_write w = printed (shapes_for (write_written w))
