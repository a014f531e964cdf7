-- The grammar of the statements that write rows: which tokens spell which tree. In SQL's notation,
--     line   = (insert | update | delete) [;]
--     insert = INSERT INTO name [( name {, name} )] (VALUES tuple {, tuple} | select)
--     tuple  = ( expr {, expr} )
--     update = UPDATE entry SET name = expr {, name = expr} [WHERE expr]
--     delete = DELETE FROM entry [WHERE expr]
-- An entry and a select are those of queries. Their keywords are reserved words; those of a query that are not (NULLS, FIRST and others)
-- are keywords in its tokens alone.
use Rattle.std.specs.Prelude.{◌≡◌, ℕ, List, [], ◌∷◌, ◌++◌, codes, Option, Some, None}
use Rattle.med_value.specs.declared.order.Comparison.TheVariants.{Equal}
use Rattle.med_lexer.specs.Lexemes.{Shape, Lexeme, Lexes}
use Rattle.med_syntax.specs.Prelude.{Name, Terminal, AreTerminals, ExprTree, IsExpr, select, shapes, keywords, SpellsList, SpellsEntry, SpellsPerhaps, SpellsExpr, IsEnd, IsStatement, GivenTree, values, rows_of, SetTree, UpdateTree, DeleteTree, WriteTree, insert, update, delete}
use Rattle.med_syntax.specs.Terminal as t

-- ( x {, x} )
abbrev pub SpellsTuple : {X : Type 0} → (X → List Terminal → Type 0) → List X → List Terminal → Type 0
SpellsTuple Spells xs ts = (inner : List Terminal) × (ts ≡ t.LeftParen ∷ (inner ++ t.RightParen ∷ [])) × SpellsList Spells xs inner

abbrev pub SpellsName : Name → List Terminal → Type 0
SpellsName n ts = ts ≡ t.Name n ∷ []

-- [( name {, name} )] (SQL:2016, <insert column list>)
abbrev pub SpellsColumns : Option (List Name) → List Terminal → Type 0
SpellsColumns None ts = ts ≡ []
SpellsColumns (Some names) ts = SpellsTuple SpellsName names ts

-- INSERT INTO name [( name {, name} )] (SQL:2016, <insertion target>)
abbrev pub SpellsTarget : Name → Option (List Name) → List Terminal → Type 0
SpellsTarget table columns ts =
    (behind : List Terminal) × (ts ≡ keywords (codes "insert" ∷ codes "into" ∷ []) ++ t.Name table ∷ behind) × SpellsColumns columns behind

-- VALUES ( expr {, expr} ) {, ( expr {, expr} )} (SQL:2016, <contextually typed table value constructor>)
abbrev pub SpellsValues : List (List ExprTree) → List Terminal → Type 0
SpellsValues rows ts =
    (behind : List Terminal) × (ts ≡ t.Reserved (codes "values") ∷ behind) × SpellsList (SpellsTuple SpellsExpr) rows behind

-- INSERT INTO name [( name {, name} )] VALUES tuple {, tuple} (SQL:2016, <insert statement>)
abbrev pub SpellsInsert : Name → Option (List Name) → List (List ExprTree) → List Terminal → Type 0
SpellsInsert table columns rows ts =
    (target given : List Terminal) × (ts ≡ target ++ given) × SpellsTarget table columns target × SpellsValues rows given

-- name = expr (SQL:2016, <set clause>)
abbrev pub SpellsSet : SetTree → List Terminal → Type 0
SpellsSet s ts = (expr : List Terminal) × (ts ≡ t.Name s.column ∷ t.Compare Equal ∷ expr) × IsExpr expr s.value

-- [WHERE expr]
abbrev pub SpellsWhere : Option ExprTree → List Terminal → Type 0
SpellsWhere = SpellsPerhaps (codes "where" ∷ []) SpellsExpr

-- UPDATE entry SET name = expr {, name = expr} [WHERE expr] (SQL:2016, <update statement: searched>)
pub record SpellsUpdate (u : UpdateTree) (ts : List Terminal) : Type 0 where
  pub entry : List Terminal
  pub sets : List Terminal
  pub condition : List Terminal
  pub is : ts ≡ t.Reserved (codes "update") ∷ (entry ++ t.Reserved (codes "set") ∷ (sets ++ condition))
  pub named : SpellsEntry u.entry entry
  pub changed : SpellsList SpellsSet u.sets sets
  pub filtered : SpellsWhere u.condition condition

-- DELETE FROM entry [WHERE expr] (SQL:2016, <delete statement: searched>)
pub record SpellsDelete (d : DeleteTree) (ts : List Terminal) : Type 0 where
  pub entry : List Terminal
  pub condition : List Terminal
  pub is : ts ≡ keywords (codes "delete" ∷ codes "from" ∷ []) ++ (entry ++ condition)
  pub named : SpellsEntry d.entry entry
  pub filtered : SpellsWhere d.condition condition

-- The tokens are terminals that are spelled so, and perhaps a semicolon.
abbrev pub IsLineOf : (List Terminal → Type 0) → List Shape → Type 0
IsLineOf Spelled ss = (statement end : List Terminal) × AreTerminals ss (statement ++ end) × Spelled statement × IsEnd end

-- INSERT, by what gives its rows: behind a target a query is a line of its own.
abbrev pub IsInsert : Name → Option (List Name) → GivenTree → List Shape → Type 0
IsInsert table columns (values rows) ss = IsLineOf (SpellsInsert table columns rows) ss
IsInsert table columns (rows_of q) ss =
    (target query : List Shape) × (ss ≡ target ++ query)
    × ((ts : List Terminal) × AreTerminals target ts × SpellsTarget table columns ts) × IsStatement query (select q)

-- The tokens are a line of the grammar with this tree: a statement, and perhaps a semicolon.
abbrev pub IsWrite : List Shape → WriteTree → Type 0
IsWrite ss (insert i) = IsInsert i.table i.columns i.given ss
IsWrite ss (update u) = IsLineOf (SpellsUpdate u) ss
IsWrite ss (delete d) = IsLineOf (SpellsDelete d) ss

-- The text has this tree: its one list of longest tokens is a line of the grammar with this tree.
abbrev pub HasWrite : List ℕ → WriteTree → Type 0
HasWrite text w = (ts : List Lexeme) × Lexes 0 text ts × IsWrite (shapes ts) w
