-- The grammar of statements: which terminals spell which tree, and which texts are statements. In SQL's notation,
--     line   = select [;]
--     select = core {UNION ALL core} [ORDER BY key {, key}] [limits]
--     core   = SELECT [ALL | DISTINCT] item {, item} [FROM chain {, chain}] [WHERE expr] [GROUP BY col {, col}] [HAVING expr]
--     limits = limit [offset] | offset [limit]
--     limit  = LIMIT (num | ALL)         offset = OFFSET num [ROW | ROWS]
--     item   = * | name . * | expr [AS label | name]
--     chain  = entry {join}              entry  = name [[AS] name]
--     join   = [INNER] JOIN entry ON expr | LEFT [OUTER] JOIN entry ON expr | CROSS JOIN entry
--     col    = name [. name]             key    = expr [ASC | DESC] [NULLS FIRST | NULLS LAST]
-- A label is a name or any word. An AS belongs to the nearest item. NULLS, FIRST, LAST, ROW and ROWS are not reserved.
use Rattle.std.specs.Prelude.{◌≡◌, ℕ, ◌⊎◌, Bool, true, false, List, [], ◌∷◌, ◌++◌, codes, Option, Some, None}
use Rattle.med_lexer.specs.Lexemes.{Shape, Lexeme, Lexes}
use Rattle.med_value.specs.declared.operators.Operation.TheVariants.{Multiply}
use Rattle.med_syntax.specs.Tree.{Name}
use Rattle.med_syntax.specs.Shapes.{shapes}
use Rattle.med_syntax.specs.Terminal.{Terminal, word_terminal}
use Rattle.med_syntax.specs.Terminal as t
use Rattle.med_syntax.specs.ExprTree.{ExprTree, column_spelling, IsExpr}
use Rattle.med_syntax.specs.QueryTerminals.{AreWords}
use Rattle.med_syntax.specs.QueryTree.{ItemTree, all, all_of, value, EntryTree, JoinTree, inner_join, left_join, cross_join, ChainTree, GroupTree, KeyTree, LimitTree, no_limit, rows, CoreTree, SelectTree, StatementTree, select}
use Rattle.med_syntax.specs.Words.{is_reserved}

-- these keywords, one after the other
abbrev pub keywords : List (List ℕ) → List Terminal
keywords [] = []
keywords (w ∷ ws) = t.Reserved w ∷ keywords ws

-- {, x}: any number of them, each behind a comma
abbrev pub SpellsOthers : {X : Type 0} → (X → List Terminal → Type 0) → List X → List Terminal → Type 0
SpellsOthers Spells [] ts = ts ≡ []
SpellsOthers Spells (x ∷ xs) ts =
    (item others : List Terminal) × (ts ≡ t.Comma ∷ (item ++ others)) × Spells x item × SpellsOthers Spells xs others

-- x {, x}: one or more, with a comma between each two
abbrev pub SpellsList : {X : Type 0} → (X → List Terminal → Type 0) → List X → List Terminal → Type 0
SpellsList Spells [] ts = ⊥
SpellsList Spells (x ∷ xs) ts = (item others : List Terminal) × (ts ≡ item ++ others) × Spells x item × SpellsOthers Spells xs others

-- A label is a name or any word: a reserved one, also one that is a keyword of expressions.
abbrev pub IsLabel : Name → Terminal → Type 0
IsLabel n u = (u ≡ t.Name n) ⊎ ((u ≡ t.Reserved n) × (is_reserved n ≡ true)) ⊎ (u ≡ word_terminal n)

-- [AS label | name] (SQL:2016, <as clause>)
abbrev pub SpellsLabel : Option Name → List Terminal → Type 0
SpellsLabel None ts = ts ≡ []
SpellsLabel (Some n) ts = (ts ≡ t.Name n ∷ []) ⊎ ((u : Terminal) × (ts ≡ t.Reserved (codes "as") ∷ u ∷ []) × IsLabel n u)

-- [[AS] name] (SQL:2016, <correlation name>)
abbrev pub SpellsAlias : Option Name → List Terminal → Type 0
SpellsAlias None ts = ts ≡ []
SpellsAlias (Some n) ts = (ts ≡ t.Name n ∷ []) ⊎ (ts ≡ t.Reserved (codes "as") ∷ t.Name n ∷ [])

-- * | name . * | expr [AS label | name] (SQL:2016, <asterisk>, <qualified asterisk>, <derived column>)
abbrev pub SpellsItem : ItemTree → List Terminal → Type 0
SpellsItem all ts = ts ≡ t.Binary Multiply ∷ []
SpellsItem (all_of q) ts = ts ≡ t.Name q ∷ t.Dot ∷ t.Binary Multiply ∷ []
SpellsItem (value e label) ts = (expr behind : List Terminal) × (ts ≡ expr ++ behind) × IsExpr expr e × SpellsLabel label behind

-- name [[AS] name]
abbrev pub SpellsEntry : EntryTree → List Terminal → Type 0
SpellsEntry e ts = (behind : List Terminal) × (ts ≡ t.Name e.table ∷ behind) × SpellsAlias e.alias behind

-- entry ON expr (SQL:2016, <join condition>)
abbrev pub SpellsOn : EntryTree → ExprTree → List Terminal → Type 0
SpellsOn e on ts = (entry expr : List Terminal) × (ts ≡ entry ++ t.Reserved (codes "on") ∷ expr) × SpellsEntry e entry × IsExpr expr on

-- [INNER] JOIN
abbrev pub IsInnerJoin : List Terminal → Type 0
IsInnerJoin words = (words ≡ keywords (codes "join" ∷ [])) ⊎ (words ≡ keywords (codes "inner" ∷ codes "join" ∷ []))

-- LEFT [OUTER] JOIN
abbrev pub IsLeftJoin : List Terminal → Type 0
IsLeftJoin words =
    (words ≡ keywords (codes "left" ∷ codes "join" ∷ [])) ⊎ (words ≡ keywords (codes "left" ∷ codes "outer" ∷ codes "join" ∷ []))

-- [INNER] JOIN entry ON expr | LEFT [OUTER] JOIN entry ON expr | CROSS JOIN entry (SQL:2016, <joined table>)
abbrev pub SpellsJoin : JoinTree → List Terminal → Type 0
SpellsJoin (inner_join e on) ts = (words behind : List Terminal) × (ts ≡ words ++ behind) × IsInnerJoin words × SpellsOn e on behind
SpellsJoin (left_join e on) ts = (words behind : List Terminal) × (ts ≡ words ++ behind) × IsLeftJoin words × SpellsOn e on behind
SpellsJoin (cross_join e) ts = (entry : List Terminal) × (ts ≡ keywords (codes "cross" ∷ codes "join" ∷ []) ++ entry) × SpellsEntry e entry

-- {join}
abbrev pub SpellsJoins : List JoinTree → List Terminal → Type 0
SpellsJoins [] ts = ts ≡ []
SpellsJoins (x ∷ xs) ts = (join others : List Terminal) × (ts ≡ join ++ others) × SpellsJoin x join × SpellsJoins xs others

-- entry {join} (SQL:2016, <table reference>)
abbrev pub SpellsChain : ChainTree → List Terminal → Type 0
SpellsChain c ts = (entry joins : List Terminal) × (ts ≡ entry ++ joins) × SpellsEntry c.first entry × SpellsJoins c.joins joins

-- name [. name] (SQL:2016, <grouping column reference>)
abbrev pub SpellsGroup : GroupTree → List Terminal → Type 0
SpellsGroup g ts = ts ≡ column_spelling g.qualifier g.column

-- [other | one]: one stands for truth, and nothing for what other stands for
abbrev pub SpellsFlag : List ℕ → List ℕ → Bool → List Terminal → Type 0
SpellsFlag one other true ts = ts ≡ t.Reserved one ∷ []
SpellsFlag one other false ts = (ts ≡ []) ⊎ (ts ≡ t.Reserved other ∷ [])

-- [NULLS FIRST | NULLS LAST]: where it is not written, NULL is last, and under DESC first (SQL:2016, <null ordering>).
abbrev pub SpellsNulls : Bool → Bool → List Terminal → Type 0
SpellsNulls descending first ts =
    ((ts ≡ []) × (first ≡ descending)) ⊎ ((ts ≡ keywords (codes "nulls" ∷ codes "first" ∷ [])) × (first ≡ true))
    ⊎ ((ts ≡ keywords (codes "nulls" ∷ codes "last" ∷ [])) × (first ≡ false))

-- expr [ASC | DESC] [NULLS FIRST | NULLS LAST] (SQL:2016, <sort specification>)
abbrev pub SpellsKey : KeyTree → List Terminal → Type 0
SpellsKey k ts =
    (expr direction nulls : List Terminal) × (ts ≡ expr ++ (direction ++ nulls))
    × IsExpr expr k.key × SpellsFlag (codes "desc") (codes "asc") k.descending direction × SpellsNulls k.descending k.nulls_first nulls

-- [LIMIT (num | ALL)]
abbrev pub SpellsLimit : Option LimitTree → List Terminal → Type 0
SpellsLimit None ts = ts ≡ []
SpellsLimit (Some no_limit) ts = ts ≡ keywords (codes "limit" ∷ codes "all" ∷ [])
SpellsLimit (Some (rows n)) ts = ts ≡ t.Reserved (codes "limit") ∷ t.Num n ∷ []

-- [OFFSET num [ROW | ROWS]] (SQL:2016, <result offset clause>)
abbrev pub SpellsOffset : Option ℕ → List Terminal → Type 0
SpellsOffset None ts = ts ≡ []
SpellsOffset (Some n) ts =
    (unit : List Terminal) × (ts ≡ t.Reserved (codes "offset") ∷ t.Num n ∷ unit)
    × ((unit ≡ []) ⊎ (unit ≡ keywords (codes "row" ∷ [])) ⊎ (unit ≡ keywords (codes "rows" ∷ [])))

-- limit [offset] | offset [limit], or nothing
abbrev pub SpellsLimits : Option LimitTree → Option ℕ → List Terminal → Type 0
SpellsLimits limit offset ts =
    (a b : List Terminal) × SpellsLimit limit a × SpellsOffset offset b × ((ts ≡ a ++ b) ⊎ (ts ≡ b ++ a))

-- [words x]
abbrev pub SpellsPerhaps : {X : Type 0} → List (List ℕ) → (X → List Terminal → Type 0) → Option X → List Terminal → Type 0
SpellsPerhaps words Spells None ts = ts ≡ []
SpellsPerhaps words Spells (Some x) ts = (behind : List Terminal) × (ts ≡ keywords words ++ behind) × Spells x behind

-- [words x {, x}]
abbrev pub SpellsListed : {X : Type 0} → List (List ℕ) → (X → List Terminal → Type 0) → List X → List Terminal → Type 0
SpellsListed words Spells [] ts = ts ≡ []
SpellsListed words Spells (x ∷ xs) ts = (behind : List Terminal) × (ts ≡ keywords words ++ behind) × SpellsList Spells (x ∷ xs) behind

-- the terminals are an expression with this tree
abbrev pub SpellsExpr : ExprTree → List Terminal → Type 0
SpellsExpr e ts = IsExpr ts e

-- SELECT [ALL | DISTINCT] item {, item} [FROM chain {, chain}] [WHERE expr] [GROUP BY col {, col}] [HAVING expr]
-- (SQL:2016, <query specification>)
pub record SpellsCore (c : CoreTree) (ts : List Terminal) : Type 0 where
  pub quantifier : List Terminal
  pub items : List Terminal
  pub from : List Terminal
  pub condition : List Terminal
  pub groups : List Terminal
  pub having : List Terminal
  pub is : ts ≡ t.Reserved (codes "select") ∷ (quantifier ++ (items ++ (from ++ (condition ++ (groups ++ having)))))
  pub quantified : SpellsFlag (codes "distinct") (codes "all") c.distinct quantifier
  pub answered : SpellsList SpellsItem c.items items
  pub joined : SpellsListed (codes "from" ∷ []) SpellsChain c.from from
  pub filtered : SpellsPerhaps (codes "where" ∷ []) SpellsExpr c.condition condition
  pub grouped : SpellsListed (codes "group" ∷ codes "by" ∷ []) SpellsGroup c.groups groups
  pub kept : SpellsPerhaps (codes "having" ∷ []) SpellsExpr c.having having

-- {UNION ALL core}
abbrev pub SpellsUnions : List CoreTree → List Terminal → Type 0
SpellsUnions [] ts = ts ≡ []
SpellsUnions (c ∷ cs) ts =
    (core others : List Terminal) × (ts ≡ keywords (codes "union" ∷ codes "all" ∷ []) ++ (core ++ others))
    × SpellsCore c core × SpellsUnions cs others

-- core {UNION ALL core} [ORDER BY key {, key}] [limits] (SQL:2016, <query expression>)
pub record SpellsSelect (q : SelectTree) (ts : List Terminal) : Type 0 where
  pub core : List Terminal
  pub others : List Terminal
  pub keys : List Terminal
  pub limits : List Terminal
  pub is : ts ≡ core ++ (others ++ (keys ++ limits))
  pub first : SpellsCore q.core core
  pub united : SpellsUnions q.others others
  pub ordered : SpellsListed (codes "order" ∷ codes "by" ∷ []) SpellsKey q.keys keys
  pub cut : SpellsLimits q.limit q.offset limits

-- the terminals of a statement, by its kind
abbrev pub Spells : StatementTree → List Terminal → Type 0
Spells (select q) ts = SpellsSelect q ts

-- nothing, or one semicolon
abbrev pub IsEnd : List Terminal → Type 0
IsEnd ts = (ts ≡ []) ⊎ (ts ≡ t.Semicolon ∷ [])

-- The terminals are a line of the grammar with this tree: a statement, and perhaps a semicolon.
abbrev pub IsLine : List Terminal → StatementTree → Type 0
IsLine ts s = (statement end : List Terminal) × (ts ≡ statement ++ end) × Spells s statement × IsEnd end

-- The tokens are a line of the grammar with this tree.
abbrev pub IsStatement : List Shape → StatementTree → Type 0
IsStatement ss s = (ts : List Terminal) × AreWords ss ts × IsLine ts s

-- The text has this tree: its one list of longest tokens is a line of the grammar with this tree.
abbrev pub HasStatement : List ℕ → StatementTree → Type 0
HasStatement text s = (ts : List Lexeme) × Lexes 0 text ts × IsStatement (shapes ts) s
