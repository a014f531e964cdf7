-- Statements as trees, without where they lie in memory.
use Rattle.std.specs.Prelude.{ℕ, Bool, List, [], ◌∷◌, max, Option, Some, None}
use Rattle.med_syntax.specs.Tree.{Name}
use Rattle.med_syntax.specs.ExprTree.{ExprTree, height}

-- What a query answers (SQL:2016, <select sublist>): `*`, `name . *`, or an expression with the name behind it.
pub data ItemTree : Type 0 where
  all : ItemTree
  all_of : Name → ItemTree
  value : ExprTree → Option Name → ItemTree

-- A table, and what it is called in the statement (SQL:2016, <table primary>).
pub record EntryTree : Type 0 where
  pub table : Name
  pub alias : Option Name

-- A join with one more entry (SQL:2016, <joined table>): for what ON says, for that and with each left row that has no match, or for all
-- pairs.
pub data JoinTree : Type 0 where
  inner_join : EntryTree → ExprTree → JoinTree
  left_join : EntryTree → ExprTree → JoinTree
  cross_join : EntryTree → JoinTree

-- An entry of FROM, and the joins behind it, from the left on.
pub record ChainTree : Type 0 where
  pub first : EntryTree
  pub joins : List JoinTree

-- [qualifier .] column (SQL:2016, <grouping column reference>)
pub record GroupTree : Type 0 where
  pub qualifier : Option Name
  pub column : Name

-- A key of ORDER BY, and its direction (SQL:2016, <sort specification>)
pub record KeyTree : Type 0 where
  pub key : ExprTree
  pub descending : Bool
  pub nulls_first : Bool

-- LIMIT ALL, or so many rows
pub data LimitTree : Type 0 where
  no_limit : LimitTree
  rows : ℕ → LimitTree

-- SELECT [DISTINCT] items [FROM chains] [WHERE condition] [GROUP BY groups] [HAVING having] (SQL:2016, <query specification>). A clause that
-- is a list is empty where it is not written.
pub record CoreTree : Type 0 where
  pub distinct : Bool
  pub items : List ItemTree
  pub from : List ChainTree
  pub condition : Option ExprTree
  pub groups : List GroupTree
  pub having : Option ExprTree

-- core {UNION ALL core} [ORDER BY keys] [LIMIT limit] [OFFSET offset] (SQL:2016, <query expression>): the order and what is cut are of the
-- rows of all cores
pub record SelectTree : Type 0 where
  pub core : CoreTree
  pub others : List CoreTree
  pub keys : List KeyTree
  pub limit : Option LimitTree
  pub offset : Option ℕ

-- its cores, in order
abbrev pub cores_of : SelectTree → List CoreTree
cores_of q = q.core ∷ q.others

-- A new kind of statement is a constructor.
pub data StatementTree : Type 0 where
  select : SelectTree → StatementTree

-- ---- how high the highest expression is; 0 where there is none

abbrev pub item_height : ItemTree → ℕ
item_height (value e label) = height e
item_height _ = 0

abbrev pub join_height : JoinTree → ℕ
join_height (inner_join entry on) = height on
join_height (left_join entry on) = height on
join_height (cross_join entry) = 0

abbrev pub key_height : KeyTree → ℕ
key_height k = height k.key

abbrev pub highest_of : {X : Type 0} → (X → ℕ) → List X → ℕ
highest_of high [] = 0
highest_of high (x ∷ xs) = max (high x) (highest_of high xs)

abbrev pub chain_height : ChainTree → ℕ
chain_height c = highest_of join_height c.joins

abbrev pub condition_height : Option ExprTree → ℕ
condition_height None = 0
condition_height (Some e) = height e

abbrev pub core_height : CoreTree → ℕ
core_height c =
    max (highest_of item_height c.items) (max (highest_of chain_height c.from) (max (condition_height c.condition) (condition_height c.having)))

abbrev pub select_height : SelectTree → ℕ
select_height q = max (highest_of core_height (cores_of q)) (highest_of key_height q.keys)

abbrev pub statement_height : StatementTree → ℕ
statement_height (select q) = select_height q
