-- Statements written out: keywords in upper case, every name in double quotes, AS before each alias, ASC or DESC and the place of NULL for
-- each key, LIMIT before OFFSET, no optional word but these, and one space between tokens.
use Rattle.std.specs.Prelude.{ℕ, Bool, true, false, List, [], ◌∷◌, ◌++◌, codes, Option, Some, None}
use Rattle.med_lexer.specs.Printing.{printed}
use Rattle.med_value.specs.declared.operators.Operation.TheVariants.{Multiply}
use Rattle.sql_print.specs.declared.query_words.Keyword.{Keyword}
use Rattle.sql_print.specs.declared.query_words.Keyword.TheVariants as k
use Rattle.med_syntax.specs.Prelude.{Name, Terminal, ExprTree, column_spelling, spelling, keywords}
use Rattle.med_syntax.specs.Terminal as t
use Rattle.expr_writer.specs.ExprPrinting.{shapes_for}
use Rattle.med_syntax.specs.QueryTree.{ItemTree, all, all_of, value, EntryTree, JoinTree, inner_join, left_join, cross_join, ChainTree, GroupTree, KeyTree, LimitTree, no_limit, rows, CoreTree, SelectTree, StatementTree, select}

abbrev pub keyword_word : Keyword → List ℕ
keyword_word k.Select = codes "select"
keyword_word k.Distinct = codes "distinct"
keyword_word k.As = codes "as"
keyword_word k.From = codes "from"
keyword_word k.Join = codes "join"
keyword_word k.Left = codes "left"
keyword_word k.Cross = codes "cross"
keyword_word k.On = codes "on"
keyword_word k.Where = codes "where"
keyword_word k.Group = codes "group"
keyword_word k.By = codes "by"
keyword_word k.Having = codes "having"
keyword_word k.Union = codes "union"
keyword_word k.Order = codes "order"
keyword_word k.Ascending = codes "asc"
keyword_word k.Descending = codes "desc"
keyword_word k.Nulls = codes "nulls"
keyword_word k.First = codes "first"
keyword_word k.Last = codes "last"
keyword_word k.Limit = codes "limit"
keyword_word k.All = codes "all"
keyword_word k.Offset = codes "offset"
keyword_word k.Insert = codes "insert"
keyword_word k.Into = codes "into"
keyword_word k.Values = codes "values"
keyword_word k.Update = codes "update"
keyword_word k.Set = codes "set"
keyword_word k.Delete = codes "delete"

-- a keyword that no expression has
abbrev pub keyword_terminal : Keyword → Terminal
keyword_terminal k = t.Reserved (keyword_word k)

-- ---- the terminals that a statement is written by

abbrev pub alias_written : Option Name → List Terminal
alias_written None = []
alias_written (Some n) = t.Reserved (codes "as") ∷ t.Name n ∷ []

abbrev pub item_written : ItemTree → List Terminal
item_written all = t.Binary Multiply ∷ []
item_written (all_of q) = t.Name q ∷ t.Dot ∷ t.Binary Multiply ∷ []
item_written (value e label) = spelling e ++ alias_written label

abbrev pub others_written : {X : Type 0} → (X → List Terminal) → List X → List Terminal
others_written written [] = []
others_written written (x ∷ xs) = t.Comma ∷ (written x ++ others_written written xs)

abbrev pub list_written : {X : Type 0} → (X → List Terminal) → List X → List Terminal
list_written written [] = []
list_written written (x ∷ xs) = written x ++ others_written written xs

abbrev pub entry_written : EntryTree → List Terminal
entry_written e = t.Name e.table ∷ alias_written e.alias

abbrev pub on_written : EntryTree → ExprTree → List Terminal
on_written e on = entry_written e ++ t.Reserved (codes "on") ∷ spelling on

abbrev pub join_written : JoinTree → List Terminal
join_written (inner_join e on) = t.Reserved (codes "join") ∷ on_written e on
join_written (left_join e on) = t.Reserved (codes "left") ∷ t.Reserved (codes "join") ∷ on_written e on
join_written (cross_join e) = t.Reserved (codes "cross") ∷ t.Reserved (codes "join") ∷ entry_written e

abbrev pub joins_written : List JoinTree → List Terminal
joins_written [] = []
joins_written (x ∷ xs) = join_written x ++ joins_written xs

abbrev pub chain_written : ChainTree → List Terminal
chain_written c = entry_written c.first ++ joins_written c.joins

abbrev pub group_written : GroupTree → List Terminal
group_written g = column_spelling g.qualifier g.column

abbrev pub flag_written : List ℕ → List ℕ → Bool → List Terminal
flag_written one other true = t.Reserved one ∷ []
flag_written one other false = t.Reserved other ∷ []

abbrev pub nulls_written : Bool → List Terminal
nulls_written first = t.Reserved (codes "nulls") ∷ flag_written (codes "first") (codes "last") first

abbrev pub key_written : KeyTree → List Terminal
key_written k = spelling k.key ++ (flag_written (codes "desc") (codes "asc") k.descending ++ nulls_written k.nulls_first)

abbrev pub quantifier_written : Bool → List Terminal
quantifier_written true = t.Reserved (codes "distinct") ∷ []
quantifier_written false = []

abbrev pub limit_written : Option LimitTree → List Terminal
limit_written None = []
limit_written (Some no_limit) = t.Reserved (codes "limit") ∷ t.Reserved (codes "all") ∷ []
limit_written (Some (rows n)) = t.Reserved (codes "limit") ∷ t.Num n ∷ []

abbrev pub offset_written : Option ℕ → List Terminal
offset_written None = []
offset_written (Some n) = t.Reserved (codes "offset") ∷ t.Num n ∷ []

abbrev pub perhaps_written : {X : Type 0} → List (List ℕ) → (X → List Terminal) → Option X → List Terminal
perhaps_written words written None = []
perhaps_written words written (Some x) = keywords words ++ written x

abbrev pub listed_written : {X : Type 0} → List (List ℕ) → (X → List Terminal) → List X → List Terminal
listed_written words written [] = []
listed_written words written (x ∷ xs) = keywords words ++ list_written written (x ∷ xs)

-- behind the items of a core
abbrev pub clauses_written : CoreTree → List Terminal
clauses_written c =
    listed_written (codes "from" ∷ []) chain_written c.from ++ (perhaps_written (codes "where" ∷ []) spelling c.condition
    ++ (listed_written (codes "group" ∷ codes "by" ∷ []) group_written c.groups ++ perhaps_written (codes "having" ∷ []) spelling c.having))

abbrev pub core_written : CoreTree → List Terminal
core_written c = t.Reserved (codes "select") ∷ (quantifier_written c.distinct ++ (list_written item_written c.items ++ clauses_written c))

-- UNION ALL core
abbrev pub union_written : CoreTree → List Terminal
union_written c = t.Reserved (codes "union") ∷ t.Reserved (codes "all") ∷ core_written c

-- {UNION ALL core}
abbrev pub unions_written : List CoreTree → List Terminal
unions_written [] = []
unions_written (c ∷ cs) = union_written c ++ unions_written cs

-- behind the cores
abbrev pub tail_written : SelectTree → List Terminal
tail_written q = listed_written (codes "order" ∷ codes "by" ∷ []) key_written q.keys ++ (limit_written q.limit ++ offset_written q.offset)

abbrev pub select_written : SelectTree → List Terminal
select_written q = core_written q.core ++ (unions_written q.others ++ tail_written q)

abbrev pub statement_written : StatementTree → List Terminal
statement_written (select q) = select_written q

abbrev pub printed_statement : StatementTree → List ℕ
printed_statement s = printed (shapes_for (statement_written s))
