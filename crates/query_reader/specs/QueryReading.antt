-- Reading statements by recursive descent, on lists of terminals, with room for the height of each expression.
use Rattle.std.specs.Prelude.{ℕ, zero, suc, Bool, true, false, cond, List, [], ◌∷◌, length, codes, Result, Ok, Err, Option, Some, None}
use Rattle.std.specs.Str.{bytes_eq}
use Rattle.med_value.specs.declared.operators.Operation.TheVariants.{Multiply}
use Rattle.med_syntax.specs.declared.refusal.Refusal.{Refusal}
use Rattle.med_syntax.specs.declared.refusal.Refusal.TheVariants.{Syntax}
use Rattle.med_syntax.specs.declared.symbols.Separator.TheVariants.{Comma}
use Rattle.query_reader.specs.declared.query_source.JoinWay.{JoinWay}
use Rattle.query_reader.specs.declared.query_source.JoinWay.TheVariants as ways
use Rattle.med_syntax.specs.Prelude.{label_of, Name, Terminal, ExprTree, choose, behind_of, bounded}
use Rattle.med_syntax.specs.ExprReading.{below}
use Rattle.med_syntax.specs.ExprReading.{◌>>=◌}
use Rattle.med_syntax.specs.Terminal as t
use Rattle.med_syntax.specs.QueryTree.{ItemTree, all, all_of, value, EntryTree, JoinTree, inner_join, left_join, cross_join, ChainTree, GroupTree, KeyTree, LimitTree, no_limit, rows, CoreTree, SelectTree, StatementTree, select}

-- what stands at the front and the terminals behind it, or the refusal
abbrev pub Parser : Type 0 → Type 0
Parser X = List Terminal → Result (X × List Terminal) Refusal

-- the one, and then the other
unfoldable pub seq : {X Y : Type 0} → Parser X → (X → Parser Y) → Parser Y
seq first next ts = first ts >>= λ x. next x.0 x.1

-- ---- words and names

abbrev pub behind_word : List ℕ → List Terminal → Option (List Terminal)
behind_word w (t.Reserved v ∷ ts) = cond (bytes_eq v w) (Some ts) None
behind_word w ts = None

-- behind these words, one after the other
abbrev pub behind_words : List (List ℕ) → List Terminal → Option (List Terminal)
behind_words [] ts = Some ts
behind_words (w ∷ ws) ts = choose (behind_word w ts) None (behind_words ws)

-- [other | one]
unfoldable pub flag_of : List ℕ → List ℕ → List Terminal → Bool × List Terminal
flag_of one other ts =
    choose (behind_word one ts) (choose (behind_word other ts) (false, ts) (λ after. (false, after))) (λ after. (true, after))

abbrev pub read_name : Parser Name
read_name (t.Name n ∷ ts) = Ok (n, ts)
read_name ts = Err Syntax

abbrev pub perhaps_name : Parser (Option Name)
perhaps_name (t.Name n ∷ ts) = Ok (Some n, ts)
perhaps_name ts = Ok (None, ts)

-- ---- items

-- behind AS
abbrev pub label_at : Parser (Option Name)
label_at [] = Err Syntax
label_at (u ∷ ts) = choose (label_of u) (Err Syntax) (λ n. Ok (Some n, ts))

unfoldable pub label_after : Parser (Option Name)
label_after ts = choose (behind_word (codes "as") ts) (perhaps_name ts) label_at

unfoldable pub value_item : ℕ → Parser ItemTree
value_item room ts = (below room).whole ts >>= λ x. label_after x.1 >>= λ y. Ok (value x.0 y.0, y.1)

abbrev pub item_of : ℕ → Parser ItemTree
item_of room (t.Binary Multiply ∷ ts) = Ok (all, ts)
item_of room (t.Name q ∷ t.Dot ∷ t.Binary Multiply ∷ ts) = Ok (all_of q, ts)
item_of room ts = value_item room ts

-- {, x}, of at most as many as the number
unfoldable pub others : {X : Type 0} → Parser X → ℕ → Parser (List X)
others item zero ts = Ok ([], ts)
others item (suc k) ts =
    choose (behind_of Comma ts) (Ok ([], ts)) (λ after. item after >>= λ x. others item k x.1 >>= λ y. Ok (x.0 ∷ y.0, y.1))

-- x {, x}
unfoldable pub list_of : {X : Type 0} → Parser X → Parser (List X)
list_of item ts = item ts >>= λ x. others item (length x.1) x.1 >>= λ y. Ok (x.0 ∷ y.0, y.1)

-- ---- clauses

unfoldable pub alias_after : Parser (Option Name)
alias_after ts = choose (behind_word (codes "as") ts) (perhaps_name ts) (λ after. read_name after >>= λ x. Ok (Some x.0, x.1))

unfoldable pub entry_of : Parser EntryTree
entry_of ts = read_name ts >>= λ x. alias_after x.1 >>= λ y. Ok (record { table = x.0; alias = y.0 }, y.1)

-- [words x]
unfoldable pub perhaps_of : {X : Type 0} → List (List ℕ) → Parser X → Parser (Option X)
perhaps_of words item ts = choose (behind_words words ts) (Ok (None, ts)) (λ after. item after >>= λ x. Ok (Some x.0, x.1))

-- [words x {, x}]
unfoldable pub listed_of : {X : Type 0} → List (List ℕ) → Parser X → Parser (List X)
listed_of words item ts = choose (behind_words words ts) (Ok ([], ts)) (list_of item)

-- ---- FROM

-- the join that the words in front begin, and what stands behind them
unfoldable pub join_words : List Terminal → Option (JoinWay × List Terminal)
join_words ts =
    choose (behind_words (codes "join" ∷ []) ts) (choose (behind_words (codes "inner" ∷ codes "join" ∷ []) ts)
    (choose (behind_words (codes "left" ∷ codes "join" ∷ []) ts)
    (choose (behind_words (codes "left" ∷ codes "outer" ∷ codes "join" ∷ []) ts)
    (choose (behind_words (codes "cross" ∷ codes "join" ∷ []) ts) None (λ a. Some (ways.Cross, a)))
    (λ a. Some (ways.Left, a))) (λ a. Some (ways.Left, a))) (λ a. Some (ways.Inner, a))) (λ a. Some (ways.Inner, a))

-- entry ON expr
unfoldable pub on_of : ℕ → Parser (EntryTree × ExprTree)
on_of room ts =
    entry_of ts >>= λ x. choose (behind_word (codes "on") x.1) (Err Syntax)
    (λ after. (below room).whole after >>= λ y. Ok ((x.0, y.0), y.1))

-- behind the words of the join
abbrev pub join_of : JoinWay → ℕ → Parser JoinTree
join_of ways.Inner room ts = on_of room ts >>= λ x. Ok (inner_join x.0.0 x.0.1, x.1)
join_of ways.Left room ts = on_of room ts >>= λ x. Ok (left_join x.0.0 x.0.1, x.1)
join_of ways.Cross room ts = entry_of ts >>= λ x. Ok (cross_join x.0, x.1)

-- {join}, of at most as many as the number
unfoldable pub joins_of : ℕ → ℕ → Parser (List JoinTree)
joins_of room zero ts = Ok ([], ts)
joins_of room (suc k) ts =
    choose (join_words ts) (Ok ([], ts)) (λ j. join_of j.0 room j.1 >>= λ x. joins_of room k x.1 >>= λ y. Ok (x.0 ∷ y.0, y.1))

-- {join}
unfoldable pub all_joins_of : ℕ → Parser (List JoinTree)
all_joins_of room ts = joins_of room (length ts) ts

-- entry {join}
unfoldable pub source_of : ℕ → Parser ChainTree
source_of room ts = entry_of ts >>= λ x. all_joins_of room x.1 >>= λ y. Ok (record { first = x.0; joins = y.0 }, y.1)

-- ---- GROUP BY and ORDER BY

abbrev pub group_of : Parser GroupTree
group_of (t.Name q ∷ t.Dot ∷ t.Name n ∷ ts) = Ok (record { qualifier = Some q; column = n }, ts)
group_of (t.Name n ∷ ts) = Ok (record { qualifier = None; column = n }, ts)
group_of ts = Err Syntax

-- [NULLS FIRST | NULLS LAST], where NULL comes first without it or not
unfoldable pub nulls_of : Bool → List Terminal → Bool × List Terminal
nulls_of absent ts =
    choose (behind_words (codes "nulls" ∷ codes "first" ∷ []) ts)
    (choose (behind_words (codes "nulls" ∷ codes "last" ∷ []) ts) (absent, ts) (λ after. (false, after))) (λ after. (true, after))

-- behind the expression of a key
unfoldable pub key_after : ExprTree → List Terminal → KeyTree × List Terminal
key_after e ts =
    let direction : Bool × List Terminal = flag_of (codes "desc") (codes "asc") ts in
    let nulls : Bool × List Terminal = nulls_of direction.0 direction.1 in
    (record { key = e; descending = direction.0; nulls_first = nulls.0 }, nulls.1)

unfoldable pub key_of : ℕ → Parser KeyTree
key_of room ts = (below room).whole ts >>= λ x. Ok (key_after x.0 x.1)

-- ---- LIMIT and OFFSET

abbrev pub number_of : Parser ℕ
number_of (t.Num n ∷ ts) = Ok (n, ts)
number_of ts = Err Syntax

-- behind LIMIT
unfoldable pub limit_at : Parser (Option LimitTree)
limit_at ts = choose (behind_word (codes "all") ts) (number_of ts >>= λ x. Ok (Some (rows x.0), x.1)) (λ after. Ok (Some no_limit, after))

unfoldable pub limit_of : Parser (Option LimitTree)
limit_of ts = choose (behind_word (codes "limit") ts) (Ok (None, ts)) limit_at

-- [ROW | ROWS]
unfoldable pub behind_unit : List Terminal → List Terminal
behind_unit ts = choose (behind_word (codes "row") ts) (choose (behind_word (codes "rows") ts) ts (λ after. after)) (λ after. after)

unfoldable pub offset_of : Parser (Option ℕ)
offset_of ts = choose (behind_word (codes "offset") ts) (Ok (None, ts)) (λ after. number_of after >>= λ x. Ok (Some x.0, behind_unit x.1))

-- behind OFFSET, where a limit was found or not
abbrev pub limit_after : Option LimitTree → Parser (Option LimitTree)
limit_after (Some l) ts = Ok (Some l, ts)
limit_after None ts = limit_of ts

unfoldable pub limits_of : Parser (Option LimitTree × Option ℕ)
limits_of ts = limit_of ts >>= λ x. offset_of x.1 >>= λ y. limit_after x.0 y.1 >>= λ z. Ok ((z.0, y.0), z.1)

-- ---- cores, queries and statements

-- a core behind SELECT [ALL | DISTINCT]
unfoldable pub quantified_of : Bool → ℕ → Parser CoreTree
quantified_of distinct room =
    seq (list_of (item_of room)) (λ items.
    seq (listed_of (codes "from" ∷ []) (source_of room)) (λ from.
    seq (perhaps_of (codes "where" ∷ []) (below room).whole) (λ condition.
    seq (listed_of (codes "group" ∷ codes "by" ∷ []) group_of) (λ groups.
    seq (perhaps_of (codes "having" ∷ []) (below room).whole) (λ having ts.
    Ok (
      record { distinct = distinct; items = items; from = from; condition = condition; groups = groups; having = having },
      ts,
    ))))))

-- a core behind SELECT
unfoldable pub selected_of : ℕ → Parser CoreTree
selected_of room ts =
    let quantifier : Bool × List Terminal = flag_of (codes "distinct") (codes "all") ts in
    quantified_of quantifier.0 room quantifier.1

unfoldable pub core_of : ℕ → Parser CoreTree
core_of room ts = choose (behind_word (codes "select") ts) (Err Syntax) (selected_of room)

-- {UNION ALL core}, of at most as many as the number
unfoldable pub unions_of : ℕ → ℕ → Parser (List CoreTree)
unions_of room zero ts = Ok ([], ts)
unions_of room (suc k) ts =
    choose (behind_words (codes "union" ∷ codes "all" ∷ []) ts) (Ok ([], ts))
    (λ after. core_of room after >>= λ x. unions_of room k x.1 >>= λ y. Ok (x.0 ∷ y.0, y.1))

-- {UNION ALL core}
unfoldable pub all_unions_of : ℕ → Parser (List CoreTree)
all_unions_of room ts = unions_of room (length ts) ts

unfoldable pub query_of : ℕ → Parser SelectTree
query_of room =
    seq (core_of room) (λ core.
    seq (all_unions_of room) (λ others.
    seq (listed_of (codes "order" ∷ codes "by" ∷ []) (key_of room)) (λ keys.
    seq limits_of (λ limits ts.
    Ok (record { core = core; others = others; keys = keys; limit = limits.0; offset = limits.1 }, ts)))))

unfoldable pub statement_of : ℕ → Parser StatementTree
statement_of room ts = query_of room ts >>= λ x. Ok (select x.0, x.1)

abbrev pub is_end : List Terminal → Bool
is_end [] = true
is_end (t.Semicolon ∷ []) = true
is_end ts = false

unfoldable pub line_of : ℕ → List Terminal → Result StatementTree Refusal
line_of room ts = statement_of room ts >>= λ x. cond (is_end x.1) (Ok x.0) (Err Syntax)

unfoldable pub bounded_line : List Terminal → Result StatementTree Refusal
bounded_line ts = bounded line_of ts
