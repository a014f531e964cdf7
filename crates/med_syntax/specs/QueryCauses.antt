-- Which numbers of a statement are in range.
use Rattle.std.specs.Prelude.{ℕ, Bool, true, ◌&&◌, List, [], ◌∷◌, Option, Some, None, nat_le}
use Rattle.med_syntax.specs.ExprGrammar.{in_range}
use Rattle.med_syntax.specs.QueryTree.{ItemTree, value, JoinTree, inner_join, left_join, cross_join, ChainTree, KeyTree, LimitTree, no_limit, rows, CoreTree, SelectTree, cores_of, StatementTree, select}

-- ---- each number is at most 2^63 - 1, and directly behind a unary minus at most 2^63

abbrev pub item_in_range : ItemTree → Bool
item_in_range (value e label) = in_range e
item_in_range _ = true

-- Whether each of them is
abbrev pub all_in_range : {X : Type 0} → (X → Bool) → List X → Bool
all_in_range good [] = true
all_in_range good (x ∷ xs) = good x && all_in_range good xs

abbrev pub perhaps_in_range : {X : Type 0} → (X → Bool) → Option X → Bool
perhaps_in_range good None = true
perhaps_in_range good (Some x) = good x

abbrev pub join_in_range : JoinTree → Bool
join_in_range (inner_join e on) = in_range on
join_in_range (left_join e on) = in_range on
join_in_range (cross_join e) = true

abbrev pub chain_in_range : ChainTree → Bool
chain_in_range c = all_in_range join_in_range c.joins

abbrev pub key_in_range : KeyTree → Bool
key_in_range k = in_range k.key

-- a number of LIMIT or OFFSET
abbrev pub count_in_range : ℕ → Bool
count_in_range n = nat_le n 9223372036854775807

abbrev pub limit_in_range : LimitTree → Bool
limit_in_range no_limit = true
limit_in_range (rows n) = count_in_range n

abbrev pub core_in_range : CoreTree → Bool
core_in_range c =
    all_in_range item_in_range c.items && (all_in_range chain_in_range c.from
    && (perhaps_in_range in_range c.condition && perhaps_in_range in_range c.having))

abbrev pub select_in_range : SelectTree → Bool
select_in_range q =
    all_in_range core_in_range (cores_of q) && (all_in_range key_in_range q.keys
    && (perhaps_in_range limit_in_range q.limit && perhaps_in_range count_in_range q.offset))

abbrev pub statement_in_range : StatementTree → Bool
statement_in_range (select q) = select_in_range q
