-- Statements without where they lie in memory.
use Rattle.std.specs.Prelude.{List, map, option_map}
use Rattle.std.specs.String.{string_bytes}
use Rattle.med_syntax.specs.declared.statement.Item.{Item}
use Rattle.med_syntax.specs.declared.statement.Item.TheVariants as i
use Rattle.med_syntax.specs.declared.statement.Entry.{Entry}
use Rattle.med_syntax.specs.declared.statement.Join.{Join}
use Rattle.med_syntax.specs.declared.statement.Join.TheVariants as j
use Rattle.med_syntax.specs.declared.statement.Chain.{Chain}
use Rattle.med_syntax.specs.declared.statement.GroupColumn.{GroupColumn}
use Rattle.med_syntax.specs.declared.statement.OrderKey.{OrderKey}
use Rattle.med_syntax.specs.declared.statement.Limit.{Limit}
use Rattle.med_syntax.specs.declared.statement.Limit.TheVariants as l
use Rattle.med_syntax.specs.declared.statement.Core.{Core}
use Rattle.med_syntax.specs.declared.statement.Select.{Select}
use Rattle.med_syntax.specs.declared.statement.Statement.{Statement}
use Rattle.med_syntax.specs.declared.statement.Statement.TheVariants as s
use Rattle.med_syntax.specs.ExprView.{expr_tree}
use Rattle.med_syntax.specs.QueryTree.{ItemTree, all, all_of, value, EntryTree, JoinTree, inner_join, left_join, cross_join, ChainTree, GroupTree, KeyTree, LimitTree, no_limit, rows, CoreTree, SelectTree, StatementTree, select}

abbrev pub item_tree : Item → ItemTree
item_tree i.All = all
item_tree (i.AllOf q) = all_of (string_bytes q)
item_tree (i.Expression e alias) = value (expr_tree e) (option_map string_bytes alias)

abbrev pub items_tree : List Item → List ItemTree
items_tree = map item_tree

abbrev pub entry_tree : Entry → EntryTree
entry_tree e = record { table = string_bytes e.table; alias = option_map string_bytes e.alias }

abbrev pub join_tree : Join → JoinTree
join_tree (j.Inner entry on) = inner_join (entry_tree entry) (expr_tree on)
join_tree (j.Left entry on) = left_join (entry_tree entry) (expr_tree on)
join_tree (j.Cross entry) = cross_join (entry_tree entry)

abbrev pub chain_tree : Chain → ChainTree
chain_tree c = record { first = entry_tree c.first; joins = map join_tree c.joins.items }

abbrev pub group_tree : GroupColumn → GroupTree
group_tree g = record { qualifier = option_map string_bytes g.qualifier; column = string_bytes g.name }

abbrev pub key_tree : OrderKey → KeyTree
key_tree k = record { key = expr_tree k.key; descending = k.descending; nulls_first = k.nulls_first }

abbrev pub limit_tree : Limit → LimitTree
limit_tree l.All = no_limit
limit_tree (l.Rows n) = rows n

abbrev pub core_tree : Core → CoreTree
core_tree c = record {
  distinct = c.distinct;
  items = items_tree c.items.items;
  from = map chain_tree c.from.items;
  condition = option_map expr_tree c.condition;
  groups = map group_tree c.groups.items;
  having = option_map expr_tree c.having;
}

abbrev pub select_tree : Select → SelectTree
select_tree s = record {
  core = core_tree s.core;
  others = map core_tree s.others.items;
  keys = map key_tree s.keys.items;
  limit = option_map limit_tree s.limit;
  offset = s.offset;
}

abbrev pub statement_tree : Statement → StatementTree
statement_tree (s.Select q) = select (select_tree q)
