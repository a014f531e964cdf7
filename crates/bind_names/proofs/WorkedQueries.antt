-- Queries with UNION ALL over two tables: parts (id, name) and orders (part). Each line is proved by computing both sides.
use Rattle.std.proofs.Common.{◌≡◌, true, false, List, [], ◌∷◌, codes, Option, Some, None, refl, map}
use Rattle.med_value.specs.Column.{Column}
use Rattle.med_value.specs.declared.value.ColType.{ColType}
use Rattle.med_value.specs.declared.value.ColType.TheVariants.{Int, Text}
use Rattle.med_value.specs.declared.order.Comparison.TheVariants.{Below}
use Rattle.med_value.specs.declared.operators.Operation.TheVariants.{Add}
use Rattle.med_value.specs.declared.cause.Cause.TheVariants.{InvalidColumnReference, AmbiguousColumn, UndefinedTable}
use Rattle.med_syntax.specs.Prelude.{Name, ItemTree, value, KeyTree, rows, CoreTree, SelectTree}
use Rattle.med_syntax.specs.ExprTree.{ExprTree, num, column as written, compare, binary}
use Rattle.tri_expr.specs.Tree.{column}
use Rattle.med_query.specs.Form.{CoreForm}
use Rattle.bind_names.specs.Scope.{TableShape}
use Rattle.bind_names.specs.Meaning.{meant_in}
use Rattle.bind_names.specs.Naming.{select_name_causes}

abbrev pub named : Name → ColType → Column
named n k = record { name = n; kind = k; not_null = false }

abbrev pub tables : List TableShape
tables =
    record { name = codes "parts"; columns = named (codes "id") Int ∷ named (codes "name") Text ∷ [] }
    ∷ record { name = codes "orders"; columns = named (codes "part") Int ∷ [] } ∷ []

abbrev pub name : Name → ExprTree
name n = written None n

-- SELECT items FROM entry
abbrev pub from : List ItemTree → Name → Option ExprTree → CoreTree
from items entry condition = record {
  distinct = false;
  items = items;
  from = record { first = record { table = entry; alias = None }; joins = [] } ∷ [];
  condition = condition;
  groups = [];
  having = None;
}

abbrev pub key : ExprTree → KeyTree
key e = record { key = e; descending = true; nulls_first = true }

-- a UNION ALL b ORDER BY e DESC LIMIT 3
abbrev pub both : CoreTree → CoreTree → ExprTree → SelectTree
both a b e = record { core = a; others = b ∷ []; keys = key e ∷ []; limit = Some (rows 3); offset = None }

abbrev pub shown : Name → ItemTree
shown n = value (name n) None

-- SELECT id FROM parts WHERE id < 3 UNION ALL SELECT part FROM orders ORDER BY e DESC LIMIT 3
abbrev pub numbers : ExprTree → SelectTree
numbers e = both (from (shown (codes "id") ∷ []) (codes "parts") (Some (compare Below (name (codes "id")) (num 3)))) (from (shown (codes "part") ∷ []) (codes "orders") None) e

named_by_first : (meant_in tables (numbers (name (codes "id")))).names ≡ codes "id" ∷ []
named_by_first = refl

read_in_turn : (meant_in tables (numbers (name (codes "id")))).entries ≡ 0 ∷ 1 ∷ []
read_in_turn = refl

each_sorted : map (λ (c : CoreForm). c.keys) (meant_in tables (numbers (name (codes "id")))).form.cores ≡ (column 0 ∷ []) ∷ (column 0 ∷ []) ∷ []
each_sorted = refl

no_cause : select_name_causes tables (numbers (name (codes "id"))) ≡ []
no_cause = refl

by_position : select_name_causes tables (numbers (num 1)) ≡ []
by_position = refl

no_position : select_name_causes tables (numbers (num 2)) ≡ InvalidColumnReference ∷ []
no_position = refl

-- a name of the second core is none of the query's
second_name : select_name_causes tables (numbers (name (codes "part"))) ≡ InvalidColumnReference ∷ []
second_name = refl

expression_key : select_name_causes tables (numbers (binary Add (name (codes "id")) (num 1))) ≡ InvalidColumnReference ∷ []
expression_key = refl

-- SELECT id, id FROM parts UNION ALL SELECT id, id FROM parts ORDER BY id DESC LIMIT 3
abbrev pub twice : SelectTree
twice = let c = from (shown (codes "id") ∷ shown (codes "id") ∷ []) (codes "parts") None in both c c (name (codes "id"))

stands_twice : select_name_causes tables twice ≡ AmbiguousColumn ∷ []
stands_twice = refl

-- SELECT id FROM parts UNION ALL SELECT gone FROM nowhere
unknown_table : select_name_causes tables (both (from (shown (codes "id") ∷ []) (codes "parts") None) (from (shown (codes "gone") ∷ []) (codes "nowhere") None) (num 1)) ≡ UndefinedTable ∷ []
unknown_table = refl
