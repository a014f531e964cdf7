-- Tables that no foreign key refers to.
use Rattle.std.specs.Prelude.{ℕ, Bool, false, not, nat_eq, List, find, Option, Some, None}
use Rattle.std.specs.List.{list_any}
use Rattle.sqlite.specs.Schema.{Schema}
use Rattle.sqlite_schema.specs.Names.{same_name}
use Rattle.sqlite_schema.specs.declared.schema.Table.{Table}
use Rattle.sqlite_schema.specs.declared.schema.Reference.{Reference}

abbrev pub is_in : ℕ → Option Table → Bool
is_in tree None = false
is_in tree (Some t) = nat_eq t.tree tree

-- the parent of a reference is the table in this tree
abbrev pub leads_to : List Table → ℕ → Reference → Bool
leads_to tables tree ref = is_in tree (find (λ t. same_name t.name ref.parent) tables)

-- some reference of these tables leads there
abbrev pub is_parent : List Table → ℕ → List Table → Bool
is_parent tables tree children = list_any (λ t. list_any (leads_to tables tree) t.references) children

-- no foreign key of the schema refers to the table in this tree
abbrev pub is_free : Schema → ℕ → Bool
is_free schema tree = not (is_parent schema.tables tree schema.tables)
