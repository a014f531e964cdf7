-- What the functions on parts of a query answer.
use Rattle.std.specs.Prelude.{◌≡◌, ℕ, suc, List, [], ◌∷◌, ◌++◌, length, map, Option, Some, None, Result, Ok, Err}
use Rattle.std.specs.Borrow.{Bor}
use Rattle.med_value.specs.declared.cause.Cause.{Cause}
use Rattle.med_syntax.specs.QueryTree.{JoinTree}
use Rattle.tri_expr.specs.declared.expr.Expr.{Expr}
use Rattle.tri_expr.specs.Tree.{tree}
use Rattle.med_query.specs.declared.select.Join.{Join}
use Rattle.med_query.specs.Form.{join_form}
use Rattle.bind_names.specs.Prelude.{TableShape, scope_of, entry_columns, joined_entry, on_name_causes, Output, first_value, with_join, join_meant, TellsCause}
use Rattle.bind_names.specs.declared.scope.Visible.{Visible}

-- one join more behind the entry of a number, and its entry in view
abbrev pub AddsJoin : List TableShape → ℕ → JoinTree → List Visible → List Visible → List Join → List Join → Result ℕ Cause → Type 0
AddsJoin tables last j before after old new (Ok table) =
    let s = with_join tables (scope_of before) j in
    (table ≡ suc last) × (scope_of after ≡ s)
    × (map join_form new ≡ map join_form old ++ join_meant s (suc last) (length (entry_columns tables (joined_entry j))) j ∷ [])
    × (on_name_causes s j ≡ [])
AddsJoin tables last j before after old new (Err c) = TellsCause (on_name_causes (with_join tables (scope_of before) j) j) c

-- what the first output of some shows, if there is one
abbrev pub IsFirst : List Output → Option (Bor Expr) → Type 0
IsFirst outs None = outs ≡ []
IsFirst outs (Some e) = first_value outs ≡ tree e.now
