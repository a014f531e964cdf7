use Rattle.std.proofs.Common.{◌++◌, ◌∷◌, List, [], codes, subst, map}
use Rattle.std.specs.String.{string_bytes}
use Rattle.med_syntax.specs.Prelude.{spelling, CoreTree, chain_tree, group_tree, core_tree}
use Rattle.expr_writer.specs.ExprPrinting.{Wrote}
use Rattle.sql_print.proofs.Writing.{then_if}
use Rattle.med_syntax.specs.declared.statement.Chain.{Chain}
use Rattle.med_syntax.specs.declared.statement.GroupColumn.{GroupColumn}
use Rattle.sql_print.specs.QueryPrinting.{chain_written, group_written, listed_written, perhaps_written}
use Rattle.sql_print.proofs.query_writer.write_clauses.Goals as goal

pub returns : goal.returns
returns c =
    let q : CoreTree = core_tree c.args.core.now in
    then_if c.write_condition-2.result _ _ _ (listed_written (codes "from" ∷ []) chain_written q.from) (perhaps_written (codes "where" ∷ []) spelling q.condition ++ (listed_written (codes "group" ∷ codes "by" ∷ []) group_written q.groups ++ perhaps_written (codes "having" ∷ []) spelling q.having))
    (subst (λ (xs : List Chain). Wrote (string_bytes c.args.out.now) (string_bytes c.write_from.new.out) (listed_written (codes "from" ∷ []) chain_written (map chain_tree xs))) c.deref.ensures.value c.in_ok-write_from.ensures)
    (then_if c.write_condition-2.result _ _ _ (perhaps_written (codes "where" ∷ []) spelling q.condition) (listed_written (codes "group" ∷ codes "by" ∷ []) group_written q.groups ++ perhaps_written (codes "having" ∷ []) spelling q.having) c.in_ok-write_condition.ensures
    (then_if c.write_condition-2.result _ _ _ (listed_written (codes "group" ∷ codes "by" ∷ []) group_written q.groups) (perhaps_written (codes "having" ∷ []) spelling q.having)
    (subst (λ (xs : List GroupColumn). Wrote (string_bytes c.write_condition.new.out) (string_bytes c.write_groups.new.out) (listed_written (codes "group" ∷ codes "by" ∷ []) group_written (map group_tree xs))) c.deref-2.ensures.value c.in_ok-write_groups.ensures)
    c.write_condition-2.ensures))
