use Rattle.std.proofs.Common.{◌++◌, ◌∷◌, List, [], codes, subst, map}
use Rattle.std.specs.String.{string_bytes}
use Rattle.expr_writer.specs.ExprPrinting.{Wrote}
use Rattle.sql_print.proofs.Writing.{then_if}
use Rattle.med_syntax.specs.declared.statement.OrderKey.{OrderKey}
use Rattle.sql_print.specs.QueryPrinting.{key_written, listed_written, limit_written, offset_written}
use Rattle.med_syntax.specs.Prelude.{SelectTree, key_tree, select_tree}
use Rattle.sql_print.proofs.query_keys.write_tail.Goals as goal

pub returns : goal.returns
returns c =
    let q : SelectTree = select_tree c.args.select.now in
    then_if c.write_offset.result _ _ _ (listed_written (codes "order" ∷ codes "by" ∷ []) key_written q.keys) (limit_written q.limit ++ offset_written q.offset)
    (subst (λ (xs : List OrderKey). Wrote (string_bytes c.args.out.now) (string_bytes c.write_keys.new.out) (listed_written (codes "order" ∷ codes "by" ∷ []) key_written (map key_tree xs))) c.deref.ensures.value c.in_ok-write_keys.ensures)
    (then_if c.write_offset.result _ _ _ (limit_written q.limit) (offset_written q.offset) c.in_ok-write_limit.ensures c.write_offset.ensures)
