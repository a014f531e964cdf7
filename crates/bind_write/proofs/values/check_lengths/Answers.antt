use Rattle.std.proofs.Common.{◌∷◌, ◌<◌, length, map, ap, sym, ◌∙◌, arith}
use Rattle.std.proofs.lemmas.List.{length-map}
use Rattle.med_value.specs.declared.cause.Cause.TheVariants.{ValuesSyntax}
use Rattle.tri_expr.specs.Tree.{tree}
use Rattle.bind_names.proofs.Causes.{tells_one}
use Rattle.bind_names.proofs.Parts.{drop_read}
use Rattle.bind_types.specs.Typing.{unless}
use Rattle.med_write.specs.Form.{trees_of}
use Rattle.bind_write.proofs.Rows.{lengths_by, take_rest}
use Rattle.bind_write.proofs.values.check_lengths.Goals as goal

pub returns-then-are_so_long : goal.returns-then-are_so_long
returns-then-are_so_long c =
    let first = c.first-item.result in
    let lt : 0 < length c.args.rows.now = omega (arith, c.in-len1-up.len_at_least) in
    let at = ap (map trees_of) (drop_read c.args.rows.now 0 first lt c.first-item.is ∙ ap (λ xs. first ∷ xs) (sym (take_rest c.args.rows.now))) in
    lengths_by _ (trees_of first) _ (length c.as_slice.result.now) at (ap length c.as_slice.ensures.value ∙ sym (length-map first.items tree)) ∙ ap (λ b. unless b ValuesSyntax) (sym c.if-are_so_long.ensures)

pub returns-else-are_so_long : goal.returns-else-are_so_long
returns-else-are_so_long c =
    let first = c.first-item.result in
    let lt : 0 < length c.args.rows.now = omega (arith, c.in-len1-up.len_at_least) in
    let at = ap (map trees_of) (drop_read c.args.rows.now 0 first lt c.first-item.is ∙ ap (λ xs. first ∷ xs) (sym (take_rest c.args.rows.now))) in
    tells_one _ ValuesSyntax (lengths_by _ (trees_of first) _ (length c.as_slice.result.now) at (ap length c.as_slice.ensures.value ∙ sym (length-map first.items tree)) ∙ ap (λ b. unless b ValuesSyntax) (sym c.if-are_so_long.ensures))
