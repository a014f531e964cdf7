use Rattle.std.proofs.Common.{[], ◌≡◌, length, map, option_map, ap, sym, subst, ◌∙◌}
use Rattle.std.proofs.lemmas.List.{length-map}
use Rattle.med_value.specs.Column.{column_of}
use Rattle.tri_expr.specs.Tree.{tree}
use Rattle.med_syntax.specs.WriteView.{names_tree}
use Rattle.med_write.specs.Form.{trees_of}
use Rattle.bind_names.specs.Telling.{Passes}
use Rattle.bind_types.specs.TreeTypes.{tree_type}
use Rattle.bind_write.specs.Meaning.{places_meant}
use Rattle.bind_write.specs.Typing.{cells_causes, count_causes, row_types, type_at}
use Rattle.bind_write.proofs.PartCells.{passes_behind}
use Rattle.bind_write.proofs.values.check_row.Goals as goal

pub returns : goal.returns
returns c =
    let columns = map column_of c.args.columns.now in
    let names = option_map names_tree c.args.names.now in
    let ts = trees_of c.args.row.now in
    let long : length (row_types ts) ≡ c.len.result =
    length-map ts (tree_type []) ∙ (length-map c.args.row.now.items tree ∙ (sym (ap length c.as_slice.ensures.value) ∙ (c.as_slice.ensures.len ∙ sym c.len.ensures))) in
    let cells = subst (λ xs. Passes (cells_causes columns (map (type_at (row_types (map tree xs))) (places_meant names columns))) c.check_values.result)
    c.as_slice.ensures.value c.check_values.ensures in
    passes_behind (count_causes columns names (length (row_types ts))) _ c.check_values.result (ap (count_causes columns names) long ∙ c.in_ok-check_count.ensures) cells
