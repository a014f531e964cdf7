use Rattle.std.proofs.Common.{[], ◌≡◌, Some, map, option_map, slice_get, ap, sym, ◌∙◌}
use Rattle.std.proofs.lemmas.Option.{slice_get-map, slice_get-get_or}
use Rattle.tri_expr.specs.Tree.{tree}
use Rattle.bind_types.specs.TreeTypes.{tree_type}
use Rattle.bind_write.proofs.values.kind_in.Goals as goal

pub returns-in-Some-get : goal.returns-in-Some-get
returns-in-Some-get c =
    let values = c.args.values.now in
    let at = c.in-Some.place in
    let x = c.in-Some-get.value.now in
    let got : slice_get values at ≡ Some x =
    slice_get-get_or values at x c.in-Some-get.ensures.lookup.3.0 ∙ ap Some (sym (c.in-Some-get.ensures.lookup.3.1 x)) in
    let kind = slice_get-map (tree_type []) (map tree values) at ∙ ap (option_map (tree_type [])) (slice_get-map tree values at ∙ ap (option_map tree) got) in
    rw c.in-Some.is (ap Some c.kind_of.ensures ∙ sym kind)
