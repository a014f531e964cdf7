use Rattle.std.proofs.Common.{Some, map, ap, sym, ◌∙◌, string_bytes}
use Rattle.med_value.specs.declared.value.ColumnDef.{ColumnDef}
use Rattle.med_syntax.specs.WriteView.{names_tree}
use Rattle.bind_write.specs.Meaning.{name_place}
use Rattle.bind_write.proofs.PartCells.{own_place, named_at}
use Rattle.bind_write.proofs.places.place_of.Goals as goal

pub returns-in-None : goal.returns-in-None
returns-in-None c = rw c.in-None.is (own_place c.args.columns.now c.args.place c.requires)

pub returns-in-Some : goal.returns-in-Some
returns-in-Some c =
    let names = names_tree c.in-Some.names in
    let x = c.index-columns-place.result in
    let list = ap (λ xs. name_place 0 (map string_bytes xs) c.as_str.result.now) c.as_slice.ensures.value in
    let name = c.as_str.ensures.value ∙ ap (λ (d : ColumnDef). string_bytes d.name) (sym c.index-columns-place.is) in
    let place = c.name_place.ensures ∙ (list ∙ ap (name_place 0 names) name) in
    rw c.in-Some.is (named_at names c.args.columns.now c.args.place x c.requires c.index-columns-place.is ∙ ap Some (sym place))
