use Rattle.std.proofs.Common.{◌≡◌, ◌≤◌, length, map, option_map, sym, subst, ◌∙◌}
use Rattle.std.proofs.lemmas.List.{length-map}
use Rattle.med_value.specs.Column.{column_of}
use Rattle.med_syntax.specs.WriteView.{names_tree}
use Rattle.bind_write.specs.Meaning.{places_meant}
use Rattle.bind_write.proofs.PartCells.{places_next, places_count, places_done}
use Rattle.bind_write.proofs.places.places_for.Goals as goal

pub loop-place-preserved : goal.loop-place-preserved
loop-place-preserved c =
    let all = places_meant (option_map names_tree c.args.names.now) (map column_of c.args.columns.now) in
    rw c.in_ok-push.ensures.items (places_next c.loop-place.out.items all c.loop-place.place c.place_of.result c.loop-place.invariant c.place_of.ensures)

pub returns : goal.returns
returns c =
    let names = option_map names_tree c.args.names.now in
    let columns = map column_of c.args.columns.now in
    let all = places_meant names columns in
    let many : length all ≡ length c.args.columns.now = places_count names columns ∙ length-map c.args.columns.now column_of in
    places_done c.loop-place.out.items all c.loop-place.place (subst (λ n. n ≤ c.loop-place.place) (sym many) c.loop-place-test.false) c.loop-place.invariant
