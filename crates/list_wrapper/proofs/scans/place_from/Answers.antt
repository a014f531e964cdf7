use Rattle.std.proofs.Common.{◌≡◌, List, Some, ap, sym, subst, ◌∙◌, drop, map, rules}
use Rattle.med_value.specs.Datum.{Datum, datum, cell}
use Rattle.wrapper_parts.specs.Places.{first_place, Follows}
use Rattle.wrapper_parts.specs.Scans.{column_cells}
use Rattle.list_wrapper.specs.Scans.{numbered, spec_is, params_of, index_of}
use Rattle.list_wrapper.specs.declared.scans.Walk.TheVariants.{ByIndex}
use Rattle.list_wrapper.proofs.Rows.{moved}
use Rattle.list_wrapper.proofs.scans.place_from.Goals as goal

pub returns-in-ByIndex : goal.returns-in-ByIndex
returns-in-ByIndex c =
    let rows = numbered 0 c.args._rows.now.items in
    let scan = c.args.scan.now in
    let spec = spec_is scan in
    let params = params_of scan in
    let x = c.in-ByIndex.index in
    let s = x.found in
    let ew : scan.walk ≡ ByIndex x = search rules in
    let ei : index_of scan.walk ≡ Some x = ap index_of ew in
    let v : datum c.value_at-value.result.now ≡ cell params s.parameter = c.value_at-value.ensures ∙ ap (λ l. cell (map datum l) s.parameter) c.deref.ensures.value in
    let cells : List Datum = column_cells s.column rows in
    let stands : Follows (cell params s.parameter) cells c.args.at = c.requires.stands x ei in
    let serves = c.requires.serves x ei in
    let to = c.next_place.ensures cells serves.1 (subst (λ (d : Datum). Follows d cells c.args.at) (sym v) stands) in
    moved spec params rows (index_of scan.walk) x c.args.at c.next_place.result ei serves.0 (to ∙ ap (λ (d : Datum). first_place c.args.at d (drop c.args.at cells)) v)
