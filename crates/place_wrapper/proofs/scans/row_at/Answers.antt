use Rattle.std.proofs.Common.{◌≡◌, Some, List, map, sym, subst, rules}
use Rattle.med_value.specs.Datum.{datum}
use Rattle.med_value.specs.declared.value.Value.{Value}
use Rattle.fdw_api.specs.Scan.{spec_of}
use Rattle.wrapper_parts.specs.Scans.{SoughtForm, form_of}
use Rattle.place_wrapper.specs.Forms.{HasAt}
use Rattle.place_wrapper.proofs.Rows.{has_at}
use Rattle.place_wrapper.proofs.scans.row_at.Goals as goal

pub give_found-requires-clause-has : goal.give_found-requires-clause-has
give_found-requires-clause-has g c =
    let F = g.T.PlacedTable.form in
    let t = c.args.table.now in
    let spec = spec_of c.args.scan.now.spec in
    let s : SoughtForm = form_of c.in-Some-Some.found in
    let x = c.in-Some-Some.index in
    let ei : c.args.scan.now.index ≡ Some x = search rules in
    let es : form_of x.found ≡ s = search rules in
    let has : HasAt F t s (map datum c.args.scan.now.params.items) c.args.at =
    has_at F t spec (map datum c.args.scan.now.params.items) c.args.scan.now.index x s c.args.at ei es c.requires.stands in
    subst (λ (l : List Value). HasAt F t s (map datum l) c.args.at) (sym c.deref.ensures.value) has
