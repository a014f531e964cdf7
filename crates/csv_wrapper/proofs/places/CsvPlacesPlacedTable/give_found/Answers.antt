use Rattle.std.proofs.Common.{◌≡◌, ◌∙◌, true, false, map, ap, sym, rules}
use Rattle.med_value.specs.Datum.{datum, Tuple}
use Rattle.fdw_api.specs.Scan.{spec_of, shown_cells}
use Rattle.csv_tables.specs.Tables.{cells_at, fields_at}
use Rattle.csv_tables.specs.Scans.{comes}
use Rattle.wrapper_parts.specs.Scans.{form_of}
use Rattle.csv_wrapper.proofs.Placing.{within_count, fails_row, takes_row, cells_there, found_there}
use Rattle.csv_wrapper.proofs.places.CsvPlacesPlacedTable.give_found.Goals as goal

pub found_comes-requires-clause-within : goal.found_comes-requires-clause-within
found_comes-requires-clause-within c = within_count c.args.self.now.table c.args.at c.requires.within

pub found_comes-requires-clause-has : goal.found_comes-requires-clause-has
found_comes-requires-clause-has c =
    found_there c.args.self.now c.args.at (form_of c.args.found) (map datum c.args.params.now) c.requires.within c.requires.has

pub show-requires : goal.show-requires
show-requires c = within_count c.args.self.now.table c.args.at c.requires.within

pub returns-then-not-branch : goal.returns-then-not-branch
returns-then-not-branch c r is =
    let t = c.args.self.now.table in
    let spec = spec_of c.args.spec.now in
    let stays : comes spec.offered spec.answers (map datum c.args.params.now) (cells_at t c.args.at) (fields_at t c.args.at) ≡ false = search rules in
    fails_row t c.args.at spec (map datum c.args.params.now) r c.requires.within is stays

pub returns : goal.returns
returns c r is =
    let t = c.args.self.now.table in
    let spec = spec_of c.args.spec.now in
    let params = map datum c.args.params.now in
    let passes : comes spec.offered spec.answers params (cells_at t c.args.at) (fields_at t c.args.at) ≡ true = search rules in (
      takes_row t c.args.at spec params _ r c.requires.within (sym c.requires.found) is
          (found_there c.args.self.now c.args.at (form_of c.args.found) params c.requires.within c.requires.has) passes,
      c.in_ok-shown.ensures ∙ ap (λ (cells : Tuple). shown_cells spec cells) (cells_there t c.args.at r c.requires.within is),
    )
