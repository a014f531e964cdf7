use Rattle.std.proofs.Common.{◌≡◌, true, false, map, option_map, rules}
use Rattle.std.proofs.lemmas.Result.{IfOk-weaker}
use Rattle.med_value.specs.Datum.{datum}
use Rattle.fdw_api.specs.Scan.{spec_of}
use Rattle.csv_tables.specs.Tables.{cells_at, fields_at}
use Rattle.csv_tables.specs.Scans.{comes}
use Rattle.wrapper_parts.specs.Scans.{form_of, has_sought}
use Rattle.csv_wrapper.proofs.Placing.{within_count, lacks_row, fails_row, shows_row}
use Rattle.csv_wrapper.proofs.places.CsvPlacesPlacedTable.give.Goals as goal

pub has_sought-requires : goal.has_sought-requires
has_sought-requires c = within_count c.args.self.now.table c.args.at c.requires.within

pub comes_by-requires : goal.comes_by-requires
comes_by-requires c = within_count c.args.self.now.table c.args.at c.requires.within

pub shown_by-requires : goal.shown_by-requires
shown_by-requires c = within_count c.args.self.now.table c.args.at c.requires.within

pub returns-then-not-branch : goal.returns-then-not-branch
returns-then-not-branch c r is =
    let t = c.args.self.now.table in
    let lacks : has_sought (option_map form_of c.args.found) (map datum c.args.params.now) (cells_at t c.args.at) ≡ false = search rules in
    lacks_row t c.args.at (spec_of c.args.spec.now) (map datum c.args.params.now) _ r c.requires.within c.requires.found is lacks

pub returns-then-not-branch-2 : goal.returns-then-not-branch-2
returns-then-not-branch-2 c r is =
    let t = c.args.self.now.table in
    let spec = spec_of c.args.spec.now in
    let stays : comes spec.offered spec.answers (map datum c.args.params.now) (cells_at t c.args.at) (fields_at t c.args.at) ≡ false = search rules in
    fails_row t c.args.at spec (map datum c.args.params.now) r c.requires.within is stays

pub returns : goal.returns
returns c =
    let t = c.args.self.now.table in
    let spec = spec_of c.args.spec.now in
    let has : has_sought (option_map form_of c.args.found) (map datum c.args.params.now) (cells_at t c.args.at) ≡ true = search rules in
    let passes : comes spec.offered spec.answers (map datum c.args.params.now) (cells_at t c.args.at) (fields_at t c.args.at) ≡ true = search rules in
    IfOk-weaker c.shown_by.result _ _ (λ o e. shows_row c.args.self.now c.args.at spec (map datum c.args.params.now) _ o c.requires.within c.requires.found has passes e) c.shown_by.ensures
