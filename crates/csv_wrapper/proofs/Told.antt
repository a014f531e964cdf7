-- What is answered, told by the types of a bound table.
use Rattle.std.proofs.Common.{◌≡◌, List, Option, Some, None, IfSome, map, option_map}
use Rattle.fdw_api.specs.Prelude.{RestrictionForm, BoxTable}
use Rattle.fdw_api.specs.declared.scan.Agree.{Agree}
use Rattle.csv_tables.specs.Scans.{answer_by}
use Rattle.csv_wrapper.specs.declared.places.CsvPlaces.{CsvPlaces}
use Rattle.csv_wrapper.specs.Places.{csv_form}

pub told : (o : Option CsvPlaces) (answers : List Agree) (fs : List RestrictionForm) → IfSome o (λ x. answers ≡ map (csv_form.answer x) fs)
    → IfSome (option_map csv_form.bound o) (λ (b : BoxTable). answers ≡ map (answer_by b.kinds) fs)
told None answers fs h = h
told (Some x) answers fs h = h
