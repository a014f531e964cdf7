-- INSERT over the tables of a catalogue.
use Rattle.std.proofs.Common.{◌≡◌, ℕ, List, Option, refl}
use Rattle.med_value.specs.Column.{Column}
use Rattle.med_syntax.specs.Tree.{Name}
use Rattle.tri_expr.specs.Tree.{Tree}
use Rattle.med_write.specs.Form.{insert_form, values_form}
use Rattle.bind_write.specs.Meaning.{places_meant}
use Rattle.bind_write.specs.Typing.{rows_fit_causes}

pub fits_same : (columns seen : List Column) (names : Option (List Name)) (rows ts : List (List Tree)) → seen ≡ columns → ts ≡ rows → rows_fit_causes seen names ts ≡ rows_fit_causes columns names rows
fits_same columns seen names rows ts c r = rw (c, r) refl

pub insert_formed : (columns seen : List Column) (names : Option (List Name)) (places : List (Option ℕ)) (rows ts : List (List Tree)) → places ≡ places_meant names seen → seen ≡ columns → ts ≡ rows
    → insert_form places (values_form ts) ≡ insert_form (places_meant names columns) (values_form rows)
insert_formed columns seen names places rows ts p c r = rw (p, c, r) refl
