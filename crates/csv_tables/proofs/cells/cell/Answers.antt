use Rattle.std.proofs.Common.{◌≡◌, ◌<◌, ◌∙◌, ap, sym, true, false, ℕ, List, Some, length, arith, rules, nat_eq, w64, option_map}
use Rattle.std.specs.List.{list_any}
use Rattle.std.specs.Str.{bytes_eq}
use Rattle.std.proofs.lemmas.Bool.Decides.{nat_tests}
use Rattle.std.proofs.lemmas.Int.{to_z-of_z}
use mir.Val.{SFits}
use Rattle.med_value.specs.Datum.{Whole, Chars, Logic}
use Rattle.csv_tables.specs.Cells.{integer_of, without_spaces, truth_of}
use Rattle.csv_tables.proofs.Fields.{cell_null, text_cell, int_null, int_cell, bool_null, bool_cell}
use Rattle.csv_tables.proofs.cells.cell.Goals as goal

pub returns-then-eq : goal.returns-then-eq
returns-then-eq c =
    let e : bytes_eq c.known_text-text.result.now c.args.null.now ≡ true = search rules in
    sym (cell_null c.args.null.now c.args.kind c.args.field.now c.requires (rw c.known_text-text.ensures at e))

pub returns-in_ok-to_string-in-Text : goal.returns-in_ok-to_string-in-Text
returns-in_ok-to_string-in-Text c =
    let e : bytes_eq c.known_text-text.result.now c.args.null.now ≡ false = search rules in
    let z : list_any (λ y. nat_eq y 0) c.args.field.now ≡ false = search rules in
    ap (λ (t : List ℕ). Some (Chars t)) (c.in_ok-to_string-in-Text.ensures.ok ∙ c.known_text-text.ensures) ∙ sym (text_cell c.args.null.now c.args.kind c.args.field.now false c.in-Text.is c.requires (rw c.known_text-text.ensures at e) z)

pub returns-in-Int : goal.returns-in-Int
returns-in-Int c =
    let e : bytes_eq c.known_text-text.result.now c.args.null.now ≡ false = search rules in
    let z : length c.args.field.now ≡ 0 = grind (arith, nat_tests) in
    sym (int_null c.args.null.now c.args.kind c.args.field.now c.in-Int.is c.requires (rw c.known_text-text.ensures at e) z)

pub returns-in-Some : goal.returns-in-Some
returns-in-Some c =
    let e : bytes_eq c.known_text-text.result.now c.args.null.now ≡ false = search rules in
    let z : 0 < length c.args.field.now = grind (arith, nat_tests) in
    let f : SFits w64 c.in-Some.number = search rules in
    let i : integer_of (without_spaces c.args.field.now) ≡ Some c.in-Some.number = ap integer_of (sym c.without_spaces.ensures) ∙ sym c.integer.ensures ∙ c.in-Some.is in
    simp to_z-of_z (sym (int_cell c.args.null.now c.args.kind c.args.field.now c.in-Int-2.is c.requires (rw c.known_text-text.ensures at e) z ∙ ap (option_map Whole) i))

pub returns-in-Bool : goal.returns-in-Bool
returns-in-Bool c =
    let e : bytes_eq c.known_text-text.result.now c.args.null.now ≡ false = search rules in
    let z : length c.args.field.now ≡ 0 = grind (arith, nat_tests) in
    sym (bool_null c.args.null.now c.args.kind c.args.field.now c.in-Bool.is c.requires (rw c.known_text-text.ensures at e) z)

pub returns-in-Some-truth : goal.returns-in-Some-truth
returns-in-Some-truth c =
    let e : bytes_eq c.known_text-text.result.now c.args.null.now ≡ false = search rules in
    let z : 0 < length c.args.field.now = grind (arith, nat_tests) in
    let i : truth_of c.args.field.now ≡ Some c.in-Some-truth.truth = sym c.truth.ensures ∙ c.in-Some-truth.is in
    sym (bool_cell c.args.null.now c.args.kind c.args.field.now c.in-Bool-2.is c.requires (rw c.known_text-text.ensures at e) z ∙ ap (option_map Logic) i)
