use Rattle.std.proofs.Common.{◌≡◌, ◌<◌, ◌∙◌, ap, sym, true, false, is_some, length, arith, rules, nat_eq}
use Rattle.std.specs.List.{list_any}
use Rattle.std.specs.Str.{bytes_eq}
use Rattle.std.proofs.lemmas.Bool.Decides.{nat_tests}
use Rattle.med_value.specs.Datum.{Whole, Chars, Logic}
use Rattle.csv_tables.specs.Cells.{integer_of, without_spaces, truth_of}
use Rattle.csv_tables.proofs.Fields.{cell_null, text_cell, int_null, int_cell, bool_null, bool_cell, some_mapped, some_unless}
use Rattle.csv_tables.proofs.cells.is_cell.Goals as goal

pub returns-then-eq : goal.returns-then-eq
returns-then-eq c =
    let e : bytes_eq c.known_text-text.result.now c.args.null.now ≡ true = search rules in
    sym (ap is_some (cell_null c.args.null.now c.args.kind c.args.field.now c.requires (rw c.known_text-text.ensures at e)))

pub returns-in-Text : goal.returns-in-Text
returns-in-Text c =
    let e : bytes_eq c.known_text-text.result.now c.args.null.now ≡ false = search rules in
    let z : list_any (λ y. nat_eq y 0) c.args.field.now ≡ c.contains.result = search rules in
    sym (ap is_some (text_cell c.args.null.now c.args.kind c.args.field.now c.contains.result c.in-Text.is c.requires (rw c.known_text-text.ensures at e) z) ∙ some_unless c.contains.result (Chars c.args.field.now))

pub returns-then-is_empty : goal.returns-then-is_empty
returns-then-is_empty c =
    let e : bytes_eq c.known_text-text.result.now c.args.null.now ≡ false = search rules in
    let z : length c.args.field.now ≡ 0 = grind (arith, nat_tests) in
    c.if-is_empty.true ∙ sym (ap is_some (int_null c.args.null.now c.args.kind c.args.field.now c.in-Int.is c.requires (rw c.known_text-text.ensures at e) z))

pub returns-else-is_empty : goal.returns-else-is_empty
returns-else-is_empty c =
    let e : bytes_eq c.known_text-text.result.now c.args.null.now ≡ false = search rules in
    let z : 0 < length c.args.field.now = grind (arith, nat_tests) in
    c.is_integer.ensures
    ∙ sym (ap is_some (int_cell c.args.null.now c.args.kind c.args.field.now c.in-Int.is c.requires (rw c.known_text-text.ensures at e) z) ∙ some_mapped Whole (integer_of (without_spaces c.args.field.now)))

pub returns-then-is_empty-2 : goal.returns-then-is_empty-2
returns-then-is_empty-2 c =
    let e : bytes_eq c.known_text-text.result.now c.args.null.now ≡ false = search rules in
    let z : length c.args.field.now ≡ 0 = grind (arith, nat_tests) in
    c.if-is_empty-2.true ∙ sym (ap is_some (bool_null c.args.null.now c.args.kind c.args.field.now c.in-Bool.is c.requires (rw c.known_text-text.ensures at e) z))

pub returns-else-is_empty-2 : goal.returns-else-is_empty-2
returns-else-is_empty-2 c =
    let e : bytes_eq c.known_text-text.result.now c.args.null.now ≡ false = search rules in
    let z : 0 < length c.args.field.now = grind (arith, nat_tests) in
    c.is_some.ensures ∙ ap is_some c.truth.ensures
    ∙ sym (ap is_some (bool_cell c.args.null.now c.args.kind c.args.field.now c.in-Bool.is c.requires (rw c.known_text-text.ensures at e) z) ∙ some_mapped Logic (truth_of c.args.field.now))
