use Rattle.std.proofs.Common.{◌≡◌, ◌<◌, ◌≤◌, ◌∙◌, sym, ap, refl, arith, List, ℕ, Option, Some, None, option_map, unwrap_or, length, drop, ◌*◌}
use Rattle.std.proofs.lemmas.Option.{slice_get_read}
use Rattle.std.specs.String.{string_bytes}
use Rattle.med_value.specs.Datum.{Datum, NoValue, datum}
use Rattle.csv_tables.specs.Cells.{cell_of}
use Rattle.csv_tables.specs.Tables.{fields_at}
use Rattle.csv_tables.proofs.Flat.{texts_take, texts_drop, text_of_slice}
use Rattle.csv_tables.proofs.RowCells.{cell_none, cell_missing, cell_there, none_past}
use Rattle.csv_tables.proofs.table.CsvTable.value.Goals as goal
use Rattle.csv_tables.specs.Held.{held_of}

pub returns-then-column-len : goal.returns-then-column-len
returns-then-column-len c =
    let s = c.args.self.now in
    let le : length s.layout.kinds.items ≤ c.args.column = omega arith in
    sym (cell_none (string_bytes s.layout.null) s.layout.kinds.items (fields_at s c.args.at) c.args.column (none_past s.layout.kinds.items c.args.column le))

pub returns-in_default : goal.returns-in_default
returns-in_default c =
    let s = c.args.self.now in
    sym (cell_missing (string_bytes s.layout.null) s.layout.kinds.items (fields_at s c.args.at) c.args.column (sym c.in_default.ensures))

pub returns-in-Some-2 : goal.returns-in-Some-2
returns-in-Some-2 c =
    let s = c.args.self.now in
    let lt : c.args.column < length s.layout.kinds.items = omega arith in
    let k = slice_get_read s.layout.kinds.items (length s.layout.kinds.items) c.args.column c.index-kind.result.now refl lt c.index-kind.ensures in
    let v : cell_of (string_bytes s.layout.null) c.index-kind.result.now c.in-Some.field.now ≡ Some (datum c.in-Some-2.value) =
    ap (λ (n : List ℕ). cell_of n c.index-kind.result.now c.in-Some.field.now) (sym c.deref.ensures) ∙ sym c.in_ok-value.ensures ∙ ap (option_map datum) c.in-Some-2.is in
    sym (cell_there (string_bytes s.layout.null) s.layout.kinds.items (fields_at s c.args.at) c.args.column c.index-kind.result.now c.in-Some.field.now k (sym c.in-Some.ensures)
    ∙ ap (λ (o : Option Datum). unwrap_or o NoValue) v)

pub returns-in-None : goal.returns-in-None
returns-in-None c =
    let s = c.args.self.now in
    let lt : c.args.column < length s.layout.kinds.items = omega arith in
    let k = slice_get_read s.layout.kinds.items (length s.layout.kinds.items) c.args.column c.index-kind.result.now refl lt c.index-kind.ensures in
    let v : cell_of (string_bytes s.layout.null) c.index-kind.result.now c.in-Some.field.now ≡ None =
    ap (λ (n : List ℕ). cell_of n c.index-kind.result.now c.in-Some.field.now) (sym c.deref.ensures) ∙ sym c.in_ok-value.ensures ∙ ap (option_map datum) c.in-None.is in
    sym (cell_there (string_bytes s.layout.null) s.layout.kinds.items (fields_at s c.args.at) c.args.column c.index-kind.result.now c.in-Some.field.now k (sym c.in-Some.ensures)
    ∙ ap (λ (o : Option Datum). unwrap_or o NoValue) v)

pub cell-requires : goal.cell-requires
cell-requires c =
    let s = c.args.self.now in
    let r = s.rows in
    text_of_slice (fields_at s c.args.at) c.args.column c.in-Some.field.now
    (texts_take r.width (drop (c.args.at * r.width) (held_of r.fields)) (texts_drop (c.args.at * r.width) (held_of r.fields) r.texts)) (sym c.in-Some.ensures)
