-- The records of a table with others in the place of a range, as a table holds them.
use Rattle.std.proofs.Common.{◌≡◌, ℕ, ◌+◌, ◌*◌, ◌-◌, ◌≤◌, Bool, true, ◌&&◌, List, [], ◌++◌, length, take, drop, ap, sym, ◌∙◌, subst, arith}
use Rattle.std.specs.List.{list_all, flat_map}
use Rattle.std.proofs.lemmas.List.{length-append, length-drop, length-take-le}
use native.Mathlib.Nat.{mul-le-mul_right}
use Rattle.csv.specs.Records.{Row, fields_of, partial_of}
use Rattle.fdw_api.specs.Prelude.{Change}
use Rattle.csv_tables.specs.declared.table.Rows.{Rows}
use Rattle.csv_tables.specs.declared.table.CsvTable.{CsvTable}
use Rattle.csv_tables.specs.declared.middle.Middle.{Middle}
use Rattle.csv_tables.specs.CsvRecords.{Record, is_whole}
use Rattle.csv_tables.specs.Held.{ended, held_of, is_plain}
use Rattle.csv_tables.specs.Flat.{AreRows, cut_into}
use Rattle.csv_tables.specs.Tables.{records_of}
use Rattle.csv_tables.specs.Rewriting.{Rewrites, records_with, held_text, image_by}
use Rattle.csv_tables.proofs.FieldSteps.{both}
use Rattle.csv_tables.proofs.Flat.{cut_length}
use Rattle.csv_tables.proofs.Heads.{plain_with}
use Rattle.csv_tables.proofs.Holding.{ended_both, take_lines, drop_lines, whole_both, whole_take, whole_drop, rows_whole, holds_rows}
use Rattle.csv_tables.proofs.Shown.{plain_told}

-- a table's records as a draft has them
pub were_rows : (r : Rows) (fields : Row) → fields ≡ r.fields → AreRows r.count r.width r.plain fields
were_rows r fields e = subst (λ (f : Row). AreRows r.count r.width r.plain f) (sym e)
    record { whole = r.whole; small = r.small; closed = r.closed; texts = r.texts; lines = r.lines; shown = r.shown }

with_lines : (r : Rows) (m : Middle) → take (m.from * r.width) (fields_of r.fields) ++ fields_of m.rows.fields ++ drop (m.to * r.width) (fields_of r.fields)
    ≡ flat_map ended (records_with r m)
with_lines r m =
    let rs = records_of r in
    let a = take m.from rs in
    let ms = records_of m.rows in
    let z = drop m.to rs in
    let front : take (m.from * r.width) (fields_of r.fields) ≡ flat_map ended a = ap (take (m.from * r.width)) r.lines ∙ take_lines r.width m.from rs (rows_whole r) in
    let back : drop (m.to * r.width) (fields_of r.fields) ≡ flat_map ended z = ap (drop (m.to * r.width)) r.lines ∙ drop_lines r.width m.to rs (rows_whole r) in
    ap (λ (l : Record). l ++ fields_of m.rows.fields ++ drop (m.to * r.width) (fields_of r.fields)) front
    ∙ ap (λ (l : Record). flat_map ended a ++ l ++ drop (m.to * r.width) (fields_of r.fields)) m.rows.lines
    ∙ ap (λ (l : Record). flat_map ended a ++ flat_map ended ms ++ l) back
    ∙ ap (λ (l : Record). l ++ flat_map ended z) (sym (ended_both a ms)) ∙ sym (ended_both (a ++ ms) z)

with_whole : (r : Rows) (m : Middle) → m.rows.width ≡ r.width → list_all (is_whole r.width) (records_with r m) ≡ true
with_whole r m e =
    let rs = records_of r in
    let new = subst (λ (w : ℕ). list_all (is_whole w) (records_of m.rows) ≡ true) e (rows_whole m.rows) in
    whole_both r.width (take m.from rs ++ records_of m.rows) (drop m.to rs)
    (whole_both r.width (take m.from rs) (records_of m.rows) (whole_take r.width m.from rs (rows_whole r)) new) (whole_drop r.width m.to rs (rows_whole r))

pub with_count : (r : Rows) (m : Middle) → m.from ≤ r.count → length (records_with r m) ≡ m.from + (r.count - m.to) + m.rows.count
with_count r m le =
    let rs = records_of r in
    let n = cut_length r.count r.width (held_of r.fields) in
    let k = cut_length m.rows.count m.rows.width (held_of m.rows.fields) in
    let t = length-take-le m.from rs (omega arith) in
    let d = length-drop m.to rs in
    let a = length-append (take m.from rs ++ records_of m.rows) (drop m.to rs) in
    let b = length-append (take m.from rs) (records_of m.rows) in
    omega arith

-- the records of a draft once it is kept
pub record AreWith (r : Rows) (m : Middle) (count : ℕ) (fields : Row) : Type 0 where
  pub are : AreRows count r.width (r.plain && m.rows.plain) fields
  pub records_are : cut_into count r.width (held_of fields) ≡ records_with r m

pub are_with : (r : Rows) (m : Middle) (count : ℕ) (fields : Row) → m.rows.width ≡ r.width → m.from ≤ r.count → count ≡ m.from + (r.count - m.to) + m.rows.count
    → length (records_with r m) ≤ 1000000 → partial_of fields ≡ []
    → fields_of fields ≡ take (m.from * r.width) (fields_of r.fields) ++ fields_of m.rows.fields ++ drop (m.to * r.width) (fields_of r.fields) → AreWith r m count fields
are_with r m count fields ew le en few none ef =
    let all = records_with r m in
    let n = with_count r m le in
    let size : length all ≡ count = omega arith in
    let held = holds_rows r.width count all fields size (with_whole r m ew) (ef ∙ with_lines r m) in
    record {
      are = record {
        whole = held.full;
        small = omega arith;
        closed = none;
        texts = held.texts;
        lines = held.lines;
        shown = plain_told (r.plain && m.rows.plain) (cut_into count r.width (held_of fields))
            (λ e. ap (list_all is_plain) held.rows_are ∙ (let b = both r.plain m.rows.plain e in plain_with r m b.0 b.1));
      };
      records_are = held.rows_are;
    }

-- a range of records is one of fields
pub range_order : (r : Rows) (from to : ℕ) → from ≤ to → from * r.width ≤ to * r.width
range_order r from to le = mul-le-mul_right r.width le

-- what a write leaves, of records and of an image that are the same
pub rewrites_as : (t : CsvTable) (cs : List Change) (header rs xs : List Record) (image text : List ℕ) → Rewrites t cs header rs image → xs ≡ rs → text ≡ image → Rewrites t cs header xs text
rewrites_as t cs header rs xs image text h e f = rw (e, f) h

pub image_as : (in_pieces : Bool) (head : List ℕ) (fields : Record) (rs xs : List Record) → fields ≡ flat_map ended xs → xs ≡ rs
    → image_by in_pieces head (flat_map (λ f. f) fields) ≡ image_by in_pieces head (held_text rs)
image_as in_pieces head fields rs xs e f = ap (λ (l : Record). image_by in_pieces head (flat_map (λ f. f) l)) (e ∙ ap (flat_map ended) f)

pub are_as : (count width : ℕ) (plain : Bool) (fields others : Row) → AreRows count width plain fields → others ≡ fields → AreRows count width plain others
are_as count width plain fields others h e = subst (λ (f : Row). AreRows count width plain f) (sym e) h
