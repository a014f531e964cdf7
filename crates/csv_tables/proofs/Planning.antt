-- What is planned of a write, and a table of which it is under way.
use Rattle.std.proofs.Common.{◌≡◌, ℕ, ◌<◌, ◌≤◌, Bool, true, false, ◌&&◌, nat_lt, List, [], ◌∷◌, ◌++◌, refl, length, map, String, Global, string_bytes, ap, sym, ◌∙◌, subst, arith}
use Rattle.std.specs.List.{list_any}
use Rattle.std.proofs.lemmas.Bool.Decides.{nat_tests}
use Rattle.csv.specs.Records.{Row}
use Rattle.fdw_api.specs.Prelude.{Change, rows_after}
use Rattle.csv_tables.specs.declared.layout.Layout.{Layout}
use Rattle.csv_tables.specs.declared.table.CsvTable.{CsvTable}
use Rattle.csv_tables.specs.declared.written.Plan.{Plan}
use Rattle.csv_tables.specs.Cells.{line_of}
use Rattle.csv_tables.specs.CsvRecords.{Record, csv_records, csv_text, has_field, heading, is_header}
use Rattle.csv_tables.specs.Shapes.{read_row, hides_value}
use Rattle.csv_tables.specs.Flat.{AreRows, header_in}
use Rattle.csv_tables.specs.Tables.{shape_is}
use Rattle.csv_tables.specs.Rewriting.{rows_in, records_with, image_by, held_text}
use Rattle.csv_tables.specs.Drafted.{IsPlan}
use Rattle.csv_tables.proofs.Applying.{rewrites}
use Rattle.csv_tables.proofs.Headers.{heading_is_header}

pub above_limit : (n : ℕ) → nat_lt 67108864 n ≡ true → 67108864 < n
above_limit n e = grind (arith, nat_tests)

pub below_limit : (n : ℕ) → nat_lt 67108864 n ≡ false → n ≤ 67108864
below_limit n e = grind (arith, nat_tests)

names_field : (names : List (String Global)) → 0 < length names → has_field (map string_bytes names) ≡ true
names_field [] lt = absurd (omega arith)
names_field (n ∷ names) lt = refl

-- a header that is read of an image is one
pub headed_by : (l : Layout) (bytes : List ℕ) (header : List Record) → 0 < length l.names.items → header ≡ heading l.header (map string_bytes l.names.items) (csv_records bytes)
    → is_header l.header header ≡ true
headed_by l bytes header some e = ap (is_header l.header) e ∙ heading_is_header l.header (map string_bytes l.names.items) bytes (names_field l.names.items some)

-- a plan whose image is not too large
pub plan_is : (t : CsvTable) (cs : List Change) (p : Plan) (all : List Record) → p.middle.from ≤ p.middle.to → p.middle.to ≤ t.rows.count → p.middle.rows.width ≡ t.rows.width
    → records_with t.rows p.middle ≡ all → map (read_row (shape_is t.layout)) all ≡ rows_after (line_of (string_bytes t.layout.null)) (rows_in t) cs
    → list_any (hides_value (string_bytes t.layout.null)) cs ≡ false → length all ≤ 1000000
    → image_by p.head.in_pieces p.head.bytes.items (held_text (records_with t.rows p.middle)) ≡ csv_text (header_in t.header ++ records_with t.rows p.middle)
    → nat_lt 67108864 (length (image_by p.head.in_pieces p.head.bytes.items (held_text (records_with t.rows p.middle)))) ≡ false
    → heading t.layout.header (map string_bytes t.layout.names.items) (csv_records (csv_text (header_in t.header ++ records_with t.rows p.middle)))
    ≡ heading t.layout.header (map string_bytes t.layout.names.items) (csv_records p.head.bytes.items)
    → header_in p.header ≡ heading t.layout.header (map string_bytes t.layout.names.items) (csv_records p.head.bytes.items) → IsPlan t cs p
plan_is t cs p all order within width is made clear few image small same heads =
    let rs = records_with t.rows p.middle in
    let names = map string_bytes t.layout.names.items in
    let n = ap length is in
    let fits : length rs ≤ 1000000 = omega arith in
    record {
      order = order;
      within = within;
      width = width;
      few = fits;
      headed = headed_by t.layout p.head.bytes.items (header_in p.header) t.named heads;
      rewrites = rewrites t cs (header_in p.header) rs _ (ap (map (read_row (shape_is t.layout))) is ∙ made) clear fits image (below_limit _ small)
          (ap (λ (b : List ℕ). heading t.layout.header names (csv_records b)) image ∙ same ∙ sym heads);
    }

-- a mark by the branch that told it
pub both_told : (p q s : Bool) → p ≡ true → s ≡ q → s ≡ (p && q)
both_told p q s e h = rw e h

pub none_told : (p q s : Bool) → p ≡ false → s ≡ false → s ≡ (p && q)
none_told p q s e h = rw e h

pub told_as : (count width : ℕ) (plain said : Bool) (fields : Row) → AreRows count width plain fields → said ≡ plain → AreRows count width said fields
told_as count width plain said fields h e = subst (λ (b : Bool). AreRows count width b fields) (sym e) h
