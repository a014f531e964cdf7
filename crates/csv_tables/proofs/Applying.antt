-- What changes make of a table, and the causes for which they are refused.
use Rattle.std.proofs.Common.{◌≡◌, ℕ, suc, ◌<◌, ◌≤◌, Bool, true, false, not, nat_le, nat_lt, List, [], ◌∷◌, ◌++◌, length, map, flat_map, replicate, Option, Contains, refl, ap, sym, ◌∙◌, subst, arith}
use Rattle.std.specs.List.{list_any}
use Rattle.std.specs.String.{string_bytes}
use Rattle.std.specs.BTreeMap.{BTreeMap}
use Rattle.std.proofs.lemmas.Bool.Decides.{nat_tests}
use Rattle.std.proofs.lemmas.List.{map-append}
use Rattle.std.proofs.lemmas.List.Elements.{Contains-append_left}
use Rattle.csv.specs.Records.{fields_of}
use Rattle.csv.specs.declared.record.ByteRecord.{ByteRecord}
use Rattle.med_value.specs.declared.cause.Cause.{Cause}
use Rattle.med_value.specs.declared.cause.Cause.TheVariants.{NotInState, TooLarge}
use Rattle.fdw_api.specs.Prelude.{TableRow, Held, held, Change, row_after, inserted, rows_after}
use Rattle.fdw_api.specs.declared.interface.Fault.{Fault}
use Rattle.fdw_api.specs.declared.interface.Fault.TheVariants.{NoMemory, Source, Refused}
use Rattle.csv_tables.specs.declared.table.CsvTable.{CsvTable}
use Rattle.wrapper_parts.specs.declared.fates.Fate.{Fate}
use Rattle.wrapper_parts.specs.declared.fates.Fate.TheVariants.{Keep}
use Rattle.csv_tables.specs.Cells.{line_of}
use Rattle.csv_tables.specs.CsvRecords.{Record, csv_records, csv_text, heading}
use Rattle.csv_tables.specs.Shapes.{Shape, read_row, unless, hides_value, causes_behind, rows_text}
use Rattle.csv_tables.specs.Content.{TellsCause}
use Rattle.csv_tables.specs.Flat.{header_in}
use Rattle.csv_tables.specs.Tables.{shape_is, records_of, numbered}
use Rattle.csv_tables.specs.Rewriting.{left_by, fates_of, rows_left, Rewrites, rows_in}
use Rattle.csv_tables.proofs.Flat.{cut_length}
use Rattle.csv_tables.proofs.Drafts.{told, under}
use Rattle.csv_tables.proofs.Gathering.{left_kept}
use Rattle.csv_tables.specs.Held.{held_of}

pub origins : (shape : Shape) (rs : List Record) → map (λ r. r.origin) (map (read_row shape) rs) ≡ rs
origins shape [] = refl
origins shape (r ∷ rs) = ap (λ (l : List Record). r ∷ l) (origins shape rs)

length_rows : (shape : Shape) (rs : List Record) → length (map (read_row shape) rs) ≡ length rs
length_rows shape [] = refl
length_rows shape (r ∷ rs) = ap suc (length_rows shape rs)

pub length_lines : (fs : List ByteRecord) → length (map fields_of fs) ≡ length fs
length_lines [] = refl
length_lines (f ∷ fs) = ap suc (length_lines fs)

-- the records that are left, and the new ones, are the rows after the changes
made : (shape : Shape) (rs fresh : List Record) (count : ℕ) (fates : List (Fate ByteRecord)) (changes : List Change) → length rs ≡ count
    → map (read_row shape) (left_by fates rs) ≡ rows_left shape rs (replicate count Keep) changes
    → map (read_row shape) fresh ≡ flat_map (inserted (line_of shape.null)) changes
    → map (read_row shape) (left_by fates rs ++ fresh) ≡ rows_after (line_of shape.null) (numbered shape 0 rs) changes
made shape rs fresh count fates changes size same new =
    map-append (read_row shape) (left_by fates rs) fresh
    ∙ ap (λ (l : List Held). l ++ map (read_row shape) fresh) (same ∙ ap (λ (n : ℕ). rows_left shape rs (replicate n Keep) changes) (sym size) ∙ left_kept shape 0 rs changes)
    ∙ ap (λ (l : List Held). flat_map (λ r. row_after (line_of shape.null) r.id changes (held r ∷ [])) (numbered shape 0 rs) ++ l) new

pub rows_made : (t : CsvTable) (changed : BTreeMap ℕ (Option ByteRecord)) (fresh : List ByteRecord) (changes : List Change)
    → ((count : ℕ) (rows : List Record) → map (read_row (shape_is t.layout)) (left_by (fates_of changed count) rows) ≡ rows_left (shape_is t.layout) rows (replicate count Keep) changes)
    → map (read_row (shape_is t.layout)) (map fields_of fresh) ≡ flat_map (inserted (line_of (string_bytes t.layout.null))) changes
    → map (read_row (shape_is t.layout)) (left_by (fates_of changed t.rows.count) (records_of t.rows) ++ map fields_of fresh) ≡ rows_after (line_of (string_bytes t.layout.null)) (rows_in t) changes
rows_made t changed fresh changes same new =
    made (shape_is t.layout) (records_of t.rows) (map fields_of fresh) t.rows.count (fates_of changed t.rows.count) changes (cut_length t.rows.count t.rows.width (held_of t.rows.fields)) (same t.rows.count (records_of t.rows)) new

same_size : (shape : Shape) (rs : List Record) (all : List Held) → map (read_row shape) rs ≡ all → length all ≡ length rs
same_size shape rs all e = sym (ap length e) ∙ length_rows shape rs

same_text : (shape : Shape) (header rs : List Record) (all : List Held) → map (read_row shape) rs ≡ all → rows_text header all ≡ csv_text (header ++ rs)
same_text shape header rs all e = ap (λ (l : List Record). csv_text (header ++ l)) (sym (ap (map (λ (r : Held). r.origin)) e) ∙ origins shape rs)

is_below : (m n : ℕ) → m ≤ n → nat_le m n ≡ true
is_below m n le = grind (arith, nat_tests)

pub is_above : (m n : ℕ) → n < m → nat_le m n ≡ false
is_above m n lt = grind (arith, nat_tests)

clear : (a b c : Bool) → a ≡ false → b ≡ true → c ≡ true → unless (not a) NotInState (unless b TooLarge (unless c TooLarge [])) ≡ []
clear a b c ea eb ec = rw (ea, eb, ec) refl

-- for changes that fit no cause stands
pub no_write_cause : (shape : Shape) (header rs : List Record) (old : List TableRow) (changes : List Change) → map (read_row shape) rs ≡ rows_after (line_of shape.null) old changes
    → list_any (hides_value shape.null) changes ≡ false → length rs ≤ 1000000 → length (csv_text (header ++ rs)) ≤ 67108864 → causes_behind shape header old changes ≡ []
no_write_cause shape header rs old changes e hides few small =
    clear (list_any (hides_value shape.null) changes) _ _ hides
    (ap (λ (n : ℕ). nat_le n 1000000) (same_size shape rs _ e) ∙ is_below (length rs) 1000000 few)
    (ap (λ (b : List ℕ). nat_le (length b) 67108864) (same_text shape header rs _ e) ∙ is_below (length (csv_text (header ++ rs))) 67108864 small)

-- a value that would be read as NULL
pub tells_hidden : (fault : Fault) (test : Bool) (more : List Cause) → TellsCause fault (unless test NotInState []) → TellsCause fault (unless test NotInState more)
tells_hidden NoMemory test more h = tt
tells_hidden Source test more h = absurd h
tells_hidden (Refused c) true more (k, lt, e) = absurd (omega arith)
tells_hidden (Refused c) false more h = Contains-append_left (NotInState ∷ []) more c h

-- too many bytes, and too many rows
pub tells_long : (shape : Shape) (header rs : List Record) (old : List TableRow) (changes : List Change) → map (read_row shape) rs ≡ rows_after (line_of shape.null) old changes
    → 67108864 < length (csv_text (header ++ rs)) → Contains (causes_behind shape header old changes) TooLarge
tells_long shape header rs old changes e lt =
    under (not (list_any (hides_value shape.null) changes)) NotInState TooLarge _
    (under (nat_le (length (rows_after (line_of shape.null) old changes)) 1000000) TooLarge TooLarge _
    (told _ TooLarge [] (ap (λ (b : List ℕ). nat_le (length b) 67108864) (same_text shape header rs _ e) ∙ is_above (length (csv_text (header ++ rs))) 67108864 lt)))

pub tells_rows : (fault : Fault) (a b c : Bool) (more : List Cause) → TellsCause fault (unless b TooLarge []) → b ≡ c
    → TellsCause fault (unless a NotInState (unless c TooLarge more))
tells_rows NoMemory a b c more h e = tt
tells_rows Source a b c more h e = absurd h
tells_rows (Refused k) a true c more (i, lt, is) e = absurd (omega arith)
tells_rows (Refused k) a false c more h e =
    under a NotInState k _ (subst (λ (t : Bool). Contains (unless t TooLarge more) k) e (Contains-append_left (TooLarge ∷ []) more k h))

pub tells_few : (shape : Shape) (header rs : List Record) (old : List TableRow) (changes : List Change) (fault : Fault)
    → map (read_row shape) rs ≡ rows_after (line_of shape.null) old changes → TellsCause fault (unless (nat_le (length rs) 1000000) TooLarge [])
    → TellsCause fault (causes_behind shape header old changes)
tells_few shape header rs old changes fault e told =
    tells_rows fault (not (list_any (hides_value shape.null) changes)) (nat_le (length rs) 1000000) _ _ told (ap (λ (n : ℕ). nat_le n 1000000) (sym (same_size shape rs _ e)))

-- what a kept write leaves
pub rewrites : (t : CsvTable) (changes : List Change) (header rs : List Record) (image : List ℕ)
    → map (read_row (shape_is t.layout)) rs ≡ rows_after (line_of (string_bytes t.layout.null)) (rows_in t) changes
    → list_any (hides_value (string_bytes t.layout.null)) changes ≡ false → length rs ≤ 1000000
    → image ≡ csv_text (header_in t.header ++ rs) → length image ≤ 67108864
    → heading t.layout.header (map string_bytes t.layout.names.items) (csv_records image) ≡ header
    → Rewrites t changes header rs image
rewrites t changes header rs image e hides few is small heads =
    let s = ap length is in
    let fits : length (csv_text (header_in t.header ++ rs)) ≤ 67108864 = omega arith in
    record {
      rows = e;
      no_cause = no_write_cause (shape_is t.layout) (header_in t.header) rs (rows_in t) changes e hides few fits;
      image_is = is;
      header_is = heads;
    }

pub not_many : (n : ℕ) → nat_lt 1000000 n ≡ false → n ≤ 1000000
not_many n e = grind (arith, nat_tests)

pub many : (n : ℕ) → nat_lt 1000000 n ≡ true → 1000000 < n
many n e = grind (arith, nat_tests)
