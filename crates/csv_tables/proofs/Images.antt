-- Written tables are read again.
use Rattle.std.proofs.Common.{◌≡◌, ℕ, suc, ◌+◌, ◌<◌, Bool, true, false, not, ◌&&◌, ◌||◌, if◌then◌else◌, nat_eq, nat_lt, nat_le, List, [], ◌∷◌, ◌++◌, length, map, flat_map, codes, Option, Some, None, is_some, unwrap_or, refl, ap, ◌∙◌, arith, lit<}
use Rattle.std.specs.List.{list_all, list_any}
use Rattle.std.specs.Str.{is_utf8}
use Rattle.std.proofs.lemmas.Bool.Decides.{nat_tests}
use Rattle.std.proofs.lemmas.Str.{IsUtf8-from_ascii, is_utf8-from_IsUtf8}
use lib.Pointwise.{bytes_decides}
use Rattle.med_value.specs.Datum.{Datum, NoValue, Whole, Chars, Logic, Tuple}
use Rattle.med_value.specs.declared.value.ColType.{ColType}
use Rattle.med_value.specs.declared.cause.Cause.TheVariants.{InvalidFormat, InvalidText, NotInState, TooLarge}
use Rattle.fdw_api.specs.Prelude.{row_fits, has_kind, is_clean, Held, held, Bytes, Change, Inserts, Updates, Deletes, row_after, inserted, row_of_change_fits}
use Rattle.csv_tables.specs.Cells.{cell_of, is_readable, field_of, line_of, reads_as_null}
use Rattle.csv_tables.specs.CsvRecords.{Record, csv_records, csv_text, is_whole, heading, body, has_field, is_header}
use Rattle.csv_tables.specs.Shapes.{Shape, read_row, unless, csv_reading, content_causes, all_whole, all_readable, hides_value, rows_text}
use Rattle.csv_tables.specs.Tables.{numbered}
use Rattle.csv_tables.specs.Rewriting.{is_storable}
use Rattle.csv_tables.specs.ReadAgain.{IsUnmarked, IsTable, IsKept, is_change_storable, rows_left, records_left}
use Rattle.csv_tables.proofs.ReadBack.{cell_back, row_back, line_width, decimal_utf8, one_ascii}
use Rattle.csv_tables.proofs.Again.{again}

-- the bytes of the blob that is written of them
abbrev pub text_left : Shape → List Record → List Record → List Change → List ℕ
text_left shape header records changes = rows_text header (rows_left shape records changes)

both : (a b : Bool) → (a && b) ≡ true → (a ≡ true) × (b ≡ true)
both true b e = (refl, e)
both false b e = absurd cc

and : (a b : Bool) → a ≡ true → b ≡ true → (a && b) ≡ true
and a b p q = rw (p, q) refl

neither : (a b : Bool) → (a || b) ≡ false → (a ≡ false) × (b ≡ false)
neither true b e = absurd cc
neither false b e = (refl, e)

all_joined : {X : Type 0} (p : X → Bool) (xs ys : List X) → list_all p xs ≡ true → list_all p ys ≡ true → list_all p (xs ++ ys) ≡ true
all_joined p [] ys h g = g
all_joined p (x ∷ xs) ys h g = let b = both (p x) (list_all p xs) h in and (p x) (list_all p (xs ++ ys)) b.0 (all_joined p xs ys b.1 g)

-- the rows behind a header
pub behind : (flag : Bool) (header rows : List Record) → is_header flag header ≡ true → body flag (header ++ rows) ≡ rows
behind false [] rows e = refl
behind false (r ∷ rs) rows e = absurd cc
behind true [] rows e = absurd cc
behind true (r ∷ []) rows e = refl
behind true (r ∷ q ∷ rs) rows e = absurd cc

header_fields : (flag : Bool) (header : List Record) → is_header flag header ≡ true → list_all has_field header ≡ true
header_fields false [] e = refl
header_fields false (r ∷ rs) e = absurd cc
header_fields true [] e = absurd cc
header_fields true (r ∷ []) e = and (has_field r) true e refl
header_fields true (r ∷ q ∷ rs) e = absurd cc

-- records behind a header are read again
pub rows_again : (shape : Shape) (header rows : List Record) → is_header shape.header header ≡ true → list_all has_field rows ≡ true
    → IsUnmarked (csv_text (header ++ rows))
    → (csv_reading shape (Some (Bytes (csv_text (header ++ rows))))).rows ≡ map (read_row shape) rows
rows_again shape header rows h f plain =
    ap (λ (l : List Record). map (read_row shape) (body shape.header l))
    (again (header ++ rows) (all_joined has_field header rows (header_fields shape.header header h) f) plain)
    ∙ ap (map (read_row shape)) (behind shape.header header rows h)

-- a record of a table with columns has a field
wide_field : (width : ℕ) (r : Record) → 0 < width → is_whole width r ≡ true → has_field r ≡ true
wide_field width [] lt e = absurd (let n = same_length (both (nat_eq 0 width) true e).0 in omega arith)
  where
    same_length : nat_eq 0 width ≡ true → width ≡ 0
    same_length h = grind (arith, nat_tests)
wide_field width (f ∷ fs) lt e = refl

pub wide_fields : (width : ℕ) (rows : List Record) → 0 < width → list_all (is_whole width) rows ≡ true → list_all has_field rows ≡ true
wide_fields width [] lt h = refl
wide_fields width (r ∷ rows) lt h =
    let b = both (is_whole width r) (list_all (is_whole width) rows) h in
    and (has_field r) (list_all has_field rows) (wide_field width r lt b.0) (wide_fields width rows lt b.1)

-- a row that is read from its record, which is whole
record Good (shape : Shape) (h : Held) : Type 0 where
  pub reads : read_row shape h.origin ≡ h
  pub whole : is_whole (length shape.kinds) h.origin ≡ true
  pub readable : is_readable shape.null shape.kinds h.origin ≡ true

abbrev AllGood : Shape → List Held → Type 0
AllGood shape [] = Unit {0}
AllGood shape (h ∷ hs) = Good shape h × AllGood shape hs

good_joined : (shape : Shape) (xs ys : List Held) → AllGood shape xs → AllGood shape ys → AllGood shape (xs ++ ys)
good_joined shape [] ys h g = g
good_joined shape (x ∷ xs) ys h g = (h.0, good_joined shape xs ys h.1 g)

good_either : (shape : Shape) (b : Bool) (xs ys : List Held) → AllGood shape xs → AllGood shape ys → AllGood shape (if b then xs else ys)
good_either shape true xs ys h g = h
good_either shape false xs ys h g = g

-- a written field is UTF-8, and is readable
field_utf8 : (null : List ℕ) (v : Datum) → is_utf8 null ≡ true → is_storable v ≡ true → is_utf8 (field_of null v) ≡ true
field_utf8 null NoValue n h = n
field_utf8 null (Whole z) n h = is_utf8-from_IsUtf8 _ (decimal_utf8 z h)
field_utf8 null (Chars t) n h = h
field_utf8 null (Logic true) n h = is_utf8-from_IsUtf8 (codes "t") (IsUtf8-from_ascii (codes "t") (one_ascii 116 (lit< tt)))
field_utf8 null (Logic false) n h = is_utf8-from_IsUtf8 (codes "f") (IsUtf8-from_ascii (codes "f") (one_ascii 102 (lit< tt)))

pub fields_utf8 : (null : List ℕ) (vs : Tuple) → is_utf8 null ≡ true → list_all is_storable vs ≡ true
    → list_all is_utf8 (line_of null vs) ≡ true
fields_utf8 null [] n h = refl
fields_utf8 null (v ∷ vs) n h =
    let b = both (is_storable v) (list_all is_storable vs) h in
    and (is_utf8 (field_of null v)) (list_all is_utf8 (line_of null vs)) (field_utf8 null v n b.0) (fields_utf8 null vs n b.1)

null_there : (null : List ℕ) (kind : ColType) → is_utf8 null ≡ true → is_some (cell_of null kind null) ≡ true
null_there null kind n = rw (n, (bytes_decides null null).1 refl) refl

value_there : (o : Option Datum) (v : Datum) → unwrap_or o NoValue ≡ v → (NoValue ≡ v → ⊥) → is_some o ≡ true
value_there None v e n = absurd (n e)
value_there (Some w) v e n = refl

cell_there : (null : List ℕ) (kind : ColType) (v : Datum) → is_utf8 null ≡ true → (has_kind kind v && is_clean v) ≡ true
    → reads_as_null null v ≡ false
    → is_storable v ≡ true → is_some (cell_of null kind (field_of null v)) ≡ true
cell_there null kind NoValue n f c h = null_there null kind n
cell_there null kind (Whole z) n f c h = value_there _ (Whole z) (cell_back null kind (Whole z) f c h) (λ e. cc)
cell_there null kind (Chars t) n f c h = value_there _ (Chars t) (cell_back null kind (Chars t) f c h) (λ e. cc)
cell_there null kind (Logic b) n f c h = value_there _ (Logic b) (cell_back null kind (Logic b) f c h) (λ e. cc)

line_readable : (null : List ℕ) (kinds : List ColType) (vs : Tuple) → is_utf8 null ≡ true → row_fits kinds vs ≡ true
    → list_any (reads_as_null null) vs ≡ false → list_all is_storable vs ≡ true → is_readable null kinds (line_of null vs) ≡ true
line_readable null [] vs n f c h = refl
line_readable null (k ∷ ks) [] n f c h = refl
line_readable null (k ∷ ks) (v ∷ vs) n f c h =
    let fs = both (has_kind k v && is_clean v) (row_fits ks vs) f in
    let cs = neither (reads_as_null null v) (list_any (reads_as_null null) vs) c in
    let hs = both (is_storable v) (list_all is_storable vs) h in
    and (is_some (cell_of null k (field_of null v))) (is_readable null ks (line_of null vs)) (cell_there null k v n fs.0 cs.0 hs.0)
    (line_readable null ks vs n fs.1 cs.1 hs.1)

same_width : (n m : ℕ) → n ≡ m → nat_eq n m ≡ true
same_width n m e = grind (arith, nat_tests)

-- a new row is read from its record
new_good : (shape : Shape) (x : Tuple) → is_utf8 shape.null ≡ true → row_fits shape.kinds x ≡ true
    → list_any (reads_as_null shape.null) x ≡ false
    → list_all is_storable x ≡ true → Good shape (record { cells = x; origin = line_of shape.null x })
new_good shape x n f c h = record {
  reads = ap (λ (t : Tuple). record { cells = t; origin = line_of shape.null x }) (row_back shape.null shape.kinds x f c h);
  whole = and (nat_eq (length (line_of shape.null x)) (length shape.kinds)) (list_all is_utf8 (line_of shape.null x))
      (same_width (length (line_of shape.null x)) (length shape.kinds) (line_width shape.null shape.kinds x f))
      (fields_utf8 shape.null x n h);
  readable = line_readable shape.null shape.kinds x n f c h;
}

-- the new rows of changes
abbrev ChangeGood : Shape → Change → Type 0
ChangeGood shape (Inserts x) = Good shape (record { cells = x; origin = line_of shape.null x })
ChangeGood shape (Updates id x) = Good shape (record { cells = x; origin = line_of shape.null x })
ChangeGood shape (Deletes id) = Unit {0}

abbrev ChangesGood : Shape → List Change → Type 0
ChangesGood shape [] = Unit {0}
ChangesGood shape (c ∷ cs) = ChangeGood shape c × ChangesGood shape cs

change_good : (shape : Shape) (c : Change) → is_utf8 shape.null ≡ true → row_of_change_fits shape.kinds c ≡ true
    → hides_value shape.null c ≡ false
    → is_change_storable c ≡ true → ChangeGood shape c
change_good shape (Inserts x) n f c h = new_good shape x n f c h
change_good shape (Updates id x) n f c h = new_good shape x n f c h
change_good shape (Deletes id) n f c h = tt

changes_good : (shape : Shape) (cs : List Change) → is_utf8 shape.null ≡ true → list_all (row_of_change_fits shape.kinds) cs ≡ true
    → list_any (hides_value shape.null) cs ≡ false → list_all is_change_storable cs ≡ true → ChangesGood shape cs
changes_good shape [] n f c h = tt
changes_good shape (x ∷ cs) n f c h =
    let fs = both (row_of_change_fits shape.kinds x) (list_all (row_of_change_fits shape.kinds) cs) f in
    let ns = neither (hides_value shape.null x) (list_any (hides_value shape.null) cs) c in
    let hs = both (is_change_storable x) (list_all is_change_storable cs) h in
    (change_good shape x n fs.0 ns.0 hs.0, changes_good shape cs n fs.1 ns.1 hs.1)

-- the rows after changes
after_good : (shape : Shape) (id : ℕ) (cs : List Change) (now : List Held) → ChangesGood shape cs → AllGood shape now
    → AllGood shape (row_after (line_of shape.null) id cs now)
after_good shape id [] now h g = g
after_good shape id (Inserts x ∷ cs) now h g = after_good shape id cs now h.1 g
after_good shape id (Updates j x ∷ cs) now h g =
    after_good shape id cs _ h.1
    (good_either shape (nat_eq j id) (record { cells = x; origin = line_of shape.null x } ∷ []) now (h.0, tt) g)
after_good shape id (Deletes j ∷ cs) now h g = after_good shape id cs _ h.1 (good_either shape (nat_eq j id) [] now tt g)

old_good : (shape : Shape) (n : ℕ) (rs : List Record) (cs : List Change) → list_all (is_whole (length shape.kinds)) rs ≡ true
    → list_all (is_readable shape.null shape.kinds) rs ≡ true → ChangesGood shape cs
    → AllGood shape (flat_map (λ r. row_after (line_of shape.null) r.id cs (held r ∷ [])) (numbered shape n rs))
old_good shape n [] cs w r h = tt
old_good shape n (x ∷ rs) cs w r h =
    let ws = both (is_whole (length shape.kinds) x) (list_all (is_whole (length shape.kinds)) rs) w in
    let es = both (is_readable shape.null shape.kinds x) (list_all (is_readable shape.null shape.kinds) rs) r in
    good_joined shape (row_after (line_of shape.null) n cs (read_row shape x ∷ [])) _
    (after_good shape n cs (read_row shape x ∷ []) h (record { reads = refl; whole = ws.0; readable = es.0 }, tt))
    (old_good shape (n + 1) rs cs ws.1 es.1 h)

fresh_good : (shape : Shape) (cs : List Change) → ChangesGood shape cs → AllGood shape (flat_map (inserted (line_of shape.null)) cs)
fresh_good shape [] h = tt
fresh_good shape (Inserts x ∷ cs) h = (h.0, fresh_good shape cs h.1)
fresh_good shape (Updates id x ∷ cs) h = fresh_good shape cs h.1
fresh_good shape (Deletes id ∷ cs) h = fresh_good shape cs h.1

-- what holds of the records of good rows
abbrev origins : List Held → List Record
origins hs = map (λ r. r.origin) hs

read_good : (shape : Shape) (hs : List Held) → AllGood shape hs → map (read_row shape) (origins hs) ≡ hs
read_good shape [] g = refl
read_good shape (h ∷ hs) g = ap (λ (x : Held). x ∷ map (read_row shape) (origins hs)) g.0.reads
    ∙ ap (λ (l : List Held). h ∷ l) (read_good shape hs g.1)

whole_good : (shape : Shape) (hs : List Held) → AllGood shape hs → list_all (is_whole (length shape.kinds)) (origins hs) ≡ true
whole_good shape [] g = refl
whole_good shape (h ∷ hs) g =
    and (is_whole (length shape.kinds) h.origin) (list_all (is_whole (length shape.kinds)) (origins hs)) g.0.whole (whole_good shape hs g.1)

readable_good : (shape : Shape) (hs : List Held) → AllGood shape hs → list_all (is_readable shape.null shape.kinds) (origins hs) ≡ true
readable_good shape [] g = refl
readable_good shape (h ∷ hs) g =
    and (is_readable shape.null shape.kinds h.origin) (list_all (is_readable shape.null shape.kinds) (origins hs)) g.0.readable
    (readable_good shape hs g.1)

size_good : (hs : List Held) → length (origins hs) ≡ length hs
size_good [] = refl
size_good (h ∷ hs) = ap suc (size_good hs)

-- no cause stands for the changes
cleared : (a b c : Bool) → unless (not a) NotInState (unless b TooLarge (unless c TooLarge [])) ≡ [] → (a ≡ false) × (b ≡ true) × (c ≡ true)
cleared true b c e = absurd cc
cleared false false c e = absurd cc
cleared false true false e = absurd cc
cleared false true true e = (refl, refl, refl)

clear : (shape : Shape) (header records : List Record) (changes : List Change) → IsKept shape header records changes
    → (list_any (hides_value shape.null) changes ≡ false) × (nat_le (length (rows_left shape records changes)) 1000000 ≡ true)
    × (nat_le (length (text_left shape header records changes)) 67108864 ≡ true)
clear shape header records changes w =
    cleared (list_any (hides_value shape.null) changes) (nat_le (length (rows_left shape records changes)) 1000000)
    (nat_le (length (text_left shape header records changes)) 67108864) w.no_cause

left_good : (shape : Shape) (header records : List Record) (changes : List Change) → IsKept shape header records changes
    → AllGood shape (rows_left shape records changes)
left_good shape header records changes w =
    let h = changes_good shape changes w.null w.fit (clear shape header records changes w).0 w.storable in
    good_joined shape _ (flat_map (inserted (line_of shape.null)) changes)
    (old_good shape 0 records changes w.table.whole w.table.readable h) (fresh_good shape changes h)

-- what is left is a table again, and its rows are those of its records
pub table_left : (shape : Shape) (header records : List Record) (changes : List Change) → IsKept shape header records changes
    → IsTable shape header (records_left shape records changes)
table_left shape header records changes w =
    let good = left_good shape header records changes w in
    record {
      columns = w.table.columns;
      header_is = w.table.header_is;
      header_whole = w.table.header_whole;
      whole = whole_good shape (rows_left shape records changes) good;
      readable = readable_good shape (rows_left shape records changes) good;
    }

pub read_left : (shape : Shape) (header records : List Record) (changes : List Change) → IsKept shape header records changes
    → map (read_row shape) (records_left shape records changes) ≡ rows_left shape records changes
read_left shape header records changes w = read_good shape (rows_left shape records changes) (left_good shape header records changes w)

-- the written records are read again
left_again : (shape : Shape) (header records : List Record) (changes : List Change) → IsKept shape header records changes
    → IsUnmarked (text_left shape header records changes)
    → csv_records (text_left shape header records changes) ≡ header ++ records_left shape records changes
left_again shape header records changes w plain =
    let rows = records_left shape records changes in
    let t = table_left shape header records changes w in
    again (header ++ rows)
    (all_joined has_field header rows (header_fields shape.header header t.header_is)
    (wide_fields (length shape.kinds) rows t.columns t.whole)) plain

body_again : (shape : Shape) (header records : List Record) (changes : List Change) → IsKept shape header records changes
    → IsUnmarked (text_left shape header records changes)
    → body shape.header (csv_records (text_left shape header records changes)) ≡ records_left shape records changes
body_again shape header records changes w plain =
    ap (body shape.header) (left_again shape header records changes w plain)
    ∙ behind shape.header header (records_left shape records changes) w.table.header_is

-- the written rows are read again
pub rows_left_again : (shape : Shape) (header records : List Record) (changes : List Change) → IsKept shape header records changes
    → IsUnmarked (text_left shape header records changes)
    → (csv_reading shape (Some (Bytes (text_left shape header records changes)))).rows ≡ rows_left shape records changes
rows_left_again shape header records changes w plain =
    ap (map (read_row shape)) (body_again shape header records changes w plain) ∙ read_left shape header records changes w

four : (a b c d : Bool) → a ≡ true → b ≡ true → c ≡ true → d ≡ true
    → unless a TooLarge (unless b InvalidFormat (unless c InvalidText (unless d TooLarge []))) ≡ []
four a b c d p q r s = rw (p, q, r, s) refl

some_columns : (n : ℕ) → 0 < n → nat_lt 0 n ≡ true
some_columns n lt = grind (arith, nat_tests)

last : (a b : Bool) → b ≡ true → (a || b) ≡ true
last true b e = refl
last false b e = e

reads_all : (shape : Shape) (rows : List Record) → list_all (is_readable shape.null shape.kinds) rows ≡ true
    → list_all (λ r. not (is_whole (length shape.kinds) r) || is_readable shape.null shape.kinds r) rows ≡ true
reads_all shape [] h = refl
reads_all shape (r ∷ rows) h =
    let b = both (is_readable shape.null shape.kinds r) (list_all (is_readable shape.null shape.kinds) rows) h in
    and _ (list_all (λ r. not (is_whole (length shape.kinds) r) || is_readable shape.null shape.kinds r) rows)
    (last (not (is_whole (length shape.kinds) r)) (is_readable shape.null shape.kinds r) b.0) (reads_all shape rows b.1)

-- no cause stands for them
pub no_cause_left : (shape : Shape) (header records : List Record) (changes : List Change) → IsKept shape header records changes
    → IsUnmarked (text_left shape header records changes)
    → (csv_reading shape (Some (Bytes (text_left shape header records changes)))).causes ≡ []
no_cause_left shape header records changes w plain =
    let rows = records_left shape records changes in
    let width = length shape.kinds in
    let t = table_left shape header records changes w in
    let tests = clear shape header records changes w in
    let whole : list_all (is_whole width) (csv_records (text_left shape header records changes)) ≡ true =
    ap (list_all (is_whole width)) (left_again shape header records changes w plain)
    ∙ all_joined (is_whole width) header rows t.header_whole t.whole in
    four _ _ _ _ tests.2
    (and (nat_lt 0 width) (list_all (is_whole width) (csv_records (text_left shape header records changes)))
    (some_columns width t.columns) whole)
    (ap (list_all (λ r. not (is_whole width r) || is_readable shape.null shape.kinds r)) (body_again shape header records changes w plain)
    ∙ reads_all shape rows t.readable)
    (ap (λ (l : List Record). nat_le (length l) 1000000) (body_again shape header records changes w plain)
    ∙ ap (λ (n : ℕ). nat_le n 1000000) (size_good (rows_left shape records changes)) ∙ tests.1)

-- a content for which no cause stands
all_clear : (a b c d : Bool) → unless a TooLarge (unless b InvalidFormat (unless c InvalidText (unless d TooLarge []))) ≡ []
    → (b ≡ true) × (c ≡ true)
all_clear false b c d e = absurd cc
all_clear true false c d e = absurd cc
all_clear true true false d e = absurd cc
all_clear true true true d e = (refl, refl)

columns_some : (n : ℕ) → nat_lt 0 n ≡ true → 0 < n
columns_some n e = grind (arith, nat_tests)

reads_each : (shape : Shape) (rows : List Record) → list_all (is_whole (length shape.kinds)) rows ≡ true
    → list_all (λ r. not (is_whole (length shape.kinds) r) || is_readable shape.null shape.kinds r) rows ≡ true
    → list_all (is_readable shape.null shape.kinds) rows ≡ true
reads_each shape [] w h = refl
reads_each shape (r ∷ rows) w h =
    let ws = both (is_whole (length shape.kinds) r) (list_all (is_whole (length shape.kinds)) rows) w in
    let hs = both (not (is_whole (length shape.kinds) r) || is_readable shape.null shape.kinds r)
    (list_all (λ r. not (is_whole (length shape.kinds) r) || is_readable shape.null shape.kinds r) rows) h in
    and (is_readable shape.null shape.kinds r) (list_all (is_readable shape.null shape.kinds) rows)
    (second (is_whole (length shape.kinds) r) (is_readable shape.null shape.kinds r) ws.0 hs.0) (reads_each shape rows ws.1 hs.1)
  where
    second : (a b : Bool) → a ≡ true → (not a || b) ≡ true → b ≡ true
    second true b e h = h
    second false b e h = absurd cc

parts : (width : ℕ) (flag : Bool) (names : Record) (rows : List Record) → 0 < width → is_whole width names ≡ true
    → list_all (is_whole width) rows ≡ true
    → (is_header flag (heading flag names rows) ≡ true) × (list_all (is_whole width) (heading flag names rows) ≡ true)
    × (list_all (is_whole width) (body flag rows) ≡ true)
parts width false names rows lt n h = (refl, refl, h)
parts width true names [] lt n h = (wide_field width names lt n, and (is_whole width names) true n refl, refl)
parts width true names (r ∷ rows) lt n h =
    let b = both (is_whole width r) (list_all (is_whole width) rows) h in
    (wide_field width r lt b.0, and (is_whole width r) true b.0 refl, b.1)

pub content_table : (shape : Shape) (bytes : List ℕ) → is_whole (length shape.kinds) shape.names ≡ true → content_causes shape bytes ≡ []
    → IsTable shape (heading shape.header shape.names (csv_records bytes)) (body shape.header (csv_records bytes))
content_table shape bytes names e =
    let c = all_clear (nat_le (length bytes) 67108864) (all_whole shape bytes) (all_readable shape bytes)
    (nat_le (length (body shape.header (csv_records bytes))) 1000000) e in
    let b = both (nat_lt 0 (length shape.kinds)) (list_all (is_whole (length shape.kinds)) (csv_records bytes)) c.0 in
    let lt = columns_some (length shape.kinds) b.0 in
    let p = parts (length shape.kinds) shape.header shape.names (csv_records bytes) lt names b.1 in
    record {
      columns = lt;
      header_is = p.0;
      header_whole = p.1;
      whole = p.2;
      readable = reads_each shape (body shape.header (csv_records bytes)) p.2 c.1;
    }
