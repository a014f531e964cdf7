-- The loop over the changes of a write.
use Rattle.std.proofs.Common.{◌≡◌, ℕ, Bool, true, false, ◌&&◌, nat_eq, List, [], ◌∷◌, ◌++◌, length, map, flat_map, refl, ap, sym, ◌∙◌, arith}
use Rattle.std.specs.Str.{is_utf8}
use Rattle.std.specs.List.{list_all, list_any}
use Rattle.std.proofs.lemmas.Bool.Decides.{nat_tests}
use Rattle.std.proofs.lemmas.List.{map-append, append_assoc}
use Rattle.csv.specs.Records.{fields_of}
use Rattle.csv.specs.declared.record.ByteRecord.{ByteRecord}
use Rattle.med_value.specs.Datum.{Tuple}
use Rattle.med_value.specs.declared.value.ColType.{ColType}
use Rattle.fdw_api.specs.Prelude.{row_fits, Held, Change, Inserts, inserted, row_of_change_fits}
use Rattle.csv_tables.specs.Cells.{line_of, record_cells}
use Rattle.csv_tables.specs.CsvRecords.{Record, is_whole}
use Rattle.csv_tables.specs.Shapes.{Shape, read_row, hides_value}
use Rattle.csv_tables.proofs.Gathering.{WritesRow}
use Rattle.csv_tables.proofs.ReadBack.{line_width}

both : (a b : Bool) → (a && b) ≡ true → (a ≡ true) × (b ≡ true)
both true b e = (refl, e)
both false b e = absurd cc

-- all changes fit: the first, and the others
pub first_fits : (kinds : List ColType) (c : Change) (cs ds : List Change) → cs ≡ c ∷ ds → list_all (row_of_change_fits kinds) cs ≡ true
    → (row_of_change_fits kinds c ≡ true) × (list_all (row_of_change_fits kinds) ds ≡ true)
first_fits kinds c cs ds e all = both (row_of_change_fits kinds c) (list_all (row_of_change_fits kinds) ds) (sym (ap (list_all (row_of_change_fits kinds)) e) ∙ all)

-- a written record is read as its row, and is as wide as the columns
pub written_row : (shape : Shape) (line : ByteRecord) (x : Tuple) → fields_of line ≡ line_of shape.null x → record_cells shape.null shape.kinds (line_of shape.null x) ≡ x → WritesRow shape line x
written_row shape line x e back = ap (read_row shape) e ∙ ap (λ (t : Tuple). record { cells = t; origin = line_of shape.null x }) back

pub wide_line : (shape : Shape) (line : ByteRecord) (x : Tuple) → fields_of line ≡ line_of shape.null x → list_all is_utf8 (fields_of line) ≡ true → row_fits shape.kinds x ≡ true → is_whole (length shape.kinds) (fields_of line) ≡ true
wide_line shape line x e texts fits = is_wide (fields_of line) texts (ap length e ∙ line_width shape.null shape.kinds x fits)
  where
    same : (m n : ℕ) → m ≡ n → nat_eq m n ≡ true
    same m n h = grind (arith, nat_tests)

    is_wide : (f : Record) → list_all is_utf8 f ≡ true → length f ≡ length shape.kinds → is_whole (length shape.kinds) f ≡ true
    is_wide f t h = rw (same (length f) (length shape.kinds) h) t

-- the loop goes on with a new row, and with a change of an old one
pub fresh_on : (shape : Shape) (xs ys : List ByteRecord) (line : ByteRecord) (x : Tuple) (cs ds : List Change) (all : List Held)
    → map (read_row shape) (map fields_of xs) ++ flat_map (inserted (line_of shape.null)) cs ≡ all → cs ≡ Inserts x ∷ ds → ys ≡ xs ++ line ∷ [] → WritesRow shape line x
    → map (read_row shape) (map fields_of ys) ++ flat_map (inserted (line_of shape.null)) ds ≡ all
fresh_on shape xs ys line x cs ds all i is ey row =
    let w = flat_map (inserted (line_of shape.null)) ds in
    ap (λ (l : List ByteRecord). map (read_row shape) (map fields_of l) ++ w) ey ∙ ap (λ (l : List Record). map (read_row shape) l ++ w) (map-append fields_of xs (line ∷ []))
    ∙ ap (λ (l : List Held). l ++ w) (map-append (read_row shape) (map fields_of xs) (fields_of line ∷ []))
    ∙ append_assoc (map (read_row shape) (map fields_of xs)) (read_row shape (fields_of line) ∷ []) w
    ∙ ap (λ (r : Held). map (read_row shape) (map fields_of xs) ++ (r ∷ w)) row
    ∙ sym (ap (λ (l : List Change). map (read_row shape) (map fields_of xs) ++ flat_map (inserted (line_of shape.null)) l) is) ∙ i

pub same_on : (shape : Shape) (xs : List Held) (c : Change) (cs ds : List Change) (all : List Held) → xs ++ flat_map (inserted (line_of shape.null)) cs ≡ all → cs ≡ c ∷ ds
    → inserted (line_of shape.null) c ≡ [] → xs ++ flat_map (inserted (line_of shape.null)) ds ≡ all
same_on shape xs c cs ds all i is none =
    let s : flat_map (inserted (line_of shape.null)) cs ≡ flat_map (inserted (line_of shape.null)) ds = rw is (ap (λ (l : List Held). l ++ flat_map (inserted (line_of shape.null)) ds) none) in
    ap (λ (l : List Held). xs ++ l) (sym s) ∙ i

pub clear_on : (null : List ℕ) (all : Bool) (c : Change) (cs ds : List Change) → all ≡ list_any (hides_value null) cs → cs ≡ c ∷ ds → hides_value null c ≡ false → all ≡ list_any (hides_value null) ds
clear_on null all c cs ds i e hides = i ∙ ap (list_any (hides_value null)) e ∙ rw hides refl

-- the new records are as wide as the columns
pub fresh_wide_on : (width : ℕ) (xs ys : List ByteRecord) (line : ByteRecord) → ys ≡ xs ++ line ∷ [] → list_all (is_whole width) (map fields_of xs) ≡ true → is_whole width (fields_of line) ≡ true
    → list_all (is_whole width) (map fields_of ys) ≡ true
fresh_wide_on width xs ys line e h l = ap (λ (z : List ByteRecord). list_all (is_whole width) (map fields_of z)) e ∙ more xs h
  where
    more : (zs : List ByteRecord) → list_all (is_whole width) (map fields_of zs) ≡ true → list_all (is_whole width) (map fields_of (zs ++ line ∷ [])) ≡ true
    more [] q = rw l refl
    more (z ∷ zs) q = let b = both (is_whole width (fields_of z)) (list_all (is_whole width) (map fields_of zs)) q in rw b.0 (more zs b.1)
