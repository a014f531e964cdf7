-- Images by their beginning, and a header that is read of its line.
use Rattle.std.proofs.Common.{◌≡◌, ℕ, suc, ◌+◌, ◌*◌, ◌-◌, ◌<◌, ◌≤◌, Bool, true, false, nat_lt, List, [], ◌∷◌, ◌++◌, length, take, drop, min, refl, ap, sym, ◌∙◌, arith}
use Rattle.std.specs.List.{list_all, flat_map}
use Rattle.std.proofs.lemmas.Bool.Decides.{nat_tests}
use Rattle.std.proofs.lemmas.List.{append_assoc, length-append, length-drop, take_all, drop-drop}
use native.Mathlib.Nat.{mul-le-mul_right}
use Rattle.csv.specs.Records.{fields_of}
use Rattle.csv.specs.Writing.{default_writer, row_text}
use Rattle.csv_tables.specs.declared.table.Rows.{Rows}
use Rattle.csv_tables.specs.declared.middle.Middle.{Middle}
use Rattle.csv_tables.specs.CsvRecords.{Record, csv_records, csv_text, has_field, heading, is_header}
use Rattle.csv_tables.specs.Held.{ended, held_of, is_plain}
use Rattle.csv_tables.specs.Tables.{record_at, records_of}
use Rattle.csv_tables.specs.Rewriting.{records_with, held_text}
use Rattle.csv_tables.proofs.Again.{marked}
use Rattle.csv_tables.proofs.FieldSteps.{both}
use Rattle.csv_tables.proofs.Flat.{cut_drop, cut_length}
use Rattle.csv_tables.proofs.Holding.{ended_both, rows_range, text_all}
use Rattle.csv_tables.proofs.Shown.{plain_known, plain_both, plain_take, plain_drop, text_both, text_shown, lines_flat}
use Rattle.csv_tables.proofs.Writing.{take_row, text_push}

-- plain records have fields
pub plain_fields : (rs : List Record) → list_all is_plain rs ≡ true → list_all has_field rs ≡ true
unfolding is_plain
plain_fields [] h = refl
plain_fields ([] ∷ rs) h = absurd cc
plain_fields ((f ∷ fs) ∷ rs) h = plain_fields rs (both (is_plain (f ∷ fs)) (list_all is_plain rs) h).1

-- a header of two fields or more is read of its line as of all of a text
pub told_by_line : (flag : Bool) (names : Record) (header rows : List Record) → is_header flag header ≡ true → list_all (λ r. nat_lt 1 (length r)) header ≡ true
    → list_all has_field rows ≡ true → heading flag names (csv_records (csv_text (header ++ rows))) ≡ heading flag names (csv_records (csv_text header))
told_by_line false names header rows is wide h = refl
told_by_line true names [] rows is wide h = absurd cc
told_by_line true names ([] ∷ []) rows is wide h = absurd cc
told_by_line true names ((f ∷ []) ∷ []) rows is wide h = absurd cc
told_by_line true names ((f ∷ g ∷ fs) ∷ []) rows is wide h =
    ap (heading true names) (marked ((f ∷ g ∷ fs) ∷ rows) h) ∙ sym (ap (heading true names) (marked ((f ∷ g ∷ fs) ∷ []) refl))
told_by_line true names (r ∷ q ∷ header) rows is wide h = absurd cc

-- a header's line, and behind it the text of plain records
pub head_text : (header rows : List Record) → list_all is_plain rows ≡ true → csv_text header ++ held_text rows ≡ csv_text (header ++ rows)
head_text header rows h = ap (λ (t : List ℕ). csv_text header ++ t) (lines_flat rows ∙ sym (text_shown rows h)) ∙ sym (text_both header rows)

pub plain_with : (r : Rows) (m : Middle) → r.plain ≡ true → m.rows.plain ≡ true → list_all is_plain (records_with r m) ≡ true
plain_with r m e f =
    let old = plain_known r.plain (records_of r) r.shown e in
    let new = plain_known m.rows.plain (records_of m.rows) m.rows.shown f in
    plain_both (take m.from (records_of r) ++ records_of m.rows) (drop m.to (records_of r))
    (plain_both (take m.from (records_of r)) (records_of m.rows) (plain_take m.from (records_of r) old) new) (plain_drop m.to (records_of r) old)

-- records that are written one after the other
pub rows_next : (r : Rows) (from at : ℕ) (row : Record) (text : List ℕ) → from ≤ at → at < r.count → row ≡ record_at r at
    → (text ++ csv_text (take (at - from) (drop from (records_of r)))) ++ row_text default_writer row ≡ text ++ csv_text (take (at + 1 - from) (drop from (records_of r)))
rows_next r from at row text le lt is =
    let rs = records_of r in
    let there : from + (at - from) ≡ at = omega arith in
    let next : suc (at - from) ≡ at + 1 - from = omega arith in
    let cut : drop (at - from) (drop from rs) ≡ record_at r at ∷ drop (at + 1) rs =
    drop-drop (at - from) from rs ∙ ap (λ (k : ℕ). drop k rs) there ∙ cut_drop at r.count r.width (held_of r.fields) lt in
    let t : take (at + 1 - from) (drop from rs) ≡ take (at - from) (drop from rs) ++ record_at r at ∷ [] =
    ap (λ (k : ℕ). take k (drop from rs)) (sym next) ∙ take_row (drop from rs) (at - from) (record_at r at) (drop (at + 1) rs) cut in
    append_assoc text (csv_text (take (at - from) (drop from rs))) (row_text default_writer row)
    ∙ ap (λ (x : Record). text ++ (csv_text (take (at - from) (drop from rs)) ++ row_text default_writer x)) is
    ∙ ap (λ (l : List ℕ). text ++ l) (sym (text_push (take (at - from) (drop from rs)) (record_at r at)))
    ∙ ap (λ (l : List Record). text ++ csv_text l) (sym t)

pub rows_first : (r : Rows) (from : ℕ) (text : List ℕ) → text ≡ text ++ csv_text (take (from - from) (drop from (records_of r)))
rows_first r from text =
    let none : from - from ≡ 0 = omega arith in
    sym (ap (λ (k : ℕ). text ++ csv_text (take k (drop from (records_of r)))) none ∙ nothing text)
  where
    nothing : (l : List ℕ) → l ++ [] ≡ l
    nothing [] = refl
    nothing (x ∷ l) = ap (λ (k : List ℕ). x ∷ k) (nothing l)

-- all records of a table, and those from a place on
pub all_rows : (r : Rows) → take (r.count - 0) (drop 0 (records_of r)) ≡ records_of r
all_rows r = let n = cut_length r.count r.width (held_of r.fields) in take_all (r.count - 0) (records_of r) (omega arith)

pub rest_rows : (r : Rows) (to : ℕ) → take (r.count - to) (drop to (records_of r)) ≡ drop to (records_of r)
rest_rows r to =
    let n = cut_length r.count r.width (held_of r.fields) in
    let d = length-drop to (records_of r) in
    take_all (r.count - to) (drop to (records_of r)) (omega arith)

pub rows_anew : (header : List Record) (r : Rows) (m : Middle)
    → ((csv_text header ++ csv_text (take (m.from - 0) (drop 0 (records_of r)))) ++ csv_text (take (m.rows.count - 0) (drop 0 (records_of m.rows))))
    ++ csv_text (take (r.count - m.to) (drop m.to (records_of r)))
    ≡ csv_text (header ++ records_with r m)
rows_anew header r m =
    let rs = records_of r in
    let ms = records_of m.rows in
    let f : m.from - 0 ≡ m.from = omega arith in
    let a = take m.from rs in
    let z = drop m.to rs in
    ap (λ (l : List Record). ((csv_text header ++ csv_text (take (m.from - 0) rs)) ++ csv_text (take (m.rows.count - 0) ms)) ++ csv_text l) (rest_rows r m.to)
    ∙ ap (λ (l : List Record). ((csv_text header ++ csv_text (take (m.from - 0) rs)) ++ csv_text l) ++ csv_text z) (all_rows m.rows)
    ∙ ap (λ (k : ℕ). ((csv_text header ++ csv_text (take k rs)) ++ csv_text ms) ++ csv_text z) f
    ∙ ap (λ (l : List ℕ). (l ++ csv_text ms) ++ csv_text z) (sym (text_both header a))
    ∙ ap (λ (l : List ℕ). l ++ csv_text z) (sym (text_both (header ++ a) ms))
    ∙ sym (text_both ((header ++ a) ++ ms) z)
    ∙ ap csv_text (append_assoc (header ++ a) ms z ∙ append_assoc header a (ms ++ z) ∙ ap (λ (l : List Record). header ++ l) (sym (append_assoc a ms z)))

-- the text of records, piece by piece
flat_both : (xs ys : Record) → flat_map (λ f. f) (xs ++ ys) ≡ flat_map (λ f. f) xs ++ flat_map (λ f. f) ys
flat_both [] ys = refl
flat_both (x ∷ xs) ys = ap (λ (l : List ℕ). x ++ l) (flat_both xs ys) ∙ sym (append_assoc x (flat_map (λ f. f) xs) (flat_map (λ f. f) ys))

pub held_both : (xs ys : List Record) → held_text (xs ++ ys) ≡ held_text xs ++ held_text ys
held_both xs ys = ap (flat_map (λ f. f)) (ended_both xs ys) ∙ flat_both (flat_map ended xs) (flat_map ended ys)

front_held : (r : Rows) (from : ℕ) → flat_map (λ f. f) (take (from * r.width - 0) (drop 0 (fields_of r.fields))) ≡ held_text (take from (records_of r))
front_held r from =
    let z : 0 * r.width ≡ 0 = omega arith in
    let n : from - 0 ≡ from = omega arith in
    ap (λ (k : ℕ). flat_map (λ f. f) (take (from * r.width - k) (drop k (fields_of r.fields)))) (sym z)
    ∙ ap (flat_map (λ f. f)) (rows_range r 0 from (omega arith))
    ∙ ap (λ (k : ℕ). held_text (take k (records_of r))) n

back_held : (r : Rows) (to size : ℕ) → to ≤ r.count → size ≡ length (held_of r.fields)
    → flat_map (λ f. f) (take (size - to * r.width) (drop (to * r.width) (fields_of r.fields))) ≡ held_text (drop to (records_of r))
back_held r to size le is =
    let n : size ≡ r.count * r.width = is ∙ sym r.whole in
    ap (λ (k : ℕ). flat_map (λ f. f) (take (k - to * r.width) (drop (to * r.width) (fields_of r.fields)))) n
    ∙ ap (flat_map (λ f. f)) (rows_range r to r.count le)
    ∙ ap held_text (rest_rows r to)

all_held : (r : Rows) (size : ℕ) → size ≡ length (held_of r.fields) → flat_map (λ f. f) (take (size - 0) (drop 0 (fields_of r.fields))) ≡ held_text (records_of r)
all_held r size is = text_all r.fields size is ∙ ap (flat_map (λ f. f)) r.lines

pub sizes : (r : Rows) (m : Middle) (all new : ℕ) (front more back : List ℕ) → m.to ≤ r.count → all ≡ length (held_of r.fields) → new ≡ length (held_of m.rows.fields)
    → front ≡ flat_map (λ f. f) (take (m.from * r.width - 0) (drop 0 (fields_of r.fields)))
    → more ≡ flat_map (λ f. f) (take (new - 0) (drop 0 (fields_of m.rows.fields)))
    → back ≡ flat_map (λ f. f) (take (all - m.to * r.width) (drop (m.to * r.width) (fields_of r.fields)))
    → length front + length more + length back ≡ length (held_text (records_with r m))
sizes r m all new front more back le ea en ef em eb =
    let a = take m.from (records_of r) in
    let ms = records_of m.rows in
    let z = drop m.to (records_of r) in
    let f = ap length (ef ∙ front_held r m.from) in
    let g = ap length (em ∙ all_held m.rows new en) in
    let h = ap length (eb ∙ back_held r m.to all le ea) in
    let p = ap length (held_both (a ++ ms) z) in
    let q = ap length (held_both a ms) in
    let s = length-append (held_text (a ++ ms)) (held_text z) in
    let t = length-append (held_text a) (held_text ms) in
    omega arith

-- a sum that stops at the greatest number
pub sum_of_three : (a b c most : ℕ) → min (min (a + b) most + c) most ≡ min (a + b + c) most
sum_of_three a b c most = omega arith

below : (n m : ℕ) → nat_lt n m ≡ true → n < m
below n m e = grind (arith, nat_tests)

above : (n m : ℕ) → nat_lt n m ≡ false → m ≤ n
above n m e = grind (arith, nat_tests)

tells : (n x y : ℕ) → (n < x → n < y) → (n < y → n < x) → nat_lt n x ≡ nat_lt n y
tells n x y f g = at (nat_lt n x) (nat_lt n y) refl refl
  where
    at : (p q : Bool) → nat_lt n x ≡ p → nat_lt n y ≡ q → p ≡ q
    at true true e h = refl
    at false false e h = refl
    at true false e h = absurd (let lt = f (below n x e) in let le = above n y h in omega arith)
    at false true e h = absurd (let lt = g (below n y h) in let le = above n x e in omega arith)

pub tells_over : (limit a b most : ℕ) → limit < most → nat_lt limit (min (a + min b most) most) ≡ nat_lt limit (a + b)
tells_over limit a b most lt = tells limit (min (a + min b most) most) (a + b) (λ h. omega arith) (λ h. omega arith)

-- a place within a table is one within its fields
pub place_fields : (r : Rows) (at : ℕ) → at ≤ r.count → at * r.width ≤ length (held_of r.fields)
place_fields r at le = let w = r.whole in let m : at * r.width ≤ r.count * r.width = mul-le-mul_right r.width le in omega arith
