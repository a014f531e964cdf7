-- Records that the writer writes as they stand in a text: those of which no field needs quotes, and which show a byte.
use Rattle.std.proofs.Common.{◌≡◌, ℕ, zero, suc, ◌+◌, ◌-◌, ◌<◌, Bool, true, false, not, ◌||◌, if◌then◌else◌, List, [], ◌∷◌, ◌++◌, length, take, drop, get_or, nat_eq, nat_lt, ◌≤◌, ◌*◌, refl, ap, sym, ◌∙◌, subst, arith}
use Rattle.std.specs.List.{flat_map, list_all, list_any}
use Rattle.std.proofs.lemmas.Bool.Decides.{nat_tests}
use Rattle.std.proofs.lemmas.List.{append-nil, append_assoc, take_more}
use Rattle.csv.specs.Writing.{default_writer, needs_byte, needs_quotes, field_text, fields_text, is_blank, row_body, row_text}
use Rattle.csv_tables.specs.CsvRecords.{Record, csv_text, is_whole}
use Rattle.csv_tables.specs.Held.{ended, is_plain, plain_if, special, special_in, held_of}
use Rattle.csv.specs.Records.{Row, cut_from, fields_of, text_of}
use native.Mathlib.Nat.{suc-mul}
use Rattle.csv_tables.proofs.Holding.{width_is, holds_rows}
use Rattle.csv_tables.proofs.FieldSteps.{both}

-- a record as it stands in such a text, and as it stands in a blob where no field needs quotes
abbrev pub line_text : Record → List ℕ
line_text fields = flat_map (λ f. f) (ended fields)

special_both : (xs ys : List ℕ) → special_in (xs ++ ys) ≡ special_in xs + special_in ys
special_both [] ys = omega arith
special_both (x ∷ xs) ys = let i = special_both xs ys in omega arith

-- one byte more
pub special_next : (text : List ℕ) (i d : ℕ) → i < length text → special_in (take i text) + special (get_or text i d) ≡ special_in (take (i + 1) text)
special_next text i d lt =
    let s = special_both (take i text) (get_or text i d ∷ []) in
    let n = ap special_in (take_more text i d lt) in
    omega arith

pub special_few : (w b : ℕ) → w ≡ special b → w ≤ 1
special_few w b e = let l = at (needs_byte default_writer b) in omega arith
  where
    at : (t : Bool) → (if t then 1 else 0) ≤ 1
    at true = omega arith
    at false = omega arith

-- each field has one byte behind it that is set apart
special_line : (r : Record) → special_in (line_text r) ≡ length r + special_in (flat_map (λ f. f) r)
special_line [] = refl
special_line (f ∷ []) =
    let a = special_both (f ++ 10 ∷ []) [] in
    let b = special_both f (10 ∷ []) in
    let c = special_both f [] in
    omega arith
special_line (f ∷ g ∷ fs) =
    let a = special_both (f ++ 44 ∷ []) (line_text (g ∷ fs)) in
    let b = special_both f (44 ∷ []) in
    let c = special_both f (flat_map (λ f. f) (g ∷ fs)) in
    let i = special_line (g ∷ fs) in
    omega arith

none_special : (f : List ℕ) → special_in f ≡ 0 → needs_quotes default_writer f ≡ false
none_special [] e = refl
none_special (b ∷ bs) e = at (needs_byte default_writer b) refl (λ rest. none_special bs rest)
  where
    one : (t : Bool) → needs_byte default_writer b ≡ t → special b ≡ (if t then 1 else 0)
    one t h = ap (λ (t : Bool). if t then 1 else 0) h

    at : (t : Bool) → needs_byte default_writer b ≡ t → (special_in bs ≡ 0 → needs_quotes default_writer bs ≡ false) → needs_quotes default_writer (b ∷ bs) ≡ false
    at true h more = absurd (let x : special b ≡ 1 = one true h in omega arith)
    at false h more =
        let x : special b ≡ 0 = one false h in
        let rest : special_in bs ≡ 0 = omega arith in
        rw h (more rest)

shown : (f : List ℕ) → needs_quotes default_writer f ≡ false → field_text default_writer f ≡ f
shown f e = rw e refl

neither : (a b : Bool) → (a || b) ≡ false → (a ≡ false) × (b ≡ false)
neither true b e = absurd cc
neither false b e = (refl, e)

-- the fields of such a record, and the line feed behind them
fields_shown : (f : List ℕ) (fs : Record) → list_any (needs_quotes default_writer) (f ∷ fs) ≡ false → row_body default_writer (f ∷ fs) ++ 10 ∷ [] ≡ line_text (f ∷ fs)
unfolding fields_text
fields_shown f [] e =
    let q = neither (needs_quotes default_writer f) (list_any (needs_quotes default_writer) []) e in
    ap (λ (x : List ℕ). (x ++ []) ++ 10 ∷ []) (shown f q.0) ∙ ap (λ (x : List ℕ). x ++ 10 ∷ []) (append-nil f) ∙ sym (append-nil (f ++ 10 ∷ []))
fields_shown f (g ∷ fs) e =
    let q = neither (needs_quotes default_writer f) (list_any (needs_quotes default_writer) (g ∷ fs)) e in
    ap (λ (x : List ℕ). (x ++ (44 ∷ row_body default_writer (g ∷ fs))) ++ 10 ∷ []) (shown f q.0)
    ∙ append_assoc f (44 ∷ row_body default_writer (g ∷ fs)) (10 ∷ [])
    ∙ ap (λ (x : List ℕ). f ++ (44 ∷ x)) (fields_shown g fs q.1)
    ∙ sym (append_assoc f (44 ∷ []) (line_text (g ∷ fs)))

plain_line : (r : Record) → is_plain r ≡ true → row_text default_writer r ≡ line_text r
unfolding is_plain is_blank
plain_line [] e = absurd cc
plain_line (f ∷ []) e = absurd cc
plain_line (f ∷ g ∷ fs) e =
    fields_shown f (g ∷ fs) (unquoted (list_any (needs_quotes default_writer) (f ∷ g ∷ fs))
    (both (nat_lt 1 (length (f ∷ g ∷ fs))) (not (list_any (needs_quotes default_writer) (f ∷ g ∷ fs))) e).1)
  where
    unquoted : (b : Bool) → not b ≡ true → b ≡ false
    unquoted true h = absurd cc
    unquoted false h = refl

-- a record of which no byte is set apart
none_quoted : (r : Record) → special_in (flat_map (λ f. f) r) ≡ 0 → list_any (needs_quotes default_writer) r ≡ false
none_quoted [] e = refl
none_quoted (f ∷ fs) e = let s = special_both f (flat_map (λ f. f) fs) in rw (none_special f (omega arith)) (none_quoted fs (omega arith))

plain_is : (r : Record) → 1 < length r → special_in (flat_map (λ f. f) r) ≡ 0 → is_plain r ≡ true
unfolding is_plain
plain_is r lt e = rw (more (length r) lt, none_quoted r e) refl
  where
    more : (n : ℕ) → 1 < n → nat_lt 1 n ≡ true
    more n h = grind (arith, nat_tests)

special_take : (n : ℕ) (l : List ℕ) → special_in (take n l) ≤ special_in l
special_take zero l = omega arith
special_take (suc n) [] = omega arith
special_take (suc n) (x ∷ l) = let i = special_take n l in omega arith

special_drop : (n : ℕ) (l : List ℕ) → special_in (drop n l) ≤ special_in l
special_drop zero l = omega arith
special_drop (suc n) [] = omega arith
special_drop (suc n) (x ∷ l) = let i = special_drop n l in omega arith

special_cut : (s : ℕ) (ends bytes : List ℕ) → special_in bytes ≡ 0 → special_in (flat_map (λ f. f) (cut_from s ends bytes)) ≡ 0
unfolding cut_from
special_cut s [] bytes e = refl
special_cut s (end ∷ ends) bytes e =
    let t = special_take (end - s) (drop s bytes) in
    let d = special_drop s bytes in
    let b = special_both (take (end - s) (drop s bytes)) (flat_map (λ f. f) (cut_from end ends bytes)) in
    let i = special_cut end ends bytes e in
    omega arith

pub record_plain : (r : Row) (count : ℕ) → 1 < length (fields_of r) → nat_eq count 0 ≡ true → count ≡ special_in (text_of r) → is_plain (fields_of r) ≡ true
record_plain r count lt none counted = plain_is (fields_of r) lt (special_cut 0 r.ends r.bytes (sym counted ∙ same count none))
  where
    same : (n : ℕ) → nat_eq n 0 ≡ true → n ≡ 0
    same n e = grind (arith, nat_tests)

-- what is said of records, and what is known of them
pub plain_known : (said : Bool) (rows : List Record) → plain_if said rows ≡ true → said ≡ true → list_all is_plain rows ≡ true
unfolding plain_if
plain_known true rows h e = h
plain_known false rows h e = absurd cc

pub plain_told : (said : Bool) (rows : List Record) → (said ≡ true → list_all is_plain rows ≡ true) → plain_if said rows ≡ true
unfolding plain_if
plain_told true rows h = h refl
plain_told false rows h = refl

-- plain records stay so in each part of them, and behind others
pub plain_both : (xs ys : List Record) → list_all is_plain xs ≡ true → list_all is_plain ys ≡ true → list_all is_plain (xs ++ ys) ≡ true
plain_both [] ys h g = g
plain_both (x ∷ xs) ys h g = let b = both (is_plain x) (list_all is_plain xs) h in rw b.0 (plain_both xs ys b.1 g)

pub plain_take : (n : ℕ) (rs : List Record) → list_all is_plain rs ≡ true → list_all is_plain (take n rs) ≡ true
plain_take zero rs h = refl
plain_take (suc n) [] h = refl
plain_take (suc n) (r ∷ rs) h = let b = both (is_plain r) (list_all is_plain rs) h in rw b.0 (plain_take n rs b.1)

pub plain_drop : (n : ℕ) (rs : List Record) → list_all is_plain rs ≡ true → list_all is_plain (drop n rs) ≡ true
plain_drop zero rs h = h
plain_drop (suc n) [] h = refl
plain_drop (suc n) (r ∷ rs) h = plain_drop n rs (both (is_plain r) (list_all is_plain rs) h).1

-- records that stand so one after the other
pub lines_flat : (rows : List Record) → flat_map (λ f. f) (flat_map ended rows) ≡ flat_map line_text rows
lines_flat [] = refl
lines_flat (r ∷ rows) = flat_both (ended r) (flat_map ended rows) ∙ ap (λ (l : List ℕ). line_text r ++ l) (lines_flat rows)
  where
    flat_both : (xs ys : Record) → flat_map (λ f. f) (xs ++ ys) ≡ flat_map (λ f. f) xs ++ flat_map (λ f. f) ys
    flat_both [] ys = refl
    flat_both (x ∷ xs) ys = ap (λ (l : List ℕ). x ++ l) (flat_both xs ys) ∙ sym (append_assoc x (flat_map (λ f. f) xs) (flat_map (λ f. f) ys))

pub text_both : (xs ys : List Record) → csv_text (xs ++ ys) ≡ csv_text xs ++ csv_text ys
text_both [] ys = refl
text_both (x ∷ xs) ys = ap (λ (l : List ℕ). row_text default_writer x ++ l) (text_both xs ys) ∙ sym (append_assoc (row_text default_writer x) (csv_text xs) (csv_text ys))

least : (w : ℕ) (rows : List Record) → list_all (is_whole w) rows ≡ true → length rows * w ≤ special_in (flat_map line_text rows)
least w [] h = omega arith
least w (r ∷ rows) h =
    let b = both (is_whole w r) (list_all (is_whole w) rows) h in
    let n = width_is w r b.0 in
    let m : suc (length rows) * w ≡ length rows * w + w = suc-mul (length rows) w in
    let s = special_both (line_text r) (flat_map line_text rows) in
    let l = special_line r in
    let i = least w rows b.1 in
    subst (λ (k : ℕ). k ≤ special_in (flat_map line_text (r ∷ rows))) (sym m) (omega arith)

all_plain : (w : ℕ) (rows : List Record) → 1 < w → list_all (is_whole w) rows ≡ true → special_in (flat_map line_text rows) ≡ length rows * w → list_all is_plain rows ≡ true
all_plain w [] lt h e = refl
all_plain w (r ∷ rows) lt h e =
    let b = both (is_whole w r) (list_all (is_whole w) rows) h in
    let n = width_is w r b.0 in
    let m : suc (length rows) * w ≡ length rows * w + w = suc-mul (length rows) w in
    let s = special_both (line_text r) (flat_map line_text rows) in
    let l = special_line r in
    let i = least w rows b.1 in
    let t : special_in (line_text r ++ flat_map line_text rows) ≡ length rows * w + w = e ∙ m in
    rw (plain_is r (omega arith) (omega arith)) (all_plain w rows lt b.1 (omega arith))

-- records of which no byte is set apart but those that end the fields
pub plain_rows : (w : ℕ) (fields : Row) (rows : List Record) → 1 < w → list_all (is_whole w) rows ≡ true → fields_of fields ≡ flat_map ended rows
    → (count size : ℕ) → nat_eq count size ≡ true → size ≡ length (held_of fields) → count ≡ special_in (flat_map (λ f. f) (fields_of fields))
    → list_all is_plain rows ≡ true
plain_rows w fields rows lt whole lines count size is all counted =
    let text : flat_map (λ f. f) (fields_of fields) ≡ flat_map line_text rows = ap (flat_map (λ f. f)) lines ∙ lines_flat rows in
    let n : count ≡ size = same count size is in
    let full = (holds_rows w (length rows) rows fields refl whole lines).full in
    let q = ap special_in text in
    all_plain w rows lt whole (omega arith)
  where
    same : (m n : ℕ) → nat_eq m n ≡ true → m ≡ n
    same m n e = grind (arith, nat_tests)

-- the text of plain records is what the writer writes
pub text_shown : (rows : List Record) → list_all is_plain rows ≡ true → csv_text rows ≡ flat_map line_text rows
text_shown [] h = refl
text_shown (r ∷ rows) h =
    let b = both (is_plain r) (list_all is_plain rows) h in
    ap (λ (x : List ℕ). x ++ csv_text rows) (plain_line r b.0) ∙ ap (λ (x : List ℕ). line_text r ++ x) (text_shown rows b.1)
