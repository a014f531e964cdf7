-- Written records are read again.
use Rattle.std.proofs.Common.{◌≡◌, ℕ, suc, Bool, true, false, ◌&&◌, ◌||◌, ◌==◌, if◌then◌else◌, List, [], ◌∷◌, ◌++◌, length, refl, sym, ap, ◌∙◌}
use Rattle.std.specs.List.{list_all, list_any}
use Rattle.std.specs.Str.{bytes_eq}
use Rattle.std.proofs.lemmas.List.{append_assoc}
use Rattle.std.proofs.lemmas.Bool.{eqb-true, ne_eqb}
use lib.Pointwise.{bytes_decides}
use Rattle.csv.specs.Machine.{next_record}
use Rattle.csv.specs.Reading.{default_config, strip_bom, is_bom, records, Reached, AreRecords}
use Rattle.csv.specs.Writing.{default_writer, row_text, read_back, needs_byte, field_text, fields_text, is_blank}
use Rattle.csv.specs.declared.parser.State.TheVariants as st
use Rattle.csv.proofs.RoundTrip.{read-write}
use Rattle.csv_tables.specs.CsvRecords.{Record, csv_records, csv_text, has_field}
use Rattle.csv_tables.specs.ReadAgain.{IsUnmarked, mark, field_behind_mark, records_behind_mark}
use Rattle.csv_tables.proofs.ReadLaws.{are_the_records, none_at_end}

both : (a b : Bool) → (a && b) ≡ true → (a ≡ true) × (b ≡ true)
both true b e = (refl, e)
both false b e = absurd cc

back_same : (r : Record) → has_field r ≡ true → read_back r ≡ r
back_same [] h = absurd cc
back_same (f ∷ fs) h = refl

-- the records of a text without a mark
text_reached : (rows : List Record) → list_all has_field rows ≡ true
    → Reached default_config st.StartRecord (csv_text rows) rows st.StartRecord []
unfolding Reached
text_reached [] h = (refl, refl)
text_reached (r ∷ rows) h =
    let b = both (has_field r) (list_all has_field rows) h in
    let e = rw (back_same r b.0) at (read-write r (csv_text rows)) in
    ((r, st.StartRecord, csv_text rows), e, refl, text_reached rows b.1)

read_plain : (rows : List Record) (text : List ℕ) → list_all has_field rows ≡ true → strip_bom text ≡ csv_text rows
    → csv_records text ≡ rows
read_plain rows text h plain =
    rw plain (sym (are_the_records (csv_text rows) rows (st.StartRecord, [], text_reached rows h, none_at_end default_config)))

pub again : (rows : List Record) → list_all has_field rows ≡ true → IsUnmarked (csv_text rows) → csv_records (csv_text rows) ≡ rows
again rows h plain = read_plain rows (csv_text rows) h plain

-- what a mark does not start
strip_one : (a : ℕ) (more : List ℕ) → (a == 0xEF) ≡ false → strip_bom (a ∷ more) ≡ a ∷ more
unfolding strip_bom
strip_one a [] e = refl
strip_one a (b ∷ []) e = refl
strip_one a (b ∷ c ∷ more) e = rw e refl

strip_two : (a b : ℕ) (more : List ℕ) → (b == 0xBB) ≡ false → strip_bom (a ∷ b ∷ more) ≡ a ∷ b ∷ more
unfolding strip_bom
strip_two a b [] e = refl
strip_two a b (c ∷ more) e = at (a == 0xEF)
  where
    at : (x : Bool) → (if x && (b == 0xBB) && (c == 0xBF) then more else a ∷ b ∷ c ∷ more) ≡ a ∷ b ∷ c ∷ more
    at true = rw e refl
    at false = refl

strip_three : (a b c : ℕ) (more : List ℕ) → (c == 0xBF) ≡ false → strip_bom (a ∷ b ∷ c ∷ more) ≡ a ∷ b ∷ c ∷ more
unfolding strip_bom
strip_three a b c more e = at (a == 0xEF) (b == 0xBB)
  where
    at : (x y : Bool) → (if x && y && (c == 0xBF) then more else a ∷ b ∷ c ∷ more) ≡ a ∷ b ∷ c ∷ more
    at true true = rw e refl
    at true false = refl
    at false y = refl

-- what follows a field is not of the mark
abbrev IsApart : ℕ → Type 0
IsApart m = ((m == 0xEF) ≡ false) × ((m == 0xBB) ≡ false) × ((m == 0xBF) ≡ false)

-- a mark stands in the first field alone
strip_field : (x : List ℕ) (m : ℕ) (more : List ℕ) → IsApart m → strip_bom (x ++ m ∷ more) ≡ strip_bom x ++ m ∷ more
unfolding strip_bom
strip_field [] m more apart = strip_one m more apart.0
strip_field (a ∷ []) m more apart = strip_two a m more apart.1
strip_field (a ∷ b ∷ []) m more apart = strip_three a b m more apart.2
strip_field (a ∷ b ∷ c ∷ x) m more apart = at (is_bom a b c)
  where
    at : (t : Bool) → (if t then x ++ m ∷ more else a ∷ b ∷ c ∷ (x ++ m ∷ more)) ≡ (if t then x else a ∷ b ∷ c ∷ x) ++ m ∷ more
    at true = refl
    at false = refl

-- a field without its mark needs no more quotes than before
or_right : (a b : Bool) → (a || b) ≡ false → b ≡ false
or_right true b e = absurd cc
or_right false b e = e

strip_needs : (p : ℕ → Bool) (x : List ℕ) → list_any p x ≡ false → list_any p (strip_bom x) ≡ false
unfolding strip_bom
strip_needs p [] e = e
strip_needs p (a ∷ []) e = e
strip_needs p (a ∷ b ∷ []) e = e
strip_needs p (a ∷ b ∷ c ∷ x) e = at (is_bom a b c)
  where
    at : (t : Bool) → list_any p (if t then x else a ∷ b ∷ c ∷ x) ≡ false
    at true = or_right (p c) _ (or_right (p b) _ (or_right (p a) _ e))
    at false = e

plain_text : (x : List ℕ) → list_any (needs_byte default_writer) x ≡ false → field_text default_writer x ≡ x
plain_text x e = rw e refl

plain_field : (x : List ℕ) → list_any (needs_byte default_writer) x ≡ false → field_behind_mark x ≡ strip_bom x
plain_field x e = rw e refl

quoted_field : (x : List ℕ) → list_any (needs_byte default_writer) x ≡ true → field_behind_mark x ≡ x
quoted_field x e = rw e refl

-- the text of a record that is not blank
row_plain : (x : List ℕ) (rest : Record) (tail : List ℕ) → is_blank default_writer (x ∷ rest) ≡ false
    → row_text default_writer (x ∷ rest) ++ tail ≡ field_text default_writer x ++ (fields_text default_writer rest ++ (10 ∷ tail))
row_plain x rest tail b = rw b (append_assoc (field_text default_writer x ++ fields_text default_writer rest) (10 ∷ []) tail
    ∙ append_assoc (field_text default_writer x) (fields_text default_writer rest) (10 ∷ tail))

-- what follows its first field
abbrev Follows : Record → List ℕ → Type 0
Follows rest tail = (m : ℕ) × (more : List ℕ) × (fields_text default_writer rest ++ (10 ∷ tail) ≡ m ∷ more) × IsApart m

follows : (rest : Record) (tail : List ℕ) → Follows rest tail
unfolding fields_text
follows [] tail = (10, tail, refl, (refl, refl, refl))
follows (y ∷ ys) tail = (44, _, refl, (refl, refl, refl))

-- where the first field needs no quotes, the mark is taken from it
strip_text : (x : List ℕ) (rest : Record) (tail : List ℕ) → list_any (needs_byte default_writer) x ≡ false
    → is_blank default_writer (x ∷ rest) ≡ false
    → is_blank default_writer (strip_bom x ∷ rest) ≡ false
    → strip_bom (row_text default_writer (x ∷ rest) ++ tail) ≡ row_text default_writer (strip_bom x ∷ rest) ++ tail
strip_text x rest tail e b c =
    let w = follows rest tail in
    let after : field_text default_writer x ++ (fields_text default_writer rest ++ (10 ∷ tail)) ≡ x ++ w.0 ∷ w.1 =
    ap (λ (t : List ℕ). t ++ (fields_text default_writer rest ++ (10 ∷ tail))) (plain_text x e) ∙ ap (λ (t : List ℕ). x ++ t) w.2 in
    let behind : field_text default_writer (strip_bom x) ++ (fields_text default_writer rest ++ (10 ∷ tail)) ≡ strip_bom x ++ w.0 ∷ w.1 =
    ap (λ (t : List ℕ). t ++ (fields_text default_writer rest ++ (10 ∷ tail)))
    (plain_text (strip_bom x) (strip_needs (needs_byte default_writer) x e))
    ∙ ap (λ (t : List ℕ). strip_bom x ++ t) w.2 in
    ap strip_bom (row_plain x rest tail b ∙ after) ∙ strip_field x w.0 w.1 w.3 ∙ sym behind ∙ sym (row_plain (strip_bom x) rest tail c)

-- a field in quotes starts with one
quoted_unmarked : (x : List ℕ) (rest : Record) (tail : List ℕ) → list_any (needs_byte default_writer) x ≡ true
    → IsUnmarked (row_text default_writer (x ∷ rest) ++ tail)
quoted_unmarked x rest tail e = rw e (strip_one 34 _ refl)

-- a field is blank where it has no byte
plain_blank : (a : ℕ) (x : List ℕ) → list_any (needs_byte default_writer) (a ∷ x) ≡ false → is_blank default_writer ((a ∷ x) ∷ []) ≡ false
unfolding is_blank
plain_blank a x e = ap (λ (t : List ℕ). length t == 0) (plain_text (a ∷ x) e) ∙ ne_eqb (suc (length x)) 0 (λ z. cc z)

-- the mark alone
same_bytes : (x y : List ℕ) → bytes_eq x y ≡ true → x ≡ y
same_bytes x y e = (bytes_decides x y).0 e

other_bytes : (x y : List ℕ) → (x ≡ y → ⊥) → bytes_eq x y ≡ false
other_bytes x y n = at (bytes_eq x y) refl
  where
    at : (b : Bool) → bytes_eq x y ≡ b → bytes_eq x y ≡ false
    at true e = absurd (n (same_bytes x y e))
    at false e = e

mark_plain : list_any (needs_byte default_writer) mark ≡ false
mark_plain = refl

quoted_is_other : (x : List ℕ) → list_any (needs_byte default_writer) x ≡ true → bytes_eq x mark ≡ false
quoted_is_other x e = other_bytes x mark (λ same. cc (sym e ∙ ap (list_any (needs_byte default_writer)) same ∙ mark_plain))

three : (a b c : ℕ) → is_bom a b c ≡ true → a ∷ b ∷ c ∷ [] ≡ mark
three a b c e =
    let p = both ((a == 0xEF) && (b == 0xBB)) (c == 0xBF) e in
    let q = both (a == 0xEF) (b == 0xBB) p.0 in
    rw (eqb-true a 0xEF q.0, eqb-true b 0xBB q.1, eqb-true c 0xBF p.1) refl

stripped_all : (a : ℕ) (x : List ℕ) → strip_bom (a ∷ x) ≡ [] → a ∷ x ≡ mark
unfolding strip_bom
stripped_all a [] e = absurd cc
stripped_all a (b ∷ []) e = absurd cc
stripped_all a (b ∷ c ∷ x) e = at (is_bom a b c) refl e
  where
    at : (t : Bool) → is_bom a b c ≡ t → (if t then x else a ∷ b ∷ c ∷ x) ≡ [] → a ∷ b ∷ c ∷ x ≡ mark
    at true is none = ap (λ (z : List ℕ). a ∷ b ∷ c ∷ z) none ∙ three a b c is
    at false is none = absurd cc

-- a blank line is no record
blank_reached : (rows : List Record) → list_all has_field rows ≡ true → AreRecords default_config st.StartRecord (10 ∷ csv_text rows) rows
unfolding Reached next_record
blank_reached [] h = (st.StartRecord, 10 ∷ [], (refl, refl), refl)
blank_reached (r ∷ rows) h =
    let w = text_reached (r ∷ rows) h in
    (st.StartRecord, [], (w.0, w.1, w.2, w.3), none_at_end default_config)

mark_line : (tail : List ℕ) → strip_bom (row_text default_writer (mark ∷ []) ++ tail) ≡ 10 ∷ tail
unfolding strip_bom is_blank fields_text
mark_line tail = refl

mark_first : (rows : List Record) → list_all has_field rows ≡ true → csv_records (csv_text ((mark ∷ []) ∷ rows)) ≡ rows
mark_first rows h =
    ap (records default_config) (mark_line (csv_text rows)) ∙ sym (are_the_records (10 ∷ csv_text rows) rows (blank_reached rows h))

-- one field, which is not the mark alone and needs no quotes
one_field : (x : List ℕ) (rows : List Record) → list_all has_field rows ≡ true → list_any (needs_byte default_writer) x ≡ false
    → bytes_eq x mark ≡ false
    → csv_records (csv_text ((x ∷ []) ∷ rows)) ≡ (strip_bom x ∷ []) ∷ rows
unfolding strip_bom is_blank fields_text
one_field [] rows h e other = read_plain (([] ∷ []) ∷ rows) (csv_text (([] ∷ []) ∷ rows)) h (strip_one 34 _ refl)
one_field (a ∷ x) rows h e other = at (strip_bom (a ∷ x)) refl
  where
    at : (z : List ℕ) → strip_bom (a ∷ x) ≡ z → csv_records (csv_text (((a ∷ x) ∷ []) ∷ rows)) ≡ (strip_bom (a ∷ x) ∷ []) ∷ rows
    at [] none = absurd (cc (sym other ∙ (bytes_decides (a ∷ x) mark).1 (stripped_all a x none)))
    at (b ∷ z) some =
        let plain = strip_needs (needs_byte default_writer) (a ∷ x) e in
        let blank : is_blank default_writer (strip_bom (a ∷ x) ∷ []) ≡ false =
        ap (λ (t : List ℕ). is_blank default_writer (t ∷ [])) some
        ∙ plain_blank b z (ap (list_any (needs_byte default_writer)) (sym some) ∙ plain) in
        read_plain ((strip_bom (a ∷ x) ∷ []) ∷ rows) (csv_text (((a ∷ x) ∷ []) ∷ rows)) h
        (strip_text (a ∷ x) [] (csv_text rows) e (plain_blank a x e) blank)

many_fields : (x y : List ℕ) (ys : Record) (rows : List Record) → list_all has_field rows ≡ true
    → list_any (needs_byte default_writer) x ≡ false
    → csv_records (csv_text ((x ∷ y ∷ ys) ∷ rows)) ≡ (strip_bom x ∷ y ∷ ys) ∷ rows
unfolding is_blank
many_fields x y ys rows h e =
    read_plain ((strip_bom x ∷ y ∷ ys) ∷ rows) (csv_text ((x ∷ y ∷ ys) ∷ rows)) h (strip_text x (y ∷ ys) (csv_text rows) e refl refl)

-- a mark is taken from the first record
pub marked : (rows : List Record) → list_all has_field rows ≡ true → csv_records (csv_text rows) ≡ records_behind_mark rows
unfolding strip_bom
marked [] h = again [] refl refl
marked ([] ∷ rows) h = absurd cc
marked ((x ∷ []) ∷ rows) h = at (list_any (needs_byte default_writer) x) (bytes_eq x mark) refl refl
  where
    at : (q m : Bool) → list_any (needs_byte default_writer) x ≡ q → bytes_eq x mark ≡ m
        → csv_records (csv_text ((x ∷ []) ∷ rows)) ≡ records_behind_mark ((x ∷ []) ∷ rows)
    at true m e s =
        again ((x ∷ []) ∷ rows) h (quoted_unmarked x [] (csv_text rows) e)
        ∙ ap (λ (f : List ℕ). (f ∷ []) ∷ rows) (sym (quoted_field x e))
        ∙ sym (ap (λ (b : Bool). if b then rows else (field_behind_mark x ∷ []) ∷ rows) (quoted_is_other x e))
    at false true e s =
        ap (λ (f : List ℕ). csv_records (csv_text ((f ∷ []) ∷ rows))) (same_bytes x mark s) ∙ mark_first rows h
        ∙ sym (ap (λ (b : Bool). if b then rows else (field_behind_mark x ∷ []) ∷ rows) s)
    at false false e s =
        one_field x rows h e s
        ∙ ap (λ (f : List ℕ). (f ∷ []) ∷ rows) (sym (plain_field x e))
        ∙ sym (ap (λ (b : Bool). if b then rows else (field_behind_mark x ∷ []) ∷ rows) s)
marked ((x ∷ y ∷ ys) ∷ rows) h = at (list_any (needs_byte default_writer) x) refl
  where
    at : (q : Bool) → list_any (needs_byte default_writer) x ≡ q
        → csv_records (csv_text ((x ∷ y ∷ ys) ∷ rows)) ≡ (field_behind_mark x ∷ y ∷ ys) ∷ rows
    at true e =
        again ((x ∷ y ∷ ys) ∷ rows) h (quoted_unmarked x (y ∷ ys) (csv_text rows) e)
        ∙ ap (λ (f : List ℕ). (f ∷ y ∷ ys) ∷ rows) (sym (quoted_field x e))
    at false e = many_fields x y ys rows h e ∙ ap (λ (f : List ℕ). (f ∷ y ∷ ys) ∷ rows) (sym (plain_field x e))
