-- Records taken in one after the other.
use Rattle.std.proofs.Common.{◌≡◌, ℕ, zero, suc, ◌+◌, ◌*◌, ◌<◌, ◌≤◌, Bool, true, false, not, ◌&&◌, nat_eq, nat_le, nat_lt, List, [], ◌∷◌, ◌++◌, length, take, drop, Option, Some, None, is_some, Contains, refl, ap, sym, ◌∙◌, subst, arith}
use Rattle.std.specs.List.{list_all, flat_map}
use Rattle.std.proofs.lemmas.Bool.Decides.{nat_tests}
use Rattle.std.proofs.lemmas.List.{take-append-le, drop-append-le, take_all, length-drop, length-append}
use Rattle.std.proofs.lemmas.List.Elements.{Contains-append_left, Contains-append_right, Contains-push}
use native.Mathlib.Nat.{suc-mul}
use Rattle.csv.specs.Records.{fields_of, partial_of}
use Rattle.std.specs.Str.{is_utf8}
use Rattle.csv_tables.specs.declared.content.Draft.{Draft}
use Rattle.csv.specs.declared.record.ByteRecord.{ByteRecord}
use Rattle.med_value.specs.declared.cause.Cause.{Cause}
use Rattle.med_value.specs.declared.cause.Cause.TheVariants.{InvalidFormat, InvalidText, TooLarge}
use Rattle.csv_tables.specs.Cells.{is_readable}
use Rattle.csv_tables.specs.CsvRecords.{Record, csv_records, is_whole, body, heading}
use Rattle.csv_tables.specs.Shapes.{Shape, unless, content_causes, all_whole, all_readable}
use Rattle.csv_tables.specs.Content.{IsDraft, reads, rows_so_far, records_so_far}
use Rattle.csv_tables.specs.Flat.{cut_into, header_in}
use Rattle.csv_tables.specs.Held.{held_of, ended}
use Rattle.csv_tables.proofs.Holding.{held_grown, ended_more}

no_fields : (fs : Record) → length fs ≡ 0 → fs ≡ []
no_fields [] e = refl
no_fields (f ∷ fs) e = absurd (omega arith)

-- one more record behind the others
pub cut_push : (n w : ℕ) (fs r : Record) → n * w ≡ length fs → length r ≡ w → cut_into (n + 1) w (fs ++ r) ≡ cut_into n w fs ++ r ∷ []
cut_push zero w fs r full len =
    let z : zero * w ≡ 0 = omega arith in
    let e : fs ≡ [] = no_fields fs (omega arith) in
    ap (λ (l : Record). take w (l ++ r) ∷ []) e ∙ ap (λ (l : Record). l ∷ []) (take_all w r (omega arith))
cut_push (suc n) w fs r full len =
    let m : suc n * w ≡ n * w + w = suc-mul n w in
    let le : w ≤ length fs = omega arith in
    let d = length-drop w fs in
    let p : suc n + 1 ≡ suc (n + 1) = omega arith in
    ap (λ (k : ℕ). cut_into k w (fs ++ r)) p
    ∙ ap (λ (l : Record). l ∷ cut_into (n + 1) w (drop w (fs ++ r))) (take-append-le w fs r le)
    ∙ ap (λ (l : Record). take w fs ∷ cut_into (n + 1) w l) (drop-append-le w fs r le)
    ∙ ap (λ (l : List Record). take w fs ∷ l) (cut_push n w (drop w fs) r (omega arith) len)

pub full_push : (n w : ℕ) (fs r : Record) → n * w ≡ length fs → length r ≡ w → (n + 1) * w ≡ length (fs ++ r)
full_push n w fs r full len =
    let p : n + 1 ≡ suc n = omega arith in
    let m : suc n * w ≡ n * w + w = suc-mul n w in
    let a = length-append fs r in
    ap (λ (k : ℕ). k * w) p ∙ (omega arith)

all_at : (p : Record → Bool) (before : List Record) (r : Record) (more : List Record) → p r ≡ false → list_all p (before ++ r ∷ more) ≡ false
all_at p [] r more e = rw e refl
all_at p (b ∷ bs) r more e = at (p b) (list_all p (bs ++ r ∷ more)) (all_at p bs r more e)
  where
    at : (b x : Bool) → x ≡ false → (b && x) ≡ false
    at true x h = h
    at false x h = refl

pub all_push : (p : Record → Bool) (before : List Record) (r : Record) → list_all p before ≡ true → p r ≡ true → list_all p (before ++ r ∷ []) ≡ true
all_push p [] r h e = rw e refl
all_push p (b ∷ bs) r h e = at (p b) (list_all p bs) (list_all p (bs ++ r ∷ [])) (λ g. all_push p bs r g e) h
  where
    at : (b x y : Bool) → (x ≡ true → y ≡ true) → (b && x) ≡ true → (b && y) ≡ true
    at true x y f g = f g
    at false x y f g = g

first : (c : Cause) (rest : List Cause) → Contains (c ∷ rest) c
first c rest = Contains-append_left (c ∷ []) rest c (Contains-push [] c)

pub under : (a : Bool) (x c : Cause) (rest : List Cause) → Contains rest c → Contains (unless a x rest) c
under true x c rest h = h
under false x c rest h = Contains-append_right (x ∷ []) rest c h

pub told : (a : Bool) (c : Cause) (rest : List Cause) → a ≡ false → Contains (unless a c rest) c
told a c rest e = subst (λ (b : Bool). Contains (unless b c rest) c) (sym e) (first c rest)

and_false : (a b : Bool) → b ≡ false → (a && b) ≡ false
and_false true b e = e
and_false false b e = refl

-- a record that is not whole
pub tells_format : (shape : Shape) (bytes : List ℕ) (before : List Record) (r : Record) (more : List Record) → csv_records bytes ≡ before ++ r ∷ more → is_whole (length shape.kinds) r ≡ false → Contains (content_causes shape bytes) InvalidFormat
tells_format shape bytes before r more is bad =
    let e : all_whole shape bytes ≡ false = and_false (nat_lt 0 (length shape.kinds)) _ (ap (list_all (is_whole (length shape.kinds))) is ∙ all_at (is_whole (length shape.kinds)) before r more bad) in
    under (nat_le (length bytes) 67108864) TooLarge InvalidFormat _ (told (all_whole shape bytes) InvalidFormat _ e)

-- the rows behind the header
pub body_behind : (header : Bool) (dh : Option ByteRecord) (rows : List Record) (tail : List Record) → (header && not (is_some dh)) ≡ false → (header ≡ false → header_in dh ≡ []) → body header ((header_in dh ++ rows) ++ tail) ≡ rows ++ tail
body_behind true None rows tail e h = absurd cc
body_behind true (Some x) rows tail e h = refl
body_behind false None rows tail e h = refl
body_behind false (Some x) rows tail e h = absurd (let z = h refl in cc)

reads_not : (shape : Shape) (r : Record) → is_whole (length shape.kinds) r ≡ true → is_readable shape.null shape.kinds r ≡ false → reads shape r ≡ false
reads_not shape r w e = rw (w, e) refl

pub reads_whole : (shape : Shape) (r : Record) → is_whole (length shape.kinds) r ≡ true → is_readable shape.null shape.kinds r ≡ true → reads shape r ≡ true
reads_whole shape r w e = rw (w, e) refl

-- a row with a cell that is not of its column's type
pub tells_text : (shape : Shape) (bytes : List ℕ) (dh : Option ByteRecord) (rows : List Record) (r : Record) (more : List Record) → csv_records bytes ≡ (header_in dh ++ rows) ++ r ∷ more → (shape.header && not (is_some dh)) ≡ false → (shape.header ≡ false → header_in dh ≡ []) → is_whole (length shape.kinds) r ≡ true → is_readable shape.null shape.kinds r ≡ false → Contains (content_causes shape bytes) InvalidText
tells_text shape bytes dh rows r more is flag none w bad =
    let e : all_readable shape bytes ≡ false = ap (λ (l : List Record). list_all (reads shape) (body shape.header l)) is ∙ ap (list_all (reads shape)) (body_behind shape.header dh rows (r ∷ more) flag none) ∙ all_at (reads shape) rows r more (reads_not shape r w bad) in
    under (nat_le (length bytes) 67108864) TooLarge InvalidText _ (under (all_whole shape bytes) InvalidFormat InvalidText _ (told (all_readable shape bytes) InvalidText _ e))

-- too many rows
pub tells_rows : (shape : Shape) (bytes : List ℕ) (dh : Option ByteRecord) (rows : List Record) (r : Record) (more : List Record) → csv_records bytes ≡ (header_in dh ++ rows) ++ r ∷ more → (shape.header && not (is_some dh)) ≡ false → (shape.header ≡ false → header_in dh ≡ []) → length rows ≡ 1000000 → Contains (content_causes shape bytes) TooLarge
tells_rows shape bytes dh rows r more is flag none many =
    let l : length (body shape.header (csv_records bytes)) ≡ length (rows ++ r ∷ more) = ap (λ (l : List Record). length (body shape.header l)) is ∙ ap length (body_behind shape.header dh rows (r ∷ more) flag none) in
    let a = length-append rows (r ∷ more) in
    let b : length (r ∷ more) ≡ suc (length more) = refl in
    let e : nat_le (length (body shape.header (csv_records bytes))) 1000000 ≡ false = not_le _ (omega arith) in
    under (nat_le (length bytes) 67108864) TooLarge TooLarge _ (under (all_whole shape bytes) InvalidFormat TooLarge _ (under (all_readable shape bytes) InvalidText TooLarge _ (told _ TooLarge [] e)))
  where
    not_le : (n : ℕ) → 1000000 < n → nat_le n 1000000 ≡ false
    not_le n lt = grind (arith, nat_tests)

-- for what was read whole no cause stands
pub no_causes : (shape : Shape) (bytes : List ℕ) (dh : Option ByteRecord) (rows : List Record) → csv_records bytes ≡ header_in dh ++ rows → length bytes ≤ 67108864 → 0 < length shape.kinds → (shape.header ≡ false → header_in dh ≡ []) → (shape.header ≡ true → header_in dh ≡ [] → rows ≡ [])
    → list_all (is_whole (length shape.kinds)) (header_in dh ++ rows) ≡ true → list_all (reads shape) rows ≡ true → length rows ≤ 1000000 → (content_causes shape bytes ≡ []) × (body shape.header (csv_records bytes) ≡ rows)
no_causes shape bytes dh rows is small columns none first_header whole readable few =
    let b : body shape.header (csv_records bytes) ≡ rows = ap (body shape.header) is ∙ behind shape.header dh none first_header in
    let w : all_whole shape bytes ≡ true = rw (true_lt 0 (length shape.kinds) columns) (ap (list_all (is_whole (length shape.kinds))) is ∙ whole) in
    let r : all_readable shape bytes ≡ true = ap (list_all (reads shape)) b ∙ readable in
    let s : nat_le (length bytes) 67108864 ≡ true = true_le (length bytes) 67108864 small in
    let f : nat_le (length (body shape.header (csv_records bytes))) 1000000 ≡ true = ap (λ (l : List Record). nat_le (length l) 1000000) b ∙ true_le (length rows) 1000000 few in
    (clear (nat_le (length bytes) 67108864) (all_whole shape bytes) (all_readable shape bytes) (nat_le (length (body shape.header (csv_records bytes))) 1000000) s w r f, b)
  where
    true_lt : (m n : ℕ) → m < n → nat_lt m n ≡ true
    true_lt m n lt = grind (arith, nat_tests)

    true_le : (m n : ℕ) → m ≤ n → nat_le m n ≡ true
    true_le m n le = grind (arith, nat_tests)

    clear : (a b c d : Bool) → a ≡ true → b ≡ true → c ≡ true → d ≡ true → unless a TooLarge (unless b InvalidFormat (unless c InvalidText (unless d TooLarge []))) ≡ []
    clear a b c d ea eb ec ed = rw (ea, eb, ec, ed) refl

    behind : (header : Bool) (dh : Option ByteRecord) → (header ≡ false → header_in dh ≡ []) → (header ≡ true → header_in dh ≡ [] → rows ≡ []) → body header (header_in dh ++ rows) ≡ rows
    behind true None h g = let e = g refl refl in ap (drop 1) e ∙ sym e
    behind true (Some x) h g = refl
    behind false None h g = refl
    behind false (Some x) h g = absurd (let z = h refl in cc)

abbrev Awaits : Shape → Draft → Bool
Awaits shape d = shape.header && not (is_some d.header)

not_first : (shape : Shape) (d : Draft) → Awaits shape d ≡ false → shape.header ≡ true → header_in d.header ≡ [] → ⊥
not_first shape d flag h e = at shape.header d.header flag h e
  where
    at : (b : Bool) (o : Option ByteRecord) → (b && not (is_some o)) ≡ false → b ≡ true → header_in o ≡ [] → ⊥
    at true None f h e = absurd cc
    at true (Some x) f h e = absurd cc
    at false o f h e = absurd cc

joined : (xs ys : List Record) (r : Record) → xs ++ (ys ++ r ∷ []) ≡ (xs ++ ys) ++ r ∷ []
joined [] ys r = refl
joined (x ∷ xs) ys r = ap (λ (l : List Record). x ∷ l) (joined xs ys r)

-- a row that is taken in
pub row_drafted : (shape : Shape) (d e : Draft) (f : Record) → IsDraft shape d → e.header ≡ d.header → fields_of e.fields ≡ fields_of d.fields ++ ended f → partial_of e.fields ≡ [] → e.count ≡ d.count + 1 → d.count < 1000000 → Awaits shape d ≡ false → is_whole (length shape.kinds) f ≡ true → is_readable shape.null shape.kinds f ≡ true
    → IsDraft shape e × (records_so_far shape e ≡ records_so_far shape d ++ f ∷ [])
row_drafted shape d e f was eh lines ep ec few flag whole readable =
    let ef = held_grown d.fields e.fields f lines in
    let len = width_of (length shape.kinds) f whole in
    let rows : rows_so_far shape e ≡ rows_so_far shape d ++ f ∷ [] =
    ap (λ (n : ℕ). cut_into n (length shape.kinds) (held_of e.fields)) ec ∙ ap (cut_into (d.count + 1) (length shape.kinds)) ef ∙ cut_push d.count (length shape.kinds) (held_of d.fields) f was.full len in
    let all : records_so_far shape e ≡ records_so_far shape d ++ f ∷ [] =
    ap (λ (l : List Record). header_in e.header ++ l) rows ∙ ap (λ (o : Option ByteRecord). header_in o ++ (rows_so_far shape d ++ f ∷ [])) eh ∙ joined (header_in d.header) (rows_so_far shape d) f in (
      record {
        columns = was.columns;
        full = ap (λ (n : ℕ). n * length shape.kinds) ec ∙ full_push d.count (length shape.kinds) (held_of d.fields) f was.full len ∙ sym (ap length ef);
        no_partial = ep;
        lines = lines ∙ ap (λ (l : Record). l ++ ended f) was.lines ∙ sym (ended_more (rows_so_far shape d) f) ∙ ap (flat_map ended) (sym rows);
        few = omega arith;
        no_header = λ h. ap header_in eh ∙ was.no_header h;
        header_first = λ h z. absurd (not_first shape d flag h (sym (ap header_in eh) ∙ z));
        whole = ap (list_all (is_whole (length shape.kinds))) all ∙ all_push (is_whole (length shape.kinds)) (records_so_far shape d) f was.whole whole;
        readable = ap (list_all (reads shape)) rows ∙ all_push (reads shape) (rows_so_far shape d) f was.readable (reads_whole shape f whole readable);
      },
      all,
    )
  where
    width_of : (w : ℕ) (r : Record) → is_whole w r ≡ true → length r ≡ w
    width_of w r h = at (nat_eq (length r) w) refl h
      where
        at : (b : Bool) → nat_eq (length r) w ≡ b → (b && list_all is_utf8 r) ≡ true → length r ≡ w
        at true q h = grind (arith, nat_tests)
        at false q h = absurd cc

-- the header of an image, of a blob with these records
pub heading_some : (h : Bool) (names : Record) (rows : List Record) (r : Record) (more : List Record) → not h ≡ false → rows ≡ r ∷ more → r ∷ [] ≡ heading h names rows
heading_some true names rows r more e is = sym (ap (heading true names) is)
heading_some false names rows r more e is = absurd cc

pub heading_none : (h : Bool) (names x : Record) (rows : List Record) → not h ≡ false → rows ≡ [] → x ≡ names → x ∷ [] ≡ heading h names rows
heading_none true names x rows e is same = ap (λ (n : Record). n ∷ []) same ∙ sym (ap (heading true names) is)
heading_none false names x rows e is same = absurd cc

pub heading_first : (h : Bool) (names : Record) (dh : Option ByteRecord) (rows all : List Record) → (h ≡ false → header_in dh ≡ []) → (h ≡ true → header_in dh ≡ [] → rows ≡ []) → all ≡ header_in dh ++ rows → heading h names all ≡ heading h names (header_in dh)
heading_first true names None rows all f g is = ap (heading true names) (is ∙ g refl refl)
heading_first true names (Some x) rows all f g is = ap (heading true names) is
heading_first false names dh rows all f g is = refl
