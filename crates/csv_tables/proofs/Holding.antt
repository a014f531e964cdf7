-- Records in a text in which each field has one byte behind it.
use Rattle.std.proofs.Common.{◌≡◌, ℕ, zero, suc, ◌+◌, ◌*◌, ◌-◌, ◌≤◌, Bool, true, false, ◌&&◌, nat_eq, List, [], ◌∷◌, ◌++◌, length, map, take, drop, Some, None, refl, ap, sym, ◌∙◌, arith}
use Rattle.std.specs.List.{list_all, flat_map}
use Rattle.std.specs.Str.{is_utf8}
use Rattle.std.proofs.lemmas.Bool.Decides.{nat_tests}
use Rattle.std.proofs.lemmas.List.{append-nil, append_assoc, map-append, length-append, length-map, length-drop, take_all, length_push, take_at, drop_at, flat_map_more}
use native.Mathlib.Nat.{suc-mul}
use Rattle.csv.specs.Records.{Row, field_at, fields_of}
use Rattle.csv_tables.specs.declared.table.Rows.{Rows}
use Rattle.csv_tables.specs.CsvRecords.{Record, is_whole}
use Rattle.csv_tables.specs.Held.{but_last, held_of, end_of, ended}
use Rattle.csv_tables.specs.Flat.{cut_into}
use Rattle.csv_tables.specs.Tables.{records_of}
use Rattle.csv_tables.proofs.FieldSteps.{field_next, field_end, field_less}
use Rattle.csv_tables.proofs.Flat.{texts_take, texts_drop, texts_append}

both : (a b : Bool) → (a && b) ≡ true → (a ≡ true) × (b ≡ true)
both true b e = (refl, e)
both false b e = absurd cc

but_last_push : (f : List ℕ) (b : ℕ) → but_last (f ++ b ∷ []) ≡ f
but_last_push f b =
    let l = length_push f b in
    let n : length f ≡ length (f ++ b ∷ []) - 1 = omega arith in
    take_at f (b ∷ []) _ n

pub held_ended : (r : Record) → map but_last (ended r) ≡ r
held_ended [] = refl
held_ended (f ∷ []) = ap (λ (x : List ℕ). x ∷ []) (but_last_push f 10)
held_ended (f ∷ g ∷ fs) = ap (λ (x : List ℕ). x ∷ map but_last (ended (g ∷ fs))) (but_last_push f 44) ∙ ap (λ (l : Record). f ∷ l) (held_ended (g ∷ fs))

-- one more record
pub held_grown : (a b : Row) (r : Record) → fields_of b ≡ fields_of a ++ ended r → held_of b ≡ held_of a ++ r
held_grown a b r e = ap (map but_last) e ∙ map-append but_last (fields_of a) (ended r) ∙ ap (λ (l : Record). map but_last (fields_of a) ++ l) (held_ended r)

pub ended_more : (rows : List Record) (r : Record) → flat_map ended (rows ++ r ∷ []) ≡ flat_map ended rows ++ ended r
ended_more rows r = sym (flat_map_more ended [] rows r)

pub ended_both : (xs ys : List Record) → flat_map ended (xs ++ ys) ≡ flat_map ended xs ++ flat_map ended ys
ended_both [] ys = refl
ended_both (x ∷ xs) ys = ap (λ (l : Record). ended x ++ l) (ended_both xs ys) ∙ sym (append_assoc (ended x) (flat_map ended xs) (flat_map ended ys))

pub length_ended : (r : Record) → length (ended r) ≡ length r
length_ended [] = refl
length_ended (f ∷ []) = refl
length_ended (f ∷ g ∷ fs) = ap suc (length_ended (g ∷ fs))

-- going over the fields of a record
ended_first : (f : List ℕ) (rest : Record) (b : Bool) → b ≡ nat_eq (length rest) 0 → ended (f ∷ rest) ≡ (f ++ end_of b ∷ []) ∷ ended rest
ended_first f [] b e = rw e refl
ended_first f (g ∷ gs) b e = rw (e ∙ above (length gs)) refl
  where
    above : (n : ℕ) → nat_eq (suc n) 0 ≡ false
    above n = grind (arith, nat_tests)

pub end_pushed : (fs xs ys all : Record) (i : ℕ) (f : List ℕ) (b : Bool) → field_at fs i ≡ Some f → b ≡ nat_eq (i + 1) (length fs) → xs ++ ended (drop i fs) ≡ all
    → ys ≡ xs ++ (f ++ end_of b ∷ []) ∷ [] → ys ++ ended (drop (i + 1) fs) ≡ all
end_pushed fs xs ys all i f b e is inv more =
    let lt = field_less fs i f e in
    let d = length-drop (i + 1) fs in
    let left : b ≡ nat_eq (length (drop (i + 1) fs)) 0 = is ∙ same (i + 1) (length fs) (length (drop (i + 1) fs)) (omega arith) (omega arith) in
    let first = ap ended (field_next fs i f e) ∙ ended_first f (drop (i + 1) fs) b left in
    ap (λ (l : Record). l ++ ended (drop (i + 1) fs)) more ∙ append_assoc xs ((f ++ end_of b ∷ []) ∷ []) (ended (drop (i + 1) fs))
    ∙ ap (λ (l : Record). xs ++ l) (sym first) ∙ inv
  where
    same : (a n d : ℕ) → a ≤ n → d + a ≡ n → nat_eq a n ≡ nat_eq d 0
    same a n d le e = grind (arith, nat_tests)

pub ends_pushed : (fs xs all : Record) (i : ℕ) → field_at fs i ≡ None → xs ++ ended (drop i fs) ≡ all → xs ≡ all
ends_pushed fs xs all i e inv = sym (ap (λ (l : Record). xs ++ ended l) (field_end fs i e) ∙ append-nil xs) ∙ inv

-- records as wide as each other: those from a place on, and those up to one
take_past : {X : Type 0} (xs ys : List X) (k : ℕ) → take (length xs + k) (xs ++ ys) ≡ xs ++ take k ys
take_past [] ys k = let e : 0 + k ≡ k = omega arith in ap (λ (n : ℕ). take n ys) e
take_past {X} (x ∷ xs) ys k =
    let e : length (x ∷ xs) + k ≡ suc (length xs + k) = omega arith in
    ap (λ (n : ℕ). take n ((x ∷ xs) ++ ys)) e ∙ ap (λ (l : List X). x ∷ l) (take_past xs ys k)

drop_past : {X : Type 0} (xs ys : List X) (k : ℕ) → drop (length xs + k) (xs ++ ys) ≡ drop k ys
drop_past [] ys k = let e : 0 + k ≡ k = omega arith in ap (λ (n : ℕ). drop n ys) e
drop_past (x ∷ xs) ys k =
    let e : length (x ∷ xs) + k ≡ suc (length xs + k) = omega arith in
    ap (λ (n : ℕ). drop n ((x ∷ xs) ++ ys)) e ∙ drop_past xs ys k

take_none : {X : Type 0} (n : ℕ) → take {A = X} n [] ≡ []
take_none zero = refl
take_none (suc n) = refl

drop_none : {X : Type 0} (n : ℕ) → drop {A = X} n [] ≡ []
drop_none zero = refl
drop_none (suc n) = refl

wide : (w : ℕ) (r : Record) → is_whole w r ≡ true → length (ended r) ≡ w
wide w r h = length_ended r ∙ equal (length r) w (both (nat_eq (length r) w) (list_all is_utf8 r) h).0
  where
    equal : (m n : ℕ) → nat_eq m n ≡ true → m ≡ n
    equal m n e = grind (arith, nat_tests)

pub take_lines : (w n : ℕ) (rs : List Record) → list_all (is_whole w) rs ≡ true → take (n * w) (flat_map ended rs) ≡ flat_map ended (take n rs)
take_lines w zero rs h = let z : zero * w ≡ 0 = omega arith in ap (λ (k : ℕ). take k (flat_map ended rs)) z
take_lines w (suc n) [] h = take_none (suc n * w)
take_lines w (suc n) (r ∷ rs) h =
    let b = both (is_whole w r) (list_all (is_whole w) rs) h in
    let l = wide w r b.0 in
    let m : suc n * w ≡ n * w + w = suc-mul n w in
    let e : suc n * w ≡ length (ended r) + n * w = omega arith in
    ap (λ (k : ℕ). take k (ended r ++ flat_map ended rs)) e ∙ take_past (ended r) (flat_map ended rs) (n * w) ∙ ap (λ (x : Record). ended r ++ x) (take_lines w n rs b.1)

pub drop_lines : (w n : ℕ) (rs : List Record) → list_all (is_whole w) rs ≡ true → drop (n * w) (flat_map ended rs) ≡ flat_map ended (drop n rs)
drop_lines w zero rs h = let z : zero * w ≡ 0 = omega arith in ap (λ (k : ℕ). drop k (flat_map ended rs)) z
drop_lines w (suc n) [] h = drop_none (suc n * w)
drop_lines w (suc n) (r ∷ rs) h =
    let b = both (is_whole w r) (list_all (is_whole w) rs) h in
    let l = wide w r b.0 in
    let m : suc n * w ≡ n * w + w = suc-mul n w in
    let e : suc n * w ≡ length (ended r) + n * w = omega arith in
    ap (λ (k : ℕ). drop k (ended r ++ flat_map ended rs)) e ∙ drop_past (ended r) (flat_map ended rs) (n * w) ∙ drop_lines w n rs b.1

pub whole_drop : (w n : ℕ) (rs : List Record) → list_all (is_whole w) rs ≡ true → list_all (is_whole w) (drop n rs) ≡ true
whole_drop w zero rs h = h
whole_drop w (suc n) [] h = refl
whole_drop w (suc n) (r ∷ rs) h = whole_drop w n rs (both (is_whole w r) (list_all (is_whole w) rs) h).1

pub whole_take : (w n : ℕ) (rs : List Record) → list_all (is_whole w) rs ≡ true → list_all (is_whole w) (take n rs) ≡ true
whole_take w zero rs h = refl
whole_take w (suc n) [] h = refl
whole_take w (suc n) (r ∷ rs) h = let b = both (is_whole w r) (list_all (is_whole w) rs) h in rw b.0 (whole_take w n rs b.1)

pub whole_both : (w : ℕ) (xs ys : List Record) → list_all (is_whole w) xs ≡ true → list_all (is_whole w) ys ≡ true → list_all (is_whole w) (xs ++ ys) ≡ true
whole_both w [] ys h g = g
whole_both w (x ∷ xs) ys h g = let b = both (is_whole w x) (list_all (is_whole w) xs) h in rw b.0 (whole_both w xs ys b.1 g)

product : (a d w : ℕ) → (a + d) * w ≡ a * w + d * w
product zero d w = let z : zero * w ≡ 0 = omega arith in let e : zero + d ≡ d = omega arith in ap (λ (k : ℕ). k * w) e ∙ (omega arith)
product (suc a) d w =
    let e : suc a + d ≡ suc (a + d) = omega arith in
    let m : suc (a + d) * w ≡ (a + d) * w + w = suc-mul (a + d) w in
    let n : suc a * w ≡ a * w + w = suc-mul a w in
    let p = product a d w in
    ap (λ (k : ℕ). k * w) e ∙ (omega arith)

pub range_lines : (w from to : ℕ) (rs : List Record) → list_all (is_whole w) rs ≡ true → from ≤ to
    → take (to * w - from * w) (drop (from * w) (flat_map ended rs)) ≡ flat_map ended (take (to - from) (drop from rs))
range_lines w from to rs h le =
    let p = product from (to - from) w in
    let t : from + (to - from) ≡ to = omega arith in
    let q : (from + (to - from)) * w ≡ to * w = ap (λ (k : ℕ). k * w) t in
    let e : to * w - from * w ≡ (to - from) * w = omega arith in
    ap (λ (k : ℕ). take k (drop (from * w) (flat_map ended rs))) e ∙ ap (take ((to - from) * w)) (drop_lines w from rs h)
    ∙ take_lines w (to - from) (drop from rs) (whole_drop w from rs h)

-- the records of a table
whole_cut : (n w : ℕ) (fs : Record) → n * w ≡ length fs → list_all is_utf8 fs ≡ true → list_all (is_whole w) (cut_into n w fs) ≡ true
whole_cut zero w fs full h = refl
whole_cut (suc n) w fs full h =
    let m : suc n * w ≡ n * w + w = suc-mul n w in
    let d = length-drop w fs in
    let l = length_taken w fs (omega arith) in
    let rest = whole_cut n w (drop w fs) (omega arith) (texts_drop w fs h) in
    rw (same (length (take w fs)) w l, texts_take w fs h) rest
  where
    same : (a b : ℕ) → a ≡ b → nat_eq a b ≡ true
    same a b e = grind (arith, nat_tests)

    length_taken : (k : ℕ) (l : Record) → k ≤ length l → length (take k l) ≡ k
    length_taken zero l le = refl
    length_taken (suc k) [] le = absurd (omega arith)
    length_taken (suc k) (x ∷ l) le = ap suc (length_taken k l (omega arith))

pub rows_whole : (r : Rows) → list_all (is_whole r.width) (records_of r) ≡ true
rows_whole r = whole_cut r.count r.width (held_of r.fields) r.whole r.texts

pub rows_range : (r : Rows) (from to : ℕ) → from ≤ to
    → take (to * r.width - from * r.width) (drop (from * r.width) (fields_of r.fields)) ≡ flat_map ended (take (to - from) (drop from (records_of r)))
rows_range r from to le =
    ap (λ (l : Record). take (to * r.width - from * r.width) (drop (from * r.width) l)) r.lines ∙ range_lines r.width from to (records_of r) (rows_whole r) le

-- all fields of a text
pub text_all : (r : Row) (size : ℕ) → size ≡ length (held_of r) → flat_map (λ f. f) (take (size - 0) (drop 0 (fields_of r))) ≡ flat_map (λ f. f) (fields_of r)
text_all r size e =
    let n = length-map (fields_of r) but_last in
    ap (flat_map (λ f. f)) (take_all (size - 0) (fields_of r) (omega arith))

-- records that stand in a text one after the other are held by it
held_flat : (rs : List Record) → map but_last (flat_map ended rs) ≡ flat_map (λ r. r) rs
held_flat [] = refl
held_flat (r ∷ rs) = map-append but_last (ended r) (flat_map ended rs) ∙ ap (λ (l : Record). l ++ map but_last (flat_map ended rs)) (held_ended r) ∙ ap (λ (l : Record). r ++ l) (held_flat rs)

pub width_is : (w : ℕ) (r : Record) → is_whole w r ≡ true → length r ≡ w
width_is w r h = sym (length_ended r) ∙ wide w r h

flat_size : (w : ℕ) (rs : List Record) → list_all (is_whole w) rs ≡ true → length rs * w ≡ length (flat_map (λ r. r) rs)
flat_size w [] h = omega arith
flat_size w (r ∷ rs) h =
    let b = both (is_whole w r) (list_all (is_whole w) rs) h in
    let l = width_is w r b.0 in
    let m : suc (length rs) * w ≡ length rs * w + w = suc-mul (length rs) w in
    let a = length-append r (flat_map (λ (x : Record). x) rs) in
    let i = flat_size w rs b.1 in
    m ∙ (omega arith)

flat_cut : (w : ℕ) (rs : List Record) → list_all (is_whole w) rs ≡ true → cut_into (length rs) w (flat_map (λ r. r) rs) ≡ rs
flat_cut w [] h = refl
flat_cut w (r ∷ rs) h =
    let b = both (is_whole w r) (list_all (is_whole w) rs) h in
    let l = width_is w r b.0 in
    ap (λ (x : Record). x ∷ cut_into (length rs) w (drop w (r ++ flat_map (λ r. r) rs))) (take_at r (flat_map (λ r. r) rs) w l)
    ∙ ap (λ (x : Record). r ∷ cut_into (length rs) w x) (drop_at r (flat_map (λ r. r) rs) w l)
    ∙ ap (λ (x : List Record). r ∷ x) (flat_cut w rs b.1)

flat_texts : (w : ℕ) (rs : List Record) → list_all (is_whole w) rs ≡ true → list_all is_utf8 (flat_map (λ r. r) rs) ≡ true
flat_texts w [] h = refl
flat_texts w (r ∷ rs) h =
    let b = both (is_whole w r) (list_all (is_whole w) rs) h in
    texts_append r (flat_map (λ r. r) rs) (both (nat_eq (length r) w) (list_all is_utf8 r) b.0).1 (flat_texts w rs b.1)

-- what such a text gives a table
pub record HoldsRows (w count : ℕ) (rows : List Record) (fields : Row) : Type 0 where
  pub full : count * w ≡ length (held_of fields)
  pub rows_are : cut_into count w (held_of fields) ≡ rows
  pub texts : list_all is_utf8 (held_of fields) ≡ true
  pub lines : fields_of fields ≡ flat_map ended (cut_into count w (held_of fields))

pub holds_rows : (w count : ℕ) (rows : List Record) (fields : Row) → length rows ≡ count → list_all (is_whole w) rows ≡ true → fields_of fields ≡ flat_map ended rows → HoldsRows w count rows fields
holds_rows w count rows fields n h e =
    let held : held_of fields ≡ flat_map (λ r. r) rows = ap (map but_last) e ∙ held_flat rows in
    let are : cut_into count w (held_of fields) ≡ rows = ap (cut_into count w) held ∙ ap (λ (k : ℕ). cut_into k w (flat_map (λ r. r) rows)) (sym n) ∙ flat_cut w rows h in
    record {
      full = ap (λ (k : ℕ). k * w) (sym n) ∙ flat_size w rows h ∙ sym (ap length held);
      rows_are = are;
      texts = ap (list_all is_utf8) held ∙ flat_texts w rows h;
      lines = e ∙ ap (flat_map ended) (sym are);
    }
