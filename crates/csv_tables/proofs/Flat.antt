-- Records cut from one list of fields.
use Rattle.std.proofs.Common.{◌≡◌, ℕ, zero, suc, ◌+◌, ◌*◌, ◌<◌, ◌≤◌, Bool, true, false, ◌&&◌, nat_eq, List, [], ◌∷◌, ◌++◌, length, take, drop, Some, None, slice_get, refl, ap, sym, ◌∙◌, subst, arith}
use Rattle.std.specs.List.{list_all}
use Rattle.std.specs.Str.{IsUtf8, is_utf8}
use Rattle.std.proofs.lemmas.List.{drop-drop, length-drop}
use Rattle.std.proofs.lemmas.Str.{IsUtf8-from_is_utf8}
use native.Mathlib.Nat.{mul-le-mul_right, suc-mul}
use Rattle.csv.specs.Records.{field_at}
use Rattle.csv_tables.specs.CsvRecords.{Record, is_whole}
use Rattle.csv_tables.specs.Flat.{cut_into}

both : (a b : Bool) → (a && b) ≡ true → (a ≡ true) × (b ≡ true)
both true b e = (refl, e)
both false b e = absurd cc

pub slice_none : {X : Type 0} (k : ℕ) → slice_get {X = X} [] k ≡ None
slice_none zero = refl
slice_none (suc k) = refl

pub slice_take : (w c : ℕ) (fs : Record) → c < w → slice_get (take w fs) c ≡ slice_get fs c
slice_take zero c fs lt = absurd (omega arith)
slice_take (suc w) c [] lt = refl
slice_take (suc w) zero (f ∷ fs) lt = refl
slice_take (suc w) (suc c) (f ∷ fs) lt = slice_take w c fs (omega arith)

pub slice_drop : (n c : ℕ) (fs : Record) → slice_get (drop n fs) c ≡ slice_get fs (n + c)
slice_drop zero c fs = let e : c ≡ zero + c = omega arith in ap (slice_get fs) e
slice_drop (suc n) c [] = slice_none c ∙ sym (slice_none (suc n + c))
slice_drop (suc n) c (f ∷ fs) = let e : suc (n + c) ≡ suc n + c = omega arith in slice_drop n c fs ∙ ap (slice_get (f ∷ fs)) e

pub field_slice : (fs : Record) (i : ℕ) → field_at fs i ≡ slice_get fs i
unfolding field_at
field_slice [] i = sym (slice_none i)
field_slice (f ∷ fs) zero = refl
field_slice (f ∷ fs) (suc i) = field_slice fs i

-- the field of a record in a column is the one at its place among all fields
pub field_here : (at w c : ℕ) (fs : Record) → c < w → field_at fs (at * w + c) ≡ slice_get (take w (drop (at * w) fs)) c
field_here at w c fs lt = field_slice fs (at * w + c) ∙ sym (slice_drop (at * w) c fs) ∙ sym (slice_take w c (drop (at * w) fs) lt)

-- that place is within the fields
pub place_within : (at count w c : ℕ) → at < count → c < w → at * w + c < count * w
place_within at count w c lt in_row =
    let m : suc at * w ≤ count * w = mul-le-mul_right w (omega arith) in
    let e : suc at * w ≡ at * w + w = suc-mul at w in
    omega arith

pub cut_length : (n w : ℕ) (fs : Record) → length (cut_into n w fs) ≡ n
cut_length zero w fs = refl
cut_length (suc n) w fs = ap (λ (k : ℕ). suc k) (cut_length n w (drop w fs))

-- the records from a place on
pub cut_drop : (at n w : ℕ) (fs : Record) → at < n → drop at (cut_into n w fs) ≡ take w (drop (at * w) fs) ∷ drop (at + 1) (cut_into n w fs)
cut_drop at zero w fs lt = absurd (omega arith)
cut_drop zero (suc n) w fs lt =
    let e : zero * w ≡ 0 = omega arith in
    ap (λ (k : ℕ). take w (drop k fs) ∷ cut_into n w (drop w fs)) (sym e)
cut_drop (suc at) (suc n) w fs lt =
    let e : w + at * w ≡ suc at * w = sym (let m = suc-mul at w in omega arith) in
    let p : suc (at + 1) ≡ suc at + 1 = omega arith in
    cut_drop at n w (drop w fs) (omega arith)
    ∙ ap (λ (l : Record). take w l ∷ drop (at + 1) (cut_into n w (drop w fs))) (drop-drop (at * w) w fs ∙ ap (λ (k : ℕ). drop k fs) e)
    ∙ ap (λ (k : ℕ). take w (drop (suc at * w) fs) ∷ drop k (cut_into (suc n) w fs)) p

-- one field more of a record, and none
take_next : (fs : Record) (c : ℕ) (f : List ℕ) → slice_get fs c ≡ Some f → take (suc c) fs ≡ take c fs ++ f ∷ []
take_next [] c f e = absurd (let n = slice_none {X = List ℕ} c in cc)
take_next (x ∷ fs) zero f e = let s : x ≡ f = cc in ap (λ (y : List ℕ). y ∷ []) s
take_next (x ∷ fs) (suc c) f e = ap (λ (l : Record). x ∷ l) (take_next fs c f e)

take_past : (fs : Record) (c : ℕ) → slice_get fs c ≡ None → take (suc c) fs ≡ take c fs
take_past [] zero e = refl
take_past [] (suc c) e = refl
take_past (x ∷ fs) zero e = absurd cc
take_past (x ∷ fs) (suc c) e = ap (λ (l : Record). x ∷ l) (take_past fs c e)

pub take_some : (fs : Record) (c : ℕ) (f : List ℕ) → slice_get fs c ≡ Some f → take (c + 1) fs ≡ take c fs ++ f ∷ []
take_some fs c f e = let p : c + 1 ≡ suc c = omega arith in ap (λ (k : ℕ). take k fs) p ∙ take_next fs c f e

pub take_none : (fs : Record) (c : ℕ) → slice_get fs c ≡ None → take (c + 1) fs ≡ take c fs
take_none fs c e = let p : c + 1 ≡ suc c = omega arith in ap (λ (k : ℕ). take k fs) p ∙ take_past fs c e

-- fields that are UTF-8 stay so in each part of them
pub texts_take : (n : ℕ) (fs : Record) → list_all is_utf8 fs ≡ true → list_all is_utf8 (take n fs) ≡ true
texts_take zero fs e = refl
texts_take (suc n) [] e = refl
texts_take (suc n) (f ∷ fs) e = let b = both (is_utf8 f) (list_all is_utf8 fs) e in rw b.0 (texts_take n fs b.1)

pub texts_drop : (n : ℕ) (fs : Record) → list_all is_utf8 fs ≡ true → list_all is_utf8 (drop n fs) ≡ true
texts_drop zero fs e = e
texts_drop (suc n) [] e = refl
texts_drop (suc n) (f ∷ fs) e = texts_drop n fs (both (is_utf8 f) (list_all is_utf8 fs) e).1

pub texts_append : (fs gs : Record) → list_all is_utf8 fs ≡ true → list_all is_utf8 gs ≡ true → list_all is_utf8 (fs ++ gs) ≡ true
texts_append [] gs e h = h
texts_append (f ∷ fs) gs e h = let b = both (is_utf8 f) (list_all is_utf8 fs) e in rw b.0 (texts_append fs gs b.1 h)

pub text_of_slice : (fs : Record) (c : ℕ) (f : List ℕ) → list_all is_utf8 fs ≡ true → slice_get fs c ≡ Some f → IsUtf8 f
text_of_slice [] c f all e = absurd (let n = slice_none {X = List ℕ} c in cc)
text_of_slice (x ∷ fs) zero f all e =
    let s : x ≡ f = cc in
    subst IsUtf8 s (IsUtf8-from_is_utf8 x (both (is_utf8 x) (list_all is_utf8 fs) all).0)
text_of_slice (x ∷ fs) (suc c) f all e = text_of_slice fs c f (both (is_utf8 x) (list_all is_utf8 fs) all).1 e

-- the fields of records that are whole
pub texts_cut : (n w : ℕ) (fs : Record) → n * w ≡ length fs → list_all (is_whole w) (cut_into n w fs) ≡ true → list_all is_utf8 fs ≡ true
texts_cut zero w [] full e = refl
texts_cut zero w (f ∷ fs) full e = absurd (let z : zero * w ≡ 0 = omega arith in omega arith)
texts_cut (suc n) w fs full e =
    let m : suc n * w ≡ n * w + w = suc-mul n w in
    let d = length-drop w fs in
    let b = both (is_whole w (take w fs)) (list_all (is_whole w) (cut_into n w (drop w fs))) e in
    let first = (both (nat_eq (length (take w fs)) w) (list_all is_utf8 (take w fs)) b.0).1 in
    ap (list_all is_utf8) (sym (take_drop w fs)) ∙ texts_append (take w fs) (drop w fs) first (texts_cut n w (drop w fs) (omega arith) b.1)
  where
    take_drop : (n : ℕ) (l : Record) → take n l ++ drop n l ≡ l
    take_drop zero l = refl
    take_drop (suc n) [] = refl
    take_drop (suc n) (x ∷ l) = ap (λ (k : Record). x ∷ k) (take_drop n l)

pub texts_behind : (header rows : List Record) (w : ℕ) → list_all (is_whole w) (header ++ rows) ≡ true → list_all (is_whole w) rows ≡ true
texts_behind [] rows w e = e
texts_behind (r ∷ header) rows w e = texts_behind header rows w (both (is_whole w r) (list_all (is_whole w) (header ++ rows)) e).1
