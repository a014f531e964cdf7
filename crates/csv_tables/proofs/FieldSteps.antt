-- Going over the fields of a record.
use Rattle.std.proofs.Common.{◌≡◌, ℕ, zero, suc, ◌+◌, ◌-◌, ◌<◌, Bool, true, false, ◌&&◌, List, [], ◌∷◌, length, take, drop, Some, None, slice_get, is_some, Result, Ok, Err, refl, ap, ◌∙◌, subst, arith}
use Rattle.std.specs.List.{list_all}
use Rattle.std.specs.Result.{MatchResult, is_err}
use Rattle.std.specs.Str.{IsAscii, IsUtf8, is_utf8}
use Rattle.std.proofs.lemmas.Str.{IsUtf8-from_is_utf8, IsUtf8-from_ascii, IsAscii-take, IsAscii-drop, is_utf8-from_IsUtf8}
use Rattle.csv.specs.Records.{Row, cut_from, field_at, fields_of, text_of}
use Rattle.med_value.specs.declared.value.ColType.{ColType}
use Rattle.csv_tables.specs.Cells.{cell_of, is_readable}
use Rattle.csv_tables.specs.CsvRecords.{Record}

pub both : (a b : Bool) → (a && b) ≡ true → (a ≡ true) × (b ≡ true)
both true b e = (refl, e)
both false b e = absurd cc

pub field_next : (fs : Record) (i : ℕ) (f : List ℕ) → field_at fs i ≡ Some f → drop i fs ≡ f ∷ drop (i + 1) fs
unfolding field_at
field_next [] i f e = absurd cc
field_next (x ∷ fs) zero f e = let s : x ≡ f = cc in ap (λ (y : List ℕ). y ∷ fs) s
field_next (x ∷ fs) (suc i) f e =
    let p : suc (i + 1) ≡ suc i + 1 = omega arith in
    field_next fs i f e ∙ ap (λ (k : ℕ). f ∷ drop k (x ∷ fs)) p

pub field_end : (fs : Record) (i : ℕ) → field_at fs i ≡ None → drop i fs ≡ []
unfolding field_at
field_end [] zero e = refl
field_end [] (suc i) e = refl
field_end (x ∷ fs) zero e = absurd cc
field_end (x ∷ fs) (suc i) e = field_end fs i e

pub field_less : (fs : Record) (i : ℕ) (f : List ℕ) → field_at fs i ≡ Some f → i < length fs
unfolding field_at
field_less [] i f e = absurd cc
field_less (x ∷ fs) zero f e = omega arith
field_less (x ∷ fs) (suc i) f e = let l = field_less fs i f e in omega arith

-- a field of a record whose fields are all UTF-8
pub text_there : (fs : Record) (i : ℕ) (f : List ℕ) → list_all is_utf8 fs ≡ true → field_at fs i ≡ Some f → IsUtf8 f
unfolding field_at
text_there [] i f all e = absurd cc
text_there (x ∷ fs) zero f all e =
    let s : x ≡ f = cc in
    subst IsUtf8 s (IsUtf8-from_is_utf8 x (both (is_utf8 x) (list_all is_utf8 fs) all).0)
text_there (x ∷ fs) (suc i) f all e = text_there fs i f (both (is_utf8 x) (list_all is_utf8 fs) all).1 e

-- the fields that are cut from ASCII
ascii_cut : (start : ℕ) (ends bytes : List ℕ) → IsAscii bytes → list_all is_utf8 (cut_from start ends bytes) ≡ true
unfolding cut_from
ascii_cut start [] bytes a = refl
ascii_cut start (end ∷ ends) bytes a =
    let u = IsUtf8-from_ascii (take (end - start) (drop start bytes)) (IsAscii-take (drop start bytes) (end - start) (IsAscii-drop bytes start a)) in
    rw (is_utf8-from_IsUtf8 (take (end - start) (drop start bytes)) u) (ascii_cut end ends bytes a)

pub ascii_fields : (r : Row) → IsAscii (text_of r) → list_all is_utf8 (fields_of r) ≡ true
ascii_fields r a = ascii_cut 0 r.ends r.bytes a

-- past a field that is UTF-8, and at one that is not
pub text_next : (fs : Record) (i : ℕ) (f : List ℕ) → field_at fs i ≡ Some f → IsUtf8 f → list_all is_utf8 (drop i fs) ≡ list_all is_utf8 (drop (i + 1) fs)
text_next fs i f e u = ap (list_all is_utf8) (field_next fs i f e) ∙ rw (is_utf8-from_IsUtf8 f u) refl

pub text_fails : (fs : Record) (i : ℕ) (f : List ℕ) → field_at fs i ≡ Some f → (IsUtf8 f → ⊥) → list_all is_utf8 (drop i fs) ≡ false
text_fails fs i f e bad = ap (list_all is_utf8) (field_next fs i f e) ∙ rw (not_utf8 (is_utf8 f) refl) refl
  where
    not_utf8 : (b : Bool) → is_utf8 f ≡ b → is_utf8 f ≡ false
    not_utf8 true h = absurd (bad (IsUtf8-from_is_utf8 f h))
    not_utf8 false h = h

pub text_ends : (fs : Record) (i : ℕ) → field_at fs i ≡ None → list_all is_utf8 (drop i fs) ≡ true
text_ends fs i e = ap (list_all is_utf8) (field_end fs i e)

kind_next : (ks : List ColType) (i : ℕ) (k : ColType) → slice_get ks i ≡ Some k → drop i ks ≡ k ∷ drop (i + 1) ks
kind_next [] zero k e = absurd cc
kind_next [] (suc i) k e = absurd cc
kind_next (x ∷ ks) zero k e = let s : x ≡ k = cc in ap (λ (y : ColType). y ∷ ks) s
kind_next (x ∷ ks) (suc i) k e =
    let p : suc (i + 1) ≡ suc i + 1 = omega arith in
    kind_next ks i k e ∙ ap (λ (j : ℕ). k ∷ drop j (x ∷ ks)) p

both_next : (null : List ℕ) (ks : List ColType) (fs : Record) (i : ℕ) (k : ColType) (f : List ℕ) → slice_get ks i ≡ Some k → field_at fs i ≡ Some f → is_readable null (drop i ks) (drop i fs) ≡ (is_some (cell_of null k f) && is_readable null (drop (i + 1) ks) (drop (i + 1) fs))
both_next null ks fs i k f ek ef = ap (λ (l : List ColType). is_readable null l (drop i fs)) (kind_next ks i k ek) ∙ ap (is_readable null (k ∷ drop (i + 1) ks)) (field_next fs i f ef)

-- past a field of its column's type, and at one that is not
pub cell_next : (null : List ℕ) (ks : List ColType) (fs : Record) (i : ℕ) (k : ColType) (f : List ℕ) → slice_get ks i ≡ Some k → field_at fs i ≡ Some f → is_some (cell_of null k f) ≡ true → is_readable null (drop i ks) (drop i fs) ≡ is_readable null (drop (i + 1) ks) (drop (i + 1) fs)
cell_next null ks fs i k f ek ef e = both_next null ks fs i k f ek ef ∙ rw e refl

pub cell_fails : (null : List ℕ) (ks : List ColType) (fs : Record) (i : ℕ) (k : ColType) (f : List ℕ) → slice_get ks i ≡ Some k → field_at fs i ≡ Some f → is_some (cell_of null k f) ≡ false → is_readable null (drop i ks) (drop i fs) ≡ false
cell_fails null ks fs i k f ek ef e = both_next null ks fs i k f ek ef ∙ rw e refl

readable_none : (null : List ℕ) (ks : List ColType) → is_readable null ks [] ≡ true
readable_none null [] = refl
readable_none null (k ∷ ks) = refl

pub fields_end : (null : List ℕ) (ks : List ColType) (fs : Record) (i : ℕ) → field_at fs i ≡ None → is_readable null (drop i ks) (drop i fs) ≡ true
fields_end null ks fs i e = ap (is_readable null (drop i ks)) (field_end fs i e) ∙ readable_none null (drop i ks)

pub utf8_read : {T E : Type 0} (f : List ℕ) (P : T → Type 0) (Q : E → Type 0) (r : Result T E) → MatchResult r (λ s. P s × IsUtf8 f) (λ e. (IsUtf8 f → ⊥) × Q e) → is_err r ≡ false → IsUtf8 f
utf8_read f P Q (Ok s) m e = m.1
utf8_read f P Q (Err x) m e = absurd cc

pub utf8_refused : {T E : Type 0} (f : List ℕ) (P : T → Type 0) (Q : E → Type 0) (r : Result T E) → MatchResult r (λ s. P s × IsUtf8 f) (λ e. (IsUtf8 f → ⊥) × Q e) → is_err r ≡ true → IsUtf8 f → ⊥
utf8_refused f P Q (Ok s) m e u = absurd cc
utf8_refused f P Q (Err x) m e u = m.0 u
