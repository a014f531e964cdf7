-- The places of layouts by their names.
use Rattle.std.proofs.Common.{◌≡◌, ℕ, ◌<◌, ◌≤◌, Bool, true, false, cond, List, length, Option, Some, None, nat_lt, slice_index_or, refl}
use Rattle.std.proofs.Common.{ap, subst, ◌∙◌, arith, bytes_eq}
use Rattle.std.specs.List.{position_or_len, IsDistinct}
use Rattle.std.proofs.lemmas.List.Sums.{position_or_len_is}
use Rattle.std.proofs.lemmas.List.Quantifiers.{position-Some}
use Rattle.std.proofs.lemmas.Map.Keys.{apart_from_distinct}
use lib.Pointwise.{bytes_decides}
use Rattle.sqlite_tables.specs.Layouts.{Layout, layouts, layout_count, layout_at, people, place_in, place_of}

abbrev pub has_name : List ℕ → Layout → Bool
has_name name l = bytes_eq l.name name

is_less : (m n : ℕ) → m < n → nat_lt m n ≡ true
is_less m n lt = grind (arith, lt)

abbrev place_at : List Layout → ℕ → Option ℕ
place_at shapes n = cond (nat_lt n (length shapes)) (Some n) None

-- the first layout of a name is at its place
pub found : (shapes : List Layout) (d : Layout) (name : List ℕ) (t : ℕ) → t < length shapes
    → ((k : ℕ) → k < t → has_name name (slice_index_or shapes k d) ≡ false)
    → has_name name (slice_index_or shapes t d) ≡ true → place_in shapes name ≡ Some t
found shapes d name t lt before here =
    let first : position_or_len (has_name name) shapes ≡ t = position_or_len_is (has_name name) shapes t d (omega (arith, lt)) before
    (λ _. here) in
    ap (place_at shapes) first ∙ ap (λ (b : Bool). cond b (Some t) None) (is_less t (length shapes) lt)

-- the same of a layout that was read at its place
pub found_here : (shapes : List Layout) (name : List ℕ) (t : ℕ) (l : Layout) → t < length shapes
    → ((k : ℕ) (d : Layout) → k < t → has_name name (slice_index_or shapes k d) ≡ false)
    → l ≡ slice_index_or shapes t l → has_name name l ≡ true → place_in shapes name ≡ Some t
found_here shapes name t l lt before is here = found shapes l name t lt (λ k le. before k l le)
    (subst (λ (x : Layout). has_name name x ≡ true) is here)

not_less : (n : ℕ) → nat_lt n n ≡ false
not_less n = grind arith

-- a name that no layout has is at none
pub not_found : (shapes : List Layout) (name : List ℕ) (t : ℕ) → length shapes ≤ t
    → ((k : ℕ) (d : Layout) → k < t → has_name name (slice_index_or shapes k d) ≡ false)
    → place_in shapes name ≡ None
not_found shapes name t over before =
    let last : position_or_len (has_name name) shapes ≡ length shapes =
    position_or_len_is (has_name name) shapes (length shapes) people (omega arith) (λ k lt. before k people (omega (arith, lt, over)))
    (λ lt. absurd (omega (arith, lt))) in
    ap (place_at shapes) last ∙ ap (λ (b : Bool). cond b (Some (length shapes)) None) (not_less (length shapes))

-- the layout at a place has the name
pub place_named : (name : List ℕ) (t : ℕ) → place_of name ≡ Some t → ((layout_at t).name ≡ name) × (t < layout_count)
place_named name t e =
    let p = position-Some (has_name name) layouts t people e in
    ((bytes_decides (layout_at t).name name).0 p.1, p.0)

-- no two layouts have one name
names_differ : IsDistinct (λ (l : Layout) (m : Layout). bytes_eq l.name m.name) layouts
unfolding IsDistinct
names_differ = ((refl, tt), (tt, tt))

pub name_place : (t : ℕ) → t < layout_count → place_of (layout_at t).name ≡ Some t
name_place t lt =
    found layouts people (layout_at t).name t lt
    (λ k le. apart_from_distinct (λ (l : Layout) (m : Layout). bytes_eq l.name m.name) layouts k t people names_differ le lt)
    ((bytes_decides (layout_at t).name (layout_at t).name).1 refl)
