-- Ids of which no two are the same.
use Rattle.std.proofs.Common.{◌≡◌, ◌↔◌, ◌<◌, ◌&&◌, ℕ, Bool, true, false, nat_eq, nat_lt, arith, List, [], ◌∷◌, ◌++◌, None, cond, map, filter, length, IsTrue, sym, refl, ap, ◌∙◌, subst}
use Rattle.std.specs.BTreeSet.{BTreeSet, IsFromIterResult, btree_set_len}
use Rattle.std.specs.Cmp.{nat_cmp_total, unsigned_tied}
use Rattle.std.specs.List.{IsDistinct, AllByRecursion}
use Rattle.std.specs.Ordering.{nat_cmp, eq_by_cmp}
use Rattle.std.proofs.lemmas.Bool.Decides.{Decides-eqb, Decides-ltb}
use Rattle.std.proofs.lemmas.Cmp.{eq_by_cmp_equiv, nat_eq_equiv}
use Rattle.std.proofs.lemmas.List.{length-map, map-append}
use Rattle.std.proofs.lemmas.List.Sorted.{IsPermutation-map}
use Rattle.std.proofs.lemmas.Map.Keys.{IsDistinct-head, IsDistinct-tail, IsDistinct-cons, IsDistinct-IsPermutation}
use Rattle.std.proofs.lemmas.Map.Made.{IsDistinct-from_count, distinct_count-from_IsDistinct}
use Rattle.std.proofs.lemmas.Map.Views.{btree_set_len-from_list}
use Rattle.std.proofs.lemmas.Bool.{and_parts}
use Rattle.fdw_api.specs.Scan.{TableRow, GivenRow, Spec, IsComing, plain_spec, given_row}
use Rattle.fdw_api.proofs.Unpromised.{all_first}
use Rattle.med_write.specs.Form.{WriteForm, insert_form, update_form, delete_form}
use Rattle.med_exec.specs.Rising.{rise_from, are_rising}
use Rattle.med_exec.specs.Writing.{AreRead}

-- ---- a set of them

same_test : eq_by_cmp nat_cmp ≡ nat_eq
same_test = λ i x y. unsigned_tied x y i

distinct_if : (xs : List ℕ) (n : BTreeSet ℕ) → IsFromIterResult nat_cmp xs n → btree_set_len n ≡ length xs → IsDistinct nat_eq xs
distinct_if xs n f e =
    subst (λ (t : ℕ → ℕ → Bool). IsDistinct t xs) same_test
    (IsDistinct-from_count (eq_by_cmp_equiv nat_cmp_total) xs (sym (btree_set_len-from_list nat_cmp_total xs n f) ∙ e))

as_many : (xs : List ℕ) (n : BTreeSet ℕ) → IsFromIterResult nat_cmp xs n → IsDistinct nat_eq xs → btree_set_len n ≡ length xs
as_many xs n f d =
    btree_set_len-from_list nat_cmp_total xs n f
    ∙ distinct_count-from_IsDistinct (eq_by_cmp_equiv nat_cmp_total) xs (subst (λ (t : ℕ → ℕ → Bool). IsDistinct t xs) (sym same_test) d)

-- a set of them is as large as their list exactly where they differ
pub tells_distinct : {X : Type 0} (id : X → ℕ) (rows : List X) (n : BTreeSet ℕ) (size : ℕ) → IsFromIterResult nat_cmp (map id rows) n → size ≡ btree_set_len n → (xs : List ℕ) → map id rows ≡ xs → IsTrue (nat_eq size (length rows)) ↔ IsDistinct nat_eq xs
tells_distinct id rows n size f e xs is =
    let d = Decides-eqb size (length rows) in (
      λ t. subst (IsDistinct nat_eq) is (distinct_if (map id rows) n f (sym e ∙ d.0 t ∙ sym (length-map rows id))),
      λ h. d.1 (e ∙ as_many (map id rows) n f (subst (IsDistinct nat_eq) (sym is) h) ∙ length-map rows id),
    )

apart : (m n : ℕ) → m < n → nat_eq m n ≡ false
apart m n l = split (nat_eq m n) refl
  where
    split : (b : Bool) → nat_eq m n ≡ b → b ≡ false
    split false e = refl
    split true e = absurd (let same : m ≡ n = (Decides-eqb m n).0 e in omega (arith, same, l))

none_at_all : IsDistinct nat_eq []
unfolding IsDistinct
none_at_all = tt

-- numbers that rise differ
above_all : (last x : ℕ) (xs : List ℕ) → last < x → rise_from x xs ≡ true → AllByRecursion (λ y. nat_eq last y ≡ false) xs
above_all last x [] l e = tt
above_all last x (y ∷ ys) l e =
    let parts = and_parts (nat_lt x y) (rise_from y ys) e in
    let next : x < y = (Decides-ltb x y).0 parts.0 in
    let far : last < y = omega (arith, l, next) in
    (apart last y far, above_all last y ys far parts.1)

rise_distinct : (last : ℕ) (xs : List ℕ) → rise_from last xs ≡ true → IsDistinct nat_eq (last ∷ xs)
rise_distinct last [] e = IsDistinct-cons nat_eq last [] tt none_at_all
rise_distinct last (x ∷ xs) e =
    let parts = and_parts (nat_lt last x) (rise_from x xs) e in
    let next : last < x = (Decides-ltb last x).0 parts.0 in
    IsDistinct-cons nat_eq last (x ∷ xs) (apart last x next, above_all last x xs next parts.1) (rise_distinct x xs parts.1)

rising_distinct : (xs : List ℕ) → are_rising xs ≡ true → IsDistinct nat_eq xs
rising_distinct [] e = none_at_all
rising_distinct (x ∷ xs) e = rise_distinct x xs e

pub rising_once : {X : Type 0} (id : X → ℕ) (rows : List X) (xs : List ℕ) → map id rows ≡ xs → are_rising (map id rows) ≡ true → IsTrue true ↔ IsDistinct nat_eq xs
rising_once id rows xs is e = (λ t. subst (IsDistinct nat_eq) is (rising_distinct (map id rows) e), λ d. refl)

pub map_seen : {X V Y : Type 0} (f : V → Y) (view : X → V) (xs : List X) → map (λ x. f (view x)) xs ≡ map f (map view xs)
map_seen f view [] = refl
map_seen f view (x ∷ xs) = ap (λ ys. f (view x) ∷ ys) (map_seen f view xs)

-- ---- of rows that are read

apart_first : (id : ℕ) (xs ys : List ℕ) → AllByRecursion (λ y. nat_eq id y ≡ false) (xs ++ ys) → AllByRecursion (λ y. nat_eq id y ≡ false) xs
apart_first id [] ys a = tt
apart_first id (x ∷ xs) ys a = (a.0, apart_first id xs ys a.1)

first_distinct : (xs ys : List ℕ) → IsDistinct nat_eq (xs ++ ys) → IsDistinct nat_eq xs
first_distinct [] ys d = none_at_all
first_distinct (x ∷ xs) ys d =
    IsDistinct-cons nat_eq x xs (apart_first x xs ys (IsDistinct-head nat_eq x (xs ++ ys) d)) (first_distinct xs ys (IsDistinct-tail nat_eq x (xs ++ ys) d))

pub coming_once : (rows : List TableRow) (spec : Spec) (read : List GivenRow) → spec.limit ≡ None → IsComing rows spec [] read → IsDistinct nat_eq (map (λ r. r.id) rows) → IsDistinct nat_eq (map (λ r. r.id) read)
coming_once rows spec read all_come c d =
    let id : TableRow → ℕ = λ r. r.id in
    let all : IsDistinct nat_eq (map id (c.taken ++ c.left_out)) = IsDistinct-IsPermutation nat_eq nat_eq_equiv.symm (map id rows) (map id (c.taken ++ c.left_out)) (IsPermutation-map id rows (c.taken ++ c.left_out) c.parts) d in
    let taken : IsDistinct nat_eq (map id c.taken) = first_distinct (map id c.taken) (map id c.left_out) (subst (IsDistinct nat_eq) (map-append id c.taken c.left_out) all) in
    subst (IsDistinct nat_eq) (map_seen (λ (r : GivenRow). r.id) (given_row spec) c.taken ∙ ap (map (λ (r : GivenRow). r.id)) (ap (map (given_row spec)) (sym (all_first spec.limit all_come c.taken)) ∙ sym c.is)) taken

-- no two rows are read under one id, where no two rows of the table have one
pub read_once : (w : WriteForm) (rows : List TableRow) (read : List GivenRow) → AreRead w rows read → IsDistinct nat_eq (map (λ r. r.id) rows) → IsDistinct nat_eq (map (λ r. r.id) read)
read_once (insert_form places given) rows read a d = subst (λ (rs : List GivenRow). IsDistinct nat_eq (map (λ r. r.id) rs)) (sym a) none_at_all
read_once (update_form conditions cells) rows read a d = coming_once rows (plain_spec [] []) read refl a d
read_once (delete_form conditions) rows read a d = coming_once rows (plain_spec [] []) read refl a d

-- nor are those that stand before others
pub once_before : (read others : List GivenRow) → IsDistinct nat_eq (map (λ r. r.id) (read ++ others)) → IsDistinct nat_eq (map (λ r. r.id) read)
once_before read others d =
    first_distinct (map (λ (r : GivenRow). r.id) read) (map (λ (r : GivenRow). r.id) others) (subst (IsDistinct nat_eq) (map-append (λ (r : GivenRow). r.id) read others) d)

-- ---- of rows that are chosen

apart_one : (id : ℕ) (b : Bool) (r : GivenRow) (kept : List GivenRow) → nat_eq id r.id ≡ false → AllByRecursion (λ y. nat_eq id y ≡ false) (map (λ r. r.id) kept) → AllByRecursion (λ y. nat_eq id y ≡ false) (map (λ r. r.id) (cond b (r ∷ kept) kept))
apart_one id true r kept e a = (e, a)
apart_one id false r kept e a = a

apart_kept : (id : ℕ) (p : GivenRow → Bool) (rows : List GivenRow) → AllByRecursion (λ y. nat_eq id y ≡ false) (map (λ r. r.id) rows) → AllByRecursion (λ y. nat_eq id y ≡ false) (map (λ r. r.id) (filter p rows))
apart_kept id p [] a = tt
apart_kept id p (r ∷ rows) a = apart_one id (p r) r (filter p rows) a.0 (apart_kept id p rows a.1)

distinct_one : (b : Bool) (r : GivenRow) (kept : List GivenRow) → AllByRecursion (λ y. nat_eq r.id y ≡ false) (map (λ r. r.id) kept) → IsDistinct nat_eq (map (λ r. r.id) kept) → IsDistinct nat_eq (map (λ r. r.id) (cond b (r ∷ kept) kept))
distinct_one true r kept a d = IsDistinct-cons nat_eq r.id (map (λ r. r.id) kept) a d
distinct_one false r kept a d = d

pub chosen_distinct : (p : GivenRow → Bool) (rows : List GivenRow) → IsDistinct nat_eq (map (λ r. r.id) rows) → IsDistinct nat_eq (map (λ r. r.id) (filter p rows))
chosen_distinct p [] d = d
chosen_distinct p (r ∷ rows) d =
    distinct_one (p r) r (filter p rows) (apart_kept r.id p rows (IsDistinct-head nat_eq r.id (map (λ r. r.id) rows) d)) (chosen_distinct p rows (IsDistinct-tail nat_eq r.id (map (λ r. r.id) rows) d))
