-- Rows taken out and put in one after another.
use Rattle.std.proofs.Common.{◌≡◌, ◌∙◌, ℕ, ℤ, Bool, zero, suc, ◌<◌, ◌&&◌, not, true, false, List, [], ◌∷◌, ◌++◌, map, take, drop, length}
use Rattle.std.proofs.Common.{get_or, refl, sym, ap, arith}
use Rattle.sqlite.specs.Order.{Row as SqlRow}
use Rattle.sqlite.specs.Tree.{put_row, without_rowid}
use Rattle.sqlite.specs.Edit.{without_all, put_all, are_fresh, is_taken}
use Rattle.sqlite_rules.proofs.TableLemmas.{clash_among}

-- rows that are taken out one after another
pub without_more : (xs : List SqlRow) (ids : List ℤ) (id : ℤ) → without_all xs (ids ++ id ∷ []) ≡ without_rowid id (without_all xs ids)
without_more xs [] id = refl
without_more xs (i ∷ ids) id = without_more (without_rowid i xs) ids id

-- rows that are put in one after another
pub put_more : {A : Type 0} (f : A → SqlRow) (rows : List SqlRow) (xs : List A) (i : ℕ) (x : A) → i < length xs → x ≡ get_or xs i x
    → put_all rows (map f (take (suc i) xs)) ≡ put_row (f x) (put_all rows (map f (take i xs)))
put_more f rows [] i x lt is = absurd (omega (arith, lt))
put_more f rows (y ∷ xs) zero x lt is = ap (λ z. put_row (f z) rows) (sym is)
put_more f rows (y ∷ xs) (suc i) x lt is = put_more f (put_row (f y) rows) xs i x (omega (arith, lt)) is

-- a row among others
pub among : {A : Type 0} (f : A → SqlRow) (xs : List A) (i : ℕ) (x : A) → i < length xs → x ≡ get_or xs i x
    → map f (take i xs) ++ (f x ∷ map f (drop (suc i) xs)) ≡ map f xs
among f [] i x lt is = absurd (omega (arith, lt))
among f (y ∷ xs) zero x lt is = ap (λ z. f z ∷ map f xs) is
among f (y ∷ xs) (suc i) x lt is = ap (λ more. f y ∷ more) (among f xs i x (omega (arith, lt)) is)

-- a row whose key is there when its turn comes repeats a key
pub repeats : {A : Type 0} (f : A → SqlRow) (rows : List SqlRow) (xs : List A) (i : ℕ) (x : A) → i < length xs → x ≡ get_or xs i x
    → is_taken (put_all rows (map f (take i xs))) (f x) ≡ true → are_fresh rows (map f xs) ≡ false
repeats f rows xs i x lt is there = clash_among rows (map f (take i xs)) (map f (drop (suc i) xs)) (map f xs) (f x)
    (among f xs i x lt is) there

first_true : (a b : Bool) → (a && b) ≡ true → a ≡ true
first_true true b e = refl
first_true false b e = e

second_true : (a b : Bool) → (a && b) ≡ true → b ≡ true
second_true true b e = e
second_true false b e = absurd cc

both_true : (a b : Bool) → a ≡ true → b ≡ true → (a && b) ≡ true
both_true a b e d = rw (e, d) refl

-- rows of free keys, and one more after them
pub fresh_more : {A : Type 0} (f : A → SqlRow) (rows : List SqlRow) (xs : List A) (i : ℕ) (x : A) → i < length xs → x ≡ get_or xs i x
    → are_fresh rows (map f (take i xs)) ≡ true → is_taken (put_all rows (map f (take i xs))) (f x) ≡ false
    → are_fresh rows (map f (take (suc i) xs)) ≡ true
fresh_more f rows [] i x lt is before free = absurd (omega (arith, lt))
fresh_more f rows (y ∷ xs) zero x lt is before free = both_true _ _ (ap (λ z. not (is_taken rows (f z))) (sym is) ∙ ap not free) refl
fresh_more f rows (y ∷ xs) (suc i) x lt is before free =
    both_true _ _ (first_true _ _ before) (fresh_more f (put_row (f y) rows) xs i x (omega (arith, lt)) is (second_true _ _ before) free)
