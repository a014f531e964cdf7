-- The groups of rows while they come, one after another.
use Rattle.std.proofs.Common.{◌≡◌, ◌<◌, ◌≤◌, ◌+◌, ℕ, zero, suc, Bool, true, false, ◌||◌, if◌then◌else◌, List, [], ◌∷◌, ◌++◌, map, length, get_or, refl, sym, ap, ◌∙◌, arith, IsPermutation}
use Rattle.std.proofs.lemmas.List.{length-append, length-set}
use Rattle.std.specs.List.{list_any}
use Rattle.std.proofs.lemmas.List.Sorted.{IsPermutation-refl}
use Rattle.indexmap.specs.IndexSet.{insert_key}
use Rattle.med_value.specs.Datum.{Tuple}
use Rattle.med_query.specs.Prelude.{tuple_eq, key_of, classes_by}
use Rattle.med_query.proofs.AnyOrder.{tuple_eq_only, tuple_eq_self}
use Rattle.query_answer.specs.Classes.{classes_so_far, keys_so_far}
use Rattle.query_answer.specs.Keys.{number_in, keys_after, numbers_after, put_at, gathered}
use Rattle.query_answer.proofs.Groups.{put_in, put_end}
use Rattle.query_answer.proofs.KeyNumbers.{all_gathered}

-- the groups of the same rows in some order
pub record AreGroups (keys : List ℕ) (rows : List Tuple) (groups : List (List Tuple)) : Type 0 where
  pub ordered : List Tuple
  pub same : IsPermutation rows ordered
  pub are : groups ≡ classes_by keys ordered

pub folded_are_groups : (columns : List ℕ) (rows : List Tuple) → AreGroups columns rows (classes_so_far columns rows)
folded_are_groups [] rows = record { ordered = rows; same = IsPermutation-refl rows; are = refl }
folded_are_groups (at ∷ ats) rows = record {
  ordered = rows;
  same = IsPermutation-refl rows;
  are = all_gathered tuple_eq tuple_eq_only tuple_eq_self (key_of (at ∷ ats)) rows;
}

-- the number of a key that is known, and of one that is not
there_by : {K : Type 0} (eq : K → K → Bool) (ss : List K) (k : K) (b : Bool) → (b || list_any (eq k) ss) ≡ true → (list_any (eq k) ss ≡ true → number_in eq ss k < length ss) → (if b then 0 else suc (number_in eq ss k)) < suc (length ss)
there_by eq ss k true h f = omega arith
there_by eq ss k false h f = let t = f h in omega arith

number_there : {K : Type 0} (eq : K → K → Bool) (known : List K) (k : K) → list_any (eq k) known ≡ true → number_in eq known k < length known
number_there eq [] k h = absurd cc
number_there eq (s ∷ ss) k h = there_by eq ss k (eq k s) h (number_there eq ss k)

gone_by : {K : Type 0} (eq : K → K → Bool) (ss : List K) (k : K) (b : Bool) → (b || list_any (eq k) ss) ≡ false → (list_any (eq k) ss ≡ false → number_in eq ss k ≡ length ss) → (if b then 0 else suc (number_in eq ss k)) ≡ suc (length ss)
gone_by eq ss k true h f = absurd cc
gone_by eq ss k false h f = ap suc (f h)

pub number_gone : {K : Type 0} (eq : K → K → Bool) (known : List K) (k : K) → list_any (eq k) known ≡ false → number_in eq known k ≡ length known
number_gone eq [] k h = refl
number_gone eq (s ∷ ss) k h = gone_by eq ss k (eq k s) h (number_gone eq ss k)

-- one element more
module _ {K X : Type 0} (eq : K → K → Bool) (key : X → K) where
  gathered_more : (gs : List (List X)) (known : List K) (xs : List X) (x : X) → gathered gs (numbers_after eq known (map key (xs ++ x ∷ []))) (xs ++ x ∷ []) ≡ put_at (gathered gs (numbers_after eq known (map key xs)) xs) (number_in eq (keys_after eq known (map key xs)) (key x)) x
  gathered_more gs known [] x = refl
  gathered_more gs known (y ∷ ys) x = gathered_more (put_at gs (number_in eq known (key y)) y) (insert_key eq known (key y)) ys x

  keys_more : (known : List K) (xs : List X) (x : X) → keys_after eq known (map key (xs ++ x ∷ [])) ≡ insert_key eq (keys_after eq known (map key xs)) (key x)
  keys_more known [] x = refl
  keys_more known (y ∷ ys) x = keys_more (insert_key eq known (key y)) ys x

  put_long : (gs : List (List X)) (known : List K) (x : X) (b : Bool) → list_any (eq (key x)) known ≡ b → length gs ≡ length known → length (put_at gs (number_in eq known (key x)) x) ≡ length (if b then known else known ++ key x ∷ [])
  put_long gs known x true e h =
      let n = number_there eq known (key x) e in
      let i = number_in eq known (key x) in
      ap length (put_in gs i x (omega arith)) ∙ length-set gs i (get_or gs i [] ++ x ∷ []) ∙ h
  put_long gs known x false e h =
      let n = number_gone eq known (key x) e in
      ap length (put_end gs (number_in eq known (key x)) x (omega arith)) ∙ length-append gs ((x ∷ []) ∷ []) ∙ ap (λ m. m + 1) h ∙ sym (length-append known (key x ∷ []))

  -- as many groups as keys
  gathered_long : (gs : List (List X)) (known : List K) (xs : List X) → length gs ≡ length known → length (gathered gs (numbers_after eq known (map key xs)) xs) ≡ length (keys_after eq known (map key xs))
  gathered_long gs known [] h = h
  gathered_long gs known (y ∷ ys) h = gathered_long (put_at gs (number_in eq known (key y)) y) (insert_key eq known (key y)) ys (put_long gs known y (list_any (eq (key y)) known) refl h)

-- each group has at most so many elements
abbrev pub AllShort : {X : Type 0} → ℕ → List (List X) → Type 0
AllShort n [] = Unit {0}
AllShort n (xs ∷ xss) = (length xs ≤ n) × AllShort n xss

short_more : {X : Type 0} (n : ℕ) (gs : List (List X)) → AllShort n gs → AllShort (suc n) gs
short_more n [] h = tt
short_more n (g ∷ gs) h = (omega (arith, h.0), short_more n gs h.1)

put_short : {X : Type 0} (n : ℕ) (gs : List (List X)) (i : ℕ) (x : X) → AllShort n gs → AllShort (suc n) (put_at gs i x)
put_short n [] i x h = (omega arith, tt)
put_short n (g ∷ gs) zero x h = (omega (arith, h.0, length-append g (x ∷ [])), short_more n gs h.1)
put_short n (g ∷ gs) (suc i) x h = (omega (arith, h.0), put_short n gs i x h.1)

none_short : {X : Type 0} (n m : ℕ) (gs : List (List X)) → n ≤ m → AllShort n gs → AllShort m gs
none_short n m [] le h = tt
none_short n m (g ∷ gs) le h = (omega (arith, h.0), none_short n m gs le h.1)

gathered_short : {X : Type 0} (n : ℕ) (gs : List (List X)) (is : List ℕ) (xs : List X) → AllShort n gs → AllShort (n + length xs) (gathered gs is xs)
gathered_short n gs [] xs h = none_short n (n + length xs) gs (omega arith) h
gathered_short n gs (i ∷ is) [] h = none_short n (n + 0) gs (omega arith) h
gathered_short n gs (i ∷ is) (x ∷ xs) h = none_short (suc n + length xs) (n + length (x ∷ xs)) (gathered (put_at gs i x) is xs) (omega arith) (gathered_short (suc n) (put_at gs i x) is xs (put_short n gs i x h))

pub classes_short : (columns : List ℕ) (rows : List Tuple) → AllShort (length rows) (classes_so_far columns rows)
classes_short [] rows = (omega arith, tt)
classes_short (at ∷ ats) rows =
    let numbers = numbers_after tuple_eq [] (map (key_of (at ∷ ats)) rows) in
    none_short (0 + length rows) (length rows) (gathered [] numbers rows) (omega arith) (gathered_short 0 [] numbers rows tt)

pub classes_long : (columns : List ℕ) (rows : List Tuple) → 0 < length columns → length (classes_so_far columns rows) ≡ length (keys_so_far columns rows)
classes_long [] rows h = absurd (omega arith)
classes_long (at ∷ ats) rows h = gathered_long tuple_eq (key_of (at ∷ ats)) [] [] rows refl

pub class_alone : (columns : List ℕ) (rows : List Tuple) → length columns ≡ 0 → classes_so_far columns rows ≡ rows ∷ []
class_alone [] rows h = refl
class_alone (at ∷ ats) rows h = absurd (omega arith)

pub classes_more : (columns : List ℕ) (rows : List Tuple) (row : Tuple) → 0 < length columns → put_at (classes_so_far columns rows) (number_in tuple_eq (keys_so_far columns rows) (key_of columns row)) row ≡ classes_so_far columns (rows ++ row ∷ [])
classes_more [] rows row h = absurd (omega arith)
classes_more (at ∷ ats) rows row h = sym (gathered_more tuple_eq (key_of (at ∷ ats)) [] [] rows row)

pub keys_once_more : (columns : List ℕ) (rows : List Tuple) (row : Tuple) → keys_so_far columns (rows ++ row ∷ []) ≡ insert_key tuple_eq (keys_so_far columns rows) (key_of columns row)
keys_once_more columns rows row = keys_more tuple_eq (key_of columns) [] rows row
