-- The changes of a write may be staged, one after another.
use Rattle.std.proofs.Common.{◌≡◌, ℕ, Bool, true, false, not, ◌&&◌, ◌||◌, nat_eq, List, [], ◌∷◌, ◌++◌, cond, map, filter, All, refl, ap, sym, ◌∙◌}
use Rattle.std.specs.List.{list_all, list_any, IsDistinct, AllByRecursion}
use Rattle.std.specs.Set.{is_member}
use Rattle.std.proofs.lemmas.Cmp.{nat_eq_equiv}
use Rattle.std.proofs.lemmas.List.Elements.{All-filter}
use Rattle.std.proofs.lemmas.List.Folds.{list_all-append, list_all-map, list_any-append}
use Rattle.std.proofs.lemmas.List.Sorted.{All-permutation, IsPermutation-map}
use Rattle.std.proofs.lemmas.List.Sums.{AllPass-from_list_all, list_all-from_AllPass}
use Rattle.std.proofs.lemmas.Map.Keys.{IsDistinct-head, IsDistinct-tail}
use Rattle.std.proofs.lemmas.Map.Made.{All-is_member}
use Rattle.med_value.specs.Datum.{Tuple}
use Rattle.med_value.specs.declared.value.ColType.{ColType}
use Rattle.tri_expr.specs.Prelude.{value_of, means}
use Rattle.med_query.specs.Query.{keeps}
use Rattle.fdw_api.specs.Prelude.{Change, Inserts, Updates, Deletes, GivenRow, TableRow, IsComing, plain_spec, row_fits, given_row, row_of_change_fits, id_is_there, is_first, names_id, has_id}
use Rattle.med_write.specs.Form.{WriteForm, insert_form, update_form, delete_form}
use Rattle.med_write.specs.Writing.{new_cells, row_made, rows_given, changes_of}
use Rattle.med_exec.specs.WriteReading.{are_typed}
use Rattle.med_exec.specs.Staging.{all_first}
use Rattle.med_exec.specs.Writing.{IsTypedWrite, AreRead}
use Rattle.med_exec.proofs.StagedChanges.{both_first, both_second}
use Rattle.med_exec.proofs.DistinctIds.{chosen_distinct}

all_true : {X : Type 0} (xs : List X) → list_all (λ x. true) xs ≡ true
all_true [] = refl
all_true (x ∷ xs) = all_true xs

-- ---- their rows are of the columns' types

one_seen : {X V : Type 0} (f : V → Bool) (view : X → V) (b : Bool) (x : X) (vs : List V) (xs : List X) → list_all f vs ≡ list_all (λ y. f (view y)) xs → list_all f (cond b (view x ∷ vs) vs) ≡ list_all (λ y. f (view y)) (cond b (x ∷ xs) xs)
one_seen f view true x vs xs e = ap (λ b. f (view x) && b) e
one_seen f view false x vs xs e = e

all_seen : {X V : Type 0} (f p : V → Bool) (view : X → V) (xs : List X) → list_all f (filter p (map view xs)) ≡ list_all (λ x. f (view x)) (filter (λ x. p (view x)) xs)
all_seen f p view [] = refl
all_seen f p view (x ∷ xs) = one_seen f view (p (view x)) x (filter p (map view xs)) (filter (λ y. p (view y)) xs) (all_seen f p view xs)

pub changes_fit : (kinds : List ColType) (w : WriteForm) (answer : List Tuple) (read : List GivenRow) → IsTypedWrite kinds w answer → are_typed kinds read ≡ true → list_all (row_of_change_fits kinds) (changes_of w answer read) ≡ true
changes_fit kinds (insert_form places given) answer read typed are =
    list_all-map (row_of_change_fits kinds) (λ g. Inserts (map value_of (new_cells places g))) (rows_given given answer)
    ∙ sym (list_all-map (λ os. row_fits kinds (map value_of os)) (new_cells places) (rows_given given answer))
    ∙ typed (map (λ r. r.cells) read) (list_all-map (row_fits kinds) (λ r. r.cells) read ∙ are)
changes_fit kinds (update_form conditions cells) answer read typed are =
    list_all-map (row_of_change_fits kinds) (λ r. Updates r.id (map value_of (row_made cells r.cells))) (filter (λ r. keeps (means [] conditions) r.cells) read)
    ∙ sym (all_seen (λ v. row_fits kinds (map value_of (row_made cells v))) (keeps (means [] conditions)) (λ r. r.cells) read)
    ∙ sym (list_all-map (λ os. row_fits kinds (map value_of os)) (row_made cells) (filter (keeps (means [] conditions)) (map (λ r. r.cells) read)))
    ∙ typed (map (λ r. r.cells) read) (list_all-map (row_fits kinds) (λ r. r.cells) read ∙ are)
changes_fit kinds (delete_form conditions) answer read typed are =
    list_all-map (row_of_change_fits kinds) (λ r. Deletes r.id) (filter (λ r. keeps (means [] conditions) r.cells) read)
    ∙ all_true (filter (λ r. keeps (means [] conditions) r.cells) read)

-- ---- the rows that they name are in the table

any_seen : {X V : Type 0} (p : V → Bool) (view : X → V) (xs : List X) → list_any p (map view xs) ≡ list_any (λ x. p (view x)) xs
any_seen p view [] = refl
any_seen p view (x ∷ xs) = ap (λ b. p (view x) || b) (any_seen p view xs)

-- each of the rows that come is one of the table
all_there : (rows : List TableRow) (read : List GivenRow) → IsComing rows (plain_spec [] []) [] read → list_all (λ r. has_id rows r.id) read ≡ true
all_there rows read c =
    let id : TableRow → ℕ = λ r. r.id in
    let here : ℕ → Bool = is_member nat_eq (map id rows) in
    let moved : All (λ k. here k ≡ true) (map id (c.taken ++ c.left_out)) = All-permutation (λ k. here k ≡ true) (map id rows) (map id (c.taken ++ c.left_out)) (IsPermutation-map id rows (c.taken ++ c.left_out) c.parts) (All-is_member nat_eq_equiv (map id rows)) in
    let both : list_all (λ r. here (id r)) (c.taken ++ c.left_out) ≡ true = sym (list_all-map here id (c.taken ++ c.left_out)) ∙ list_all-from_AllPass here (map id (c.taken ++ c.left_out)) moved in
    let taken : list_all (λ r. here (id r)) c.taken ≡ true = both_first (list_all (λ r. here (id r)) c.taken) (list_all (λ r. here (id r)) c.left_out) (sym (list_all-append (λ r. here (id r)) c.taken c.left_out) ∙ both) in
    ap (list_all (λ r. has_id rows r.id)) c.is
    ∙ list_all-map (λ r. has_id rows r.id) (given_row (plain_spec [] [])) c.taken
    ∙ sym (λ i. list_all (λ r. any_seen (nat_eq r.id) id rows i) c.taken)
    ∙ taken

-- what holds of all holds of the chosen ones
all_kept : {X : Type 0} (f p : X → Bool) (xs : List X) → list_all f xs ≡ true → list_all f (filter p xs) ≡ true
all_kept f p xs e = list_all-from_AllPass f (filter p xs) (All-filter p (λ x. f x ≡ true) xs (AllPass-from_list_all f xs e))

pub changes_there : (w : WriteForm) (answer : List Tuple) (rows : List TableRow) (read : List GivenRow) → AreRead w rows read → list_all (id_is_there rows) (changes_of w answer read) ≡ true
changes_there (insert_form places given) answer rows read a =
    list_all-map (id_is_there rows) (λ g. Inserts (map value_of (new_cells places g))) (rows_given given answer)
    ∙ all_true (rows_given given answer)
changes_there (update_form conditions cells) answer rows read a =
    list_all-map (id_is_there rows) (λ r. Updates r.id (map value_of (row_made cells r.cells))) (filter (λ r. keeps (means [] conditions) r.cells) read)
    ∙ all_kept (λ r. has_id rows r.id) (λ r. keeps (means [] conditions) r.cells) read (all_there rows read a)
changes_there (delete_form conditions) answer rows read a =
    list_all-map (id_is_there rows) (λ r. Deletes r.id) (filter (λ r. keeps (means [] conditions) r.cells) read)
    ∙ all_kept (λ r. has_id rows r.id) (λ r. keeps (means [] conditions) r.cells) read (all_there rows read a)

-- ---- each row is named once

both_true : (a b : Bool) → a ≡ true → b ≡ true → (a && b) ≡ true
both_true true b e f = f
both_true false b e f = absurd cc

neither : (a b : Bool) → not a ≡ true → b ≡ false → not (a || (b || false)) ≡ true
neither true b e f = absurd cc
neither false true e f = absurd cc
neither false false e f = refl

not_named_yet : (before : List Change) (c : Change) (id : ℕ) → not (list_any (names_id id) before) ≡ true → names_id id c ≡ false → not (list_any (names_id id) (before ++ c ∷ [])) ≡ true
not_named_yet before c id e f = ap not (list_any-append (names_id id) before (c ∷ [])) ∙ neither (list_any (names_id id) before) (names_id id c) e f

-- no change before names one of these rows
abbrev are_free : List Change → List GivenRow → Bool
are_free before rows = list_all (λ r. not (list_any (names_id r.id) before)) rows

still_free : (c : Change) (id : ℕ) → ((other : ℕ) → names_id other c ≡ nat_eq other id) → (before : List Change) (rows : List GivenRow) → are_free before rows ≡ true → AllByRecursion (λ y. nat_eq id y ≡ false) (map (λ r. r.id) rows) → are_free (before ++ c ∷ []) rows ≡ true
still_free c id named before [] e a = refl
still_free c id named before (r ∷ rows) e a =
    both_true (not (list_any (names_id r.id) (before ++ c ∷ []))) (are_free (before ++ c ∷ []) rows)
    (not_named_yet before c r.id (both_first (not (list_any (names_id r.id) before)) (are_free before rows) e) (named r.id ∙ nat_eq_equiv.symm r.id id ∙ a.0))
    (still_free c id named before rows (both_second (not (list_any (names_id r.id) before)) (are_free before rows) e) a.1)

once_each : (change : GivenRow → Change) → ((before : List Change) (r : GivenRow) → is_first before (change r) ≡ not (list_any (names_id r.id) before)) → ((r : GivenRow) (id : ℕ) → names_id id (change r) ≡ nat_eq id r.id) → (before : List Change) (rows : List GivenRow) → are_free before rows ≡ true → IsDistinct nat_eq (map (λ r. r.id) rows) → all_first before (map change rows) ≡ true
once_each change first named before [] e d = refl
once_each change first named before (r ∷ rows) e d =
    both_true (is_first before (change r)) (all_first (before ++ change r ∷ []) (map change rows))
    (first before r ∙ both_first (not (list_any (names_id r.id) before)) (are_free before rows) e)
    (once_each change first named (before ++ change r ∷ []) rows
    (still_free (change r) r.id (named r) before rows (both_second (not (list_any (names_id r.id) before)) (are_free before rows) e) (IsDistinct-head nat_eq r.id (map (λ r. r.id) rows) d))
    (IsDistinct-tail nat_eq r.id (map (λ r. r.id) rows) d))

none_named : {X : Type 0} (row : X → Tuple) (before : List Change) (xs : List X) → all_first before (map (λ x. Inserts (row x)) xs) ≡ true
none_named row before [] = refl
none_named row before (x ∷ xs) = none_named row (before ++ Inserts (row x) ∷ []) xs

pub changes_once : (w : WriteForm) (answer : List Tuple) (read : List GivenRow) → IsDistinct nat_eq (map (λ r. r.id) read) → all_first [] (changes_of w answer read) ≡ true
changes_once (insert_form places given) answer read d = none_named (λ g. map value_of (new_cells places g)) [] (rows_given given answer)
changes_once (update_form conditions cells) answer read d =
    let p : GivenRow → Bool = λ r. keeps (means [] conditions) r.cells in
    once_each (λ r. Updates r.id (map value_of (row_made cells r.cells))) (λ before r. refl) (λ r id. refl) [] (filter p read) (all_true (filter p read)) (chosen_distinct p read d)
changes_once (delete_form conditions) answer read d =
    let p : GivenRow → Bool = λ r. keeps (means [] conditions) r.cells in
    once_each (λ r. Deletes r.id) (λ before r. refl) (λ r id. refl) [] (filter p read) (all_true (filter p read)) (chosen_distinct p read d)
