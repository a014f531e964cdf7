-- The changes of a write make the table what the write makes of it.
use Rattle.std.proofs.Common.{◌≡◌, ◌⊎◌, inl, inr, ℕ, Bool, true, false, not, if◌then◌else◌, nat_eq, List, [], ◌∷◌, ◌++◌, cond, map, filter, flat_map, All, Some, refl, ap, sym, ◌∙◌, subst}
use Rattle.std.specs.List.{IsDistinct, AllByRecursion}
use Rattle.std.proofs.lemmas.Cmp.{nat_eq_equiv}
use Rattle.std.proofs.lemmas.List.{append-nil}
use Rattle.std.proofs.lemmas.List.Elements.{All-nil, All-cons, All-head, All-tail, All-append, All-weaker}
use Rattle.std.proofs.lemmas.List.Sorted.{All-permutation, IsPermutation-sym}
use Rattle.std.proofs.lemmas.Map.Keys.{IsDistinct-head, IsDistinct-tail}
use Rattle.std.proofs.lemmas.Option.{same_Some}
use Rattle.med_value.specs.Datum.{Tuple}
use Rattle.tri_expr.specs.Prelude.{Outcome, value_of, means}
use Rattle.med_query.specs.Query.{keeps}
use Rattle.fdw_api.specs.Prelude.{Held, held, Change, Inserts, Updates, Deletes, GivenRow, TableRow, IsComing, plain_spec, given_row, BoxTable, BoxState, is_honest, table_of, rows_of}
use Rattle.fdw_api.specs.Writes.{row_after, inserted, rows_after as rows_changed}
use Rattle.med_write.specs.declared.write.WrittenColumn.{WrittenColumn}
use Rattle.med_write.specs.Form.{WriteForm, insert_form, update_form, delete_form}
use Rattle.med_write.specs.Writing.{new_cells, row_made, rows_given, made, rows_after, changes_of}
use Rattle.med_exec.specs.Writing.{AreRead, Writes}
use Rattle.med_exec.proofs.DistinctIds.{coming_once}

-- ---- lists

IsIn : {X : Type 0} → List X → X → Type 0
IsIn [] x = ⊥
IsIn (y ∷ ys) x = (y ≡ x) ⊎ IsIn ys x

all_of : {X : Type 0} (P : X → Type 0) (xs : List X) → ((x : X) → IsIn xs x → P x) → All P xs
unfolding IsIn
all_of P [] f = All-nil P
all_of P (x ∷ xs) f = All-cons P x xs (f x (inl refl)) (all_of P xs (λ y i. f y (inr i)))

in_map : {X Y : Type 0} (f : X → Y) (xs : List X) (x : X) → IsIn xs x → IsIn (map f xs) (f x)
unfolding IsIn
in_map f [] x i = absurd i
in_map f (y ∷ ys) x (inl e) = inl (ap f e)
in_map f (y ∷ ys) x (inr i) = inr (in_map f ys x i)

apart_in : (id : ℕ) (xs : List GivenRow) (g : GivenRow) → AllByRecursion (λ y. nat_eq id y ≡ false) (map (λ r. r.id) xs) → IsIn xs g → nat_eq id g.id ≡ false
unfolding IsIn
apart_in id [] g a i = absurd i
apart_in id (x ∷ xs) g a (inl e) = subst (λ (r : GivenRow). nat_eq id r.id ≡ false) e a.0
apart_in id (x ∷ xs) g a (inr i) = apart_in id xs g a.1 i

flat_same : {X Y : Type 0} (f g : X → List Y) (xs : List X) → All (λ x. f x ≡ g x) xs → flat_map f xs ≡ flat_map g xs
flat_same f g [] a = refl
flat_same f g (x ∷ xs) a =
    ap (λ ys. ys ++ flat_map f xs) (All-head (λ x. f x ≡ g x) x xs a)
    ∙ ap (λ ys. g x ++ ys) (flat_same f g xs (All-tail (λ x. f x ≡ g x) x xs a))

nothing_more : {X Y : Type 0} (f : X → List Y) (xs : List X) → ((x : X) → f x ≡ []) → flat_map f xs ≡ []
nothing_more f [] e = refl
nothing_more f (x ∷ xs) e = ap (λ ys. ys ++ flat_map f xs) (e x) ∙ nothing_more f xs e

flat_seen : {X V Y : Type 0} (f : V → List Y) (view : X → V) (xs : List X) → flat_map f (map view xs) ≡ flat_map (λ x. f (view x)) xs
flat_seen f view [] = refl
flat_seen f view (x ∷ xs) = ap (λ ys. f (view x) ++ ys) (flat_seen f view xs)

-- ---- what changes make of one row

-- a change of a row that is there: of the row of its id it makes this, of any other nothing
abbrev Makes : (Tuple → List (List ℕ)) → (GivenRow → Change) → (GivenRow → List Held) → Type 0
Makes line change effect =
    (r : GivenRow) (id : ℕ) (more : List Change) (now : List Held) → row_after line id (change r ∷ more) now ≡ row_after line id more (if nat_eq r.id id then effect r else now)

passed : (line : Tuple → List (List ℕ)) (change : GivenRow → Change) (effect : GivenRow → List Held) → Makes line change effect → (b : Bool) (x : GivenRow) (kept : List GivenRow) (id : ℕ) (now left : List Held) → nat_eq x.id id ≡ false → row_after line id (map change kept) now ≡ left → row_after line id (map change (cond b (x ∷ kept) kept)) now ≡ left
passed line change effect m false x kept id now left e h = h
passed line change effect m true x kept id now left e h =
    m x id (map change kept) now ∙ ap (λ (b : Bool). row_after line id (map change kept) (if b then effect x else now)) e ∙ h

-- changes of other rows leave it
absent : (line : Tuple → List (List ℕ)) (change : GivenRow → Change) (effect : GivenRow → List Held) → Makes line change effect → (p : GivenRow → Bool) (xs : List GivenRow) (id : ℕ) (now : List Held) → AllByRecursion (λ y. nat_eq id y ≡ false) (map (λ r. r.id) xs) → row_after line id (map change (filter p xs)) now ≡ now
absent line change effect m p [] id now a = refl
absent line change effect m p (x ∷ xs) id now a =
    passed line change effect m (p x) x (filter p xs) id now now (nat_eq_equiv.symm x.id id ∙ a.0) (absent line change effect m p xs id now a.1)

reached : (line : Tuple → List (List ℕ)) (change : GivenRow → Change) (effect : GivenRow → List Held) → Makes line change effect → (b : Bool) (x : GivenRow) (kept : List GivenRow) (now : List Held) → ((left : List Held) → row_after line x.id (map change kept) left ≡ left) → row_after line x.id (map change (cond b (x ∷ kept) kept)) now ≡ (if b then effect x else now)
reached line change effect m false x kept now h = h now
reached line change effect m true x kept now h =
    m x x.id (map change kept) now ∙ ap (λ (b : Bool). row_after line x.id (map change kept) (if b then effect x else now)) (nat_eq_equiv.refl x.id) ∙ h (effect x)

-- a row is changed exactly where it is chosen
found : (line : Tuple → List (List ℕ)) (change : GivenRow → Change) (effect : GivenRow → List Held) → Makes line change effect → (p : GivenRow → Bool) (xs : List GivenRow) (g : GivenRow) (now : List Held) → IsDistinct nat_eq (map (λ r. r.id) xs) → IsIn xs g → row_after line g.id (map change (filter p xs)) now ≡ (if p g then effect g else now)
unfolding IsIn
found line change effect m p [] g now d i = absurd i
found line change effect m p (x ∷ xs) g now d (inl e) =
    subst (λ (r : GivenRow). row_after line r.id (map change (filter p (x ∷ xs))) now ≡ (if p r then effect r else now)) e
    (reached line change effect m (p x) x (filter p xs) now (λ left. absent line change effect m p xs x.id left (IsDistinct-head nat_eq x.id (map (λ r. r.id) xs) d)))
found line change effect m p (x ∷ xs) g now d (inr i) =
    passed line change effect m (p x) x (filter p xs) g.id now (if p g then effect g else now)
    (apart_in x.id xs g (IsDistinct-head nat_eq x.id (map (λ r. r.id) xs) d) i)
    (found line change effect m p xs g now (IsDistinct-tail nat_eq x.id (map (λ r. r.id) xs) d) i)

-- ---- of all rows of the table

abbrev as_given : TableRow → GivenRow
as_given r = given_row (plain_spec [] []) r

-- a scan that asks for all rows leaves none out
all_rows : (P : TableRow → Type 0) (rows : List TableRow) (read : List GivenRow) (c : IsComing rows (plain_spec [] []) [] read) → All P c.taken → All P rows
all_rows P rows read c a =
    All-permutation P (c.taken ++ c.left_out) rows (IsPermutation-sym rows (c.taken ++ c.left_out) c.parts)
    (All-append P c.taken c.left_out a (All-weaker (λ (r : TableRow). true ≡ false) P (λ r e. absurd cc) c.left_out c.failing))

changed : (line : Tuple → List (List ℕ)) (change : GivenRow → Change) (effect : GivenRow → List Held) → Makes line change effect → (p : GivenRow → Bool) (rows : List TableRow) (read : List GivenRow) → IsDistinct nat_eq (map (λ r. r.id) rows) → IsComing rows (plain_spec [] []) [] read → flat_map (λ r. row_after line r.id (map change (filter p read)) (held r ∷ [])) rows ≡ flat_map (λ r. if p (as_given r) then effect (as_given r) else held r ∷ []) rows
changed line change effect m p rows read d c =
    let id_of : GivenRow → ℕ = λ r. r.id in
    flat_same (λ r. row_after line r.id (map change (filter p read)) (held r ∷ [])) (λ r. if p (as_given r) then effect (as_given r) else held r ∷ []) rows
    (all_rows (λ r. row_after line r.id (map change (filter p read)) (held r ∷ []) ≡ (if p (as_given r) then effect (as_given r) else held r ∷ [])) rows read c
    (all_of (λ r. row_after line r.id (map change (filter p read)) (held r ∷ []) ≡ (if p (as_given r) then effect (as_given r) else held r ∷ [])) c.taken
    (λ r i. found line change effect m p read (as_given r) (held r ∷ []) (coming_once rows (plain_spec [] []) read refl c d) (subst (λ (rs : List GivenRow). IsIn rs (as_given r)) (sym c.is) (in_map as_given c.taken r i)))))

-- ---- the three writes

untouched : {X : Type 0} (line : Tuple → List (List ℕ)) (row : X → Tuple) (xs : List X) (id : ℕ) (now : List Held) → row_after line id (map (λ x. Inserts (row x)) xs) now ≡ now
untouched line row [] id now = refl
untouched line row (x ∷ xs) id now = untouched line row xs id now

old_rows : {X : Type 0} (line : Tuple → List (List ℕ)) (row : X → Tuple) (xs : List X) (rows : List TableRow) → flat_map (λ r. row_after line r.id (map (λ x. Inserts (row x)) xs) (held r ∷ [])) rows ≡ map held rows
old_rows line row xs [] = refl
old_rows line row xs (r ∷ rows) =
    ap (λ hs. hs ++ flat_map (λ r. row_after line r.id (map (λ x. Inserts (row x)) xs) (held r ∷ [])) rows) (untouched line row xs r.id (held r ∷ []))
    ∙ ap (λ hs. held r ∷ hs) (old_rows line row xs rows)

new_rows : {X : Type 0} (line : Tuple → List (List ℕ)) (written : X → List Outcome) (xs : List X) → flat_map (inserted line) (map (λ x. Inserts (map value_of (written x))) xs) ≡ map (λ x. made line (written x)) xs
new_rows line written [] = refl
new_rows line written (x ∷ xs) = ap (λ hs. made line (written x) ∷ hs) (new_rows line written xs)

made_one : (b : Bool) (a h : Held) (ys zs : List Held) → ys ≡ zs → (if b then a ∷ [] else h ∷ []) ++ ys ≡ cond b a h ∷ zs
made_one true a h ys zs e = ap (λ hs. a ∷ hs) e
made_one false a h ys zs e = ap (λ hs. h ∷ hs) e

rows_made : (p : Tuple → Bool) (new : Tuple → Held) (rows : List TableRow) → flat_map (λ r. if p r.cells then new r.cells ∷ [] else held r ∷ []) rows ≡ map (λ h. cond (p h.cells) (new h.cells) h) (map held rows)
rows_made p new [] = refl
rows_made p new (r ∷ rows) = made_one (p r.cells) (new r.cells) (held r) _ _ (rows_made p new rows)

left_one : (b : Bool) (h : Held) (ys zs : List Held) → ys ≡ zs → (if b then [] else h ∷ []) ++ ys ≡ cond (not b) (h ∷ zs) zs
left_one true h ys zs e = e
left_one false h ys zs e = ap (λ hs. h ∷ hs) e

rows_left : (p : Tuple → Bool) (rows : List TableRow) → flat_map (λ r. if p r.cells then [] else held r ∷ []) rows ≡ filter (λ h. not (p h.cells)) (map held rows)
rows_left p [] = refl
rows_left p (r ∷ rows) = left_one (p r.cells) (held r) _ _ (rows_left p rows)

-- without a new row
only_old : (line : Tuple → List (List ℕ)) (change : GivenRow → Change) (xs : List GivenRow) (old : List Held) → ((r : GivenRow) → inserted line (change r) ≡ []) → old ++ flat_map (inserted line) (map change xs) ≡ old
only_old line change xs old e =
    ap (λ hs. old ++ hs) (flat_seen (inserted line) change xs ∙ nothing_more (λ r. inserted line (change r)) xs e) ∙ append-nil old

pub as_written : (line : Tuple → List (List ℕ)) (w : WriteForm) (answer : List Tuple) (rows : List TableRow) (read : List GivenRow) → IsDistinct nat_eq (map (λ r. r.id) rows) → AreRead w rows read → rows_changed line rows (changes_of w answer read) ≡ rows_after line w answer (map held rows)
as_written line (insert_form places given) answer rows read d a =
    ap (λ hs. hs ++ flat_map (inserted line) (map (λ g. Inserts (map value_of (new_cells places g))) (rows_given given answer))) (old_rows line (λ g. map value_of (new_cells places g)) (rows_given given answer) rows)
    ∙ ap (λ hs. map held rows ++ hs) (new_rows line (new_cells places) (rows_given given answer))
as_written line (update_form conditions cells) answer rows read d a =
    let p : GivenRow → Bool = λ r. keeps (means [] conditions) r.cells in
    let change : GivenRow → Change = λ r. Updates r.id (map value_of (row_made cells r.cells)) in
    let effect : GivenRow → List Held = λ r. made line (row_made cells r.cells) ∷ [] in
    only_old line change (filter p read) (flat_map (λ r. row_after line r.id (map change (filter p read)) (held r ∷ [])) rows) (λ r. refl)
    ∙ changed line change effect (λ r id more now. refl) p rows read d a
    ∙ rows_made (keeps (means [] conditions)) (λ r. made line (row_made cells r)) rows
as_written line (delete_form conditions) answer rows read d a =
    let p : GivenRow → Bool = λ r. keeps (means [] conditions) r.cells in
    let change : GivenRow → Change = λ r. Deletes r.id in
    only_old line change (filter p read) (flat_map (λ r. row_after line r.id (map change (filter p read)) (held r ∷ [])) rows) (λ r. refl)
    ∙ changed line change (λ r. []) (λ r id more now. refl) p rows read d a
    ∙ rows_left (keeps (means [] conditions)) rows

pub rows_written : (columns : List WrittenColumn) (w : WriteForm) (answer : List Tuple) (old new : BoxState) (t count : ℕ) → is_honest old → IsDistinct nat_eq (map (λ r. r.id) (rows_of old t)) → Writes columns w answer old t count new → (b : BoxTable) → table_of old t ≡ Some b → map held (rows_of new t) ≡ b.arrangement.arranged (rows_after b.line w answer (map held (rows_of old t)))
rows_written columns w answer old new t count honest d h b is =
    let k = h.content honest in
    let same : k.bound ≡ b = same_Some k.bound b (sym k.is ∙ is) in
    k.rows
    ∙ ap (λ cs. k.bound.arrangement.arranged (rows_changed k.bound.line (rows_of old t) cs)) h.are_changes.are
    ∙ ap k.bound.arrangement.arranged (as_written k.bound.line w answer (rows_of old t) h.read d (h.are_read honest))
    ∙ ap (λ (z : BoxTable). z.arrangement.arranged (rows_after z.line w answer (map held (rows_of old t)))) same
