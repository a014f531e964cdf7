-- What the parts of a write answer is what the write is.
use Rattle.std.proofs.Common.{◌≡◌, ℕ, Bool, true, false, cond, List, [], ◌∷◌, ◌++◌, map, filter, flat_map, length, sym, refl, ap, ◌∙◌, subst, Option, Result, Ok, Err, IfOk}
use Rattle.std.proofs.lemmas.List.{length-map}
use Rattle.std.proofs.lemmas.List.Elements.{Contains-append_left, Contains-append_right}
use Rattle.med_value.specs.Datum.{Tuple}
use Rattle.tri_expr.specs.declared.expr.EvalFault.{EvalFault}
use Rattle.tri_expr.specs.Prelude.{Tree, Outcome, value_of, OnClass, means, fault_list}
use Rattle.med_query.specs.Query.{IsTold, keeps}
use Rattle.med_query.proofs.Telling.{tells_more}
use Rattle.fdw_api.specs.Prelude.{Change, Inserts, Updates, Deletes, GivenRow}
use Rattle.med_write.specs.declared.write.WrittenColumn.{WrittenColumn}
use Rattle.med_write.specs.declared.write.WriteFault.{WriteFault}
use Rattle.med_write.specs.declared.write.WriteFault.TheVariants.{Evaluation, NotNull}
use Rattle.med_write.specs.Form.{GivenForm, WriteForm, insert_form, update_form, delete_form}
use Rattle.med_write.specs.Writing.{new_cells, row_made, rows_given, choice_faults}
use Rattle.med_write.specs.Making.{IsFaultOf, Makes, is_chosen, chosen_faults, cells_of, IsWriteFault, AreChanges}
use Rattle.med_write.proofs.RowSteps.{map_map}

-- ---- lists that are seen by a view

flat_map_map : {X V Y : Type 0} (f : V → List Y) (view : X → V) (xs : List X) → flat_map f (map view xs) ≡ flat_map (λ x. f (view x)) xs
flat_map_map f view [] = refl
flat_map_map f view (x ∷ xs) = ap (λ ys. f (view x) ++ ys) (flat_map_map f view xs)

filter_one : {X V : Type 0} (view : X → V) (b : Bool) (x : X) (vs : List V) (xs : List X) → vs ≡ map view xs → cond b (view x ∷ vs) vs ≡ map view (cond b (x ∷ xs) xs)
filter_one view true x vs xs e = ap (λ ys. view x ∷ ys) e
filter_one view false x vs xs e = e

filter_seen : {X V : Type 0} (p : V → Bool) (view : X → V) (xs : List X) → filter p (map view xs) ≡ map view (filter (λ x. p (view x)) xs)
filter_seen p view [] = refl
filter_seen p view (x ∷ xs) = filter_one view (p (view x)) x (filter p (map view xs)) (filter (λ y. p (view y)) xs) (filter_seen p view xs)

-- ---- INSERT

-- no conjunct has a fault
nothing_told : (rows : List Tuple) → flat_map (choice_faults []) rows ≡ []
nothing_told [] = refl
nothing_told (r ∷ rows) = nothing_told rows

pub insert_whole : {V : Type 0} (columns : List WrittenColumn) (places : List (Option ℕ)) (given : GivenForm) (answer : List Tuple) (xs : List V) (g : V → List Outcome) (changes : List Change) → rows_given given answer ≡ map g xs → Makes columns (λ x. new_cells places (g x)) (λ x row. Inserts row) xs changes → (rows : List GivenRow) → AreChanges columns (insert_form places given) rows answer changes
insert_whole columns places given answer xs g changes is m rows =
    let written : map (new_cells places) (rows_given given answer) ≡ map (λ x. new_cells places (g x)) xs = ap (map (new_cells places)) is ∙ map_map (new_cells places) g xs in
    record {
      are = m.are ∙ sym (map_map (λ os. Inserts (map value_of (new_cells places os))) g xs) ∙ ap (map (λ os. Inserts (map value_of (new_cells places os)))) (sym is);
      no_fault = rw (nothing_told (cells_of rows), written) m.no_fault;
      complete = rw written m.complete;
      many = ap length m.are ∙ length-map xs _ ∙ sym (length-map xs g) ∙ ap length (sym is);
    }

pub insert_fails : {V : Type 0} (fault : WriteFault) (columns : List WrittenColumn) (places : List (Option ℕ)) (given : GivenForm) (answer : List Tuple) (xs : List V) (g : V → List Outcome) → rows_given given answer ≡ map g xs → IsFaultOf fault columns (map (λ x. new_cells places (g x)) xs) → (rows : List Tuple) → IsWriteFault fault columns (insert_form places given) rows answer
insert_fails (Evaluation f) columns places given answer xs g is t rows =
    let written : map (new_cells places) (rows_given given answer) ≡ map (λ x. new_cells places (g x)) xs = ap (map (new_cells places)) is ∙ map_map (new_cells places) g xs in
    rw (nothing_told rows, written) t
insert_fails NotNull columns places given answer xs g is t rows =
    let written : map (new_cells places) (rows_given given answer) ≡ map (λ x. new_cells places (g x)) xs = ap (map (new_cells places)) is ∙ map_map (new_cells places) g xs in
    rw written t

-- ---- UPDATE and DELETE

-- the rows that are chosen, as tuples
chosen_cells : (fs : List OnClass) (rows chosen : List GivenRow) → chosen ≡ filter (is_chosen fs) rows → filter (keeps fs) (cells_of rows) ≡ cells_of chosen
chosen_cells fs rows chosen is = filter_seen (keeps fs) (λ r. r.cells) rows ∙ ap cells_of (sym is)

chosen_written : (fs : List OnClass) (cells : List (Option Tree)) (rows chosen : List GivenRow) → chosen ≡ filter (is_chosen fs) rows → map (row_made cells) (filter (keeps fs) (cells_of rows)) ≡ map (λ r. row_made cells r.cells) chosen
chosen_written fs cells rows chosen is = ap (map (row_made cells)) (chosen_cells fs rows chosen is) ∙ map_map (row_made cells) (λ r. r.cells) chosen

pub update_whole : (columns : List WrittenColumn) (conditions : List Tree) (cells : List (Option Tree)) (rows chosen : List GivenRow) (changes : List Change) → chosen ≡ filter (is_chosen (means [] conditions)) rows → flat_map (chosen_faults (means [] conditions)) rows ≡ [] → Makes columns (λ r. row_made cells r.cells) (λ r row. Updates r.id row) chosen changes → (answer : List Tuple) → AreChanges columns (update_form conditions cells) rows answer changes
update_whole columns conditions cells rows chosen changes is quiet m answer =
    let fs = means [] conditions in
    let written = chosen_written fs cells rows chosen is in
    let judged : flat_map (choice_faults fs) (cells_of rows) ≡ [] = flat_map_map (choice_faults fs) (λ (r : GivenRow). r.cells) rows ∙ quiet in
    record {
      are = m.are ∙ ap (map (λ (r : GivenRow). Updates r.id (map value_of (row_made cells r.cells)))) is;
      no_fault = rw (judged, written) m.no_fault;
      complete = rw written m.complete;
      many = ap length m.are ∙ length-map chosen _ ∙ sym (length-map chosen (λ (r : GivenRow). r.cells)) ∙ ap length (sym (chosen_cells fs rows chosen is));
    }

pub update_fails : (fault : WriteFault) (columns : List WrittenColumn) (conditions : List Tree) (cells : List (Option Tree)) (rows chosen : List GivenRow) → chosen ≡ filter (is_chosen (means [] conditions)) rows → IsFaultOf fault columns (map (λ r. row_made cells r.cells) chosen) → (answer : List Tuple) → IsWriteFault fault columns (update_form conditions cells) (cells_of rows) answer
update_fails (Evaluation f) columns conditions cells rows chosen is t answer =
    rw (chosen_written (means [] conditions) cells rows chosen is) (tells_more f _ _ (λ c h. Contains-append_right (flat_map (choice_faults (means [] conditions)) (cells_of rows)) _ c h) t)
update_fails NotNull columns conditions cells rows chosen is t answer = rw (chosen_written (means [] conditions) cells rows chosen is) t

pub delete_whole : (columns : List WrittenColumn) (conditions : List Tree) (rows chosen : List GivenRow) (changes : List Change) → chosen ≡ filter (is_chosen (means [] conditions)) rows → flat_map (chosen_faults (means [] conditions)) rows ≡ [] → changes ≡ map (λ r. Deletes r.id) chosen → (answer : List Tuple) → AreChanges columns (delete_form conditions) rows answer changes
delete_whole columns conditions rows chosen changes is quiet are answer =
    let fs = means [] conditions in
    let judged : flat_map (choice_faults fs) (cells_of rows) ≡ [] = flat_map_map (choice_faults fs) (λ (r : GivenRow). r.cells) rows ∙ quiet in
    record {
      are = are ∙ ap (map (λ (r : GivenRow). Deletes r.id)) is;
      no_fault = rw judged refl;
      complete = refl;
      many = ap length are ∙ length-map chosen _ ∙ sym (length-map chosen (λ (r : GivenRow). r.cells)) ∙ ap length (sym (chosen_cells fs rows chosen is));
    }

-- a fault of WHERE
pub choice_fails : (f : EvalFault) (columns : List WrittenColumn) (fs : List OnClass) (written : List (List Outcome)) (rows : List GivenRow) → IsTold f (flat_map (chosen_faults fs) rows) → IsTold f (flat_map (choice_faults fs) (cells_of rows) ++ flat_map fault_list written)
choice_fails f columns fs written rows t =
    tells_more f _ _ (λ c h. Contains-append_left (flat_map (choice_faults fs) (cells_of rows)) (flat_map fault_list written) c (rw (flat_map_map (choice_faults fs) (λ (r : GivenRow). r.cells) rows) h)) t

-- a DELETE writes no row
pub delete_fails : (fault : WriteFault) (columns : List WrittenColumn) (conditions : List Tree) (rows : List Tuple) → ((targets : List WrittenColumn) (written : List (List Outcome)) → IsFaultOf fault targets written) → (answer : List Tuple) → IsWriteFault fault columns (delete_form conditions) rows answer
delete_fails (Evaluation f) columns conditions rows t answer = tells_more f _ _ (λ c h. Contains-append_right (flat_map (choice_faults (means [] conditions)) rows) [] c h) (t columns [])
delete_fails NotNull columns conditions rows t answer = t columns []

-- the same write, whatever answer an INSERT would see
pub ok_of_form : {T : Type 0} (r : Result T WriteFault) (seen : T → List Change) (columns targets : List WrittenColumn) (w u : WriteForm) (rows : List GivenRow) (answer : List Tuple) → columns ≡ targets → w ≡ u → IfOk r (λ v. (any : List Tuple) → AreChanges columns w rows any (seen v)) → IfOk r (λ v. AreChanges targets u rows answer (seen v))
ok_of_form (Ok v) seen columns targets w u rows answer e d h = subst (λ (x : WriteForm). AreChanges targets x rows answer (seen v)) d (subst (λ (x : List WrittenColumn). AreChanges x w rows answer (seen v)) e (h answer))
ok_of_form (Err f) seen columns targets w u rows answer e d h = tt
