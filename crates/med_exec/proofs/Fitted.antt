-- Whether the rows of an answer are of the columns' types.
use Rattle.std.proofs.Common.{◌≡◌, ◌∙◌, ◌<◌, ℕ, true, List, [], Option, Some, map, length, get_or, refl, ap, sym}
use Rattle.std.specs.List.{list_all}
use Rattle.std.proofs.lemmas.List.{length-map}
use Rattle.std.proofs.lemmas.List.Folds.{list_all-map}
use Rattle.med_value.specs.Datum.{Datum, NoValue, Tuple, datum}
use Rattle.med_value.specs.declared.value.ColType.{ColType}
use Rattle.med_value.specs.declared.value.Value.{Value}
use Rattle.tri_expr.specs.Outcome.{Outcome, Is, value_of}
use Rattle.fdw_api.specs.Scan.{row_fits}
use Rattle.med_write.specs.Form.{insert_form, answer_form}
use Rattle.med_write.specs.Writing.{outcomes_of, new_cells}
use Rattle.med_write.proofs.CellSteps.{get_mapped}
use Rattle.med_exec.specs.Writing.{IsTypedWrite}
use Rattle.med_exec.specs.Fitting.{value_placed, answer_fits}

-- the value in a place that is there
pub placed_is : (vs : List Value) (place : Option ℕ) (at : ℕ) (v : Value) → place ≡ Some at → at < length vs → v ≡ get_or vs at v → value_placed (map datum vs) place ≡ datum v
placed_is vs place at v is lt e =
    let inner : datum v ≡ get_or (map datum vs) at (datum v) = sym (get_mapped datum vs at v (datum v) lt e) in
    let long : at < length (map datum vs) = rw (length-map vs datum) lt in
    ap (λ (p : Option ℕ). value_placed (map datum vs) p) is ∙ ap value_of (get_mapped (λ (d : Datum). Is d) (map datum vs) at (datum v) (Is NoValue) long inner)

-- the rows that an INSERT writes of an answer are typed exactly where they fit
rows_of_answer : (kinds : List ColType) (places : List (Option ℕ)) (answer : List Tuple) → list_all (λ os. row_fits kinds (map value_of os)) (map (new_cells places) (map outcomes_of answer)) ≡ answer_fits kinds places answer
rows_of_answer kinds places answer =
    list_all-map (λ (os : List Outcome). row_fits kinds (map value_of os)) (new_cells places) (map outcomes_of answer) ∙ list_all-map (λ (os : List Outcome). row_fits kinds (map value_of (new_cells places os))) outcomes_of answer

pub fits_typed : (kinds : List ColType) (places : List (Option ℕ)) (answer : List Tuple) → answer_fits kinds places answer ≡ true → IsTypedWrite kinds (insert_form places answer_form) answer
fits_typed kinds places answer h rows typed = rows_of_answer kinds places answer ∙ h

pub typed_fits : (kinds : List ColType) (places : List (Option ℕ)) (answer : List Tuple) → IsTypedWrite kinds (insert_form places answer_form) answer → answer_fits kinds places answer ≡ true
typed_fits kinds places answer h = sym (rows_of_answer kinds places answer) ∙ h [] refl
