-- Rows that are out change nothing of a write.
use Rattle.std.proofs.Common.{◌≡◌, Bool, true, false, List, [], ◌∷◌, ◌++◌, map, filter, flat_map, length, All, refl, sym, ap, ◌∙◌}
use Rattle.std.specs.List.{list_any}
use Rattle.std.proofs.lemmas.List.{append-nil, map-append}
use Rattle.std.proofs.lemmas.List.Elements.{filter-append, All-head, All-tail, All-map, All-weaker}
use Rattle.std.proofs.lemmas.Grind.{flat_map-append}
use Rattle.med_value.specs.Datum.{Tuple, NoValue, Whole, Chars, Logic}
use Rattle.tri_expr.specs.Prelude.{Outcome, Is, Fails, value_of, OnClass, is_refusal, is_in, fault_list}
use Rattle.med_query.specs.Query.{on_row, keeps}
use Rattle.fdw_api.specs.Prelude.{Updates, Deletes, GivenRow}
use Rattle.med_write.specs.declared.write.WrittenColumn.{WrittenColumn}
use Rattle.med_write.specs.Form.{WriteForm, insert_form, update_form, delete_form}
use Rattle.med_write.specs.Writing.{row_made, chosen_by, rows_chosen, rows_written, count_of, choice_faults, lacks_value, changes_of}
use Rattle.med_write.specs.Making.{is_chosen, cells_of}
use Rattle.med_write.specs.Laws.{is_out, SameWrite}

-- ---- of one row

-- where a conjunct is false or unknown, not every one is true
not_in : (os : List Outcome) → list_any is_refusal os ≡ true → is_in os ≡ false
not_in [] e = absurd cc
not_in (Is NoValue ∷ os) e = refl
not_in (Is (Whole n) ∷ os) e = refl
not_in (Is (Chars t) ∷ os) e = refl
not_in (Is (Logic false) ∷ os) e = refl
not_in (Is (Logic true) ∷ os) e = not_in os e
not_in (Fails c ∷ os) e = refl

not_kept : (fs : List OnClass) (r : Tuple) → is_out fs r ≡ true → keeps fs r ≡ false
not_kept fs r e = not_in (on_row fs r) e

quiet : (fs : List OnClass) (r : Tuple) → is_out fs r ≡ true → choice_faults fs r ≡ []
quiet fs r e = rw e refl

-- ---- of rows

filter_step : {X : Type 0} (p : X → Bool) (y : X) (ys : List X) → p y ≡ false → filter p ys ≡ [] → filter p (y ∷ ys) ≡ []
filter_step p y ys e h = rw e h

none_kept : {X : Type 0} (p : X → Bool) (ys : List X) → All (λ y. p y ≡ false) ys → filter p ys ≡ []
none_kept p [] h = refl
none_kept p (y ∷ ys) h = filter_step p y ys (All-head (λ x. p x ≡ false) y ys h) (none_kept p ys (All-tail (λ x. p x ≡ false) y ys h))

none_told : {X Y : Type 0} (f : X → List Y) (ys : List X) → All (λ y. f y ≡ []) ys → flat_map f ys ≡ []
none_told f [] h = refl
none_told f (y ∷ ys) h = ap (λ l. l ++ flat_map f ys) (All-head (λ x. f x ≡ []) y ys h) ∙ none_told f ys (All-tail (λ x. f x ≡ []) y ys h)

kept_before : {X : Type 0} (p : X → Bool) (xs ys : List X) → All (λ y. p y ≡ false) ys → filter p xs ≡ filter p (xs ++ ys)
kept_before p xs ys h = sym (filter-append p xs ys ∙ ap (λ l. filter p xs ++ l) (none_kept p ys h) ∙ append-nil (filter p xs))

told_before : {X Y : Type 0} (f : X → List Y) (xs ys : List X) → All (λ y. f y ≡ []) ys → flat_map f xs ≡ flat_map f (xs ++ ys)
told_before f xs ys h = sym (flat_map-append f xs ys ∙ ap (λ l. flat_map f xs ++ l) (none_told f ys h) ∙ append-nil (flat_map f xs))

-- ---- of a write

-- the rows that are written, and how many rows it is told of, by the rows that are chosen
written_same : (w : WriteForm) (answer rows others : List Tuple) → rows_chosen w rows ≡ rows_chosen w others → rows_written w rows answer ≡ rows_written w others answer
written_same (insert_form places given) answer rows others e = refl
written_same (update_form conditions cells) answer rows others e = ap (map (row_made cells)) e
written_same (delete_form conditions) answer rows others e = refl

count_same : (w : WriteForm) (answer rows others : List Tuple) → rows_chosen w rows ≡ rows_chosen w others → count_of w rows answer ≡ count_of w others answer
count_same (insert_form places given) answer rows others e = refl
count_same (update_form conditions cells) answer rows others e = ap length e
count_same (delete_form conditions) answer rows others e = ap length e

changes_same : (w : WriteForm) (answer : List Tuple) (rows others : List GivenRow) → filter (is_chosen (chosen_by w)) rows ≡ filter (is_chosen (chosen_by w)) others → changes_of w answer rows ≡ changes_of w answer others
changes_same (insert_form places given) answer rows others e = refl
changes_same (update_form conditions cells) answer rows others e = ap (map (λ (r : GivenRow). Updates r.id (map value_of (row_made cells r.cells)))) e
changes_same (delete_form conditions) answer rows others e = ap (map (λ (r : GivenRow). Deletes r.id)) e

pub out_change_nothing : (columns : List WrittenColumn) (w : WriteForm) (answer : List Tuple) (rows out : List GivenRow) → All (λ r. is_out (chosen_by w) r.cells ≡ true) out → SameWrite columns w answer rows (rows ++ out)
out_change_nothing columns w answer rows out h =
    let fs = chosen_by w in
    let cells : List Tuple = cells_of rows in
    let missing : List Tuple = cells_of out in
    let all : cells_of (rows ++ out) ≡ cells ++ missing = map-append (λ (r : GivenRow). r.cells) rows out in
    let seen : All (λ r. is_out fs r ≡ true) missing = All-map (λ r. is_out fs r ≡ true) (λ (r : GivenRow). r.cells) out h in
    let chosen : rows_chosen w cells ≡ rows_chosen w (cells_of (rows ++ out)) =
    kept_before (keeps fs) cells missing (All-weaker (λ r. is_out fs r ≡ true) (λ r. keeps fs r ≡ false) (λ r e. not_kept fs r e) missing seen) ∙ ap (rows_chosen w) (sym all) in
    let written = written_same w answer cells (cells_of (rows ++ out)) chosen in
    record {
      changes = changes_same w answer rows (rows ++ out) (kept_before (is_chosen fs) rows out (All-weaker (λ r. is_out fs r.cells ≡ true) (λ r. is_chosen fs r ≡ false) (λ r e. not_kept fs r.cells e) out h));
      count = count_same w answer cells (cells_of (rows ++ out)) chosen;
      faults =
          ap (λ l. l ++ flat_map fault_list (rows_written w cells answer)) (told_before (choice_faults fs) cells missing (All-weaker (λ r. is_out fs r ≡ true) (λ r. choice_faults fs r ≡ []) (λ r e. quiet fs r e) missing seen) ∙ ap (flat_map (choice_faults fs)) (sym all))
          ∙ ap (λ l. flat_map (choice_faults fs) (cells_of (rows ++ out)) ++ flat_map fault_list l) written;
      lacks = ap (list_any (lacks_value columns)) written;
    }
