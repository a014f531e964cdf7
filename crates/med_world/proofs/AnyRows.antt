-- A write over the same rows in another order, or as a scan gave them: what it writes, its faults, and what it leaves of the table.
use Rattle.std.proofs.Common.{◌≡◌, ℕ, true, false, not, List, [], ◌∷◌, ◌++◌, map, flat_map, cond, All, Option, refl, ap, sym, ◌∙◌, subst}
use Rattle.std.proofs.lemmas.List.{append-nil}
use Rattle.std.proofs.lemmas.List.Elements.{All-head}
use Rattle.med_value.specs.Datum.{Tuple}
use Rattle.tri_expr.specs.declared.expr.Fault.{Fault}
use Rattle.tri_expr.specs.Prelude.{means, fault_list}
use Rattle.tri_expr.proofs.Shuffled.{Shuffled, none, both, same, back, from_swaps, mapped, before, joined_to, each_mapped, filtered, as_long, any_kept}
use Rattle.med_query.specs.Query.{keeps}
use Rattle.fdw_api.specs.Prelude.{Held, held, GivenRow, TableRow, IsComing, plain_spec}
use Rattle.med_write.specs.declared.write.WrittenColumn.{WrittenColumn}
use Rattle.med_write.specs.Form.{GivenForm, WriteForm, insert_form, update_form, delete_form}
use Rattle.med_write.specs.Writing.{row_made, new_cells, rows_given, rows_written, count_of, choice_faults, write_faults, lacks_value, write_lacks, made, rows_after, changes_of}
use Rattle.med_write.specs.Making.{cells_of as cells_given}
use Rattle.med_exec.specs.Writing.{AreRead}
use Rattle.sql_meaning.specs.Prelude.{as_given, cells_of}

-- ---- over the same rows

-- the same rows in any order; of an INSERT, which reads none, any rows
abbrev pub SameFor : WriteForm → List Tuple → List Tuple → Type 0
SameFor (insert_form places given) xs ys = Unit {0}
SameFor (update_form conditions cells) xs ys = Shuffled xs ys
SameFor (delete_form conditions) xs ys = Shuffled xs ys

no_choice : (rows : List Tuple) → flat_map (choice_faults []) rows ≡ []
no_choice [] = refl
no_choice (r ∷ rs) = no_choice rs

abbrev new_faults : List (Option ℕ) → GivenForm → List Tuple → List Fault
new_faults places given answer = flat_map fault_list (map (new_cells places) (rows_given given answer))

pub written_same : (w : WriteForm) (answer xs ys : List Tuple) → SameFor w xs ys → Shuffled (rows_written w xs answer) (rows_written w ys answer)
written_same (insert_form places given) answer xs ys s = same (map (new_cells places) (rows_given given answer))
written_same (update_form conditions cells) answer xs ys s = mapped (row_made cells) (filtered (keeps (means [] conditions)) s)
written_same (delete_form conditions) answer xs ys s = none

pub faults_same : (w : WriteForm) (answer xs ys : List Tuple) → SameFor w xs ys → Shuffled (write_faults w xs answer) (write_faults w ys answer)
faults_same (insert_form places given) answer xs ys s =
    subst (λ (fs : List Fault). Shuffled (flat_map (choice_faults []) xs ++ new_faults places given answer) (fs ++ new_faults places given answer))
    (no_choice xs ∙ sym (no_choice ys)) (same (flat_map (choice_faults []) xs ++ new_faults places given answer))
faults_same (update_form conditions cells) answer xs ys s =
    joined_to (each_mapped (choice_faults (means [] conditions)) s) (each_mapped fault_list (written_same (update_form conditions cells) answer xs ys s))
faults_same (delete_form conditions) answer xs ys s = joined_to (each_mapped (choice_faults (means [] conditions)) s) none

pub lacks_same : (columns : List WrittenColumn) (w : WriteForm) (answer xs ys : List Tuple) → SameFor w xs ys → write_lacks columns w xs answer ≡ write_lacks columns w ys answer
lacks_same columns w answer xs ys s = any_kept (lacks_value columns) (written_same w answer xs ys s)

pub count_same : (w : WriteForm) (answer xs ys : List Tuple) → SameFor w xs ys → count_of w xs answer ≡ count_of w ys answer
count_same (insert_form places given) answer xs ys s = refl
count_same (update_form conditions cells) answer xs ys s = as_long (filtered (keeps (means [] conditions)) s)
count_same (delete_form conditions) answer xs ys s = as_long (filtered (keeps (means [] conditions)) s)

-- what it leaves
pub after_same : (line : Tuple → List (List ℕ)) (w : WriteForm) (answer : List Tuple) (xs ys : List Held) → Shuffled xs ys → Shuffled (rows_after line w answer xs) (rows_after line w answer ys)
after_same line (insert_form places given) answer xs ys s = before (map (λ g. made line (new_cells places g)) (rows_given given answer)) s
after_same line (update_form conditions cells) answer xs ys s = mapped (λ (h : Held). cond (keeps (means [] conditions) h.cells) (made line (row_made cells h.cells)) h) s
after_same line (delete_form conditions) answer xs ys s = filtered (λ (h : Held). not (keeps (means [] conditions) h.cells)) s

-- ---- as a scan gave them

none_out : (xs : List TableRow) → All (λ r. true ≡ false) xs → xs ≡ []
none_out [] a = refl
none_out (x ∷ xs) a = absurd (let e = All-head (λ (r : TableRow). true ≡ false) x xs a in cc)

pub all_come : (rows : List TableRow) (read : List GivenRow) → IsComing rows (plain_spec [] []) [] read → Shuffled (map as_given rows) read
all_come rows read c =
    let taken : c.taken ++ c.left_out ≡ c.taken = ap (λ (l : List TableRow). c.taken ++ l) (none_out c.left_out c.failing) ∙ append-nil c.taken in
    let rows_taken : Shuffled rows c.taken = subst (λ (l : List TableRow). Shuffled rows l) taken (from_swaps rows (c.taken ++ c.left_out) c.parts) in
    subst (λ (l : List GivenRow). Shuffled (map as_given rows) l) (sym c.is) (mapped as_given rows_taken)

-- the rows as they were read; of an INSERT, which reads none, any order will do
abbrev pub read_for : WriteForm → List TableRow → List GivenRow → List GivenRow
read_for (insert_form places given) rows read = map as_given rows
read_for (update_form conditions cells) rows read = read
read_for (delete_form conditions) rows read = read

pub changes_read : (w : WriteForm) (answer : List Tuple) (rows : List TableRow) (read : List GivenRow) → changes_of w answer (read_for w rows read) ≡ changes_of w answer read
changes_read (insert_form places given) answer rows read = refl
changes_read (update_form conditions cells) answer rows read = refl
changes_read (delete_form conditions) answer rows read = refl

pub read_all : (w : WriteForm) (rows : List TableRow) (read : List GivenRow) → AreRead w rows read → Shuffled (map as_given rows) (read_for w rows read)
read_all (insert_form places given) rows read a = same (map as_given rows)
read_all (update_form conditions cells) rows read a = all_come rows read a
read_all (delete_form conditions) rows read a = all_come rows read a

cells_held : (rows : List TableRow) → cells_given (map as_given rows) ≡ cells_of (map held rows)
cells_held [] = refl
cells_held (r ∷ rs) = ap (λ (xs : List Tuple). r.cells ∷ xs) (cells_held rs)

seen : (rows : List TableRow) (read : List GivenRow) (hs : List Held) → IsComing rows (plain_spec [] []) [] read → Shuffled (map held rows) hs → Shuffled (cells_given read) (cells_of hs)
seen rows read hs c s =
    both (mapped (λ (r : GivenRow). r.cells) (back (all_come rows read c)))
    (subst (λ (xs : List Tuple). Shuffled xs (cells_of hs)) (sym (cells_held rows)) (mapped (λ (h : Held). h.cells) s))

-- the rows that are read of a table are those of the table
pub read_same : (w : WriteForm) (rows : List TableRow) (read : List GivenRow) (hs : List Held) → AreRead w rows read → Shuffled (map held rows) hs → SameFor w (cells_given read) (cells_of hs)
read_same (insert_form places given) rows read hs a s = tt
read_same (update_form conditions cells) rows read hs a s = seen rows read hs a s
read_same (delete_form conditions) rows read hs a s = seen rows read hs a s
