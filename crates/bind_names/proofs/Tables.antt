-- The tables that entries of FROM stand for.
use Rattle.std.proofs.Common.{◌≡◌, ℕ, suc, ◌+◌, ◌<◌, true, drop, bytes_eq, List, [], Bool, Option, Some, None, if◌then◌else◌, length, map, slice_get, get_or, unwrap_or, option_map, refl, ap, sym, ◌∙◌}
use Rattle.std.specs.Option.{option_and_then}
use Rattle.std.proofs.lemmas.Option.{slice_get_read, slice_get-map}
use Rattle.med_value.specs.Column.{column_of}
use Rattle.med_syntax.specs.Prelude.{Name, EntryTree}
use Rattle.bind_names.specs.Scope.{TableShape, table_shape, place_from, place_named, entry_columns}
use Rattle.bind_names.specs.declared.table.TableView.{TableView}
use Rattle.bind_names.proofs.Parts.{drop_read}

pub get_read : {X : Type 0} (xs : List X) (i : ℕ) (x : X) → i < length xs → x ≡ get_or xs i x → slice_get xs i ≡ Some x
get_read xs i x lt read = slice_get_read xs (length xs) i x refl lt read

pub columns_missing : (tables : List TableShape) (e : EntryTree) → place_named tables e.table ≡ None → [] ≡ entry_columns tables e
columns_missing tables e h = sym (ap (λ p. unwrap_or (option_map (λ (t : TableShape). t.columns) (option_and_then (slice_get tables) p)) []) h)

pub columns_found : (tables : List TableView) (e : EntryTree) (p : ℕ) (t : TableView) → place_named (map table_shape tables) e.table ≡ Some p → slice_get tables p ≡ Some t
    → map column_of t.columns.now ≡ entry_columns (map table_shape tables) e
columns_found tables e p t h there =
    let at : slice_get (map table_shape tables) p ≡ Some (table_shape t) = slice_get-map table_shape tables p ∙ ap (option_map table_shape) there in
    sym (ap (λ r. unwrap_or (option_map (λ (t : TableShape). t.columns) (option_and_then (slice_get (map table_shape tables)) r)) []) h
    ∙ ap (λ r. unwrap_or (option_map (λ (t : TableShape). t.columns) r) []) at)

pub found_at : (all : Option ℕ) (xs : List TableView) (i : ℕ) (t : TableView) (n : Name) → all ≡ place_from i (map table_shape (drop i xs)) n → i < length xs → t ≡ get_or xs i t → bytes_eq t.name.now n ≡ true → all ≡ Some i
found_at all xs i t n e lt read h =
    e ∙ ap (λ ys. place_from i (map table_shape ys) n) (drop_read xs i t lt read)
    ∙ ap (λ (b : Bool). if b then Some i else place_from (suc i) (map table_shape (drop (i + 1) xs)) n) h
