-- The entries of a bound query have the columns of their tables, and what holds of the form that a statement means holds of its own.
use Rattle.std.proofs.Common.{◌≡◌, ℕ, List, [], ◌∷◌, Option, Some, None, All, flat_map, map, length, option_map, unwrap_or, slice_get, Result, Ok, Err, IfOk, Contains, refl, sym, ap, subst, ◌∙◌, if◌then◌else◌}
use Rattle.std.specs.Option.{is_some, option_and_then}
use Rattle.std.proofs.lemmas.List.{length-map}
use Rattle.std.proofs.lemmas.List.Elements.{All-head, All-tail}
use Rattle.std.proofs.lemmas.Option.{slice_get-map}
use Rattle.med_value.specs.Column.{column_of}
use Rattle.med_value.specs.declared.cause.Cause.{Cause}
use Rattle.med_value.specs.declared.cause.Cause.TheVariants.{UndefinedTable}
use Rattle.med_syntax.specs.QueryTree.{EntryTree, cores_of, StatementTree, select}
use Rattle.med_query.specs.Form.{Form, form_of}
use Rattle.bind_names.specs.Prelude.{TableShape, table_shape, query_entries, entry_place, place_named, entry_causes, core_alias_causes, entered_causes, asked_causes, statement_name_causes, meant}
use Rattle.bind_names.specs.declared.table.TableView.{TableView}
use Rattle.bind_types.specs.Typing.{statement_type_causes}
use Rattle.med_binder.specs.Binding.{IsMeant, IsEntryOf}
use Rattle.med_binder.specs.Turns.{Binds}
use Rattle.med_binder.specs.Within.{widths_of, FormWithin}
use Rattle.med_binder.specs.Counted.{bound_widths, FormCounts}
use Rattle.med_binder.specs.Alike.{from_kinds, FormAlike}
use Rattle.med_binder.specs.declared.bound.BoundEntry.{BoundEntry}
use Rattle.med_binder.specs.declared.bound.BoundQuery.{BoundQuery}
use Rattle.med_binder.proofs.Binds.{no_element}
use Rattle.med_binder.proofs.LawEntries.{left_empty, right_empty, known_empty}
use Rattle.med_binder.proofs.LawViews.{form_within}
use Rattle.med_binder.proofs.Numbers.{entry_width, entry_widths, shape_widths}
use Rattle.med_binder.proofs.LawCounted.{form_counts}
use Rattle.med_binder.proofs.LawAlike.{form_alike}

-- ---- widths

abbrev shape_columns : Option TableShape → ℕ
shape_columns o = length (unwrap_or (option_map (λ (t : TableShape). t.columns) o) [])

placed_width : (tables : List TableView) (o : Option ℕ) (b : BoundEntry) → IsEntryOf tables b → b.place ≡ unwrap_or o 0 → (if is_some o then [] else UndefinedTable ∷ []) ≡ []
    → b.width ≡ shape_columns (option_and_then (slice_get (map table_shape tables)) o)
placed_width tables None b h e k = absurd cc
placed_width tables (Some p) b h e k =
    let there : slice_get (map table_shape tables) p ≡ Some (table_shape h.table) =
    slice_get-map table_shape tables p ∙ ap (option_map table_shape) (ap (slice_get tables) (sym e) ∙ h.there) in
    h.width ∙ sym (length-map h.table.columns.now column_of) ∙ ap shape_columns (sym there)

entry_is_wide : (tables : List TableView) (e : EntryTree) (b : BoundEntry) → IsEntryOf tables b → b.place ≡ entry_place (map table_shape tables) e → entry_causes (map table_shape tables) e ≡ []
    → b.width ≡ entry_width (map table_shape tables) e
entry_is_wide tables e b h p k = placed_width tables (place_named (map table_shape tables) e.table) b h p k

first_is : (m n : ℕ) (ms ns : List ℕ) → m ∷ ms ≡ n ∷ ns → m ≡ n
first_is m n ms ns h = cc

rest_is : (m n : ℕ) (ms ns : List ℕ) → m ∷ ms ≡ n ∷ ns → ms ≡ ns
rest_is m n ms ns h = cc

abbrev places : List BoundEntry → List ℕ
places = map (λ (e : BoundEntry). e.place)

entries_are_wide : (tables : List TableView) (es : List EntryTree) (bs : List BoundEntry) → All (IsEntryOf tables) bs → places bs ≡ map (entry_place (map table_shape tables)) es
    → flat_map (entry_causes (map table_shape tables)) es ≡ [] → map (λ (e : BoundEntry). e.width) bs ≡ entry_widths (map table_shape tables) es
entries_are_wide tables [] [] h p k = refl
entries_are_wide tables [] (b ∷ bs) h p k = absurd cc
entries_are_wide tables (e ∷ es) [] h p k = absurd cc
entries_are_wide tables (e ∷ es) (b ∷ bs) h p k =
    let shapes = map table_shape tables in
    let own = entry_is_wide tables e b (All-head (IsEntryOf tables) b bs h) (first_is b.place (entry_place shapes e) (places bs) (map (entry_place shapes) es) p) (left_empty (entry_causes shapes e) (flat_map (entry_causes shapes) es) k) in
    let rest = entries_are_wide tables es bs (All-tail (IsEntryOf tables) b bs h) (rest_is b.place (entry_place shapes e) (places bs) (map (entry_place shapes) es) p) (right_empty (entry_causes shapes e) (flat_map (entry_causes shapes) es) k) in
    ap (λ (n : ℕ). n ∷ map (λ (e : BoundEntry). e.width) bs) own ∙ ap (λ (l : List ℕ). entry_width shapes e ∷ l) rest

bound_wide : (tables : List TableView) (statement : StatementTree) (b : BoundQuery) → IsMeant (meant (map table_shape tables) statement) b → All (IsEntryOf tables) b.entries.items
    → statement_name_causes (map table_shape tables) statement ≡ [] → bound_widths b ≡ widths_of (map table_shape tables) statement
bound_wide tables (select q) b m h n =
    let shapes = map table_shape tables in
    let entered = known_empty (entered_causes shapes q) (asked_causes shapes q) n in
    let known = left_empty (flat_map (entry_causes shapes) (query_entries q)) (flat_map core_alias_causes (cores_of q)) entered in
    entries_are_wide tables (query_entries q) b.entries.items h m.entries known ∙ sym (shape_widths shapes (query_entries q))

-- ---- the clauses

none_in : (xs : List Cause) → xs ≡ [] → (c : Cause) → Contains xs c → ⊥
none_in xs e c h = no_element xs c e h

pub binds_wide : (tables : List TableView) (statement : StatementTree) (r : Result BoundQuery Cause)
    → Binds (statement_name_causes (map table_shape tables) statement) (statement_type_causes (map table_shape tables) statement) (meant (map table_shape tables) statement) r
    → IfOk r (λ b. All (IsEntryOf tables) b.entries.items) → IfOk r (λ b. bound_widths b ≡ widths_of (map table_shape tables) statement)
binds_wide tables statement (Ok b) h e = bound_wide tables statement b h.0 e h.1
binds_wide tables statement (Err c) h e = tt

moved_to : (P : List ℕ → Form → Type 0) (ws vs : List ℕ) (f g : Form) → vs ≡ ws → g ≡ f → P ws f → P vs g
moved_to P ws vs f g v e h = subst (λ (l : List ℕ). P l g) (sym v) (subst (λ (k : Form). P ws k) (sym e) h)

pub binds_counted : (tables : List TableView) (statement : StatementTree) (r : Result BoundQuery Cause)
    → Binds (statement_name_causes (map table_shape tables) statement) (statement_type_causes (map table_shape tables) statement) (meant (map table_shape tables) statement) r
    → IfOk r (λ b. All (IsEntryOf tables) b.entries.items) → IfOk r (λ b. FormCounts (bound_widths b) (form_of b.select))
binds_counted tables statement (Ok b) h e =
    let shapes = map table_shape tables in
    moved_to FormCounts (widths_of shapes statement) (bound_widths b) (meant shapes statement).form (form_of b.select) (bound_wide tables statement b h.0 e h.1) h.0.form (form_counts shapes statement)
binds_counted tables statement (Err c) h e = tt

pub binds_within : (tables : List TableView) (statement : StatementTree) (r : Result BoundQuery Cause)
    → Binds (statement_name_causes (map table_shape tables) statement) (statement_type_causes (map table_shape tables) statement) (meant (map table_shape tables) statement) r
    → IfOk r (λ b. All (IsEntryOf tables) b.entries.items) → IfOk r (λ b. FormWithin (bound_widths b) (form_of b.select))
binds_within tables statement (Ok b) h e =
    let shapes = map table_shape tables in
    moved_to FormWithin (widths_of shapes statement) (bound_widths b) (meant shapes statement).form (form_of b.select) (bound_wide tables statement b h.0 e h.1) h.0.form
    (form_within shapes statement (none_in (statement_name_causes shapes statement) h.1))
binds_within tables statement (Err c) h e = tt

pub binds_alike : (tables : List TableView) (statement : StatementTree) (r : Result BoundQuery Cause)
    → Binds (statement_name_causes (map table_shape tables) statement) (statement_type_causes (map table_shape tables) statement) (meant (map table_shape tables) statement) r
    → IfOk r (λ b. FormAlike (from_kinds (map table_shape tables) statement) (form_of b.select))
binds_alike tables statement (Ok b) h =
    let shapes = map table_shape tables in
    subst (λ (f : Form). FormAlike (from_kinds shapes statement) f) (sym h.0.form)
    (form_alike shapes statement (none_in (statement_name_causes shapes statement) h.1) (none_in (statement_type_causes shapes statement) h.2))
binds_alike tables statement (Err c) h = tt
