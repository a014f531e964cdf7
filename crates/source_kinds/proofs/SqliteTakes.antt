-- A SQLite database takes each table that the catalogue lets pass: its one option is `table`, and its columns have none.
use Rattle.std.proofs.Common.{◌≡◌, ℕ, ◌+◌, Bool, true, false, cond, not, ◌++◌, List, [], ◌∷◌, Some, None, is_none, bytes_eq, codes, filter, map, refl, ap, ◌∙◌, true≢false}
use Rattle.std.proofs.lemmas.Slice.Eq.{bytes_eq-Decides}
use Rattle.med_syntax.specs.DdlTree.{OptionTree, ColumnTree, TableTree}
use Rattle.med_catalog.specs.declared.kind.SourceKind.TheVariants.{Sqlite}
use Rattle.med_catalog.specs.declared.options.OptionPlace.TheVariants.{Table, Column}
use Rattle.med_catalog.specs.declared.options.OptionText.TheVariants.{Any}
use Rattle.med_catalog.specs.Prelude.{only, has_unknown, table_settings, column_settings, setting_at, some_options, are_options_unknown}
use Rattle.fdw_api.specs.Prelude.{Kind, BoxState}
use Rattle.med_world.specs.Engine.{TakesAs}
use Rattle.sqlite.specs.Effect.{Database}
use Rattle.sqlite_wrapper.specs.Kinds.{sqlite_kind, sqlite_objections}
use Rattle.sqlite_wrapper.specs.SqliteBoxes.{IsNewSqlite}
use Rattle.source_kinds.proofs.Rows.{or_left, or_right, options_known}

abbrev is_other : OptionTree → Bool
is_other o = not (bytes_eq (codes "table") o.label)

is_table : (label : List ℕ) (b : Bool) → bytes_eq label (codes "table") ≡ b → is_none (cond b (Some Any) None) ≡ false → not (bytes_eq (codes "table") label) ≡ false
is_table label true is known = ap (λ l. not (bytes_eq (codes "table") l)) ((bytes_eq-Decides label (codes "table")).0 is)
is_table label false is known = absurd (true≢false known)

none_other : (os : List OptionTree) → has_unknown (Table Sqlite) os ≡ false → filter is_other os ≡ []
none_other [] known = refl
none_other (o ∷ os) known =
    let here : is_other o ≡ false = is_table o.label (bytes_eq o.label (codes "table")) refl (or_left (is_none (only o.label (codes "table") Any)) (has_unknown (Table Sqlite) os) known) in
    let more : filter is_other os ≡ [] = none_other os (or_right (is_none (only o.label (codes "table") Any)) (has_unknown (Table Sqlite) os) known) in
    ap (λ b. cond b (o ∷ filter is_other os) (filter is_other os)) here ∙ more

no_option : (os : List OptionTree) → has_unknown (Column Sqlite) os ≡ false → os ≡ []
no_option [] known = refl
no_option (o ∷ os) known = absurd (true≢false known)

no_setting : (level : ℕ) (columns : List ColumnTree) → some_options (has_unknown (Column Sqlite)) columns ≡ false → column_settings level columns ≡ []
no_setting level [] known = refl
no_setting level (c ∷ cs) known =
    let here : c.options ≡ [] = no_option c.options (or_left (has_unknown (Column Sqlite) c.options) (some_options (has_unknown (Column Sqlite)) cs) known) in
    let more = no_setting (level + 1) cs (or_right (has_unknown (Column Sqlite) c.options) (some_options (has_unknown (Column Sqlite)) cs) known) in
    ap (λ os. map (setting_at level) os ++ column_settings (level + 1) cs) here ∙ more

told_nothing : (t : TableTree) → are_options_unknown Sqlite t.options t.columns ≡ false → table_settings Sqlite t.options ++ column_settings 1 t.columns ≡ []
told_nothing t known =
    ap (λ os. map (setting_at 0) os ++ column_settings 1 t.columns)
    (none_other t.options (or_left (has_unknown (Table Sqlite) t.options) (some_options (has_unknown (Column Sqlite)) t.columns) known))
    ∙ no_setting 1 t.columns (or_right (has_unknown (Table Sqlite) t.options) (some_options (has_unknown (Column Sqlite)) t.columns) known)

pub sqlite_takes : (s : BoxState) → s.nature.kind ≡ sqlite_kind → TakesAs Sqlite s
sqlite_takes s is o t columns declared none =
    ap (λ (k : Kind). k.objections columns (table_settings Sqlite t.options ++ column_settings 1 t.columns)) is
    ∙ ap sqlite_objections (told_nothing t (options_known o Sqlite t none))

-- a new source of a database does, by the law of all
pub new_takes : ((s : BoxState) → s.nature.kind ≡ sqlite_kind → TakesAs Sqlite s) → {honest : Bool} {db : Database} {s : BoxState} → IsNewSqlite honest db s → TakesAs Sqlite s
new_takes law {honest} {db} {s} new = law s new.kind
