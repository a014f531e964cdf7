-- CSV takes each table that the catalogue lets pass.
use Rattle.std.proofs.Common.{◌≡◌, ℕ, ◌+◌, Bool, true, false, cond, not, ◌||◌, ◌++◌, List, [], ◌∷◌, if◌then◌else◌, bytes_eq, codes, filter, map, refl, ap, sym, ◌∙◌, true≢false}
use Rattle.std.specs.List.{flat_map}
use Rattle.med_value.specs.declared.cause.Cause.{Cause}
use Rattle.med_value.specs.declared.cause.Cause.TheVariants.{InvalidOptionValue}
use Rattle.fdw_api.specs.Prelude.{Kind, OptionForm, BoxState}
use Rattle.med_syntax.specs.DdlTree.{OptionTree, ColumnTree}
use Rattle.med_catalog.specs.declared.kind.SourceKind.TheVariants.{Csv}
use Rattle.med_catalog.specs.declared.options.OptionPlace.TheVariants.{Table, Column}
use Rattle.med_catalog.specs.Prelude.{texts_of, is_unknown, has_unknown, is_refused, has_bad_text, table_settings, column_settings, setting_at, some_options}
use Rattle.med_world.specs.Engine.{TakesAs}
use Rattle.csv_wrapper.specs.CsvKind.{csv_kind, objections_to}
use Rattle.source_kinds.proofs.Rows.{or_left, or_right, bytes_sym, options_known, texts_good}

-- an option of a CSV table but for its remote name
abbrev is_other : OptionTree → Bool
is_other o = not (bytes_eq (codes "filename") o.label)

-- what is refused of the text of `header`
by_text : (a b : Bool) → not (a || (b || false)) ≡ false → (if a || b then [] else InvalidOptionValue ∷ []) ≡ []
by_text true b good = refl
by_text false true good = refl
by_text false false good = absurd (true≢false good)

flipped : (text : List ℕ) → not (bytes_eq (codes "true") text || (bytes_eq (codes "false") text || false)) ≡ false
    → not (bytes_eq text (codes "true") || (bytes_eq text (codes "false") || false)) ≡ false
flipped text good = rw (bytes_sym text (codes "true"), bytes_sym text (codes "false")) good

-- by whether it is `filename`, `header` or `null`, an option that has a text of its own
no_objection : (o : OptionTree) (f h n : Bool) → bytes_eq o.label (codes "filename") ≡ f → bytes_eq o.label (codes "header") ≡ h → bytes_eq o.label (codes "null") ≡ n
    → is_other o ≡ true → is_unknown (Table Csv) o ≡ false → is_refused (texts_of (Table Csv) o.label) o.text ≡ false → objections_to (setting_at 0 o) ≡ []
no_objection o true h n is_f is_h is_n other known good =
    absurd (true≢false (sym other ∙ ap not (bytes_sym (codes "filename") o.label ∙ is_f)))
no_objection o false h true is_f is_h is_n other known good = rw is_n refl
no_objection o false true false is_f is_h is_n other known good =
    rw (is_n, is_h) (by_text (bytes_eq o.text (codes "true")) (bytes_eq o.text (codes "false")) (flipped o.text (texts good)))
  where
    texts : is_refused (texts_of (Table Csv) o.label) o.text ≡ false → not (bytes_eq (codes "true") o.text || (bytes_eq (codes "false") o.text || false)) ≡ false
    texts e = rw (is_f, is_h) at e
no_objection o false false false is_f is_h is_n other known good = absurd (true≢false (unknown known))
  where
    unknown : is_unknown (Table Csv) o ≡ false → true ≡ false
    unknown e = rw (is_f, is_h, is_n) at e

-- the options of the table are not objected to; what follows them is objected to alone
one_told : (o : OptionTree) (os : List OptionTree) (rest : List OptionForm) (b : Bool) → is_other o ≡ b → is_unknown (Table Csv) o ≡ false
    → is_refused (texts_of (Table Csv) o.label) o.text ≡ false
    → flat_map objections_to (map (setting_at 0) os ++ rest) ≡ flat_map objections_to rest
    → flat_map objections_to (map (setting_at 0) (cond b (o ∷ os) os) ++ rest) ≡ flat_map objections_to rest
one_told o os rest false is known good more = more
one_told o os rest true is known good more =
    ap (λ (cs : List Cause). cs ++ flat_map objections_to (map (setting_at 0) os ++ rest))
    (no_objection o (bytes_eq o.label (codes "filename")) (bytes_eq o.label (codes "header")) (bytes_eq o.label (codes "null")) refl refl refl is known good)
    ∙ more

table_told : (os : List OptionTree) (rest : List OptionForm) → has_unknown (Table Csv) os ≡ false → has_bad_text (Table Csv) os ≡ false
    → flat_map objections_to (table_settings Csv os ++ rest) ≡ flat_map objections_to rest
table_told [] rest known good = refl
table_told (o ∷ os) rest known good =
    one_told o (filter is_other os) rest (is_other o) refl
    (or_left (is_unknown (Table Csv) o) (has_unknown (Table Csv) os) known)
    (or_left (is_refused (texts_of (Table Csv) o.label) o.text) (has_bad_text (Table Csv) os) good)
    (table_told os rest (or_right (is_unknown (Table Csv) o) (has_unknown (Table Csv) os) known)
    (or_right (is_refused (texts_of (Table Csv) o.label) o.text) (has_bad_text (Table Csv) os) good))

-- columns have no options
no_option : (os : List OptionTree) → has_unknown (Column Csv) os ≡ false → os ≡ []
no_option [] known = refl
no_option (o ∷ os) known = absurd (true≢false known)

columns_told : (level : ℕ) (columns : List ColumnTree) → some_options (has_unknown (Column Csv)) columns ≡ false → column_settings level columns ≡ []
columns_told level [] known = refl
columns_told level (c ∷ cs) known =
    let here : c.options ≡ [] = no_option c.options (or_left (has_unknown (Column Csv) c.options) (some_options (has_unknown (Column Csv)) cs) known) in
    let more = columns_told (level + 1) cs (or_right (has_unknown (Column Csv) c.options) (some_options (has_unknown (Column Csv)) cs) known) in
    ap (λ os. map (setting_at level) os ++ column_settings (level + 1) cs) here ∙ more

pub csv_takes : (s : BoxState) → s.nature.kind ≡ csv_kind → TakesAs Csv s
csv_takes s is o t columns declared none =
    let known = options_known o Csv t none in
    let good = texts_good o Csv t none in
    ap (λ (k : Kind). k.objections columns (table_settings Csv t.options ++ column_settings 1 t.columns)) is
    ∙ table_told t.options (column_settings 1 t.columns)
    (or_left (has_unknown (Table Csv) t.options) (some_options (has_unknown (Column Csv)) t.columns) known)
    (or_left (has_bad_text (Table Csv) t.options) (some_options (has_bad_text (Column Csv)) t.columns) good)
    ∙ ap (flat_map objections_to)
    (columns_told 1 t.columns (or_right (has_unknown (Table Csv) t.options) (some_options (has_unknown (Column Csv)) t.columns) known))
