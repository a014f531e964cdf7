-- JSON lines take each table that the catalogue lets pass.
use Rattle.std.proofs.Common.{◌≡◌, ◌≢◌, ◌<◌, ◌≤◌, ℕ, ◌+◌, Bool, true, false, cond, not, ◌&&◌, ◌++◌, List, [], ◌∷◌, Option, Some, None, is_none, nat_eq, nat_le, bytes_eq, codes, filter, find, map, option_map, unwrap_or, refl, ap, sym, ◌∙◌, true≢false, arith}
use Rattle.std.specs.List.{list_any, list_all}
use Rattle.std.proofs.lemmas.Bool.Decides.{nat_tests}
use Rattle.med_value.specs.Column.{Column as ColumnIs}
use Rattle.fdw_api.specs.Prelude.{Kind, OptionForm, BoxState}
use Rattle.med_syntax.specs.DdlTree.{OptionTree, ColumnTree}
use Rattle.med_catalog.specs.declared.kind.SourceKind.TheVariants.{JsonLines}
use Rattle.med_catalog.specs.declared.options.OptionPlace.TheVariants.{Table, Column}
use Rattle.med_catalog.specs.declared.options.OptionText.TheVariants.{Any, BlobName}
use Rattle.med_catalog.specs.Options.{is_unknown, has_unknown, repeats, text_of, member_of as member_named, table_settings, column_settings, setting_at}
use Rattle.med_catalog.specs.Prelude.{some_options, AreDeclared}
use Rattle.med_world.specs.Engine.{TakesAs}
use Rattle.jsonl_wrapper.specs.Fields.{Reader, is_member_option, member_of, readers_from, readers_of, reads_member, members_differ}
use Rattle.jsonl_wrapper.specs.Jsonl.{json_kind, json_objections}
use Rattle.source_kinds.proofs.Rows.{or_left, or_right, bytes_sym, members_once, options_known}

-- ---- the options of the table are none but its remote name

abbrev is_other : OptionTree → Bool
is_other o = not (bytes_eq (codes "filename") o.label)

is_remote : (label : List ℕ) (b : Bool) → bytes_eq label (codes "filename") ≡ b → is_none (cond b (Some BlobName) None) ≡ false → not (bytes_eq (codes "filename") label) ≡ false
is_remote label true is known = ap not (bytes_sym (codes "filename") label ∙ is)
is_remote label false is known = absurd (true≢false known)

none_other : (os : List OptionTree) → has_unknown (Table JsonLines) os ≡ false → filter is_other os ≡ []
none_other [] known = refl
none_other (o ∷ os) known =
    let here : is_other o ≡ false = is_remote o.label (bytes_eq o.label (codes "filename")) refl (or_left (is_unknown (Table JsonLines) o) (has_unknown (Table JsonLines) os) known) in
    let more : filter is_other os ≡ [] = none_other os (or_right (is_unknown (Table JsonLines) o) (has_unknown (Table JsonLines) os) known) in
    ap (λ b. cond b (o ∷ filter is_other os) (filter is_other os)) here ∙ more

table_told : (os : List OptionTree) → has_unknown (Table JsonLines) os ≡ false → table_settings JsonLines os ≡ []
table_told os known = ap (map (setting_at 0)) (none_other os known)

-- ---- the options of columns are `member` alone

and_more : (b c d : Bool) → (b && c) ≡ true → (c ≡ true → d ≡ true) → (b && d) ≡ true
and_more true c d p more = more p
and_more false c d p more = absurd (true≢false (sym p))

all_more : (test : OptionForm → Bool) (xs ys : List OptionForm) → list_all test xs ≡ true → list_all test ys ≡ true → list_all test (xs ++ ys) ≡ true
all_more test [] ys p q = q
all_more test (x ∷ xs) ys p q = and_more (test x) (list_all test xs) (list_all test (xs ++ ys)) p (λ r. all_more test xs ys r q)

is_member : (label : List ℕ) (b : Bool) → bytes_eq label (codes "member") ≡ b → is_none (cond b (Some Any) None) ≡ false → bytes_eq label (codes "member") ≡ true
is_member label true is known = is
is_member label false is known = absurd (true≢false known)

options_told : (level : ℕ) (os : List OptionTree) → 1 ≤ level → has_unknown (Column JsonLines) os ≡ false → list_all is_member_option (map (setting_at level) os) ≡ true
options_told level [] le known = refl
options_told level (o ∷ os) le known =
    let here : bytes_eq o.label (codes "member") ≡ true = is_member o.label (bytes_eq o.label (codes "member")) refl (or_left (is_unknown (Column JsonLines) o) (has_unknown (Column JsonLines) os) known) in
    let place : nat_le 1 level ≡ true = grind (arith, nat_tests) in
    rw (place, here) (options_told level os le (or_right (is_unknown (Column JsonLines) o) (has_unknown (Column JsonLines) os) known))

columns_told : (level : ℕ) (columns : List ColumnTree) → 1 ≤ level → some_options (has_unknown (Column JsonLines)) columns ≡ false → list_all is_member_option (column_settings level columns) ≡ true
columns_told level [] le known = refl
columns_told level (c ∷ cs) le known =
    all_more is_member_option (map (setting_at level) c.options) (column_settings (level + 1) cs)
    (options_told level c.options le (or_left (has_unknown (Column JsonLines) c.options) (some_options (has_unknown (Column JsonLines)) cs) known))
    (columns_told (level + 1) cs (omega (arith, le)) (or_right (has_unknown (Column JsonLines) c.options) (some_options (has_unknown (Column JsonLines)) cs) known))

-- ---- each column reads the member that the catalogue says

-- the option `member` of the column in this place
abbrev is_at : ℕ → OptionForm → Bool
is_at place s = nat_eq s.level place && bytes_eq s.key (codes "member")

same_place : (n : ℕ) → nat_eq n n ≡ true
same_place n = grind (arith, nat_tests)

other_place : (m n : ℕ) → m ≢ n → nat_eq m n ≡ false
other_place m n ne = grind (arith, nat_tests)

-- options of another column are passed over
passed_over : (place level : ℕ) (os : List OptionTree) (rest : List OptionForm) → level ≢ place
    → find (is_at place) (map (setting_at level) os ++ rest) ≡ find (is_at place) rest
passed_over place level [] rest ne = refl
passed_over place level (o ∷ os) rest ne = rw (other_place level place ne) (passed_over place level os rest ne)

-- later columns are others
none_later : (place level : ℕ) (columns : List ColumnTree) → place < level → find (is_at place) (column_settings level columns) ≡ None
none_later place level [] lt = refl
none_later place level (c ∷ cs) lt =
    passed_over place level c.options (column_settings (level + 1) cs) (omega (arith, lt)) ∙ none_later place (level + 1) cs (omega (arith, lt))

-- what a column is told is the text of its own option
own_by : (place : ℕ) (b : Bool) (o : OptionTree) (told : Option OptionForm) (own : Option OptionTree)
    → option_map (λ (s : OptionForm). s.text) told ≡ option_map (λ (q : OptionTree). q.text) own
    → option_map (λ (s : OptionForm). s.text) (cond b (Some (setting_at place o)) told) ≡ option_map (λ (q : OptionTree). q.text) (cond b (Some o) own)
own_by place true o told own more = refl
own_by place false o told own more = more

own_text : (place : ℕ) (os : List OptionTree) (rest : List OptionForm) → find (is_at place) rest ≡ None
    → option_map (λ (s : OptionForm). s.text) (find (is_at place) (map (setting_at place) os ++ rest)) ≡ text_of os (codes "member")
own_text place [] rest none = ap (option_map (λ (s : OptionForm). s.text)) none
own_text place (o ∷ os) rest none =
    rw (same_place place, bytes_sym o.label (codes "member"))
    (own_by place (bytes_eq (codes "member") o.label) o (find (is_at place) (map (setting_at place) os ++ rest))
    (find (λ (q : OptionTree). bytes_eq (codes "member") q.label) os) (own_text place os rest none))

-- these settings say of the columns from this place on what those of these columns do
abbrev TellsFrom : ℕ → List ColumnTree → List OptionForm → Type 0
TellsFrom place cs told = (q : ℕ) → place ≤ q → find (is_at q) told ≡ find (is_at q) (column_settings place cs)

text_told : (place : ℕ) (c : ColumnTree) (cs : List ColumnTree) (told : List OptionForm) → TellsFrom place (c ∷ cs) told
    → option_map (λ (s : OptionForm). s.text) (find (is_at place) told) ≡ text_of c.options (codes "member")
text_told place c cs told tells =
    ap (option_map (λ (s : OptionForm). s.text)) (tells place (omega arith))
    ∙ own_text place c.options (column_settings (place + 1) cs) (none_later place (place + 1) cs (omega arith))

later_told : (place : ℕ) (c : ColumnTree) (cs : List ColumnTree) (told : List OptionForm) → TellsFrom place (c ∷ cs) told → TellsFrom (place + 1) cs told
later_told place c cs told tells q le = tells q (omega (arith, le)) ∙ passed_over q place c.options (column_settings (place + 1) cs) (omega (arith, le))

member_is : (place : ℕ) (c : ColumnTree) (x : ColumnIs) (told : List OptionForm) → x.name ≡ c.name
    → option_map (λ (s : OptionForm). s.text) (find (is_at place) told) ≡ text_of c.options (codes "member") → member_of place x told ≡ member_named c
member_is place c x told name text = ap (λ (l : Option (List ℕ)). unwrap_or l x.name) text ∙ ap (unwrap_or (text_of c.options (codes "member"))) name

one_more : {a b : List ℕ} {l m : List (List ℕ)} → a ≡ b → l ≡ m → (a ∷ l) ≡ (b ∷ m)
one_more p q = cc

members_are : (place : ℕ) (cs : List ColumnTree) (columns : List ColumnIs) (told : List OptionForm) → AreDeclared cs columns → TellsFrom place cs told
    → map (λ (f : Reader). f.member) (readers_from place columns told) ≡ map member_named cs
members_are place [] [] told declared tells = refl
members_are place [] (x ∷ xs) told declared tells = absurd declared
members_are place (c ∷ cs) [] told declared tells = absurd declared
members_are place (c ∷ cs) (x ∷ xs) told declared tells =
    one_more (member_is place c x told declared.0.0 (text_told place c cs told tells))
    (members_are (place + 1) cs xs told declared.1 (later_told place c cs told tells))

-- ---- members that do not repeat differ

is_read : (fs : List Reader) (name : List ℕ) → reads_member fs name ≡ list_any (bytes_eq name) (map (λ (f : Reader). f.member) fs)
is_read [] name = refl
is_read (f ∷ fs) name = rw (bytes_sym f.member name, is_read fs name) refl

differ : (fs : List Reader) → repeats (map (λ (f : Reader). f.member) fs) ≡ false → members_differ fs ≡ true
differ [] once = refl
differ (f ∷ fs) once =
    let here : reads_member fs f.member ≡ false = is_read fs f.member ∙ or_left (list_any (bytes_eq f.member) (map (λ (g : Reader). g.member) fs)) (repeats (map (λ (g : Reader). g.member) fs)) once in
    let more = differ fs (or_right (list_any (bytes_eq f.member) (map (λ (g : Reader). g.member) fs)) (repeats (map (λ (g : Reader). g.member) fs)) once) in
    rw here more

-- ---- nothing is objected to

clear : (columns : List ColumnIs) (told : List OptionForm) → list_all is_member_option told ≡ true → members_differ (readers_of columns told) ≡ true → json_objections columns told ≡ []
clear columns told alone apart = rw (alone, apart) refl

pub json_takes : (s : BoxState) → s.nature.kind ≡ json_kind → TakesAs JsonLines s
json_takes s is o t columns declared none =
    ap (λ (k : Kind). k.objections columns (table_settings JsonLines t.options ++ column_settings 1 t.columns)) is
    ∙ ap (λ (l : List OptionForm). json_objections columns (l ++ column_settings 1 t.columns)) (table_told t.options of_table)
    ∙ clear columns (column_settings 1 t.columns) (columns_told 1 t.columns (omega arith) of_columns) apart
  where
    of_table : has_unknown (Table JsonLines) t.options ≡ false
    of_table = or_left (has_unknown (Table JsonLines) t.options) (some_options (has_unknown (Column JsonLines)) t.columns) (options_known o JsonLines t none)

    of_columns : some_options (has_unknown (Column JsonLines)) t.columns ≡ false
    of_columns = or_right (has_unknown (Table JsonLines) t.options) (some_options (has_unknown (Column JsonLines)) t.columns) (options_known o JsonLines t none)

    same : map (λ (f : Reader). f.member) (readers_of columns (column_settings 1 t.columns)) ≡ map member_named t.columns
    same = members_are 1 t.columns columns (column_settings 1 t.columns) declared (λ q le. refl)

    apart : members_differ (readers_of columns (column_settings 1 t.columns)) ≡ true
    apart = differ (readers_of columns (column_settings 1 t.columns)) (ap repeats same ∙ members_once o JsonLines t none)
