-- A content read as a table of tab-separated lines, and such a table after changes.
use Rattle.std.proofs.Common.{◌≡◌, ℕ, zero, suc, Bool, true, false, not, ◌&&◌, ◌||◌, List, [], ◌∷◌, ◌++◌, Some, length, map, nat_eq, refl, ap, sym, ◌∙◌, subst, arith, rules, Contains, string_bytes, Result, Ok, Err, IfOk, IfErr}
use Rattle.std.specs.List.{list_all, list_any}
use Rattle.std.specs.Str.{is_utf8}
use Rattle.med_value.specs.Datum.{Tuple, datum, tuple}
use Rattle.med_value.specs.declared.value.Value.{Value}
use Rattle.med_value.specs.declared.value.Value.TheVariants.{Null, Int, Text, Bool as Truth}
use Rattle.med_value.specs.declared.value.ColType.{ColType}
use Rattle.med_value.specs.declared.value.ColType.TheVariants as types
use Rattle.med_value.specs.declared.cause.Cause.{Cause}
use Rattle.med_value.specs.declared.cause.Cause.TheVariants.{InvalidFormat, InvalidText}
use Rattle.fdw_api.specs.Prelude.{row_fits, Column, OptionForm, Bytes, Held, Change, kinds_of, IsLeast, rows_after}
use Rattle.fdw_api.specs.declared.interface.Fault.TheVariants.{Refused}
use Rattle.place_wrapper.specs.Forms.{ReadsAs, RefusesContent, Rewrites, RefusesChanges}
use Rattle.place_wrapper.proofs.Causes.{only_cause}
use Rattle.tab_tests.specs.Kept.{no_line, as_held}
use Rattle.tab_tests.proofs.KeptLaws.{held_numbered, cells_back}
use Rattle.tab_tests.specs.Tabs.{is_mark, is_plain, is_row, texts, is_table, rows_of, text_of}
use Rattle.tab_tests.specs.TabForms.{tab_form, tab_image, tab_objections, type_objections, option_objections, all_text, reading_of, rows_in, cells_held, unwritten, tab_refusals, bound_by}
use Rattle.tab_tests.specs.declared.tabs.TabTable.{TabTable}

or_left : (a b : Bool) → (a || b) ≡ false → a ≡ false
or_left true b e = absurd cc
or_left false b e = refl

or_right : (a b : Bool) → (a || b) ≡ false → b ≡ false
or_right true b e = absurd cc
or_right false b e = e

and_false : (a : Bool) → (a && false) ≡ false
and_false true = refl
and_false false = refl

no_zero : (b : ℕ) → is_mark b ≡ false → nat_eq 0 b ≡ false
no_zero b e = search rules

-- a text without marks has no U+0000
clean_of : (t : List ℕ) → list_any is_mark t ≡ false → list_any (nat_eq 0) t ≡ false
clean_of [] e = refl
clean_of (b ∷ bs) e = rw (no_zero b (or_left (is_mark b) (list_any is_mark bs) e), clean_of bs (or_right (is_mark b) (list_any is_mark bs) e)) refl

same_and : (zero_in marked fit plain long whole : Bool) → (marked ≡ false → zero_in ≡ false) → (fit && plain) ≡ (long && whole)
    → ((not zero_in && fit) && (not marked && plain)) ≡ (long && (not marked && whole))
same_and zero_in true fit plain long whole clean e = and_false (not zero_in && fit) ∙ sym (and_false long)
same_and true false fit plain long whole clean e = absurd (let h = clean refl in cc)
same_and false false fit plain long whole clean e = e

none_long : (n : ℕ) → nat_eq (suc n) 0 ≡ false
none_long n = search rules

none_short : (n : ℕ) → nat_eq 0 (suc n) ≡ false
none_short n = search rules

next_eq : (a b : ℕ) → nat_eq (suc a) (suc b) ≡ nat_eq a b
next_eq a b = search rules

-- a row of columns of text has a plain cell for each
pub row_is : (width : ℕ) (cells : List Value) → is_row (texts width) (map datum cells) ≡ (nat_eq (length cells) width && list_all (λ v. is_plain (datum v)) cells)
row_is zero [] = refl
row_is zero (v ∷ vs) = sym (ap (λ (b : Bool). b && list_all (λ (x : Value). is_plain (datum x)) (v ∷ vs)) (none_long (length vs)))
row_is (suc n) [] = sym (ap (λ (b : Bool). b && true) (none_short n))
row_is (suc n) (Null ∷ vs) = row_is n vs ∙ sym (ap (λ (b : Bool). b && list_all (λ (x : Value). is_plain (datum x)) vs) (next_eq (length vs) n))
row_is (suc n) (Int m ∷ vs) = sym (and_false (nat_eq (suc (length vs)) (suc n)))
row_is (suc n) (Truth b ∷ vs) = sym (and_false (nat_eq (suc (length vs)) (suc n)))
row_is (suc n) (Text t ∷ vs) =
    same_and (list_any (nat_eq 0) (string_bytes t)) (list_any is_mark (string_bytes t)) (row_fits (texts n) (map datum vs))
    (list_all is_plain (map datum vs)) (nat_eq (length vs) n) (list_all (λ (x : Value). is_plain (datum x)) vs) (clean_of (string_bytes t)) (row_is n vs)
    ∙ sym (ap (λ (b : Bool). b && list_all (λ (x : Value). is_plain (datum x)) (Text t ∷ vs)) (next_eq (length vs) n))

pub map_length : {A B : Type 0} (f : A → B) (l : List A) → length l ≡ length (map f l)
map_length f [] = refl
map_length f (x ∷ xs) = ap (λ (n : ℕ). suc n) (map_length f xs)

pub all_map : {A B : Type 0} (p : B → Bool) (f : A → B) (l : List A) → list_all (λ x. p (f x)) l ≡ list_all p (map f l)
all_map p f [] = refl
all_map p f (x ∷ xs) = ap (λ (b : Bool). p (f x) && b) (all_map p f xs)

pub not_true : (b : Bool) → (b ≡ true → ⊥) → b ≡ false
not_true true f = absurd (f refl)
not_true false f = refl

-- columns to which nothing is objected are of text
all_are_text : (os : List Cause) (b : Bool) → type_objections b ++ os ≡ [] → b ≡ true
all_are_text os true e = refl
all_are_text os false e = absurd cc

text_kind : (k : ColType) (kinds : List ColType) (n : ℕ) → all_text (k ∷ kinds) ≡ true → (all_text kinds ≡ true → texts n ≡ kinds) → texts (suc n) ≡ k ∷ kinds
text_kind types.Text kinds n e same = ap (λ (ks : List ColType). types.Text ∷ ks) (same e)
text_kind types.Int kinds n e same = absurd cc
text_kind types.Bool kinds n e same = absurd cc

text_kinds : (columns : List Column) → all_text (kinds_of columns) ≡ true → texts (length columns) ≡ kinds_of columns
text_kinds [] e = refl
text_kinds (c ∷ cs) e = text_kind c.kind (kinds_of cs) (length cs) e (text_kinds cs)

pub kinds_are_texts : (columns : List Column) (settings : List OptionForm) → tab_objections columns settings ≡ [] → texts (length columns) ≡ kinds_of columns
kinds_are_texts columns settings e = text_kinds columns (all_are_text (option_objections settings) (all_text (kinds_of columns)) e)

pub reads_as : (remote : List ℕ) (columns : List Column) (settings : List OptionForm) (content : List ℕ) (t : TabTable)
    → string_bytes t.remote ≡ remote → texts t.width ≡ kinds_of columns → is_utf8 content ≡ true → map tuple t.rows.items ≡ rows_of content
    → ReadsAs tab_form remote columns settings content t
reads_as remote columns settings content t er ek eu is =
    let plain : list_all (is_row (kinds_of columns)) (rows_of content) ≡ true =
    ap (λ (ks : List ColType). list_all (is_row ks) (rows_of content)) (sym ek) ∙ ap (list_all (is_row (texts t.width))) (sym is) ∙ t.plain in
    let all : is_table (kinds_of columns) content ≡ true = rw (eu, plain) refl in
    record {
      remote_is = er;
      kinds_are = ek;
      line_is = refl;
      image_is = refl;
      arrangement_is = refl;
      refuses_is = ap tab_refusals ek;
      no_cause = ap (λ (b : Bool). (reading_of b (rows_of content)).causes) all;
      rows = held_numbered 0 (map tuple t.rows.items) ∙ ap (map as_held) is ∙ sym (ap (λ (b : Bool). (reading_of b (rows_of content)).rows) all);
      fits = tt;
    }

refuses : (columns : List Column) (settings : List OptionForm) (content : List ℕ) → is_table (kinds_of columns) content ≡ false
    → RefusesContent tab_form columns settings content (Refused InvalidFormat)
refuses columns settings content e =
    (refl, subst (λ (b : Bool). IsLeast (reading_of b (rows_of content)).causes InvalidFormat) (sym e) (only_cause InvalidFormat 6 refl))

-- a content that is no text
pub refuses_bytes : (columns : List Column) (settings : List OptionForm) (content : List ℕ) → is_utf8 content ≡ false
    → RefusesContent tab_form columns settings content (Refused InvalidFormat)
refuses_bytes columns settings content e = refuses columns settings content (rw e refl)

-- a text whose lines are no rows of the columns
pub refuses_rows : (columns : List Column) (settings : List OptionForm) (content : List ℕ) (rows : List Tuple)
    → texts (length columns) ≡ kinds_of columns → rows ≡ rows_of content → list_all (is_row (texts (length columns))) rows ≡ false
    → RefusesContent tab_form columns settings content (Refused InvalidFormat)
refuses_rows columns settings content rows ek er e =
    let none : list_all (is_row (kinds_of columns)) (rows_of content) ≡ false =
    ap (λ (ks : List ColType). list_all (is_row ks) (rows_of content)) (sym ek) ∙ ap (list_all (is_row (texts (length columns)))) (sym er) ∙ e in
    refuses columns settings content (rw none (and_false (is_utf8 content)))

-- the rows after changes, as they were written
after_written : (t : TabTable) (changes : List Change) (rows : List Tuple) → map as_held rows ≡ rows_after no_line (rows_in t) changes
    → cells_held (rows_after no_line (rows_in t) changes) ≡ rows
after_written t changes rows e = ap cells_held (sym e) ∙ cells_back rows

pub rewrites : (t u : TabTable) (changes : List Change) (image : List ℕ) → string_bytes u.remote ≡ string_bytes t.remote
    → u.width ≡ t.width → map as_held (map tuple u.rows.items) ≡ rows_after no_line (rows_in t) changes
    → image ≡ text_of (map tuple u.rows.items) → Rewrites tab_form t changes u image
rewrites t u changes image er ew rows is =
    let new = map tuple u.rows.items in
    let plain : list_all (is_row (texts t.width)) new ≡ true = ap (λ (w : ℕ). list_all (is_row (texts w)) new) (sym ew) ∙ u.plain in
    record {
      bound = ap (λ (r : List ℕ). bound_by r (texts u.width)) er ∙ ap (λ (w : ℕ). bound_by (string_bytes t.remote) (texts w)) ew;
      rows = held_numbered 0 new ∙ rows;
      no_cause = λ entry fits. ap (λ (l : List Tuple). unwritten (list_all (is_row (texts t.width)) l)) (after_written t changes new rows) ∙ ap unwritten plain;
      image_is = λ entry fits. ap (λ (hs : List Held). tab_image entry hs) (held_numbered 0 new)
          ∙ ap (λ (l : List Tuple). Some (Bytes (text_of l))) (cells_back new) ∙ ap (λ (l : List ℕ). Some (Bytes l)) (sym is);
      fits = tt;
    }

pub refuses_changes : (t : TabTable) (changes : List Change) (rows : List Tuple) → map as_held rows ≡ rows_after no_line (rows_in t) changes
    → list_all (is_row (texts t.width)) rows ≡ false → RefusesChanges tab_form t changes (Refused InvalidText)
refuses_changes t changes rows e none = (
  refl,
  λ entry fits. subst (λ (b : Bool). Contains (unwritten b) InvalidText)
      (sym (ap (list_all (is_row (texts t.width))) (after_written t changes rows e) ∙ none)) (0, omega arith, refl),
)

pub ok_gives : {T E : Type 0} (r : Result T E) (P Q : T → Type 0) → ((x : T) → P x → Q x) → IfOk r P → IfOk r Q
ok_gives (Ok x) P Q f p = f x p
ok_gives (Err e) P Q f p = tt

pub err_gives : {T E : Type 0} (r : Result T E) (P Q : E → Type 0) → ((e : E) → P e → Q e) → IfErr r P → IfErr r Q
err_gives (Ok x) P Q f p = tt
err_gives (Err e) P Q f p = f e p
