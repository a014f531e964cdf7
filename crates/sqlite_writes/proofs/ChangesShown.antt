-- New rows as their table shows them again, and which old rows the changes name.
use Rattle.std.proofs.Common.{◌≡◌, ℕ, ℤ, zero, suc, ◌+◌, Bool, true, false, not, cond, ◌&&◌, ◌||◌, nat_eq, List, [], ◌∷◌, ◌++◌, map}
use Rattle.std.proofs.Common.{filter, length, Option, Some, None, slice_index_or, IsTrue, FitsSigned, w64, to_z, refl, sym, ap, ap₂, ◌∙◌}
use Rattle.std.proofs.Common.{subst, arith, length-append, append_assoc}
use Rattle.std.specs.Prelude.{if◌then◌else◌}
use Rattle.std.specs.Int.{cast_unsigned}
use Rattle.std.specs.Ordering.{is_eq, int_cmp}
use Rattle.std.specs.List.{AllByRecursion, list_all}
use Rattle.std.specs.Cmp.{both_ways}
use Rattle.std.specs.FinMap.{int_cmp-IsAntisymmetric}
use Rattle.std.proofs.lemmas.Bool.{and_parts, eqb-true, eq-eqb}
use Rattle.std.proofs.lemmas.Cmp.{int_cmp_total, tied_itself}
use Rattle.std.proofs.lemmas.Int.{to_z-of_z}
use Rattle.std.proofs.lemmas.List.{length-map}
use Rattle.sqlite.specs.declared.types.Value.{Value as SqlValue}
use Rattle.sqlite.specs.declared.types.Value.TheVariants as sql
use Rattle.sqlite.specs.Edit.{id_in}
use Rattle.sqlite.specs.Order.{Row as SqlRow, column}
use Rattle.sqlite.specs.Tree.{rowid}
use Rattle.sqlite.specs.View.{is_int}
use Rattle.sqlite_tables.specs.declared.columns.PageColumn.{PageColumn}
use Rattle.sqlite_tables.specs.Cells.{cells_at}
use Rattle.sqlite_tables.specs.Layouts.{kinds_at}
use Rattle.sqlite_tables.specs.Texts.{parameters_from}
use Rattle.sqlite_tables.specs.Prelude.{Layout, cell_of, further_columns, further_kinds, greatest, id_of, in_range, is_key, key_of}
use Rattle.sqlite_tables.specs.Prelude.{kinds_in, least, page_cells, paged, parameter_shown, parameters_of, places, row_in}
use Rattle.sqlite_trees.proofs.ListLemmas.{filter-map, filter_same, map-map}
use Rattle.med_value.specs.Prelude.{Datum, NoValue, Whole, Chars, Logic, Tuple, cell, is_missing}
use Rattle.med_value.specs.declared.value.ColType.{ColType}
use Rattle.med_value.specs.declared.value.ColType.TheVariants as types
use Rattle.fdw_api.specs.Prelude.{TableRow, has_kind, is_clean, row_fits, Held, held, Change, Inserts, Updates, Deletes, has_id}
use Rattle.sqlite_tables.proofs.PagesJoin.{Inside, Ints, key_fits}
use Rattle.sqlite_writes.specs.Kinds.{key_cell}
use Rattle.sqlite_writes.specs.Stored.{inserted_cells, is_placed, stored, stored_at, stored_row}
use Rattle.sqlite_writes.specs.Rewriting.{has_place, stored_cells}
use Rattle.sqlite_writes.specs.Splitting.{ids_named, key_for, keys_gone, is_holdable, is_readable, is_key as is_key_cell}
use Rattle.sqlite_writes.specs.Writable.{IsWritten}
use Rattle.sqlite_writes.proofs.Edits.{goes, has_key_of, key_value}
use Rattle.sqlite_writes.proofs.Placed.{width}
use Rattle.sqlite_writes.proofs.Repeats.{equal_is}
use Rattle.sqlite_writes.proofs.Woven.{given, named, unnamed, AreThere}
use Rattle.sqlite_writes.proofs.Written.{key_is_int, placed_by}

-- a row of a table as the interface shows it
abbrev pub seen : Layout → SqlRow → Held
seen l e = held (row_in l (paged (places l) e))

-- a value of a type is read again as it was stored
read_again : (kind : ColType) (v : Datum) → has_kind kind v ≡ true → is_readable v ≡ true → cell_of kind (stored v) ≡ v
read_again types.Int NoValue h k = refl
read_again types.Text NoValue h k = refl
read_again types.Bool NoValue h k = refl
read_again types.Int (Whole n) h k = refl
read_again types.Text (Whole n) h k = absurd cc
read_again types.Bool (Whole n) h k = absurd cc
read_again types.Int (Chars t) h k = absurd cc
read_again types.Text (Chars t) h k = rw k refl
read_again types.Bool (Chars t) h k = absurd cc
read_again types.Int (Logic b) h k = absurd cc
read_again types.Text (Logic b) h k = absurd cc
read_again types.Bool (Logic true) h k = refl
read_again types.Bool (Logic false) h k = refl

-- what a new row is once it is in its table
pub record IsShownAgain (l : Layout) (x : Tuple) : Type 0 where
  pub again : seen l (stored_cells l x) ≡ given x
  pub key : IsTrue (is_int (rowid (stored_cells l x)))
  pub inside : in_range least greatest (stored_cells l x) ≡ true

-- ---- what a page shows of a row that was put in

past : (cells : List (Option ℕ)) → slice_index_or cells (length cells) None ≡ None
past [] = refl
past (c ∷ cells) = past cells

at_place : (parameters : SqlRow) (cells : List (Option ℕ)) (at : ℕ)
    → column (map (stored_at parameters) cells) at ≡ stored_at parameters (slice_index_or cells at None)
at_place parameters [] at = refl
at_place parameters (c ∷ cells) zero = refl
at_place parameters (c ∷ cells) (suc at) = at_place parameters cells at

-- a page shows the cell that its place names, and NULL past the last place
column_paged : (shown : List ℕ) (parameters : SqlRow) (cells : List (Option ℕ)) (at : ℕ)
    → column (paged shown (map (stored_at parameters) cells)) at
    ≡ stored_at parameters (slice_index_or cells (slice_index_or shown at (length cells)) None)
column_paged [] parameters cells at = ap (stored_at parameters) (sym (past cells))
column_paged (p ∷ shown) parameters cells zero = at_place parameters cells p
column_paged (p ∷ shown) parameters cells (suc at) = column_paged shown parameters cells at

-- the cells of columns, read from parameters
abbrev read_by : List PageColumn → List ℕ → SqlRow → Tuple
read_by [] qs parameters = []
read_by (c ∷ cs) [] parameters = []
read_by (c ∷ cs) (q ∷ qs) parameters = cell_of c.kind (column parameters q) ∷ read_by cs qs parameters

cells_shown : (l : Layout) (parameters : SqlRow) (cs : List PageColumn) (qs : List ℕ)
    → map (λ (c : PageColumn). parameter_shown l c.place) cs ≡ map Some qs
    → cells_at cs (paged (places l) (stored_row l.cells parameters)) ≡ read_by cs qs parameters
cells_shown l parameters [] qs e = refl
cells_shown l parameters (c ∷ cs) [] e = absurd cc
cells_shown l parameters (c ∷ cs) (q ∷ qs) e =
    let one : parameter_shown l c.place ≡ Some q = cc in
    let more : map (λ (d : PageColumn). parameter_shown l d.place) cs ≡ map Some qs = cc in
    ap₂ ◌∷◌ (ap (cell_of c.kind) (column_paged (places l) parameters (Some 0 ∷ l.cells) c.place ∙ ap (stored_at parameters) one))
    (cells_shown l parameters cs qs more)

read_as : (cs : List PageColumn) (qs : List ℕ) (parameters : SqlRow) (x : Tuple) → map (column parameters) qs ≡ map stored x
    → row_fits (kinds_at cs) x ≡ true → list_all is_readable x ≡ true → read_by cs qs parameters ≡ x
read_as [] qs parameters [] e fits reads = refl
read_as [] qs parameters (v ∷ x) e fits reads = absurd cc
read_as (c ∷ cs) qs parameters [] e fits reads = absurd cc
read_as (c ∷ cs) [] parameters (v ∷ x) e fits reads = absurd cc
read_as (c ∷ cs) (q ∷ qs) parameters (v ∷ x) e fits reads =
    let one : column parameters q ≡ stored v = cc in
    let more : map (column parameters) qs ≡ map stored x = cc in
    let fit = and_parts (has_kind c.kind v && is_clean v) (row_fits (kinds_at cs) x) fits in
    let kind = (and_parts (has_kind c.kind v) (is_clean v) fit.0).0 in
    let read = and_parts (is_readable v) (list_all is_readable x) reads in
    ap₂ ◌∷◌ (ap (cell_of c.kind) one ∙ read_again c.kind v kind read.0) (read_as cs qs parameters x more fit.1 read.1)

abbrev not_key : PageColumn → Bool
not_key c = not (is_key c)

at_end : (before : SqlRow) (v : SqlValue) (after : SqlRow) → column (before ++ v ∷ after) (length before) ≡ v
at_end [] v after = refl
at_end (b ∷ before) v after = at_end before v after

-- the columns that are not the key have the parameters from the next one on, in their order
upward : (cs : List PageColumn) (next : ℕ) (before after : SqlRow) → length before ≡ next → length (filter not_key cs) ≡ length after
    → map (column (before ++ after)) (parameters_from next (filter not_key cs)) ≡ after
upward [] next before [] is all = refl
upward [] next before (v ∷ after) is all = absurd (let e = all in omega (arith, e))
upward (c ∷ cs) next before after is all = go (upward cs) (is_key c) refl after all
  where
    go : ((from : ℕ) (first last : SqlRow) → length first ≡ from → length (filter not_key cs) ≡ length last
        → map (column (first ++ last)) (parameters_from from (filter not_key cs)) ≡ last)
        → (b : Bool) → is_key c ≡ b → (after : SqlRow) → length (cond (not b) (c ∷ filter not_key cs) (filter not_key cs)) ≡ length after
        → map (column (before ++ after)) (parameters_from next (cond (not b) (c ∷ filter not_key cs) (filter not_key cs))) ≡ after
    go further true e after all = further next before after is all
    go further false e [] all = absurd (let n = all in omega (arith, n))
    go further false e (v ∷ after) all =
        let here : column (before ++ v ∷ after) next ≡ v = ap (column (before ++ v ∷ after)) (sym is) ∙ at_end before v after in
        let wider : length (before ++ v ∷ []) ≡ next + 1 = let n = length-append before (v ∷ []) in omega (arith, n, is) in
        let rest : length (filter not_key cs) ≡ length after = let n = all in omega (arith, n) in
        let more = further (next + 1) (before ++ v ∷ []) after wider rest in
        ap (λ (b : Bool). map (column (before ++ v ∷ after))
        (if b then 0 ∷ parameters_from next (filter not_key cs) else next ∷ parameters_from (next + 1) (filter not_key cs))) e
        ∙ ap₂ ◌∷◌ here (ap (λ (r : SqlRow). map (column r) (parameters_from (next + 1) (filter not_key cs)))
        (sym (append_assoc before (v ∷ []) after)) ∙ more)

-- the parameters of a row are its cells in their order
parameters_are : (l : Layout) (x : Tuple) → IsWritten l → row_fits (kinds_in l) x ≡ true
    → map (column (inserted_cells x)) (parameters_of l) ≡ inserted_cells x
parameters_are l [] w fits = absurd (let e = subst (λ (ks : List ColType). row_fits ks [] ≡ true) (ap kinds_at w.keyed) fits in cc)
parameters_are l (v ∷ rest) w fits =
    let by_kind = subst (λ (ks : List ColType). row_fits ks (v ∷ rest) ≡ true) (ap kinds_at w.keyed) fits in
    let further = (and_parts (has_kind types.Int v && is_clean v) (row_fits (further_kinds l) rest) by_kind).1 in
    let wide : length (filter not_key l.columns) ≡ length (inserted_cells rest) =
    sym (length-map (further_columns l) (λ (c : PageColumn). c.kind)) ∙ sym (width (further_kinds l) rest further)
    ∙ sym (length-map rest stored) in
    ap (λ (cs : List PageColumn). map (column (inserted_cells (v ∷ rest))) (parameters_from 1 cs)) w.keyed
    ∙ ap (λ (r : SqlRow). stored v ∷ r) (upward l.columns 1 (stored v ∷ []) (inserted_cells rest) refl wide)

cells_again : (l : Layout) (x : Tuple) → IsWritten l → row_fits (kinds_in l) x ≡ true → list_all is_readable x ≡ true
    → page_cells l (paged (places l) (stored_cells l x)) ≡ x
cells_again l x w fits reads =
    cells_shown l (inserted_cells x) l.columns (parameters_of l) w.again
    ∙ read_as l.columns (parameters_of l) (inserted_cells x) x (parameters_are l x w fits) fits reads

keyless : (a : Bool) → (a && false) ≡ true → ⊥
keyless true e = cc
keyless false e = cc

-- the key of a new row is one of 64 bits
key_inside : (l : Layout) (x : Tuple) (kinds : List ColType) → is_placed (types.Int ∷ kinds) x ≡ true → is_holdable x ≡ true
    → in_range least greatest (stored_cells l x) ≡ true
key_inside l [] kinds placed holds = absurd cc
key_inside l (NoValue ∷ x) kinds placed holds = absurd (keyless (row_fits (types.Int ∷ kinds) (NoValue ∷ x)) placed)
key_inside l (Whole n ∷ x) kinds placed holds = (and_parts (is_key_cell (Whole n)) (list_all is_readable (Whole n ∷ x)) holds).0
key_inside l (Chars t ∷ x) kinds placed holds = absurd cc
key_inside l (Logic b ∷ x) kinds placed holds = absurd cc

shown_again : (l : Layout) (x : Tuple) → IsWritten l → has_place l x ≡ true → is_holdable x ≡ true → IsShownAgain l x
shown_again l x w placed holds =
    let fits = (and_parts (row_fits (kinds_in l) x) (not (is_missing (cell x 0))) placed).0 in
    let reads = (and_parts (is_key_cell (cell x 0)) (list_all is_readable x) holds).1 in
    let by_kind = placed_by l x w placed in
    record {
      again = ap given (cells_again l x w fits reads);
      key = key_is_int (further_kinds l) x by_kind;
      inside = key_inside l x (further_kinds l) by_kind holds;
    }

-- ---- keys as a page shows them

int_cell : (v : SqlValue) → IsTrue (is_int v) → cell_of types.Int v ≡ Whole (id_in v)
int_cell (sql.Int n) h = refl
int_cell sql.Null h = absurd cc
int_cell (sql.Real x) h = absurd cc
int_cell (sql.Text t) h = absurd cc
int_cell (sql.Blob b) h = absurd cc

-- the first cell of a row that is shown is its key
pub key_seen : (l : Layout) (e : SqlRow) → IsWritten l → IsTrue (is_int (rowid e)) → key_cell (seen l e) ≡ Whole (key_of e)
key_seen l e w h =
    ap (λ (cs : List PageColumn). cell (cells_at cs (paged (places l) e)) 0) w.keyed ∙ int_cell (rowid e) h

pub keys_seen : (l : Layout) (es : List SqlRow) → IsWritten l → Ints es → map key_value es ≡ map key_cell (map (seen l) es)
keys_seen l [] w ints_are = refl
keys_seen l (e ∷ es) w ints_are = ap₂ ◌∷◌ (sym (key_seen l e w ints_are.0)) (keys_seen l es w ints_are.1)

pub ints_both : (es fs : List SqlRow) → Ints es → Ints fs → Ints (es ++ fs)
ints_both [] fs a b = b
ints_both (e ∷ es) fs a b = (a.0, ints_both es fs a.1 b)

-- each new row of changes
pub all_again : (l : Layout) (xs : List Tuple) → IsWritten l → list_all (has_place l) xs ≡ true → list_all is_holdable xs ≡ true
    → AllByRecursion (IsShownAgain l) xs
all_again l [] w fits holds = tt
all_again l (x ∷ xs) w fits holds =
    let f = and_parts (has_place l x) (list_all (has_place l) xs) fits in
    let h = and_parts (is_holdable x) _ holds in
    (shown_again l x w f.0 h.0, all_again l xs w f.1 h.1)

pub news_seen : (l : Layout) (xs : List Tuple) → AllByRecursion (IsShownAgain l) xs → map (seen l) (map (stored_cells l) xs) ≡ map given xs
news_seen l [] h = refl
news_seen l (x ∷ xs) h = ap₂ ◌∷◌ h.0.again (news_seen l xs h.1)

pub news_ints : (l : Layout) (xs : List Tuple) → AllByRecursion (IsShownAgain l) xs → Ints (map (stored_cells l) xs)
news_ints l [] h = tt
news_ints l (x ∷ xs) h = (h.0.key, news_ints l xs h.1)

pub news_inside : (l : Layout) (xs : List Tuple) → AllByRecursion (IsShownAgain l) xs → Inside least greatest (map (stored_cells l) xs)
news_inside l [] h = tt
news_inside l (x ∷ xs) h = (h.0.inside, news_inside l xs h.1)

-- ---- which old rows the changes name

-- an id is the 64 bits of a key
abbrev IsBits : ℕ → Type 0
IsBits j = cast_unsigned w64 (key_for j) ≡ j

bits_of : (k : ℤ) (j : ℕ) → FitsSigned w64 k → id_of k ≡ j → IsBits j
bits_of k j fits e = subst IsBits e (ap (cast_unsigned w64) (to_z-of_z w64 k fits))

there_bits : (l : Layout) (j : ℕ) (es : List SqlRow) → Inside least greatest es
    → has_id (map (row_in l) (map (paged (places l)) es)) j ≡ true → IsBits j
there_bits l j [] inside h = absurd cc
there_bits l j (e ∷ es) inside h = go (nat_eq j (id_of (key_of e))) refl h (there_bits l j es inside.1)
  where
    go : (b : Bool) → nat_eq j (id_of (key_of e)) ≡ b → (b || has_id (map (row_in l) (map (paged (places l)) es)) j) ≡ true
        → (has_id (map (row_in l) (map (paged (places l)) es)) j ≡ true → IsBits j) → IsBits j
    go true is t more = bits_of (key_of e) j (key_fits (key_of e) inside.0) (sym (eqb-true j (id_of (key_of e)) is))
    go false is t more = more t

same_key : (k : ℤ) (j : ℕ) → FitsSigned w64 k → IsBits j → nat_eq (id_of k) j ≡ is_eq (int_cmp k (key_for j))
same_key k j fits bits = both_ways _ _
    (λ e. let is : key_for j ≡ k = ap (to_z w64) (sym (eqb-true (id_of k) j e)) ∙ to_z-of_z w64 k fits in
    ap is_eq (ap (int_cmp k) is ∙ tied_itself int_cmp_total k))
    (λ e. let is : k ≡ key_for j = int_cmp-IsAntisymmetric k (key_for j) (equal_is _ e) in eq-eqb (id_of k) j (ap id_of is ∙ bits))

-- the changes name the ids of the rows that go
names_goes : (cs : List Change) (e : SqlRow) → IsTrue (is_int (rowid e)) → FitsSigned w64 (key_of e)
    → AllByRecursion IsBits (ids_named cs) → named cs (id_of (key_of e)) ≡ goes (keys_gone cs) e
names_goes [] e h fits bits = refl
names_goes (Inserts x ∷ cs) e h fits bits = names_goes cs e h fits bits
names_goes (Updates j x ∷ cs) e h fits bits = ap₂ ◌||◌ (same_key (key_of e) j fits bits.0
    ∙ sym (has_key_of (key_for j) e h)) (names_goes cs e h fits bits.1)
names_goes (Deletes j ∷ cs) e h fits bits = ap₂ ◌||◌ (same_key (key_of e) j fits bits.0
    ∙ sym (has_key_of (key_for j) e h)) (names_goes cs e h fits bits.1)

all_bits : (l : Layout) (es : List SqlRow) → Inside least greatest es → (ids : List ℕ)
    → AreThere (map (row_in l) (map (paged (places l)) es)) ids → AllByRecursion IsBits ids
all_bits l es inside [] known = tt
all_bits l es inside (j ∷ ids) known = (there_bits l j es inside known.0, all_bits l es inside ids known.1)

alike : (cs : List Change) (es : List SqlRow) → Inside least greatest es → Ints es → AllByRecursion IsBits (ids_named cs)
    → AllByRecursion (λ e. not (named cs (id_of (key_of e))) ≡ not (goes (keys_gone cs) e)) es
alike cs [] inside ints_are bits = tt
alike cs (e ∷ es) inside ints_are bits = (
  ap not (names_goes cs e ints_are.0 (key_fits
      (key_of e) inside.0) bits),
  alike cs es inside.1 ints_are.1 bits,
)

-- the rows that no change names are those whose keys stay
pub stay_seen : (l : Layout) (cs : List Change) (es : List SqlRow) → Inside least greatest es → Ints es
    → AreThere (map (row_in l) (map (paged (places l)) es)) (ids_named cs)
    → map (seen l) (filter (λ e. not (goes (keys_gone cs) e)) es) ≡ map held (unnamed cs (map (row_in l) (map (paged (places l)) es)))
stay_seen l cs es inside ints_are known =
    let bits = all_bits l es inside (ids_named cs) known in
    let same : filter (λ e. not (goes (keys_gone cs) e)) es ≡ filter (λ e. not (named cs (id_of (key_of e)))) es =
    sym (filter_same (λ e. not (named cs (id_of (key_of e)))) (λ e. not (goes (keys_gone cs) e)) es (alike cs es inside ints_are bits)) in
    let row : SqlRow → TableRow = λ e. row_in l (paged (places l) e) in
    ap (map (seen l)) same
    ∙ sym (map-map held row (filter (λ e. not (named cs (id_of (key_of e)))) es))
    ∙ ap (map held) (sym (filter-map (λ (r : TableRow). not (named cs r.id)) row es)
    ∙ ap (filter (λ (r : TableRow). not (named cs r.id))) (sym (map-map (row_in l) (paged (places l)) es)))
