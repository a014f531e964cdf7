-- A column of a table is read.
use Rattle.std.proofs.Common.{◌≡◌, ℕ, ℤ, ◌+◌, ◌<◌, List, [], ◌∷◌, ◌++◌, map, take, length, Option, Some, None, get_or, append_assoc}
use Rattle.std.proofs.Common.{append-nil, refl, ap, sym, ◌∙◌, subst}
use Rattle.std.proofs.lemmas.List.{map-append, take_more, length-append}
use Rattle.sqlite.specs.Order.{Row as SqlRow}
use Rattle.med_value.specs.Datum.{Datum, datum, cell}
use Rattle.med_value.specs.declared.value.Value.{Value}
use Rattle.wrapper_parts.specs.declared.index.PlaceIndex.{PlaceIndex}
use Rattle.wrapper_parts.specs.Indexes.{IsIndexFrom}
use Rattle.wrapper_parts.specs.Scans.{column_cells}
use Rattle.sqlite_looks.specs.Pages.{range_of}
use Rattle.sqlite_tables.specs.Layouts.{Layout, places}
use Rattle.sqlite_tables.specs.Cells.{key_in, page_cells, row_in, least, greatest}
use Rattle.sqlite.specs.Effect.{Database}
use Rattle.sqlite_tables.specs.Tables.{rest_of, entries_of}
use Rattle.sqlite_tables.specs.Surveys.{last_key, next_after, rows_from}
use Rattle.sqlite_tables.proofs.Surveying.{last_is, rest_is}
use Rattle.sqlite_tables.specs.declared.reading.Lookup.{Lookup}
use Rattle.sqlite_tables.specs.declared.reading.ColumnRead.{ColumnRead}
use Rattle.sqlite_tables.specs.Lookups.{values_in, Adds, Parts, IsRead, IsLookup}

-- these cells are those that were not taken yet, and after them those that are in the index
pub record IsIndexed (cells : List Datum) (left : List Value) (x : PlaceIndex) : Type 0 where
  pub taken : List Datum
  pub parts : cells ≡ map datum left ++ taken
  pub is : IsIndexFrom (length left) taken x

-- one list after another, and one more after both
further : {X Y : Type 0} (f : X → Y) (old mid new : List Y) (xs ys : List X) → mid ≡ old ++ map f xs → new ≡ mid ++ map f ys
    → new ≡ old ++ map f (xs ++ ys)
further {X} {Y} f old mid new xs ys h k =
    k ∙ ap (λ (l : List Y). l ++ map f ys) h ∙ append_assoc old (map f xs) (map f ys)
    ∙ ap (λ (l : List Y). old ++ l) (sym (map-append f xs ys))

pub adds_none : (l : Layout) (column : ℕ) (read : ColumnRead) → Adds l column [] read read
adds_none l column read = (sym (append-nil read.keys.items), sym (append-nil (map datum read.values.items)))

adds_more : (l : Layout) (column : ℕ) (xs ys : List SqlRow) (a b d : ColumnRead) → Adds l column xs a b → Adds l column ys b d
    → Adds l column (xs ++ ys) a d
adds_more l column xs ys a b d h k = (
  further key_in a.keys.items b.keys.items d.keys.items xs ys h.0 k.0,
  further (λ (r : SqlRow). cell (page_cells l r) column) (map datum a.values.items) (map datum b.values.items)
      (map datum d.values.items) xs ys h.1 k.1,
)

-- one more row of a page
pub row_more : (l : Layout) (column : ℕ) (xs : List SqlRow) (i : ℕ) (r : SqlRow) (a b d : ColumnRead) → i < length xs → r ≡ get_or xs i r
    → Adds l column (take i xs) a b → Adds l column (r ∷ []) b d
    → Adds l column (take (i + 1) xs) a d × (last_key (take (i + 1) xs) ≡ Some (key_in r))
row_more l column xs i r a b d lt is h k =
    let more : take (i + 1) xs ≡ take i xs ++ r ∷ [] = take_more xs i r lt ∙ ap (λ (y : SqlRow). take i xs ++ y ∷ []) (sym is) in
    (rw more (adds_more l column (take i xs) (r ∷ []) a b d h k), rw more (last_is (take i xs) r))

-- a page, and where the next one begins
pub page_parts : (l : Layout) (low : ℤ) (es page rows : List SqlRow) (last next : Option ℤ) (count : ℕ)
    → range_of (places l) low greatest es ≡ page ++ rest_of l low greatest es page → rows ≡ page
    → last ≡ last_key rows → count ≡ length page → next ≡ next_after count last → Parts l es (Some low) page next
page_parts l low es page rows last next count joins same last_eq counted next_is =
    rw (next_is, counted) (joins ∙ ap (λ (rest : List SqlRow). page ++ rest) (rest_is l low es page last (last_eq ∙ ap last_key same)))

-- nothing is read at the start
pub read_none : (l : Layout) (column : ℕ) (es : List SqlRow) (read : ColumnRead) → read.keys.items ≡ [] → read.values.items ≡ []
    → IsRead l column es (Some least) read
read_none l column es read no_keys no_values = record
    { seen = []; parts = refl; keys_are = no_keys; values_are = ap (map datum) no_values }

-- one page more
pub read_on : (l : Layout) (column : ℕ) (es page : List SqlRow) (low : ℤ) (next : Option ℤ) (old new : ColumnRead)
    → IsRead l column es (Some low) old → Parts l es (Some low) page next
    → Adds l column page old new → IsRead l column es next new
read_on l column es page low next old new a parts adds = record {
  seen = a.seen ++ page;
  parts = a.parts ∙ ap (λ (rest : List SqlRow). a.seen ++ rest) parts ∙ sym (append_assoc a.seen page (rows_from l next es));
  keys_are = further key_in [] old.keys.items new.keys.items a.seen page a.keys_are adds.0;
  values_are = further (λ (r : SqlRow). cell (page_cells l r) column) [] (map datum old.values.items)
      (map datum new.values.items) a.seen page a.values_are adds.1;
}

one_longer : (left : List Value) (v : Value) (old : List Value) → old ≡ left ++ v ∷ [] → length old ≡ length left + 1
one_longer left v old e = ap length e ∙ length-append left (v ∷ [])

pub taken_more : (cells : List Datum) (old left : List Value) (v : Value) (x y : PlaceIndex) → old ≡ left ++ v ∷ []
    → ((ds : List Datum) → IsIndexFrom (length left + 1) ds x → IsIndexFrom (length left) (datum v ∷ ds) y) → IsIndexed cells old x
    → IsIndexed cells left y
taken_more cells old left v x y e add h = record {
  taken = datum v ∷ h.taken;
  parts =
      h.parts ∙ ap (λ (l : List Value). map datum l ++ h.taken) e ∙ ap (λ (l : List Datum). l ++ h.taken) (map-append datum left (v ∷ []))
      ∙ append_assoc (map datum left) (datum v ∷ []) h.taken;
  is = add h.taken (subst (λ (n : ℕ). IsIndexFrom n h.taken x) (one_longer left v old e) h.is);
}

cells_are : (l : Layout) (column : ℕ) (rs : List SqlRow) → column_cells column (map (row_in l) rs) ≡ values_in l column rs
cells_are l column [] = refl
cells_are l column (r ∷ rs) = ap (λ (ds : List Datum). cell (page_cells l r) column ∷ ds) (cells_are l column rs)

-- a column that was read whole, and its index
pub is_lookup : (l : Layout) (es : List SqlRow) (read : ColumnRead) (x : Lookup) → IsRead l x.column es None read → x.keys ≡ read.keys
    → IsIndexFrom 0 (map datum read.values.items) x.index → IsLookup l es x
is_lookup l es read x h keys is = record {
  keys_are = ap (λ k. k.items) keys ∙ h.keys_are ∙ ap (map key_in) (sym whole);
  index_is =
      subst (λ (ds : List Datum). IsIndexFrom 0 ds x.index)
      (h.values_are ∙ ap (values_in l x.column) (sym whole) ∙ sym (cells_are l x.column (range_of (places l) least greatest es))) is;
}
  where
    whole : range_of (places l) least greatest es ≡ h.seen
    whole = h.parts ∙ append-nil h.seen

-- one page more of a table that did not change
pub read_further : (l : Layout) (column : ℕ) (db after : Database) (page : List SqlRow) (at : Option ℤ) (low : ℤ) (next : Option ℤ)
    (old new : ColumnRead) → after ≡ db → at ≡ Some low
    → IsRead l column (entries_of db l) at old → Parts l (entries_of after l) (Some low) page next → Adds l column page old new
    → IsRead l column (entries_of db l) next new
read_further l column db after page at low next old new same is a parts adds =
    read_on l column (entries_of db l) page low next old new (subst (λ (o : Option ℤ). IsRead l column (entries_of db l) o old) is a)
    (subst (λ (d : Database). Parts l (entries_of d l) (Some low) page next) same parts) adds
