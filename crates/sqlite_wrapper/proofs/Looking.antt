-- Scans that are begun again and look for a parameter, and the lookups that live scans have.
use Rattle.std.proofs.Common.{
  ◌≡◌,
  ◌≢◌,
  ℕ,
  ℤ,
  ◌⊎◌,
  Bool,
  true,
  false,
  ◌&&◌,
  List,
  [],
  ◌∷◌,
  ◌++◌,
  map,
  filter,
  drop,
  Option,
  Some,
  None,
  IfSome,
  IfNone,
  if◌then◌else◌,
  pos,
  ◌+ℤ◌,
  ◌+◌,
  ◌-◌,
  option_map,
  int_lt,
  append-nil,
  FitsSigned,
  w64,
  refl,
  ap,
  sym,
  ◌∙◌,
  subst,
  eqb,
  inl,
  inr,
  arith,
  ◌≤ℤ◌,
}
use Rattle.std.proofs.lemmas.Int.{ints}
use Rattle.std.specs.Ordering.{nat_cmp}
use Rattle.std.specs.BTreeMap as tree
use Rattle.std.specs.BTreeMap.{BTreeMap}
use Rattle.std.proofs.lemmas.Bool.Decides.{eqb_tells}
use Rattle.std.proofs.lemmas.Option.{same_Some}
use Rattle.sqlite.specs.Effect.{Database}
use Rattle.sqlite.specs.Order.{Row as SqlRow}
use Rattle.sqlite.specs.View.{IsShaped}
use Rattle.sqlite_trees.specs.declared.store.Shape.TheVariants as shape
use Rattle.med_value.specs.Datum.{Datum, Tuple, Whole, datum, cell}
use Rattle.fdw_api.specs.Prelude.{Spec, KeyForm, TableRow, IsComing, first_of, given_row, meets_exact, is_unpromised, key_form, Scan}
use Rattle.wrapper_parts.specs.Scans.{SoughtForm, sought, has_sought, rows_taken}
use Rattle.wrapper_parts.proofs.Taking.{taken_comes}
use Rattle.sqlite_tables.specs.Prelude.{
  Layout,
  layout_at,
  row_in,
  rows_in,
  least,
  greatest,
  entries_of,
  rows_of,
  IsLookup,
  has_value,
  rows_with,
}
use Rattle.sqlite_tables.proofs.PagesJoin.{Ints, between}
use Rattle.sqlite_tables.specs.declared.reading.Lookup.{Lookup}
use Rattle.sqlite_wrapper.specs.declared.scans.KeyScan.{KeyScan}
use Rattle.sqlite_wrapper.specs.Boxes.{Sets, IsBegun, allows, asked_of, is_by_key, lowest, scan_is, scan_rows, given_of}
use Rattle.sqlite_wrapper.specs.Looks.{Looks, AllLook, IsFree, LooksFor, IsFilled, IsAnswered}
use Rattle.sqlite_wrapper.proofs.Coming.{same, shows}
use Rattle.sqlite_wrapper.proofs.Keys.{HasKeyFirst, key_first}
use Rattle.sqlite_wrapper.specs.Pages.{passed}
use Rattle.sqlite_wrapper.proofs.LiveScans.{Fresh, if_some, allowed_order, begun_keys, begun_coming}

-- ---- the lookups of live scans

lookups_same : (a b : Lookup) → Some a ≡ Some b → a ≡ b
lookups_same a b e = cc

pub keeps_looks : (db : Database) (m n : BTreeMap ℕ KeyScan) (number : ℕ) (w : Option KeyScan) → AllLook db m
    → ((s : KeyScan) → w ≡ Some s → Looks db s) → Sets m n number w → AllLook db n
keeps_looks db m n number w all this u k s at = split (eqb_tells k number)
  where
    split : ((eqb k number ≡ true) × (k ≡ number)) ⊎ ((eqb k number ≡ false) × (k ≢ number)) → Looks db s
    split (inl e) = this s (sym u.0 ∙ subst (λ (q : ℕ). tree.get nat_cmp n q ≡ Some s) e.1 at)
    split (inr e) = all k s (sym (u.1 k e.1) ∙ at)

-- a scan that is ended leaves the numbers after it unused
pub removed_fresh : (m n : BTreeMap ℕ KeyScan) (number next : ℕ) → Fresh m next → Sets m n number None → Fresh n next
removed_fresh m n number next fresh u k le = split (eqb_tells k number)
  where
    split : ((eqb k number ≡ true) × (k ≡ number)) ⊎ ((eqb k number ≡ false) × (k ≢ number)) → tree.get nat_cmp n k ≡ None
    split (inl e) = subst (λ (q : ℕ). tree.get nat_cmp n q ≡ None) (sym e.1) u.0
    split (inr e) = u.1 k e.1 ∙ fresh k le

-- a database that is as before has the same rows
pub looks_after : (honest : Bool) (db after : Database) (m : BTreeMap ℕ KeyScan) → (honest ≡ true → after ≡ db)
    → (honest ≡ true → AllLook db m) → honest ≡ true → AllLook after m
looks_after honest db after m same all h = subst (λ (d : Database). AllLook d m) (sym (same h)) (all h)

-- a scan that has another's table and lookup
pub looks_same : (db : Database) (s n : KeyScan) → n.table ≡ s.table → n.lookup ≡ s.lookup → Looks db s → Looks db n
looks_same db s n table lookup looks x e = subst (λ (t : ℕ). IsLookup (layout_at t) (entries_of db (layout_at t)) x) (sym table)
    (looks x (sym lookup ∙ e))

-- a scan without one
pub looks_none : (db : Database) (s : KeyScan) → s.lookup ≡ None → Looks db s
looks_none db s none x e = let f = sym none ∙ e in absurd cc

-- ---- what comes of a scan that was given its rows

filter_both : {X : Type 0} (p q : X → Bool) (xs : List X) → filter (λ x. p x && q x) xs ≡ filter p (filter q xs)
filter_both p q [] = refl
filter_both {X} p q (x ∷ xs) = by (q x) (p x) refl refl (filter_both p q xs)
  where
    by : (a b : Bool) → q x ≡ a → p x ≡ b → filter (λ y. p y && q y) xs ≡ filter p (filter q xs)
        → filter (λ y. p y && q y) (x ∷ xs) ≡ filter p (filter q (x ∷ xs))
    by true true e f h = rw (e, f) (ap (λ (l : List X). x ∷ l) h)
    by true false e f h = rw (e, f) h
    by false true e f h = rw (e, f) h
    by false false e f h = rw (e, f) h

range_same : (a b c d k : ℤ) → a ≡ b → c ≡ d → between a c k ≡ between b d k
range_same a b c d k e f = rw (e, f) refl

open_lowest : (o : Bool) (low high a : ℤ) → o ≡ true → low ≡ a → (if o then low else high +ℤ pos 1) ≡ a
open_lowest o low high a e f = rw (e, f) refl

no_promise : (order : List KeyForm) (limit : Option ℕ) (spec : Spec) → order ≡ [] → limit ≡ None
    → is_unpromised (record spec { order = order; limit = limit }) ≡ true
no_promise order limit spec e f = rw (e, f) refl

-- a scan of all keys takes each row that has what it looks for
module _ (l : Layout) (first : HasKeyFirst l) (spec : Spec) (params : Tuple) (by_key : is_by_key spec.order ≡ true)
    (keys : (k : ℤ) (rest : Tuple) → FitsSigned w64 k → between least greatest k
    ≡ meets_exact spec.offered spec.answers params (Whole k ∷ rest)) where
  least_low : least ≤ℤ least
  least_low = omega (arith, ints)

  greatest_high : greatest ≤ℤ greatest
  greatest_high = omega (arith, ints)

  abbrev exact : TableRow → Bool
  exact r = meets_exact spec.offered spec.answers params r.cells

  all_exact : (entries : List SqlRow) → Ints entries → filter exact (rows_in l entries) ≡ rows_in l entries
  all_exact entries ints_are = same l first spec by_key params least greatest least_low greatest_high keys entries ints_are

  taken : (entries : List SqlRow) → Ints entries → (form : SoughtForm) → sought spec.offered ≡ Some form
      → rows_taken spec params (rows_in l entries) ≡ rows_with l form.column (cell params form.parameter) entries
  taken entries ints_are form is =
      ap (λ (o : Option SoughtForm). filter (λ r. has_sought o params r.cells && exact r) (rows_in l entries)) is
      ∙ filter_both (has_value form.column (cell params form.parameter)) exact (rows_in l entries)
      ∙ ap (filter (has_value form.column (cell params form.parameter))) (all_exact entries ints_are)

  pub found_comes : (entries page : List SqlRow) → Ints entries → (form : SoughtForm) → is_unpromised spec ≡ true
      → sought spec.offered ≡ Some form
      → map (row_in l) page ≡ rows_with l form.column (cell params form.parameter) entries
      → IsComing (rows_in l entries) spec params (map (given_of spec l) page)
  found_comes entries page ints_are form free is found =
      subst (IsComing (rows_in l entries) spec params)
      (ap (map (given_row spec)) (taken entries ints_are form is ∙ sym found)
      ∙ sym (shows l first spec by_key params least greatest least_low greatest_high keys page))
      (taken_comes (rows_in l entries) spec params free)

-- a scan as it is asked for
own : (s : KeyScan) (t : ℕ) (spec : Spec) (params : Tuple) → IsBegun s t spec params
    → IsBegun s s.table (asked_of s) (map datum s.params.items)
own s t spec params begun =
    subst (λ (q : ℕ). IsBegun s q (asked_of s) (map datum s.params.items)) (sym begun.new.table)
    (subst (λ (z : Spec). IsBegun s t z (map datum s.params.items)) (sym begun.new.spec_is)
    (subst (λ (p : Tuple). IsBegun s t spec p) (sym begun.new.params_are) begun))

module _ (db : Database) (s : KeyScan) (begun : IsBegun s s.table (asked_of s) (map datum s.params.items))
    (allowed : allows (asked_of s) ≡ true)
    (shaped : IsShaped shape.Table (entries_of db (layout_at s.table))) where
  abbrev l : Layout
  l = layout_at s.table

  abbrev es : List SqlRow
  es = entries_of db l

  abbrev params : Tuple
  params = map datum s.params.items

  free_keys : IsFree s → (k : ℤ) (rest : Tuple) → FitsSigned w64 k
      → between least greatest k ≡ meets_exact (asked_of s).offered (asked_of s).answers params (Whole k ∷ rest)
  free_keys free k rest fits =
      range_same least (lowest s) greatest s.high k (sym (open_lowest s.open s.low s.high least free.opened free.from)) (sym free.to)
      ∙ begun_keys true [] None db s s.table (asked_of s) params begun allowed k rest fits

  filled : (n : KeyScan) → IsFilled l es s n → IsComing (rows_of db l) (asked_of s) params (scan_rows db (Some n))
  filled n f =
      let free = f.looks.free in
      let page = n.page.items in
      let unpromised : is_unpromised (asked_of s) ≡ true = no_promise (map key_form s.order.items) s.limit (asked_of s)
      (ap (map key_form) free.no_order) free.no_limit in
      let comes = found_comes l (key_first s.table) (asked_of s) params (allowed_order (asked_of s) allowed) (free_keys free) es page
      shaped.1 f.form unpromised f.looks.is f.page_is in
      let room : s.room ≡ None = begun.new.room ∙ free.no_limit in
      let start : s.at ≡ 0 = begun.new.at_start in
      let rows : scan_rows db (Some (record s { page = n.page; full = false; lookup = n.lookup })) ≡ map (given_of (asked_of s) l) page =
      ap (λ (o : Option ℕ). first_of o (map (given_of (asked_of s) l) (drop s.at page ++ []))) room
      ∙ ap (λ (xs : List SqlRow). map (given_of (asked_of s) l) xs) (append-nil (drop s.at page) ∙ ap (λ (k : ℕ). drop k page) start) in
      subst (IsComing (rows_of db l) (asked_of s) params) (sym (ap (λ (z : KeyScan). scan_rows db (Some z)) f.is ∙ rows)) comes

  answered : (n : KeyScan) → (n ≡ record s { lookup = n.lookup }) ⊎ IsFilled l es s n
      → IsComing (rows_of db l) (asked_of s) params (scan_rows db (Some n))
  answered n (inl e) =
      subst (λ (z : KeyScan). IsComing (rows_of db l) (asked_of s) params (scan_rows db (Some z))) (sym e)
      (begun_coming true [] None db s s.table (asked_of s) params begun allowed shaped)
  answered n (inr f) = filled n f

pub answered_coming : (db : Database) (s n : KeyScan) (t : ℕ) (spec : Spec) (params : Tuple) → IsBegun s t spec params
    → allows spec ≡ true → IsShaped shape.Table (entries_of db (layout_at s.table))
    → (n ≡ record s { lookup = n.lookup }) ⊎ IsFilled (layout_at s.table) (entries_of db (layout_at s.table)) s n
    → IsComing (rows_of db (layout_at t)) spec params (scan_rows db (Some n))
answered_coming db s n t spec params begun allowed shaped rows =
    let may = subst (λ (z : Spec). allows z ≡ true) (sym begun.new.spec_is) allowed in
    let w = answered db s (own s t spec params begun) may shaped n rows in
    subst (λ (q : ℕ). IsComing (rows_of db (layout_at q)) spec params (scan_rows db (Some n))) begun.new.table
    (subst (λ (z : Spec). IsComing (rows_of db (layout_at s.table)) z params (scan_rows db (Some n))) begun.new.spec_is
    (subst (λ (p : Tuple). IsComing (rows_of db (layout_at s.table)) (asked_of s) p (scan_rows db (Some n))) begun.new.params_are w))

-- ---- scans that go on

-- a live scan in whose place one of its table, with its lookup, is put
pub looks_kept : (db : Database) (s a : KeyScan) → a.table ≡ s.table → a.lookup ≡ s.lookup → Looks db s → (z : KeyScan) → Some a ≡ Some z
    → Looks db z
looks_kept db s a table lookup looks z e = subst (Looks db) (same_Some a z e) (looks_same db s a table lookup looks)

-- `passed`, by whether a greater key may come
abbrev passing : KeyScan → ℤ → Bool → KeyScan
passing n key b =
    if b then record n { at = n.at + 1; room = option_map (λ m. m - 1) n.room; low = key +ℤ pos 1 }
    else record n { at = n.at + 1; room = option_map (λ m. m - 1) n.room; «open» = false }

-- after a row a scan has the same table and lookup
pub passed_keeps : (n : KeyScan) (key : ℤ) → ((passed n key).table ≡ n.table) × ((passed n key).lookup ≡ n.lookup)
passed_keeps n key = go (int_lt key n.high)
  where
    go : (b : Bool) → ((passing n key b).table ≡ n.table) × ((passing n key b).lookup ≡ n.lookup)
    go true = (refl, refl)
    go false = (refl, refl)

-- ---- what a scan is given that is begun again

-- the lookup that a scan had is one for the scan that is begun again
pub had_looks : (db : Database) (s n : KeyScan) (had : Option Lookup) → Looks db s → had ≡ s.lookup → n.table ≡ s.table
    → IfSome had (IsLookup (layout_at n.table) (entries_of db (layout_at n.table)))
had_looks db s n None looks e table = tt
had_looks db s n (Some x) looks e table = subst (λ (t : ℕ). IsLookup (layout_at t) (entries_of db (layout_at t)) x) (sym table)
    (looks x (sym e))

-- a scan that looks for nothing
pub unanswered : (honest : Bool) (l : Layout) (es : List SqlRow) (s n : KeyScan) (had : Option Lookup) → n ≡ record s { lookup = had }
    → (honest ≡ true → IfSome had (IsLookup l es))
    → IsAnswered honest l es s n
unanswered honest l es s n had is looks =
    let lookup : n.lookup ≡ had = ap (λ (z : KeyScan). z.lookup) is in
    record {
      shows = ap scan_is is;
      looks = λ h x e. if_some had (IsLookup l es) x (sym lookup ∙ e) (looks h);
      rows = λ h. inl (is ∙ ap (λ (o : Option Lookup). record s { lookup = o }) (sym lookup));
    }

-- a scan that looks for a value: its rows were found, or were too many
pub looked_up : {V : Type 0} (found : Option V) (items : V → List SqlRow) (honest : Bool) (l : Layout) (es : List SqlRow) (s n : KeyScan)
    (x : Lookup) (form : SoughtForm) (v : Datum) → LooksFor s form
    → scan_is n ≡ scan_is s → n.lookup ≡ Some x → (honest ≡ true → IsLookup l es x) → x.column ≡ form.column
    → v ≡ cell (map datum s.params.items) form.parameter
    → IfNone found (n ≡ record s { lookup = n.lookup })
    → IfSome found (λ p. (n ≡ record s { page = n.page; full = false; lookup = n.lookup }) × (n.page.items ≡ items p))
    → (honest ≡ true → IfSome found (λ p. map (row_in l) (items p) ≡ rows_with l x.column v es)) → IsAnswered honest l es s n
looked_up None items honest l es s n x form v for shows lookup is column v_is none some page = record {
  shows = shows;
  looks = λ h y e. subst (IsLookup l es) (lookups_same x y (sym lookup ∙ e)) (is h);
  rows = λ h. inl none;
}
looked_up (Some p) items honest l es s n x form v for shows lookup is column v_is none some page = record {
  shows = shows;
  looks = λ h y e. subst (IsLookup l es) (lookups_same x y (sym lookup ∙ e)) (is h);
  rows = λ h. inr (record {
    form = form;
    looks = for;
    is = some.0;
    page_is =
        ap (map (row_in l)) some.1 ∙ page h ∙ ap (λ (c : ℕ). rows_with l c v es) column
        ∙ ap (λ (d : Datum). rows_with l form.column d es) v_is;
  });
}

-- the lookup of a scan that was answered is of its table
pub answer_looks : (honest : Bool) (db : Database) (s n : KeyScan) → honest ≡ true
    → IsAnswered honest (layout_at s.table) (entries_of db (layout_at s.table)) s n → Looks db n
answer_looks honest db s n h a x e =
    subst (λ (t : ℕ). IsLookup (layout_at t) (entries_of db (layout_at t)) x) (sym (ap (λ (z : Scan). z.table) a.shows)) (a.looks h x e)
