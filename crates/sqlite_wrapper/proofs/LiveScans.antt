-- What the calls of a scan do to a SQLite source.
use Rattle.std.proofs.Common.{
  ◌≡◌,
  ◌≢◌,
  ℕ,
  ℤ,
  pos,
  ◌+ℤ◌,
  ◌+◌,
  ◌-◌,
  ◌^◌,
  ◌<◌,
  ◌≤◌,
  ◌≤ℤ◌,
  ◌⊎◌,
  Bool,
  true,
  false,
  not,
  ◌&&◌,
  if◌then◌else◌,
  List,
  [],
  ◌∷◌,
  Option,
  Some,
  None,
  Result,
  Ok,
  Err,
  IfErr,
  IsErrAnd,
  IsSome,
  IfSome,
  map,
  option_map,
  slice_get,
  slice_index_or,
  nat_eq,
  zero,
  suc,
  FitsSigned,
  w64,
  refl,
  ap,
  sym,
  ◌∙◌,
  subst,
  arith,
  eqb,
  inl,
  inr,
  nat_lt,
}
use Rattle.std.proofs.lemmas.Int.{ints}
use Rattle.std.specs.Ordering.{nat_cmp}
use Rattle.std.specs.BTreeMap as tree
use Rattle.std.specs.BTreeMap.{BTreeMap, is_at}
use Rattle.std.specs.Map.{lookup}
use Rattle.std.specs.FinMap as finmap
use Rattle.std.proofs.lemmas.Bool.Decides.{eqb_tells}
use Rattle.std.proofs.lemmas.Option.{same_Some}
use Rattle.std.proofs.lemmas.Bool.{and_parts}
use Rattle.sqlite.specs.Effect.{Database}
use Rattle.sqlite.specs.Order.{Row as SqlRow}
use Rattle.sqlite.specs.View.{IsShaped}
use Rattle.sqlite_trees.specs.declared.store.Shape.TheVariants as shape
use Rattle.sqlite_tables.specs.Prelude.{range_of, places, layout_at, layout_count, kinds_in, least, greatest, entries_of, rows_of}
use Rattle.wrapper_parts.specs.declared.ranges.KeyRange.{KeyRange}
use Rattle.wrapper_parts.specs.Ranges.{
  is_key_value,
  is_apart,
  is_range_check,
  is_key_test,
  is_typed_check,
  asks_key,
  only_key_tests,
  only_keys,
}
use Rattle.med_value.specs.Datum.{Datum, NoValue, Whole, Chars, Logic, Tuple, cell}
use Rattle.med_value.specs.declared.value.ColType.{ColType}
use Rattle.med_value.specs.declared.value.ColType.TheVariants.{Int}
use Rattle.fdw_api.specs.Prelude.{
  KeyForm,
  Spec,
  spec_of,
  first_of,
  RestrictionForm,
  TestForm,
  Compares,
  Missing,
  Present,
  Given,
  Slot,
  has_kind,
  kind_is,
  test_fits,
  params_fit,
  IsComing,
  meets_exact,
  AllowsPromise,
  WishForm,
  key_form,
  spec2_of,
  with_promise,
  BoxTable,
  Scan,
  BoxState,
  scan_of,
  table_of,
  LeavesOthers,
  new_scan,
  Begins,
  Breaks,
  CanRescan,
  Rescans,
  Ends,
  RefusesBegin,
  faults_after,
  not_refused,
  Allows,
}
use Rattle.fdw_api.specs.declared.scan.Agree.{Agree}
use Rattle.fdw_api.specs.declared.scan.Agree.TheVariants.{Ignored, Hint, Exact}
use Rattle.fdw_api.specs.declared.wishes.OrderKey.{OrderKey}
use Rattle.fdw_api.specs.declared.wishes.ScanSpec2.{ScanSpec2}
use Rattle.fdw_api.specs.declared.interface.Fault.{Fault}
use Rattle.fdw_api.specs.declared.interface.Fault.TheVariants.{NoMemory}
use Rattle.sqlite_wrapper.specs.declared.scans.KeyScan.{KeyScan}
use Rattle.wrapper_parts.specs.declared.changes.StagedWrite.{StagedWrite}
use Rattle.sqlite_wrapper.specs.Boxes.{
  allows,
  asked_of,
  is_allowed,
  is_by_key,
  bound_of,
  marked_bound,
  lowest,
  from_to,
  scan_is,
  given_of,
  scan_rows,
  to_come,
  mapped,
  Sets,
  promised,
  sqlite_state,
  IsNewScan,
  IsBegun,
}
use Rattle.sqlite_wrapper.proofs.Maps.{mapped_get, mapped_insert, mapped_remove}
use Rattle.sqlite_tables.proofs.PagesJoin.{between}
use Rattle.sqlite_wrapper.proofs.Coming.{span_is, comes}
use Rattle.sqlite_wrapper.proofs.Keys.{key_first, kinds_first}

pub at_some : {X : Type 0} (o : Option X) → IsSome o → (x : X) × (o ≡ Some x)
at_some None e = absurd cc
at_some (Some x) e = (x, refl)

pub if_some : {X : Type 0} (o : Option X) (P : X → Type 0) (x : X) → o ≡ Some x → IfSome o P → P x
if_some None P x e p = absurd cc
if_some (Some y) P x e p = subst P (same_Some y x e) p

there : {X Y : Type 0} (f : X → Y) (o : Option X) (y : Y) → option_map f o ≡ Some y → IsSome o
there f None y e = absurd cc
there f (Some x) y e = refl

pair : (a b : Bool) → a ≡ true → b ≡ true → (a && b) ≡ true
pair a b d e = rw (d, e) refl

int_is_key : (v : Datum) → has_kind Int v ≡ true → is_key_value v ≡ true
int_is_key NoValue e = refl
int_is_key (Whole n) e = refl
int_is_key (Chars t) e = absurd cc
int_is_key (Logic b) e = absurd cc

is_zero : (n : ℕ) → nat_eq n 0 ≡ true → n ≡ 0
is_zero zero e = refl
is_zero (suc n) e = absurd (grind arith)

typed_check : (ks : List ColType) (params : Tuple) (column : ℕ) (check : TestForm) → nat_eq column 0 ≡ true → is_range_check check ≡ true
    → test_fits (Int ∷ ks) params column check ≡ true → is_typed_check params check ≡ true
typed_check ks params column (Compares op (Given v)) zero_is range fits = range
typed_check ks params column (Compares op (Slot at)) zero_is range fits =
    let w = and_parts (not (is_apart op)) true range in
    let f = and_parts _ (kind_is (slice_get (Int ∷ ks) column) (cell params at)) fits in
    let k : kind_is (slice_get (Int ∷ ks) 0) (cell params at)
    ≡ true = subst (λ (n : ℕ). kind_is (slice_get (Int ∷ ks) n) (cell params at) ≡ true) (is_zero column zero_is) f.1 in
    pair (not (is_apart op)) _ w.0 (int_is_key (cell params at) k)
typed_check ks params column Missing zero_is range fits = refl
typed_check ks params column Present zero_is range fits = refl

-- tests of the key with parameters of its type
pub keys_fit : (ks : List ColType) (params : Tuple) (fs : List RestrictionForm) (gs : List Agree) → only_key_tests fs gs ≡ true
    → params_fit (Int ∷ ks) fs params ≡ true → only_keys params fs gs ≡ true
keys_fit ks params [] gs allowed fits = refl
keys_fit ks params (f ∷ fs) [] allowed fits = refl
keys_fit ks params (f ∷ fs) (Exact ∷ gs) allowed fits =
    let w = and_parts (is_key_test f) (only_key_tests fs gs) allowed in
    let v = and_parts (test_fits (Int ∷ ks) params f.column f.test) _ fits in
    let t = and_parts (nat_eq f.column 0) (is_range_check f.test) w.0 in
    pair (asks_key params f) (only_keys params fs gs) (pair (nat_eq f.column 0) _ t.0 (typed_check ks params f.column f.test t.0 t.1 v.0))
    (keys_fit ks params fs gs w.1 v.1)
keys_fit ks params (f ∷ fs) (Ignored ∷ gs) allowed fits = keys_fit ks params fs gs allowed
    (and_parts (test_fits (Int ∷ ks) params f.column f.test) _ fits).1
keys_fit ks params (f ∷ fs) (Hint ∷ gs) allowed fits = keys_fit ks params fs gs allowed
    (and_parts (test_fits (Int ∷ ks) params f.column f.test) _ fits).1

marked_is : (f : Bool) (t : ℕ) (b : BoxTable) → marked_bound f t ≡ Some b → b ≡ bound_of t
marked_is true t b e = sym (same_Some _ _ e)
marked_is false t b e = absurd cc

-- a bound table has the types of its layout, and allows tests of the key
pub bound_kinds : (f : Bool) (t : ℕ) (b : BoxTable) → marked_bound f t ≡ Some b → b.kinds ≡ kinds_in (layout_at t)
bound_kinds f t b e = ap (λ (z : BoxTable). z.kinds) (marked_is f t b e)

pub bound_allows : (f : Bool) (t : ℕ) (b : BoxTable) (spec : Spec) → marked_bound f t ≡ Some b → b.allows spec ≡ true → allows spec ≡ true
bound_allows f t b spec e a = subst (λ (z : BoxTable). z.allows spec ≡ true) (marked_is f t b e) a

-- what is allowed tests the key alone, and no other order than that of the key is promised of it
pub allowed_tests : (spec : Spec) → allows spec ≡ true → only_key_tests spec.offered spec.answers ≡ true
allowed_tests spec a = (and_parts (is_by_key spec.order) _ (and_parts (not spec.narrow) _ a).1).1

pub allowed_order : (spec : Spec) → allows spec ≡ true → is_by_key spec.order ≡ true
allowed_order spec a = (and_parts (is_by_key spec.order) _ (and_parts (not spec.narrow) _ a).1).0

-- with such an order, and with any limit, it is allowed too
pub allows_order : (spec : Spec) (order : List KeyForm) (limit : Option ℕ) → allows spec ≡ true → is_by_key order ≡ true
    → allows (record spec { order = order; limit = limit }) ≡ true
allows_order spec order limit a by = pair (not spec.narrow) _ (and_parts (not spec.narrow) _ a).0
    (pair (is_by_key order) _ by (allowed_tests spec a))

-- an order that is promised where it is that of the key is
pub kept_order : (b : Bool) (order : List KeyForm) → b ≡ is_by_key order → is_by_key (if b then order else []) ≡ true
kept_order true order e = sym e
kept_order false order e = refl

-- what is promised by an order and a limit, and what is wished of them
pub promised_is : (s : ScanSpec2) (order : List OrderKey) (limit : Option ℕ) → map key_form order ≡ (spec2_of s).order
    → limit ≡ (spec2_of s).limit → promised (spec_of s.base) order limit ≡ spec2_of s
promised_is s order limit e f =
    ap (λ (ks : List KeyForm). record (spec_of s.base) { order = ks; limit = limit }) e
    ∙ ap (λ (o : Option ℕ). record (spec2_of s) { limit = o }) f

-- what a start asks of the keys
pub asks : (t : ℕ) (spec : Spec) (params : Tuple) → allows spec ≡ true → params_fit (kinds_in (layout_at t)) spec.offered params ≡ true
    → only_keys params spec.offered spec.answers ≡ true
asks t spec params a fits =
    let w = kinds_first t in
    keys_fit w.0 params spec.offered spec.answers (allowed_tests spec a)
    (subst (λ (k : List ColType). params_fit k spec.offered params ≡ true) w.1 fits)

-- a table that is marked is bound
pub marked_bound_is : (f : Bool) (t : ℕ) → IsSome (marked_bound f t) → marked_bound f t ≡ Some (bound_of t)
marked_bound_is true t e = refl
marked_bound_is false t e = absurd cc

marked_there : (spec : Spec) (f : Bool) (t : ℕ) → IsSome (marked_bound f t) → allows spec ≡ true → (b : BoxTable)
    × (marked_bound f t ≡ Some b) × (b.allows spec ≡ true)
marked_there spec false t e a = absurd cc
marked_there spec true t e a = (bound_of t, refl, a)

few_keys : (low high : ℤ) → least ≤ℤ low → high ≤ℤ greatest → from_to low high ≤ 2 ^ 64
few_keys low high from to = omega (arith, ints)

pick : (o : Bool) (a b c d : ℤ) → a ≡ b → c ≡ d → (if o then a else c +ℤ pos 1) ≡ (if o then b else d +ℤ pos 1)
pick o a b c d e f = rw (e, f) refl

between_same : (a b c d k : ℤ) → a ≡ b → c ≡ d → between a c k ≡ between b d k
between_same a b c d k e f = rw (e, f) refl

pub refused_by : {T : Type 0} (r : Result T Fault) (P : Fault → Type 0) → IsErrAnd r (λ f. f ≡ NoMemory) → P NoMemory → IfErr r P
refused_by (Ok x) P e p = tt
refused_by (Err f) P e p = subst P (sym e) p

-- no scan has a number from this one on
abbrev pub Fresh : BTreeMap ℕ KeyScan → ℕ → Type 0
Fresh m next = (k : ℕ) → next ≤ k → tree.get nat_cmp m k ≡ None

-- each scan is of one of the two tables, and tests the key alone
abbrev pub Allowed : BTreeMap ℕ KeyScan → Type 0
Allowed m = (k : ℕ) (s : KeyScan) → tree.get nat_cmp m k ≡ Some s → is_allowed (scan_is s) ≡ true

pub none_is : (o : Option KeyScan) → o ≡ None → IsSome o → ⊥
none_is None e s = absurd cc
none_is (Some x) e s = absurd cc

-- a change of a live scan makes no new number
pub keeps_fresh : (m n : BTreeMap ℕ KeyScan) (number next : ℕ) (w : Option KeyScan) → Fresh m next → IsSome (tree.get nat_cmp m number)
    → Sets m n number w → Fresh n next
keeps_fresh m n number next w fresh is u k le = split (eqb_tells k number)
  where
    split : ((eqb k number ≡ true) × (k ≡ number)) ⊎ ((eqb k number ≡ false) × (k ≢ number)) → tree.get nat_cmp n k ≡ None
    split (inl s) = absurd (none_is _ (fresh k le) (subst (λ (q : ℕ). IsSome (tree.get nat_cmp m q)) (sym s.1) is))
    split (inr s) = u.1 k s.1 ∙ fresh k le

-- a scan that begins takes the next number
pub begun_fresh : (m n : BTreeMap ℕ KeyScan) (next : ℕ) (w : Option KeyScan) → Fresh m next → Sets m n next w → Fresh n (next + 1)
begun_fresh m n next w fresh u k le = u.1 k (λ e. absurd (grind (arith, e, le))) ∙ fresh k (grind (arith, le))

pub keeps_allowed : (m n : BTreeMap ℕ KeyScan) (number : ℕ) (w : Option KeyScan) → Allowed m
    → ((s : KeyScan) → w ≡ Some s → is_allowed (scan_is s) ≡ true) → Sets m n number w → Allowed n
keeps_allowed m n number w all this u k s at = split (eqb_tells k number)
  where
    split : ((eqb k number ≡ true) × (k ≡ number)) ⊎ ((eqb k number ≡ false) × (k ≢ number)) → is_allowed (scan_is s) ≡ true
    split (inl e) = this s (sym u.0 ∙ subst (λ (q : ℕ). tree.get nat_cmp n q ≡ Some s) e.1 at)
    split (inr e) = all k s (sym (u.1 k e.1) ∙ at)

module _ (honest : Bool) (bound : List Bool) (staged : Option StagedWrite) where
  abbrev box : Database → BTreeMap ℕ KeyScan → ℕ → ℕ → ℕ → BoxState
  box db m next pulled faults = sqlite_state honest db bound m staged next pulled faults

  pub open_there : (db : Database) (m : BTreeMap ℕ KeyScan) (next pulled faults n : ℕ) (scan : Scan)
      → scan_of (box db m next pulled faults) n ≡ Some scan → IsSome (tree.get nat_cmp m n)
  open_there db m next pulled faults n scan e = there scan_is _ _ (sym (mapped_get scan_is m n) ∙ e)

  pub sqlite_allows : (db : Database) (m : BTreeMap ℕ KeyScan) (next pulled faults t : ℕ) (spec : Spec)
      → IsSome (table_of (box db m next pulled faults) t) → allows spec ≡ true → Allows (box db m next pulled faults) t spec
  sqlite_allows db m next pulled faults t spec e a =
      let w = marked_there spec (slice_index_or bound t false) t e a in
      record { bound = w.0; is = w.1; allowed = w.2 }

  -- what is promised beside an allowed scan, where the order is that of the key
  pub sqlite_promises : (db : Database) (m : BTreeMap ℕ KeyScan) (next pulled faults t : ℕ) (spec : Spec) (w : WishForm)
      (ordered limited : Bool) → Allows (box db m next pulled faults) t spec
      → ordered ≡ is_by_key w.order → AllowsPromise (box db m next pulled faults) t (with_promise spec w ordered limited)
  sqlite_promises db m next pulled faults t spec w ordered limited a e = record {
    allows = record {
      bound = a.bound;
      is = a.is;
      allowed = subst (λ (b : BoxTable). b.allows (with_promise spec w ordered limited) ≡ true)
          (sym (marked_is (slice_index_or bound t false) t a.bound a.is))
          (allows_order spec (if ordered then w.order else []) (if limited then w.limit else None)
          (bound_allows (slice_index_or bound t false) t a.bound spec a.is a.allowed) (kept_order ordered w.order e));
    };
    may = λ not_so. absurd cc;
  }

  -- only this ticket changes
  others : (db : Database) (m n : BTreeMap ℕ KeyScan) (number next next' pulled pulled' faults faults' : ℕ) (w : Option KeyScan)
      → Sets m n number w
      → LeavesOthers number (box db m next pulled faults) (box db n next' pulled' faults')
  others db m n number next next' pulled pulled' faults faults' w u = record {
    coming = λ q live other. ap (scan_rows db) (u.1 q other);
    rows = λ t other. refl;
    holdings = λ r other. refl;
  }

  pub sqlite_ends : (db : Database) (m n : BTreeMap ℕ KeyScan) (next pulled faults number : ℕ) → Sets m n number None
      → Ends (box db m next pulled faults) number (box db n next pulled faults)
  sqlite_ends db m n next pulled faults number u = record {
    nature = refl;
    ledger = ap (λ (l : finmap.FinMap nat_cmp Scan). record (box db m next pulled faults).ledger { live = l })
        (mapped_remove scan_is m n number u);
    leaves = λ h. others db m n number next next pulled pulled faults faults None u;
  }

  pub sqlite_breaks : (db : Database) (m n : BTreeMap ℕ KeyScan) (next pulled faults number : ℕ) (fault : Fault) (s : KeyScan)
      → not_refused fault → tree.get nat_cmp m number ≡ Some s
      → Sets m n number (Some (record s { broken = true }))
      → Breaks (box db m next pulled faults) number fault (box db n next pulled (faults_after fault faults))
  sqlite_breaks db m n next pulled faults number fault s no_cause is u = record {
    nature = refl;
    no_cause = no_cause;
    scan = scan_is s;
    at = mapped_get scan_is m number ∙ ap (option_map scan_is) is;
    ledger = ap (λ (l : finmap.FinMap nat_cmp Scan). record (box db m next pulled (faults_after fault faults)).ledger { live = l })
        (mapped_insert scan_is m n number _ u);
    leaves = λ h. others db m n number next next pulled pulled faults (faults_after fault faults) _ u;
  }

  module _ (db : Database) (s : KeyScan) (t : ℕ) (spec : Spec) (params : Tuple) (begun : IsBegun s t spec params)
      (allowed : allows spec ≡ true) where
    abbrev new : IsNewScan s t spec params begun.range
    new = begun.new

    abbrev r : KeyRange
    r = begun.range

    came : to_come (entries_of db (layout_at s.table)) s ≡ range_of (places (layout_at s.table)) (lowest s) s.high
        (entries_of db (layout_at s.table))
    came = rw (new.no_page, new.at_start, new.full) refl

    gives : scan_rows db (Some s) ≡ first_of spec.limit (map (given_of spec (layout_at t))
        (range_of (places (layout_at t)) (lowest s) s.high (entries_of db (layout_at t))))
    gives =
        ap (λ (rs : List SqlRow). first_of s.room (map (given_of (asked_of s) (layout_at s.table)) rs)) came
        ∙ ap (λ (o : Option ℕ). first_of o (map (given_of (asked_of s) (layout_at s.table))
        (range_of (places (layout_at s.table)) (lowest s) s.high (entries_of db (layout_at s.table)))))
        (new.room ∙ ap (λ (x : Spec). x.limit) new.spec_is)
        ∙ ap (λ (x : Spec). first_of spec.limit (map (given_of x (layout_at s.table))
        (range_of (places (layout_at s.table)) (lowest s) s.high (entries_of db (layout_at s.table))))) new.spec_is
        ∙ ap (λ (q : ℕ). first_of spec.limit (map (given_of spec (layout_at q))
        (range_of (places (layout_at q)) (lowest s) s.high (entries_of db (layout_at q))))) new.table

    low_is : lowest s ≡ (if s.open then r.low else r.high +ℤ pos 1)
    low_is = pick s.open s.low r.low s.high r.high new.low new.high

    above : (b : Bool) → least ≤ℤ (if b then r.low else r.high +ℤ pos 1)
    above true = let f = begun.low_fits in omega (arith, ints)
    above false = let f = begun.high_fits in omega (arith, ints)

    high_is : r.high ≤ℤ greatest
    high_is = let f = begun.high_fits in omega (arith, ints)

    -- the keys that come are those of which all restrictions answered Exact are true
    pub begun_keys : (k : ℤ) (rest : Tuple) → FitsSigned w64 k
        → between (lowest s) s.high k ≡ meets_exact spec.offered spec.answers params (Whole k ∷ rest)
    begun_keys k rest fits = between_same (lowest s) _ s.high r.high k low_is new.high ∙ span_is r k s.open new.open_is
        ∙ begun.keys k rest fits

    pub begun_coming : IsShaped shape.Table (entries_of db (layout_at t))
        → IsComing (rows_of db (layout_at t)) spec params (scan_rows db (Some s))
    begun_coming shaped =
        subst (IsComing (rows_of db (layout_at t)) spec params) (sym gives)
        (comes (layout_at t) (key_first t) spec (allowed_order spec allowed) params (lowest s) s.high
        (subst (λ (z : ℤ). least ≤ℤ z) (sym low_is) (above s.open)) (subst (λ (z : ℤ). z ≤ℤ greatest) (sym new.high) high_is)
        begun_keys (entries_of db (layout_at t)) shaped)

    few_left : from_to (lowest s) s.high ≤ 2 ^ 64
    few_left = few_keys (lowest s) s.high (subst (λ (z : ℤ). least ≤ℤ z) (sym low_is) (above s.open))
        (subst (λ (z : ℤ). z ≤ℤ greatest) (sym new.high) high_is)

    shows_new : scan_is s ≡ new_scan t (kinds_in (layout_at t)) spec params (from_to (lowest s) s.high)
    shows_new = rw (new.table, new.spec_is, new.params_are, new.whole) refl

    pub sqlite_begins : (m n : BTreeMap ℕ KeyScan) (next pulled faults : ℕ) (b : BoxTable)
        → (honest ≡ true → IsShaped shape.Table (entries_of db (layout_at t))) → nat_lt t layout_count ≡ true
        → marked_bound (slice_index_or bound t false) t ≡ Some b → tree.get nat_cmp m next ≡ None
        → next < 2 ^ 64 - 1 → Sets m n next (Some s) → Begins (box db m next pulled faults) t spec params next
        (box db n (next + 1) pulled faults)
    sqlite_begins m n next pulled faults b shaped within is_bound fresh room u = record {
      nature = refl;
      is_next = refl;
      room = room;
      fresh = mapped_get scan_is m next ∙ ap (option_map scan_is) fresh;
      bound = b;
      is = is_bound;
      left = from_to (lowest s) s.high;
      few = few_left;
      ledger =
          ap (λ (l : finmap.FinMap nat_cmp Scan). record (box db n (next + 1) pulled faults).ledger { live = l })
          (mapped_insert scan_is m n next s u ∙ ap (finmap.insert (mapped scan_is m.entries) next) shows_new
          ∙ ap (λ (k : List ColType). finmap.insert (mapped scan_is m.entries) next
          (new_scan t k spec params (from_to (lowest s) s.high))) (sym (bound_kinds (slice_index_or bound t false) t b is_bound)));
      coming = λ h. rw within (subst (IsComing (rows_of db (layout_at t)) spec params) (sym (ap (scan_rows db) u.0))
          (begun_coming (shaped h)));
      leaves = λ h. others db m n next next (next + 1) pulled pulled faults faults (Some s) u;
    }

    pub sqlite_rescans : (after : Database) (m n : BTreeMap ℕ KeyScan) (next pulled faults number : ℕ) (old x : KeyScan)
        → (honest ≡ true → after ≡ db) → scan_is x ≡ scan_is s
        → (honest ≡ true → IsComing (rows_of db (layout_at t)) spec params (scan_rows db (Some x))) → tree.get nat_cmp m number ≡ Some old
        → nat_lt old.table layout_count ≡ true → old.table ≡ t → asked_of old ≡ spec
        → Sets m n number (Some x) → Rescans (box db m next pulled faults) number params (box after n next pulled faults)
    sqlite_rescans after m n next pulled faults number old x same shows coming is within et es u = record {
      nature = refl;
      scan = scan_is old;
      at = mapped_get scan_is m number ∙ ap (option_map scan_is) is;
      left = from_to (lowest s) s.high;
      few = few_left;
      ledger =
          ap (λ (l : finmap.FinMap nat_cmp Scan). record (box db m next pulled faults).ledger { live = l })
          (mapped_insert scan_is m n number x u ∙ ap (finmap.insert (mapped scan_is m.entries) number)
          (shows ∙ shows_new ∙ ap (λ (q : ℕ). new_scan q (kinds_in (layout_at q)) spec params (from_to (lowest s) s.high)) (sym et)
          ∙ ap (λ (z : Spec). new_scan old.table (kinds_in (layout_at old.table)) z params (from_to (lowest s) s.high)) (sym es)));
      coming = λ h. rw within
          (subst (λ (q : ℕ). IsComing (rows_of db (layout_at q)) (asked_of old) params (scan_rows after (tree.get nat_cmp n number)))
          (sym et)
          (subst (λ (z : Spec). IsComing (rows_of db (layout_at t)) z params (scan_rows after (tree.get nat_cmp n number))) (sym es)
          (subst (IsComing (rows_of db (layout_at t)) spec params)
          (sym (ap (scan_rows after) u.0 ∙ ap (λ (d : Database). scan_rows d (Some x)) (same h))) (coming h))));
      leaves = λ h. subst (λ (d : Database). LeavesOthers number (box db m next pulled faults) (box d n next pulled faults)) (sym (same h))
          (others db m n number next next pulled pulled faults faults (Some x) u);
    }

  -- a begin that fails when out of memory leaves the source as it was
  pub sqlite_refuses : (db : Database) (m n : BTreeMap ℕ KeyScan) (next pulled faults : ℕ) → n.entries ≡ m.entries
      → RefusesBegin NoMemory (box db m next pulled faults) (box db n next pulled faults)
  sqlite_refuses db m n next pulled faults e = record {
    refuses = record {
      nature = refl;
      next = next;
      rises = omega arith;
      stays = λ q. q;
      keeps = λ q. refl;
      ledger = ap (λ (es : List (ℕ × KeyScan)). record (box db m next pulled faults).ledger { live = mapped scan_is es }) e;
      leaves = λ h. record {
        coming = λ q l o. ap (λ (es : List (ℕ × KeyScan)). scan_rows db (lookup (is_at (nat_cmp q)) es)) e;
        rows =
            λ u o. refl;
        holdings = λ r o. refl;
      };
    };
    cause = tt;
  }

  pub rescan_asks : (db : Database) (m : BTreeMap ℕ KeyScan) (next pulled faults n : ℕ) (s : KeyScan) (params : Tuple) → Allowed m
      → tree.get nat_cmp m n ≡ Some s
      → CanRescan (box db m next pulled faults) n params → only_keys params (spec_of s.spec).offered (spec_of s.spec).answers ≡ true
  rescan_asks db m next pulled faults n s params all is can =
      let same : scan_is s ≡ can.scan = same_Some _ _ (sym (mapped_get scan_is m n ∙ ap (option_map scan_is) is) ∙ can.at) in
      let at : marked_bound (slice_index_or bound s.table false) s.table ≡ Some can.bound =
      subst (λ (z : Scan). marked_bound (slice_index_or bound z.table false) z.table ≡ Some can.bound) (sym same) can.is in
      let typed = subst (λ (z : Scan). params_fit can.bound.kinds z.spec.offered params ≡ true) (sym same) can.typed in
      let tests = allowed_tests (asked_of s) (and_parts (nat_lt s.table layout_count) (allows (asked_of s)) (all n s is)).1 in
      let w = kinds_first s.table in
      keys_fit w.0 params (spec_of s.spec).offered (spec_of s.spec).answers tests
      (subst (λ (k : List ColType). params_fit k (spec_of s.spec).offered params ≡ true)
      (bound_kinds (slice_index_or bound s.table false) s.table can.bound at ∙ w.1) typed)
