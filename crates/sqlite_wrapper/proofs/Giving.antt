-- What `iterate` does to a SQLite source.
use Rattle.std.proofs.Common.{
  ◌≡◌,
  inl,
  inr,
  ℕ,
  ℤ,
  pos,
  ◌+ℤ◌,
  ◌+◌,
  ◌-◌,
  ◌<◌,
  ◌≤ℤ◌,
  Bool,
  true,
  false,
  not,
  ◌||◌,
  if◌then◌else◌,
  int_lt,
  nat_lt,
  List,
  [],
  ◌∷◌,
  ◌++◌,
  Option,
  Some,
  None,
  IsSome,
  map,
  drop,
  length,
  option_map,
  zero,
  suc,
  refl,
  ap,
  sym,
  ◌∙◌,
  subst,
  arith,
}
use Rattle.std.proofs.Math.Logic.{∥∥₁_map}
use Rattle.std.proofs.lemmas.Int.{ints}
use Rattle.std.specs.Ordering.{nat_cmp}
use Rattle.std.specs.BTreeMap as tree
use Rattle.std.specs.BTreeMap.{BTreeMap, is_at}
use Rattle.std.specs.Map.{lookup}
use Rattle.std.specs.FinMap as finmap
use Rattle.std.proofs.lemmas.Option.{same_Some}
use Rattle.sqlite.specs.Effect.{Database}
use Rattle.sqlite.specs.Order.{Row as SqlRow}
use Rattle.sqlite.specs.Schema.{Schema}
use Rattle.sqlite_tables.specs.Prelude.{range_of, places, key_of, Layout, layout_at, key_in, IsKnown, behind, entries_of}
use Rattle.fdw_api.specs.Prelude.{
  Spec,
  GivenRow,
  first_of,
  shown_fits,
  Scan,
  BoxState,
  LeavesOthers,
  Breaks,
  GivesRow,
  GivesNone,
  bumped,
  faults_after,
  not_refused,
  row_of,
}
use Rattle.fdw_api.specs.declared.interface.Fault.{Fault}
use Rattle.med_value.specs.Datum.{tuple}
use Rattle.sqlite_wrapper.specs.declared.scans.KeyScan.{KeyScan}
use Rattle.wrapper_parts.specs.declared.changes.StagedWrite.{StagedWrite}
use Rattle.sqlite_wrapper.specs.declared.scans.PageWanted.{PageWanted}
use Rattle.sqlite_wrapper.specs.declared.rows.GivenNext.{GivenNext}
use Rattle.sqlite_writes.specs.Writable.{IsWritable}
use Rattle.sqlite_wrapper.specs.Boxes.{
  asked_of,
  is_allowed,
  lowest,
  from_to,
  scan_is,
  unread,
  to_come,
  given_of,
  scan_rows,
  mapped,
  Sets,
  sqlite_state,
}
use Rattle.sqlite_wrapper.specs.Pages.{is_spent, wanted_by, passed, Turns, IsNext}
use Rattle.sqlite_wrapper.proofs.Maps.{mapped_get, mapped_insert, mapped_same, sets_on}
use Rattle.sqlite_wrapper.proofs.Rising.{first_none, first_spent, first_more}
use Rattle.sqlite_tables.proofs.PagesJoin.{between}

-- a table that is read and written by its texts, where it is there, is read by its page text
pub known_by : (schema : Schema) (l : Layout) → IsWritable schema l → IsKnown schema l
known_by schema l (written, inl absent) = inl absent.page
known_by schema l (written, inr w) = inr (w.0, w.1.page)

-- each layout is known
pub known_at : (honest : Bool) (schema : Schema) (t : ℕ) → ((u : ℕ) → honest ≡ true → ∥ IsWritable schema (layout_at u) ∥₁)
    → honest ≡ true → ∥ IsKnown schema (layout_at t) ∥₁
known_at honest schema t writable h = ∥∥₁_map (writable t h) (known_by schema (layout_at t))

-- `passed`, by whether a greater key may come
abbrev passing : KeyScan → ℤ → Bool → KeyScan
passing n key b =
    if b then record n { at = n.at + 1; room = option_map (λ m. m - 1) n.room; low = key +ℤ pos 1 }
    else record n { at = n.at + 1; room = option_map (λ m. m - 1) n.room; «open» = false }

pub same_get : (m n : BTreeMap ℕ KeyScan) → n.entries ≡ m.entries → (k : ℕ) → tree.get nat_cmp n k ≡ tree.get nat_cmp m k
same_get m n e k = ap (λ (es : List (ℕ × KeyScan)). lookup (is_at (nat_cmp k)) es) e

pub sets_copy : (m n p : BTreeMap ℕ KeyScan) (k : ℕ) (w : Option KeyScan) → n.entries ≡ m.entries → Sets n p k w → Sets m p k w
sets_copy m n p k w e u = (u.0, λ q ne. u.1 q ne ∙ same_get m n e q)

pub there_is : (o : Option KeyScan) (s : KeyScan) → o ≡ Some s → IsSome o
there_is o s e = subst (λ (z : Option KeyScan). IsSome z) (sym e) refl

pub allows_same : (a b : KeyScan) → scan_is a ≡ scan_is b → is_allowed (scan_is b) ≡ true → (z : KeyScan) → Some a ≡ Some z
    → is_allowed (scan_is z) ≡ true
allows_same a b e ok z q = subst (λ (y : KeyScan). is_allowed (scan_is y) ≡ true) (same_Some a z q)
    (subst (λ (y : Scan). is_allowed y ≡ true) (sym e) ok)

-- after the next row the lowest key that may come is one above its key
lowest_passed : (n : KeyScan) (key : ℤ) → n.«open» ≡ true → key ≤ℤ n.high → lowest (passed n key) ≡ key +ℤ pos 1
lowest_passed n key opened le = go (int_lt key n.high) refl
  where
    go : (b : Bool) → int_lt key n.high ≡ b → lowest (passing n key b) ≡ key +ℤ pos 1
    go true e = rw opened refl
    go false e = let same : n.high ≡ key = grind (arith, ints) in ap (λ (z : ℤ). z +ℤ pos 1) same

lowest_open : (n : KeyScan) → n.«open» ≡ true → lowest n ≡ n.low
lowest_open n e = rw e refl

pub passed_shows : (n : KeyScan) (key : ℤ) → scan_is (passed n key) ≡ record (scan_is n) { left = from_to (lowest (passed n key)) n.high }
passed_shows n key = go (int_lt key n.high)
  where
    go : (b : Bool) → scan_is (passing n key b) ≡ record (scan_is n) { left = from_to (lowest (passing n key b)) n.high }
    go true = refl
    go false = refl

passed_room : (n : KeyScan) (key : ℤ) → (passed n key).room ≡ option_map (λ m. m - 1) n.room
passed_room n key = go (int_lt key n.high)
  where
    go : (b : Bool) → (passing n key b).room ≡ option_map (λ m. m - 1) n.room
    go true = refl
    go false = refl

fewer_keys : (low high key : ℤ) → low ≤ℤ key → key ≤ℤ high → from_to (key +ℤ pos 1) high < from_to low high
fewer_keys low high key p q = omega (arith, ints)

-- the next row comes before those after it
rest_of : (es : List SqlRow) (n : KeyScan) (key : ℤ) (r : SqlRow) → n.«open» ≡ true → key ≤ℤ n.high
    → unread n ≡ r ∷ drop (n.at + 1) n.page.items → key_in r ≡ key
    → to_come es n ≡ r ∷ to_come es (passed n key)
rest_of es n key r opened le next is = rw next (ap (λ (rs : List SqlRow). r ∷ rs) (go (int_lt key n.high) (lowest_passed n key opened le)))
  where
    go : (b : Bool) → lowest (passing n key b) ≡ key +ℤ pos 1
        → ((drop (n.at + 1) n.page.items) ++ (if n.full then range_of (places (layout_at n.table))
        (behind (key_in r +ℤ pos 1) (drop (n.at + 1) n.page.items)) n.high es else [])) ≡ to_come es (passing n key b)
    go true e = ap (λ (z : ℤ). drop (n.at + 1) n.page.items ++
        (if n.full then range_of (places (layout_at n.table)) (behind z (drop (n.at + 1) n.page.items)) n.high es else []))
        (ap (λ (z : ℤ). z +ℤ pos 1) is ∙ sym e)
    go false e = ap (λ (z : ℤ). drop (n.at + 1) n.page.items ++
        (if n.full then range_of (places (layout_at n.table)) (behind z (drop (n.at + 1) n.page.items)) n.high es else []))
        (ap (λ (z : ℤ). z +ℤ pos 1) is ∙ sym e)

-- no row comes after the last key
none_above : (shown : List ℕ) (high : ℤ) (es : List SqlRow) → range_of shown (high +ℤ pos 1) high es ≡ []
none_above shown high [] = refl
none_above shown high (e ∷ es) = rw (empty (key_of e)) (none_above shown high es)
  where
    empty : (k : ℤ) → between (high +ℤ pos 1) high k ≡ false
    empty k = grind (arith, ints)

drop_none : (xs : List SqlRow) (at : ℕ) → drop at xs ≡ [] → nat_lt at (length xs) ≡ false
drop_none [] at e = grind arith
drop_none (x ∷ xs) zero e = absurd cc
drop_none (x ∷ xs) (suc at) e = let h = drop_none xs at e in grind arith

-- where no page is wanted and its page has no more, a scan is at its end
at_end : (es : List SqlRow) (n : KeyScan) → is_spent n.room ≡ false → wanted_by n ≡ None → unread n ≡ [] → to_come es n ≡ []
at_end es n more read none = rw none (go n.full n.«open» (record { table = n.table; low = n.low; high = n.high })
    (rw (more, drop_none n.page.items n.at none) at read))
  where
    go : (f o : Bool) (p : PageWanted) → (if false || (not f || not o) then None else Some p) ≡ None
        → (if f then range_of (places (layout_at n.table)) (if o then n.low else n.high +ℤ pos 1) n.high es else []) ≡ []
    go true true p e = absurd cc
    go true false p e = none_above (places (layout_at n.table)) n.high es
    go false o p e = refl

pub passed_allows : (n s : KeyScan) (key : ℤ) → scan_is n ≡ scan_is s → is_allowed (scan_is s) ≡ true → (z : KeyScan)
    → Some (passed n key) ≡ Some z → is_allowed (scan_is z) ≡ true
passed_allows n s key e ok z q =
    subst (λ (y : KeyScan). is_allowed (scan_is y) ≡ true) (same_Some _ z q)
    (subst (λ (y : Scan). is_allowed y ≡ true) (sym (passed_shows n key)) (subst (λ (y : Scan). is_allowed y ≡ true) (sym e) ok))

-- what a scan gives, by how many rows may come, its table, what it was asked for and the rows that come
abbrev given_by : Option ℕ → ℕ → Spec → List SqlRow → List GivenRow
given_by room t spec rs = first_of room (map (given_of spec (layout_at t)) rs)

-- where no page is wanted, and no row may come or its page has no more, a scan gives no row
gives_no_more : (es : List SqlRow) (n : KeyScan) (t : ℕ) (spec : Spec) → wanted_by n ≡ None → IsNext n None
    → given_by n.room t spec (to_come es n) ≡ []
gives_no_more es n t spec read (inl spent) = first_spent n.room _ spent
gives_no_more es n t spec read (inr none) = go (is_spent n.room) refl
  where
    go : (b : Bool) → is_spent n.room ≡ b → given_by n.room t spec (to_come es n) ≡ []
    go true e = first_spent n.room _ e
    go false e = ap (given_by n.room t spec) (at_end es n e read none) ∙ first_none n.room

module _ (honest : Bool) (bound : List Bool) (staged : Option StagedWrite) (db : Database) (old : BTreeMap ℕ KeyScan) (next : ℕ)
    (number : ℕ) (s : KeyScan) (is : tree.get nat_cmp old number ≡ Some s) where
  abbrev box : Database → BTreeMap ℕ KeyScan → ℕ → ℕ → BoxState
  box d m pulled faults = sqlite_state honest d bound m staged next pulled faults

  at : (pulled faults : ℕ) → finmap.get (box db old pulled faults).ledger.live number ≡ Some (scan_is s)
  at pulled faults = mapped_get scan_is old number ∙ ap (option_map scan_is) is

  -- where the database is as it was, the other scans have the same rows to come
  others : (after : Database) (new : BTreeMap ℕ KeyScan) (pulled pulled' faults faults' : ℕ) (w : Option KeyScan) → after ≡ db
      → Sets old new number w
      → LeavesOthers number (box db old pulled faults) (box after new pulled' faults')
  others after new pulled pulled' faults faults' w same u = record {
    coming = λ q live other. ap (λ (d : Database). scan_rows d (tree.get nat_cmp new q)) same ∙ ap (scan_rows db) (u.1 q other);
    rows = λ t other. ap (λ (d : Database). (box d new pulled' faults').content.rows t) same;
    holdings = λ r other. ap (λ (d : Database). (box d new pulled' faults').content.holdings r) same;
  }

  pub breaks_by : (after : Database) (new : BTreeMap ℕ KeyScan) (pulled faults : ℕ) (fault : Fault) (n : KeyScan) → not_refused fault
      → scan_is n ≡ record (scan_is s) { broken = true }
      → (honest ≡ true → after ≡ db) → Sets old new number (Some n)
      → Breaks (box db old pulled faults) number fault (box after new pulled (faults_after fault faults))
  breaks_by after new pulled faults fault n no_cause shows same u = record {
    nature = refl;
    no_cause = no_cause;
    scan = scan_is s;
    at = at pulled faults;
    ledger =
        ap (λ (l : finmap.FinMap nat_cmp Scan). record (box db old pulled (faults_after fault faults)).ledger { live = l })
        (mapped_insert scan_is old new number n u ∙ ap (finmap.insert (mapped scan_is old.entries) number) shows);
    leaves = λ h. others after new pulled pulled faults (faults_after fault faults) (Some n) (same h) u;
  }

  module _ (after : Database) (m : BTreeMap ℕ KeyScan) (n : KeyScan) (same : honest ≡ true
      → after ≡ db) (u : Sets old m number (Some n)) (turns : Turns honest (entries_of db (layout_at s.table)) s n) where
    abbrev entries : List SqlRow
    entries = entries_of db (layout_at s.table)

    -- the page was turned, and a row could not be given
    pub breaks_late : (new : BTreeMap ℕ KeyScan) (pulled faults : ℕ) (fault : Fault) → not_refused fault
        → Sets m new number (Some (record n { broken = true }))
        → Breaks (box db old pulled faults) number fault (box after new pulled (faults_after fault faults))
    breaks_late new pulled faults fault no_cause v =
        breaks_by after new pulled faults fault (record n { broken = true }) no_cause
        (ap (λ (z : Scan). record z { broken = true }) turns.shows) same (sets_on old m new number _ _ u v)

    coming_was : (pulled faults : ℕ) → (box db old pulled faults).content.coming number
        ≡ given_by s.room s.table (asked_of s) (to_come entries s)
    coming_was pulled faults = ap (scan_rows db) is

    -- the rows that another scan in its place has to give
    coming_is : (new : BTreeMap ℕ KeyScan) (pulled faults : ℕ) (p : KeyScan) → honest ≡ true → tree.get nat_cmp new number ≡ Some p
        → p.table ≡ s.table → asked_of p ≡ asked_of s
        → (box after new pulled faults).content.coming number ≡ given_by p.room s.table (asked_of s) (to_come entries p)
    coming_is new pulled faults p h there et es =
        ap (λ (d : Database). scan_rows d (tree.get nat_cmp new number)) (same h) ∙ ap (scan_rows db) there
        ∙ ap (λ (z : ℕ). given_by p.room z (asked_of p) (to_come (entries_of db (layout_at z)) p)) et
        ∙ ap (λ (z : Spec). given_by p.room s.table z (to_come entries p)) es

    table_is : n.table ≡ s.table
    table_is = ap (λ (z : Scan). z.table) turns.shows

    spec_is : asked_of n ≡ asked_of s
    spec_is = ap (λ (z : Scan). z.spec) turns.shows

    turned : honest ≡ true → given_by s.room s.table (asked_of s) (to_come entries s)
        ≡ given_by n.room s.table (asked_of s) (to_come entries n)
    turned h = ap (λ (o : Option ℕ). given_by o s.table (asked_of s) (to_come entries s)) (sym turns.room)
        ∙ ap (given_by n.room s.table (asked_of s)) (sym (turns.rows h))

    pub gives_none : (pulled faults : ℕ) → IsNext n None → GivesNone (box db old pulled faults) number (box after m pulled faults)
    gives_none pulled faults none = record {
      nature = refl;
      ledger = ap (λ (l : finmap.FinMap nat_cmp Scan). record (box db old pulled faults).ledger { live = l })
          (mapped_same scan_is old m number s n u is turns.shows);
      coming = λ h. coming_was pulled faults ∙ turned h ∙ gives_no_more entries n s.table (asked_of s) turns.read none;
      still = λ h. coming_is m pulled faults n h u.0 table_is spec_is ∙ gives_no_more entries n s.table (asked_of s) turns.read none;
      leaves = λ h. others after m pulled pulled faults faults (Some n) (same h) u;
    }

    pub gives_row : (new : BTreeMap ℕ KeyScan) (pulled faults : ℕ) (g : GivenNext) → IsNext n (Some g)
        → Sets m new number (Some (passed n g.key))
        → GivesRow (box db old pulled faults) number (row_of g.row) (box after new (bumped pulled) faults)
    gives_row new pulled faults g given v =
        let p = passed n g.key in
        let whole = sets_on old m new number _ _ u v in
        let low = lowest_passed n g.key given.2 given.4 in
        let shows : scan_is p ≡ record (scan_is s) { left = from_to (lowest p) n.high } = passed_shows n g.key
        ∙ ap (λ (z : Scan). record z { left = from_to (lowest p) n.high }) turns.shows in
        record {
          nature = refl;
          scan = scan_is s;
          at = at pulled faults;
          left = from_to (lowest p) n.high;
          fewer =
              subst (λ (z : ℕ). from_to (lowest p) n.high < z)
              (ap (λ (z : ℤ). from_to z n.high) (sym (lowest_open n given.2)) ∙ ap (λ (z : Scan). z.left) turns.shows)
              (subst (λ (z : ℤ). from_to z n.high < from_to n.low n.high) (sym low) (fewer_keys n.low n.high g.key given.3 given.4));
          typed = subst (λ (z : Scan). shown_fits z.kinds z.spec (tuple g.row.cells) ≡ true) turns.shows given.6;
          ledger =
              ap (λ (l : finmap.FinMap nat_cmp Scan). record (box db old (bumped pulled) faults).ledger { live = l })
              (mapped_insert scan_is old new number p whole ∙ ap (finmap.insert (mapped scan_is old.entries) number) shows);
          coming = λ h. coming_was pulled faults ∙ turned h
              ∙ ap (given_by n.room s.table (asked_of s)) (rest_of entries n g.key given.5.0 given.2 given.4 given.5.1 given.5.2)
              ∙ first_more n.room (given_of (asked_of s) (layout_at s.table) given.5.0)
              (map (given_of (asked_of s) (layout_at s.table)) (to_come entries p)) given.0
              ∙ ap (λ (o : Option ℕ). given_of (asked_of s) (layout_at s.table) given.5.0 ∷ given_by o s.table (asked_of s)
              (to_come entries p)) (sym (passed_room n g.key))
              ∙ ap (λ (x : GivenRow). x ∷ given_by p.room s.table (asked_of s) (to_come entries p))
              (sym (given.5.3 ∙ ap (λ (z : Scan). given_of z.spec (layout_at z.table) given.5.0) turns.shows))
              ∙ ap (λ (rest : List GivenRow). row_of g.row ∷ rest)
              (sym (coming_is new (bumped pulled) faults p h whole.0 (ap (λ (z : Scan). z.table) shows)
              (ap (λ (z : Scan). z.spec) shows)));
          leaves = λ h. others after new pulled (bumped pulled) faults faults (Some p) (same h) whole;
        }
