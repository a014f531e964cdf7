-- A scan whose page is turned has the same rows to come.
use Rattle.std.proofs.Common.{
  ◌≡◌,
  ℕ,
  ℤ,
  pos,
  ◌+ℤ◌,
  ◌≤◌,
  Bool,
  true,
  false,
  not,
  ◌||◌,
  if◌then◌else◌,
  nat_eq,
  nat_lt,
  List,
  [],
  ◌∷◌,
  ◌++◌,
  Option,
  Some,
  None,
  IfSome,
  length,
  drop,
  zero,
  suc,
  refl,
  ap,
  sym,
  arith,
}
use Rattle.std.proofs.lemmas.Option.{same_Some}
use Rattle.sqlite.specs.Order.{Row as SqlRow}
use Rattle.sqlite.specs.Effect.{Database}
use Rattle.sqlite_wrapper.specs.declared.scans.KeyScan.{KeyScan}
use Rattle.sqlite_wrapper.specs.declared.scans.PageWanted.{PageWanted}
use Rattle.sqlite_tables.specs.Prelude.{Layout, layout_at, places, range_of, behind, entries_of, rest_of}
use Rattle.sqlite_wrapper.specs.Boxes.{to_come}
use Rattle.sqlite_wrapper.specs.Pages.{is_spent, wanted_by, Turns}

pub wants : (s : KeyScan) (p : PageWanted) → wanted_by s ≡ Some p
    → (p.table ≡ s.table) × (p.low ≡ s.low) × (p.high ≡ s.high) × (length s.page.items ≤ s.at) × (s.full ≡ true) × (s.«open» ≡ true)
wants s p e = go (is_spent s.room) (nat_lt s.at (length s.page.items)) s.full s.«open» refl refl refl e
  where
    go : (spent a f o : Bool) → nat_lt s.at (length s.page.items) ≡ a → s.full ≡ f → s.«open» ≡ o
        → (if spent || (a || (not f || not o)) then None else Some (record { table = s.table; low = s.low; high = s.high })) ≡ Some p
        → (p.table ≡ s.table) × (p.low ≡ s.low) × (p.high ≡ s.high) × (length s.page.items ≤ s.at) × (s.full ≡ true) × (s.«open» ≡ true)
    go true a f o ea ef eo e = absurd cc
    go false true f o ea ef eo e = absurd cc
    go false false false o ea ef eo e = absurd cc
    go false false true false ea ef eo e = absurd cc
    go false false true true ea ef eo e =
        let q = same_Some _ p e in (
          sym (ap (λ (z : PageWanted). z.table) q),
          sym (ap (λ (z : PageWanted). z.low) q),
          sym (ap (λ (z : PageWanted). z.high) q),
          grind
              arith,
          ef,
          eo,
        )

drop_past : (xs : List SqlRow) (n : ℕ) → length xs ≤ n → drop n xs ≡ []
drop_past [] n h = go n
  where
    go : (n : ℕ) → drop {A = SqlRow} n [] ≡ []
    go zero = refl
    go (suc n) = refl
drop_past (x ∷ xs) zero h = absurd (omega arith)
drop_past (x ∷ xs) (suc n) h = drop_past xs n (omega arith)

come : (l : Layout) (entries : List SqlRow) (low high : ℤ) (o f : Bool) (n : ℕ) (old page : List SqlRow) → o ≡ true → f ≡ true
    → length old ≤ n
    → range_of (places l) low high entries ≡ page ++ rest_of l low high entries page
    → (drop 0 page ++ (if nat_eq (length page) 64 then range_of (places l) (behind (if o then low else high +ℤ pos 1) (drop 0 page)) high
    entries else []))
    ≡ (drop n old ++ (if f then range_of (places l) (behind (if o then low else high +ℤ pos 1) (drop n old)) high entries else []))
come l entries low high o f n old page eo ef past joins = rw (eo, ef, drop_past old n past) (sym joins)

-- the scan with its page turned
pub record IsTurned (s n : KeyScan) (items : List SqlRow) : Type 0 where
  pub table : n.table ≡ s.table
  pub page : n.page.items ≡ items
  pub at_start : n.at ≡ 0
  pub full : n.full ≡ nat_eq (length items) 64
  pub low : n.low ≡ s.low
  pub high : n.high ≡ s.high
  pub open_is : n.«open» ≡ s.«open»

pub turned_rows : (db : Database) (l : Layout) (low high : ℤ) (s n : KeyScan) (items : List SqlRow) → IsTurned s n items
    → l ≡ layout_at s.table → low ≡ s.low → high ≡ s.high
    → length s.page.items ≤ s.at → s.full ≡ true → s.«open» ≡ true
    → range_of (places l) low high (entries_of db l) ≡ items ++ rest_of l low high (entries_of db l) items
    → to_come (entries_of db (layout_at s.table)) n ≡ to_come (entries_of db (layout_at s.table)) s
turned_rows db l low high s n items turned et el eh past full opened joins =
    let es = entries_of db (layout_at s.table) in
    let j : range_of (places (layout_at s.table)) s.low s.high es
    ≡ items ++ rest_of (layout_at s.table) s.low s.high es items = rw (et, el, eh) at joins in
    rw (turned.table, turned.page, turned.at_start, turned.full, turned.low, turned.high, turned.open_is)
    (come (layout_at s.table) es s.low s.high s.«open» s.full s.at s.page.items items opened full past j)

-- a page that was turned leaves none wanted: it has rows, or it was the last
pub turned_read : (n : KeyScan) (items : List SqlRow) → n.page.items ≡ items → n.at ≡ 0 → n.full ≡ nat_eq (length items) 64
    → wanted_by n ≡ None
turned_read n items page at full = rw (page, at, full) (go (is_spent n.room) (length items) n.«open»
    (record { table = n.table; low = n.low; high = n.high }))
  where
    go : (spent : Bool) (k : ℕ) (o : Bool) (p : PageWanted) →
        (if spent || (nat_lt 0 k || (not (nat_eq k 64) || not o)) then None else Some p) ≡ None
    go true k o p = refl
    go false zero o p = refl
    go false (suc k) o p = let more : nat_lt 0 (suc k) ≡ true = grind arith in rw more refl

-- a scan of which no page is wanted stays as it is
pub stays : (honest : Bool) (entries : List SqlRow) (s : KeyScan) → wanted_by s ≡ None → Turns honest entries s s
stays honest entries s e = record { shows = refl; room = refl; keys = (refl, refl, refl); lookup = refl; rows = λ h. refl; read = e }

pub some_if : {X : Type 0} (o : Option X) (P : X → Type 0) (x : X) → o ≡ Some x → P x → IfSome o P
some_if o P x e p = rw e p
