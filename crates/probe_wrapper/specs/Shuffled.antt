-- What a shuffled wrapper shows: what its inner one shows, but that each scan gives the inner rows in another order.
use Rattle.std.specs.Prelude.{◌≡◌, ◌≢◌, ◌^◌, ◌%◌, ◌<◌, ℕ, Bool, true, false, not, ◌||◌, List, [], ◌∷◌, ◌++◌, map, length, take, drop, Option, Some, None, option_map, is_none}
use Rattle.std.specs.Ordering.{nat_cmp}
use Rattle.std.specs.FinMap as finmap
use Rattle.std.specs.BTreeMap as tree
use Rattle.std.specs.BTreeMap.{BTreeMap}
use Rattle.std.specs.List.{list_all}
use Rattle.med_value.specs.declared.value.ColType.{ColType}
use Rattle.fdw_api.specs.Prelude.{Spec, GivenRow, shown_fits, Scan, Ledger, Content, BoxState, is_honest, scan_of, bumped, LeavesOthers, faults_after, not_refused, row_of, is_unpromised}
use Rattle.fdw_api.specs.declared.interface.Fault.{Fault}
use Rattle.fdw_api.specs.declared.interface.SourceRow.{SourceRow}
use Rattle.probe_wrapper.specs.LiveScans.{round, each_seen}
pub use Rattle.probe_wrapper.specs.Entries.{Stays}
use Rattle.probe_wrapper.specs.declared.shuffled.Shuffled.{Shuffled}
use Rattle.probe_wrapper.specs.declared.shuffled.TurnedScan.{TurnedScan}

-- a list turned left some places: so many of its first elements go behind the others. As many places as it is long turn it once round
abbrev pub turned : {X : Type 0} → ℕ → List X → List X
turned places xs = drop (places % length xs) xs ++ take (places % length xs) xs

-- a scan: by how many places its rows are turned, its rows to come once they were read, and whether it is good for `end` alone
pub record Turn : Type 0 where
  pub places : ℕ
  pub waiting : Option (List GivenRow)
  pub broken : Bool

abbrev pub turn_of : TurnedScan → Turn
turn_of t = record { places = t.places; waiting = option_map (λ rows. map row_of rows.items) t.rows; broken = t.broken }

-- the scans by ticket number
abbrev pub turns_of : BTreeMap ℕ TurnedScan → ℕ → Option Turn
turns_of scans q = option_map turn_of (tree.get nat_cmp scans q)

-- what a scan has still to give, where its inner scan has these rows to give
abbrev pub turned_rows : ℕ → Option (List GivenRow) → List GivenRow → List GivenRow
turned_rows places None inner = turned places inner
turned_rows places (Some rows) inner = rows

abbrev pub turned_coming : Option Turn → List GivenRow → List GivenRow
turned_coming None inner = []
turned_coming (Some t) inner = turned_rows t.places t.waiting inner

-- how many rows a scan may still give at most
abbrev pub left_of : Option (List GivenRow) → ℕ
left_of None = 2 ^ 64
left_of (Some rows) = length rows

-- the rows that wait are of the types of the columns that their scan shows
abbrev pub waiting_fits : List ColType → Spec → Option (List GivenRow) → Bool
waiting_fits kinds spec None = true
waiting_fits kinds spec (Some rows) = list_all (λ r. shown_fits kinds spec r.cells) rows

-- a scan that is good for `end` alone, since it broke, or since an order or a limit of its rows is promised: turned rows keep none
abbrev pub is_spoilt : Scan → Bool
is_spoilt s = s.broken || not (is_unpromised s.spec)

-- an inner scan as it is seen. One that was not begun through this wrapper is good for `end` alone
abbrev pub seen_scan : Option Turn → Scan → Scan
seen_scan None s = record s { broken = true }
seen_scan (Some t) s = record s { left = left_of t.waiting; broken = t.broken || (is_spoilt s || not (waiting_fits s.kinds s.spec t.waiting)) }

abbrev pub seen : (ℕ → Option Turn) → finmap.FinMap nat_cmp Scan → finmap.FinMap nat_cmp Scan
seen turns m = each_seen (λ q. seen_scan (turns q)) m

abbrev pub reordered_ledger : (ℕ → Option Turn) → ℕ → Ledger → Ledger
reordered_ledger turns pulled l = record l { live = seen turns l.live; pulled = pulled }

abbrev pub reordered_content : (ℕ → Option Turn) → Content → Content
reordered_content turns c = record c { coming = λ q. turned_coming (turns q) (c.coming q) }

abbrev pub reordered : BoxState → (ℕ → Option Turn) → ℕ → BoxState
reordered s turns pulled = record {
  nature = round s.nature;
  ledger = reordered_ledger turns pulled s.ledger;
  content = reordered_content turns s.content;
}

-- the scan of one number becomes this, and all others are as before
pub record Becomes (old : ℕ → Option Turn) (number : ℕ) (turn : Turn) (new : ℕ → Option Turn) : Type 0 where
  pub now : new number ≡ Some turn
  pub others : (q : ℕ) → q ≢ number → new q ≡ old q

-- a scan whose rows were not read yet; one whose rows were read
abbrev pub is_unread : Option Turn → Bool
is_unread None = false
is_unread (Some t) = is_none t.waiting

abbrev pub IsRead : Option Turn → Type 0
IsRead o = (t : Turn) × (rows : List GivenRow) × (o ≡ Some t) × (t.waiting ≡ Some rows)

-- of these rows the first is taken, and the rest wait; where there is none, no scan changes
abbrev pub Hands : (ℕ → Option Turn) → ℕ → Turn → List GivenRow → Option SourceRow → (ℕ → Option Turn) → Type 0
Hands old number turn rows None new = (rows ≡ []) × Stays old new
Hands old number turn rows (Some row) new =
    (rest : List GivenRow) × (rows ≡ row_of row ∷ rest) × Becomes old number (record turn { waiting = Some rest }) new

-- the first of the rows that wait is taken
pub record TakesFirst (old : ℕ → Option Turn) (number : ℕ) (row : Option SourceRow) (new : ℕ → Option Turn) : Type 0 where
  pub turn : Turn
  pub at : old number ≡ Some turn
  pub rows : List GivenRow
  pub wait : turn.waiting ≡ Some rows
  pub hands : Hands old number turn rows row new

-- rows of the inner scan are turned, and the first is taken
pub record TurnsRows
    (old : ℕ → Option Turn) (number : ℕ) (inner : List GivenRow) (row : Option SourceRow) (new : ℕ → Option Turn) : Type 0 where
  pub turn : Turn
  pub at : old number ≡ Some turn
  pub small : length inner < 2 ^ 64
  pub hands : Hands old number turn (turned turn.places inner) row new

-- an inner scan was read to its end and gave these rows, which are of the types of the columns that it shows: nothing else changes but its
-- `left`, and `pulled`
pub record ReadsOut (old : BoxState) (number : ℕ) (rows : List GivenRow) (new : BoxState) : Type 0 where
  pub nature : new.nature ≡ old.nature
  pub scan : Scan
  pub at : scan_of old number ≡ Some scan
  pub left : ℕ
  pub pulled : ℕ
  pub ledger : new.ledger ≡ record old.ledger { live = finmap.insert old.ledger.live number (record scan { left = left }); pulled = pulled }
  pub typed : list_all (λ r. shown_fits scan.kinds scan.spec r.cells) rows ≡ true
  pub coming : is_honest old → old.content.coming number ≡ rows
  pub done : is_honest old → new.content.coming number ≡ []
  pub leaves : is_honest old → LeavesOthers number old new

-- a fault came before an inner scan was read to its end
pub record StopsOut (old : BoxState) (number : ℕ) (fault : Fault) (new : BoxState) : Type 0 where
  pub nature : new.nature ≡ old.nature
  pub no_cause : not_refused fault
  pub scan : Scan
  pub at : scan_of old number ≡ Some scan
  pub left : ℕ
  pub pulled : ℕ
  pub broken : Bool
  pub ledger : new.ledger ≡ record old.ledger {
    live = finmap.insert old.ledger.live number (record scan { left = left; broken = broken });
    pulled = pulled;
    faults = faults_after fault old.ledger.faults;
  }
  pub leaves : is_honest old → LeavesOthers number old new

-- a scan was begun, or begun again: it is the one of the next number of places, and gives the rows of the inner scan turned left so far
pub record IsTurned (before number : ℕ) (inner new : BoxState) (turns : ℕ) : Type 0 where
  pub counted : turns ≡ bumped before
  pub coming : new.content.coming number ≡ turned turns (inner.content.coming number)

-- what a shuffled wrapper shows as a wrapper
abbrev pub box_of : {W : Type 0} → (W → BoxState) → Shuffled W → BoxState
box_of meaning b = reordered (meaning b.inner) (turns_of b.scans) b.pulled
