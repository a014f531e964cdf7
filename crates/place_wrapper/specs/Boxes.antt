-- Tables by place, and what live scans have still to give.
use Rattle.std.specs.Prelude.{◌≡◌, ◌<◌, ◌≤◌, ◌+◌, ◌-◌, ◌^◌, ◌&&◌, is_some, IsSome, ℕ, Bool, true, List, [], ◌∷◌, length, map, filter, drop, Option, Some, None, slice_get, Result, Ok, Err, Vec}
use Rattle.std.specs.Global.{Global}
use Rattle.std.specs.List.{list_all}
use Rattle.std.specs.Option.{option_flatten}
use Rattle.med_value.specs.Datum.{Tuple, datum}
use Rattle.med_value.specs.declared.value.ColType.{ColType}
use Rattle.med_value.specs.declared.value.Value.{Value}
use Rattle.fdw_api.specs.Prelude.{Spec, spec_of, TableRow, GivenRow, given_row, Scan, Staging, row_of, bumped, row_of_change_fits}
use Rattle.fdw_api.specs.declared.interface.SourceRow.{SourceRow}
use Rattle.wrapper_parts.specs.declared.sought.SoughtIndex.{SoughtIndex}
use Rattle.wrapper_parts.specs.Scans.{Serves, Stands}
use Rattle.place_wrapper.specs.declared.scans.LiveScan.{LiveScan}
use Rattle.place_wrapper.specs.Forms.{Form}
use Rattle.place_wrapper.specs.Mapped.{live_at}

-- the table of a number, None where none is bound
abbrev pub table_at : {T : Type 0} → List (Option T) → ℕ → Option T
table_at tables t = option_flatten (slice_get tables t)

abbrev pub kinds_held : {T : Type 0} → Form T → Option T → List ColType
kinds_held F None = []
kinds_held F (Some t) = (F.bound t).kinds

-- the rows of a table, none where none is bound
abbrev pub rows_held : {T : Type 0} → Form T → Option T → List TableRow
rows_held F None = []
rows_held F (Some t) = F.rows t

-- what a scan that stands at a place has still to give: of the table's rows from there on, in their order, those that it takes, each as it
-- shows them
abbrev pub rows_to_come : {T : Type 0} → Form T → Option T → Spec → Tuple → ℕ → List GivenRow
rows_to_come F None spec params at = []
rows_to_come F (Some t) spec params at = map (given_row spec) (filter (F.takes t spec params) (drop at (F.rows t)))

-- the next row of a scan that stands at a place: the first of the rows to come, and the scan goes on after it; None where none is left
abbrev pub NextIs : {T : Type 0} → Form T → Option T → Spec → Tuple → ℕ → Option SourceRow → Type 0
NextIs F o spec params at None = rows_to_come F o spec params at ≡ []
NextIs F o spec params at (Some row) =
    (at ≤ row.id.number) × (row.id.number < 2 ^ 64 - 1)
    × (rows_to_come F o spec params at ≡ row_of row ∷ rows_to_come F o spec params (row.id.number + 1))

-- a scan goes from a place to another: it takes no row between them, and can go on behind the other
pub record Moves {T : Type 0} (F : Form T) (t : T) (spec : Spec) (params : Tuple) (index : Option SoughtIndex) (at to : ℕ) : Type 0 where
  pub past : at ≤ to
  pub same : filter (F.takes t spec params) (drop at (F.rows t)) ≡ filter (F.takes t spec params) (drop to (F.rows t))
  pub on : to < length (F.rows t) → Stands spec params (F.rows t) (to + 1) index

-- the index of a scan that is begun again
abbrev pub newer : Option SoughtIndex → Option SoughtIndex → Option SoughtIndex
newer (Some x) old = Some x
newer None old = old

-- from a place on a scan takes no row, and it is not past the rows
abbrev pub EndsAt : {T : Type 0} → Form T → Option T → Spec → Tuple → ℕ → Type 0
EndsAt F o spec params end = (length (rows_to_come F o spec params end) ≡ 0) × (end ≤ length (rows_held F o))

-- a scan has to go only over the places from a first to an end: it takes no row before the first, and none from the end on
pub record Spans {T : Type 0} (F : Form T) (o : Option T) (spec : Spec) (params : Tuple) (first end : ℕ) : Type 0 where
  pub same : rows_to_come F o spec params 0 ≡ rows_to_come F o spec params first
  pub ends : EndsAt F o spec params end

-- the next row of a scan is given, or none, and the scan stands behind it; where memory is wanting the scan is good for its end alone
abbrev pub Pulls : {T E : Type 0} → Form T → Option T → LiveScan → Result (Option SourceRow) E → LiveScan → Type 0
Pulls F o s (Ok (Some row)) t =
    NextIs F o (spec_of s.spec) (map datum s.params.items) s.at (Some row)
    × Stands (spec_of s.spec) (map datum s.params.items) (rows_held F o) (row.id.number + 1) s.index
    × (t ≡ record s { at = row.id.number + 1 })
Pulls F o s (Ok None) t = NextIs F o (spec_of s.spec) (map datum s.params.items) s.at None × (t ≡ s)
Pulls F o s (Err e) t = t ≡ record s { broken = true }

-- how many rows were given, with this answer
abbrev pub pulled_after : {E : Type 0} → Result (Option SourceRow) E → ℕ → ℕ
pulled_after (Ok (Some row)) pulled = bumped pulled
pulled_after (Ok None) pulled = pulled
pulled_after (Err e) pulled = pulled

-- a scan is begun again by these parameters: with an index of its own table, if one is made, and at the first of the places over which it
-- has to go, from which its index goes on
pub record Restarted {T : Type 0} (F : Form T) (o : Option T) (params : Vec Value Global) (s t : LiveScan) : Type 0 where
  pub index : Option SoughtIndex
  pub serves : Serves (spec_of s.spec) (rows_held F o) index
  pub first : ℕ
  pub end : ℕ
  pub stands : Stands (spec_of s.spec) (map datum params.items) (rows_held F o) first (newer index s.index)
  pub spans : Spans F o (spec_of s.spec) (map datum params.items) first end
  pub is : t ≡ record s { params = params; at = first; end = end; index = newer index s.index }

-- a scan is begun again; where memory is wanting it is good for its end alone
abbrev pub Restarts : {T E : Type 0} → Form T → Option T → Vec Value Global → LiveScan → Result Unit E → LiveScan → Type 0
Restarts F o params s (Ok u) t = Restarted F o params s t
Restarts F o params s (Err e) t = t ≡ record s { broken = true }

-- a live scan is of a bound table, its index is of that table's rows, it stands where its index goes on, and from its end on it takes no row
abbrev pub ScanFits : {T : Type 0} → Form T → Option T → LiveScan → Type 0
ScanFits F o s =
    IsSome o × Serves (spec_of s.spec) (rows_held F o) s.index
    × Stands (spec_of s.spec) (map datum s.params.items) (rows_held F o) s.at s.index
    × EndsAt F o (spec_of s.spec) (map datum s.params.items) s.end

abbrev pub ScansFit : {T : Type 0} → Form T → List (Option T) → List (ℕ × LiveScan) → Type 0
ScansFit F tables scans = (q : ℕ) (s : LiveScan) → live_at scans q ≡ Some s → ScanFits F (table_at tables s.table) s

-- a write under way is to a bound table, and its new rows are of the table's types
abbrev pub write_fits : {T : Type 0} → Form T → List (Option T) → Option Staging → Bool
write_fits F tables None = true
write_fits F tables (Some s) =
    is_some (table_at tables s.table) && list_all (row_of_change_fits (kinds_held F (table_at tables s.table))) s.changes

-- a scan, without its rows to come
abbrev pub scan_is : {T : Type 0} → Form T → List (Option T) → LiveScan → Scan
scan_is F tables s = record {
  table = s.table;
  kinds = kinds_held F (table_at tables s.table);
  spec = spec_of s.spec;
  params = map datum s.params.items;
  left = 2 ^ 64 - s.at;
  broken = s.broken;
}

-- the rows that a scan has still to give
abbrev pub scan_rows : {T : Type 0} → Form T → List (Option T) → Option LiveScan → List GivenRow
scan_rows F tables None = []
scan_rows F tables (Some s) = rows_to_come F (table_at tables s.table) (spec_of s.spec) (map datum s.params.items) s.at
