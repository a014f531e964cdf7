-- The rows that a scan does not take beside places found by halves.
use Rattle.std.proofs.Common.{◌≡◌, ℕ, ℤ, ◌+◌, ◌-◌, ◌<◌, ◌≤◌, Bool, true, false, cond, List, [], ◌∷◌, Option, Some, None, Vec, Global, is_some, map, filter, length, drop, slice_get, zero, suc, refl, ap, sym, ◌∙◌, subst, FitsSigned, w64, arith}
use Rattle.std.proofs.lemmas.List.{drop-drop}
use Rattle.std.proofs.lemmas.Option.{slice_get_within}
use Rattle.med_value.specs.Datum.{Datum, Whole, Tuple, cell, datum}
use Rattle.med_value.specs.declared.value.Value.{Value}
use Rattle.fdw_api.specs.Scan.{Spec, spec_of, TableRow, GivenRow, given_row, meets_exact}
use Rattle.wrapper_parts.specs.declared.sought.SoughtIndex.{SoughtIndex}
use Rattle.wrapper_parts.specs.declared.ranges.KeyRange.{KeyRange}
use Rattle.wrapper_parts.specs.Ranges.{has_key}
use Rattle.wrapper_parts.specs.Rising.{AreRising}
use Rattle.wrapper_parts.specs.Scans.{column_cells, Serves}
use Rattle.wrapper_parts.specs.Halves.{is_in, IsAround}
use Rattle.place_wrapper.specs.Forms.{Form, CellAt}
use Rattle.place_wrapper.specs.declared.scans.LiveScan.{LiveScan}
use Rattle.place_wrapper.specs.Boxes.{table_at, rows_held, rows_to_come, Spans, Restarted, newer}
use Rattle.place_wrapper.proofs.Rows.{here, cell_there, cells_length, stands_first}

-- rows that a test refuses, before a place and from a place on
skip_before : (test : TableRow → Bool) (rows : List TableRow) (first : ℕ)
    → ((k : ℕ) (r : TableRow) → k < first → slice_get rows k ≡ Some r → test r ≡ false) → filter test rows ≡ filter test (drop first rows)
skip_before test rows zero h = refl
skip_before test [] (suc n) h = refl
skip_before test (r ∷ rows) (suc n) h =
    ap (λ b. cond b (r ∷ filter test rows) (filter test rows)) (h zero r (omega arith) refl)
    ∙ skip_before test rows n (λ k q lt e. h (suc k) q (omega arith) e)

none_after : (test : TableRow → Bool) (rows : List TableRow) (end : ℕ)
    → ((k : ℕ) (r : TableRow) → end ≤ k → slice_get rows k ≡ Some r → test r ≡ false) → filter test (drop end rows) ≡ []
none_after test [] zero h = refl
none_after test [] (suc n) h = refl
none_after test (r ∷ rows) zero h =
    ap (λ b. cond b (r ∷ filter test rows) (filter test rows)) (h zero r (omega arith) refl)
    ∙ none_after test rows zero (λ k q le e. h (suc k) q (omega arith) e)
none_after test (r ∷ rows) (suc n) h = none_after test rows n (λ k q le e. h (suc k) q (omega arith) e)

tail_none : (b : Bool) (r : TableRow) (rows : List TableRow) → cond b (r ∷ rows) rows ≡ [] → rows ≡ []
tail_none true r rows e = absurd cc
tail_none false r rows e = e

none_later : (test : TableRow → Bool) (rows : List TableRow) (k : ℕ) → filter test rows ≡ [] → filter test (drop k rows) ≡ []
none_later test rows zero e = e
none_later test [] (suc k) e = refl
none_later test (r ∷ rows) (suc k) e = none_later test rows k (tail_none (test r) r (filter test rows) e)

none_given : (given : TableRow → GivenRow) (rows : List TableRow) → length (map given rows) ≡ 0 → rows ≡ []
none_given given [] e = refl
none_given given (r ∷ rows) e = absurd (omega arith)

starts : (cells : Tuple) (n : ℤ) → cell cells 0 ≡ Whole n → (rest : Tuple) × (cells ≡ Whole n ∷ rest)
starts [] n e = absurd cc
starts (d ∷ rest) n e = (rest, ap (λ (v : Datum). v ∷ rest) e)

-- a range has each key of which the Exact restrictions of a scan may be true
abbrev pub Admits : Spec → Tuple → KeyRange → Type 0
Admits spec params range = (k : ℤ) (rest : Tuple) → FitsSigned w64 k
    → meets_exact spec.offered spec.answers params (Whole k ∷ rest) ≡ true → has_key range k ≡ true

module _ {T : Type 0} (F : Form T) where
  -- the cell at a place
  pub cell_read : (t : T) (at : ℕ) (d : Datum) → at < length (F.rows t) → CellAt F t at 0 d → d ≡ cell (column_cells 0 (F.rows t)) at
  cell_read t at d lt is = let w = here (F.rows t) at lt in is w.0 w.1 ∙ sym (cell_there 0 at (F.rows t) w.0 w.1)

  untaken : (t : T) (spec : Spec) (params : Tuple) (range : KeyRange) (k : ℕ) (r : TableRow) → AreRising (column_cells 0 (F.rows t))
      → Admits spec params range → slice_get (F.rows t) k ≡ Some r → is_in range (cell (column_cells 0 (F.rows t)) k) ≡ false
      → F.takes t spec params r ≡ false
  untaken t spec params range k r rising admits there out = tell (F.takes t spec params r) refl
    where
      tell : (b : Bool) → F.takes t spec params r ≡ b → b ≡ false
      tell false e = refl
      tell true e =
          let lt = slice_get_within (F.rows t) k r there in
          let as_many = cells_length 0 (F.rows t) in
          let w = rising k k (omega arith) (omega arith) in
          let s = starts r.cells w.low (sym (cell_there 0 k (F.rows t) r there) ∙ w.first_is) in
          let has = admits w.low s.0 w.fits (subst (λ (cells : Tuple). meets_exact spec.offered spec.answers params cells ≡ true) s.1 (F.exact t spec params r e)) in
          let lacks : has_key range w.low ≡ false = sym (ap (is_in range) w.first_is) ∙ out in
          sym has ∙ lacks

  -- a scan has to go only over the places around which there is no key of its range
  pub spans_around : (t : T) (spec : Spec) (params : Tuple) (range : KeyRange) (first end : ℕ) → AreRising (column_cells 0 (F.rows t))
      → Admits spec params range → IsAround (column_cells 0 (F.rows t)) range first end → Spans F (Some t) spec params first end
  spans_around t spec params range first end rising admits a =
      let as_many = cells_length 0 (F.rows t) in
      record {
        same = ap (map (given_row spec))
            (skip_before (F.takes t spec params) (F.rows t) first (λ k r lt e. untaken t spec params range k r rising admits e (a.before k lt)));
        ends = (
          ap (λ (l : List TableRow). length (map (given_row spec) l))
              (none_after (F.takes t spec params) (F.rows t) end
              (λ k r le e. untaken t spec params range k r rising admits e
              (a.behind k le (let lt = slice_get_within (F.rows t) k r e in omega arith)))),
          let le = a.within in omega arith,
        );
      }

  -- or over all
  pub spans_all : (t : T) (spec : Spec) (params : Tuple) (end : ℕ) → end ≡ length (F.rows t) → Spans F (Some t) spec params 0 end
  spans_all t spec params end is = record {
    same = refl;
    ends = (
      ap (λ (l : List TableRow). length (map (given_row spec) l))
          (none_after (F.takes t spec params) (F.rows t) end (λ k r le e. absurd (let lt = slice_get_within (F.rows t) k r e in omega arith))),
      omega arith,
    );
  }

  pub spans_none : (spec : Spec) (params : Tuple) → Spans F None spec params 0 0
  spans_none spec params = record { same = refl; ends = (refl, omega arith) }

  -- behind its end a scan takes no row
  pub past_end : (t : T) (spec : Spec) (params : Tuple) (end at : ℕ) → end ≤ at → length (rows_to_come F (Some t) spec params end) ≡ 0
      → rows_to_come F (Some t) spec params at ≡ []
  past_end t spec params end at le e =
      let there : end + (at - end) ≡ at = omega arith in
      ap (map (given_row spec))
      (ap (λ (n : ℕ). filter (F.takes t spec params) (drop n (F.rows t))) (sym there)
      ∙ ap (filter (F.takes t spec params)) (sym (drop-drop (at - end) end (F.rows t)))
      ∙ none_later (F.takes t spec params) (drop end (F.rows t)) (at - end) (none_given (given_row spec) (filter (F.takes t spec params) (drop end (F.rows t))) e))

  -- a scan that has an index, if it needs one, is begun again at the first of its places
  pub restarted : (tables : List (Option T)) (params : Vec Value Global) (s m : LiveScan) (first end : ℕ) (index : Option SoughtIndex)
      → Serves (spec_of s.spec) (rows_held F (table_at tables s.table)) index → m ≡ record s { index = newer index s.index }
      → Spans F (table_at tables m.table) (spec_of m.spec) (map datum params.items) first end → (is_some m.index ≡ true → first ≡ 0)
      → Restarted F (table_at tables s.table) params s (record m { params = params; at = first; end = end })
  restarted tables params s m first end index serves e spans indexed = record {
    index = index;
    serves = serves;
    first = first;
    end = end;
    stands = stands_first (spec_of s.spec) (map datum params.items) (rows_held F (table_at tables s.table)) first (newer index s.index)
        (λ h. indexed (ap (λ (z : LiveScan). is_some z.index) e ∙ h));
    spans = subst (λ (z : LiveScan). Spans F (table_at tables z.table) (spec_of z.spec) (map datum params.items) first end) e spans;
    is = ap (λ (z : LiveScan). record z { params = params; at = first; end = end }) e;
  }
