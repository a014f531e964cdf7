-- What the calls of a scan do to a wrapper over tables by place.
use Rattle.std.proofs.Common.{◌≡◌, ◌≢◌, ℕ, ◌+◌, ◌-◌, ◌^◌, ◌<◌, ◌≤◌, ◌⊎◌, Bool, true, false, cond, not, List, [], ◌∷◌, Option, Some, None, Result, Ok, Err, Vec, Global, IsSome, IfOk, IfErr, map, drop, filter, option_map, zero, suc, refl, ap, sym, ◌∙◌, subst, arith, eqb, inl, inr}
use Rattle.std.specs.Ordering.{nat_cmp}
use Rattle.std.specs.List.{list_all}
use Rattle.std.specs.BTreeMap.{is_at}
use Rattle.std.specs.Map.{lookup}
use Rattle.std.specs.FinMap as finmap
use Rattle.std.proofs.lemmas.Bool.Decides.{eqb_tells}
use Rattle.std.proofs.lemmas.List.Sorted.{IsPermutation-filter_both}
use Rattle.std.proofs.lemmas.List.Elements.{All-filter, filter_passes, All-weaker}
use Rattle.std.proofs.lemmas.Bool.{and_parts, not-true}
use Rattle.std.proofs.lemmas.Option.{same_Some}
use Rattle.med_value.specs.Datum.{Tuple, datum}
use Rattle.med_value.specs.declared.value.ColType.{ColType}
use Rattle.med_value.specs.declared.value.Value.{Value}
use Rattle.fdw_api.specs.Prelude.{Spec, spec_of, GivenRow, TableRow, IsComing, meets_all, meets_exact, given_row, shown_cells, shown_fits, row_fits, BoxTable, Scan, scan_of, LeavesOthers, new_scan, Begins, GivesRow, GivesNone, Iterates, Breaks, Rescans, Ends, RefusesBegin, row_of, bumped}
use Rattle.fdw_api.proofs.Unpromised.{any_order, all_first}
use Rattle.fdw_api.specs.declared.interface.Fault.{Fault}
use Rattle.fdw_api.specs.declared.interface.Fault.TheVariants.{NoMemory}
use Rattle.fdw_api.specs.declared.interface.SourceRow.{SourceRow}
use Rattle.blob_store.specs.Shelves.{Shelf}
use Rattle.wrapper_parts.specs.declared.changes.StagedWrite.{StagedWrite}
use Rattle.place_wrapper.specs.Mapped.{mapped, live_at, Updates}
use Rattle.place_wrapper.proofs.Maps.{mapped_get, mapped_insert, mapped_put_back, mapped_remove, apart}
use Rattle.wrapper_parts.specs.declared.sought.SoughtIndex.{SoughtIndex}
use Rattle.wrapper_parts.specs.Scans.{Serves}
use Rattle.place_wrapper.specs.declared.scans.LiveScan.{LiveScan}
use Rattle.place_wrapper.specs.Forms.{Form}
use Rattle.place_wrapper.specs.Boxes.{rows_to_come, NextIs, table_at, kinds_held, rows_held, scan_is, scan_rows, Spans, ScanFits, ScansFit, Pulls, pulled_after, Restarted, Restarts, newer}
use Rattle.place_wrapper.specs.States.{place_state}
use Rattle.place_wrapper.proofs.Options.{none_is, mapped_there}

abbrev pub ShowsTyped : Type 0
ShowsTyped = (kinds : List ColType) (spec : Spec) (cells : Tuple) → row_fits kinds cells ≡ true → shown_fits kinds spec (shown_cells spec cells) ≡ true

shown_typed : (kinds : List ColType) (spec : Spec) (test : TableRow → Bool) (rows : List TableRow) → ShowsTyped → list_all (λ r. row_fits kinds r.cells) rows ≡ true → list_all (λ r. shown_fits kinds spec r.cells) (map (given_row spec) (filter test rows)) ≡ true
shown_typed kinds spec test [] shows e = refl
shown_typed kinds spec test (r ∷ rows) shows e =
    let w = and_parts (row_fits kinds r.cells) _ e in
    at (test r) (shows kinds spec r.cells w.0) (shown_typed kinds spec test rows shows w.1)
  where
    at : (b : Bool) → shown_fits kinds spec (shown_cells spec r.cells) ≡ true → list_all (λ r. shown_fits kinds spec r.cells) (map (given_row spec) (filter test rows)) ≡ true
        → list_all (λ r. shown_fits kinds spec r.cells) (map (given_row spec) (cond b (r ∷ filter test rows) (filter test rows))) ≡ true
    at true f g = rw (f, g) refl
    at false f g = g

rest_fit : (kinds : List ColType) (at : ℕ) (rows : List TableRow) → list_all (λ (r : TableRow). row_fits kinds r.cells) rows ≡ true → list_all (λ (r : TableRow). row_fits kinds r.cells) (drop at rows) ≡ true
rest_fit kinds zero rows e = e
rest_fit kinds (suc at) [] e = refl
rest_fit kinds (suc at) (r ∷ rows) e = rest_fit kinds at rows (and_parts (row_fits kinds r.cells) _ e).1

-- no ticket from this number on is live
abbrev pub Fresh : List (ℕ × LiveScan) → ℕ → Type 0
Fresh m next = (k : ℕ) → next ≤ k → live_at m k ≡ None

-- a change of a live scan makes no new number
pub keeps_fresh : (m n : List (ℕ × LiveScan)) (number next : ℕ) (w : Option LiveScan) → Fresh m next → IsSome (live_at m number) → Updates m n number w → Fresh n next
keeps_fresh m n number next w fresh is u k le = split (eqb_tells k number)
  where
    split : ((eqb k number ≡ true) × (k ≡ number)) ⊎ ((eqb k number ≡ false) × (k ≢ number)) → live_at n k ≡ None
    split (inl s) = absurd (none_is _ (fresh k le) (subst (λ (q : ℕ). IsSome (live_at m q)) (sym s.1) is))
    split (inr s) = u.others k (apart number k s.1) ∙ fresh k le

pub drops_fresh : (m n : List (ℕ × LiveScan)) (number next : ℕ) → Fresh m next → Updates m n number None → Fresh n next
drops_fresh m n number next fresh u k le = split (eqb_tells k number)
  where
    split : ((eqb k number ≡ true) × (k ≡ number)) ⊎ ((eqb k number ≡ false) × (k ≢ number)) → live_at n k ≡ None
    split (inl w) = rw w.1 u.there
    split (inr w) = u.others k (apart number k w.1) ∙ fresh k le

pub begins_fresh : (m n : List (ℕ × LiveScan)) (next : ℕ) (t : LiveScan) → Fresh m next → Updates m n next (Some t) → Fresh n (next + 1)
begins_fresh m n next t fresh u k le = u.others k (apart next k (λ e. absurd (omega arith))) ∙ fresh k (omega arith)

module _ {T : Type 0} (F : Form T) where
  -- what a scan that begins has still to give it may give, where no order and no limit is promised
  taken_comes : (o : Option T) (spec : Spec) (params : Tuple) → spec.order ≡ [] → spec.limit ≡ None
      → IsComing (rows_held F o) spec params (rows_to_come F o spec params 0)
  taken_comes None spec params keyless unlimited = record {
    taken = [];
    left_out = [];
    parts = IsPermutation-filter_both (λ (r : TableRow). true) (λ r. false) (λ r. refl) [];
    failing = All-weaker _ _ (λ r e. not-true _ e) [] (filter_passes (λ (r : TableRow). not (meets_all spec.offered params r.cells)) []);
    exact = filter_passes (λ (r : TableRow). meets_exact spec.offered spec.answers params r.cells) [];
    sorted = any_order spec.order keyless [];
    is = ap (map (given_row spec)) (sym (all_first spec.limit unlimited []));
  }
  taken_comes (Some t) spec params keyless unlimited = record {
    taken = filter (F.takes t spec params) (F.rows t);
    left_out = filter (λ r. not (F.takes t spec params r)) (F.rows t);
    parts = IsPermutation-filter_both (F.takes t spec params) (λ r. not (F.takes t spec params r)) (λ r. refl) (F.rows t);
    failing = λ k d within. All-filter (λ r. not (F.takes t spec params r)) (λ r. F.takes t spec params r ≡ false → meets_all spec.offered params r.cells ≡ false)
        (F.rows t) (F.sound t spec params) k d within (not-true _ (filter_passes (λ r. not (F.takes t spec params r)) (F.rows t) k d within));
    exact = All-weaker _ _ (λ r e. F.exact t spec params r e) _ (filter_passes (F.takes t spec params) (F.rows t));
    sorted = any_order spec.order keyless (filter (F.takes t spec params) (F.rows t));
    is = ap (map (given_row spec)) (sym (all_first spec.limit unlimited (filter (F.takes t spec params) (F.rows t))));
  }

  pub open_there : (shelf : Shelf) (tables : List (Option T)) (m : List (ℕ × LiveScan)) (staged : Option StagedWrite) (next pulled : ℕ) (n : ℕ) (scan : Scan) → scan_of (place_state F shelf tables m staged next pulled) n ≡ Some scan → IsSome (live_at m n)
  open_there shelf tables m staged next pulled n scan e = mapped_there (scan_is F tables) _ _ (sym (mapped_get (scan_is F tables) m n) ∙ e)

  -- a change of a scan leaves all scans fitting
  pub keeps_fitting : (tables : List (Option T)) (m n : List (ℕ × LiveScan)) (number : ℕ) (w : LiveScan) → ScansFit F tables m → ScanFits F (table_at tables w.table) w → Updates m n number (Some w) → ScansFit F tables n
  keeps_fitting tables m n number w old is u q s e = split (eqb_tells q number)
    where
      split : ((eqb q number ≡ true) × (q ≡ number)) ⊎ ((eqb q number ≡ false) × (q ≢ number)) → ScanFits F (table_at tables s.table) s
      split (inl p) = subst (λ (z : LiveScan). ScanFits F (table_at tables z.table) z) (same_Some w s (sym u.there ∙ ap (live_at n) (sym p.1) ∙ e)) is
      split (inr p) = old q s (sym (u.others q (apart number q p.1)) ∙ e)

  pub ends_fitting : (tables : List (Option T)) (m n : List (ℕ × LiveScan)) (number : ℕ) → ScansFit F tables m → Updates m n number None → ScansFit F tables n
  ends_fitting tables m n number old u q s e = split (eqb_tells q number)
    where
      neither : (o : Option LiveScan) → o ≡ None → o ≡ Some s → ⊥
      neither None a b = cc
      neither (Some x) a b = cc

      split : ((eqb q number ≡ true) × (q ≡ number)) ⊎ ((eqb q number ≡ false) × (q ≢ number)) → ScanFits F (table_at tables s.table) s
      split (inl p) = absurd (neither (live_at n number) u.there (ap (live_at n) (sym p.1) ∙ e))
      split (inr p) = old q s (sym (u.others q (apart number q p.1)) ∙ e)

  -- a scan that is begun again stands at the first of its places, with its own index or a new one
  starts_fitting : (tables : List (Option T)) (s t : LiveScan) (params : Vec Value Global) → ScanFits F (table_at tables s.table) s
      → Restarted F (table_at tables s.table) params s t → ScanFits F (table_at tables t.table) t
  starts_fitting tables s t params old r =
      subst (λ (z : LiveScan). ScanFits F (table_at tables z.table) z) (sym r.is) (old.0, serves r.index r.serves, r.stands, r.spans.ends)
    where
      serves : (i : Option SoughtIndex) → Serves (spec_of s.spec) (rows_held F (table_at tables s.table)) i → Serves (spec_of s.spec) (rows_held F (table_at tables s.table)) (newer i s.index)
      serves None new = old.1
      serves (Some x) new = new

  -- only this ticket changes
  others : (shelf : Shelf) (tables : List (Option T)) (m n : List (ℕ × LiveScan)) (staged : Option StagedWrite) (number next pulled next_after pulled_after : ℕ) (w : Option LiveScan) → Updates m n number w → LeavesOthers number (place_state F shelf tables m staged next pulled) (place_state F shelf tables n staged next_after pulled_after)
  others shelf tables m n staged number next pulled next_after pulled_after w u = record {
    coming = λ q live other. ap (scan_rows F tables) (u.others q (apart number q other));
    rows = λ t other. refl;
    holdings = λ r other. refl;
  }

  pub kinds_bound : (o : Option T) (b : BoxTable) → option_map F.bound o ≡ Some b → kinds_held F o ≡ b.kinds
  kinds_bound None b e = absurd cc
  kinds_bound (Some x) b e = ap (λ (z : BoxTable). z.kinds) (same_Some (F.bound x) b e)

  pub place_begins : (shelf : Shelf) (tables : List (Option T)) (m n : List (ℕ × LiveScan)) (staged : Option StagedWrite) (t next pulled : ℕ) (spec : Spec) (params : Tuple) (s : LiveScan) (b : BoxTable) → option_map F.bound (table_at tables t) ≡ Some b → live_at m next ≡ None → next < 2 ^ 64 - 1 → Updates m n next (Some s) → s.table ≡ t → spec_of s.spec ≡ spec → map datum s.params.items ≡ params
      → Spans F (table_at tables s.table) (spec_of s.spec) (map datum s.params.items) s.at s.end → s.broken ≡ false
      → Begins (place_state F shelf tables m staged next pulled) t spec params next (place_state F shelf tables n staged (next + 1) pulled)
  place_begins shelf tables m n staged t next pulled spec params s b is_bound fresh room u et es ep spans eb =
      let coming : scan_rows F tables (live_at n next) ≡ rows_to_come F (table_at tables t) spec params 0 = ap (scan_rows F tables) u.there ∙ sym spans.same ∙ rw (es, ep, et) refl in
      record {
        nature = refl;
        is_next = refl;
        room = room;
        fresh = mapped_get (scan_is F tables) m next ∙ ap (option_map (scan_is F tables)) fresh;
        bound = b;
        is = is_bound;
        left = 2 ^ 64 - s.at;
        few = omega arith;
        ledger =
            ap (λ (l : finmap.FinMap nat_cmp Scan). record (place_state F shelf tables n staged (next + 1) pulled).ledger { live = l })
            (mapped_insert (scan_is F tables) m n next s u ∙ ap (finmap.insert (mapped (scan_is F tables) m) next) (scan_same s t spec params et es ep eb)
            ∙ ap (λ (k : List ColType). finmap.insert (mapped (scan_is F tables) m) next (new_scan t k spec params (2 ^ 64 - s.at))) (kinds_bound (table_at tables t) b is_bound));
        coming = λ honest. subst (λ (l : List GivenRow). IsComing (rows_held F (table_at tables t)) spec params l) (sym coming) (taken_comes (table_at tables t) spec params (sym (ap (λ (z : Spec). z.order) es)) (sym (ap (λ (z : Spec). z.limit) es)));
        leaves = λ honest. others shelf tables m n staged next next pulled (next + 1) pulled (Some s) u;
      }
    where
      scan_same : (s : LiveScan) (t : ℕ) (spec : Spec) (params : Tuple) → s.table ≡ t → spec_of s.spec ≡ spec → map datum s.params.items ≡ params → s.broken ≡ false → scan_is F tables s ≡ new_scan t (kinds_held F (table_at tables t)) spec params (2 ^ 64 - s.at)
      scan_same s t spec params et es ep eb = rw (es, ep, et, eb) refl

  row_typed : (o : Option T) (spec : Spec) (params : Tuple) (at : ℕ) (row : GivenRow) (rest : List GivenRow) → ShowsTyped → rows_to_come F o spec params at ≡ row ∷ rest → shown_fits (kinds_held F o) spec row.cells ≡ true
  row_typed None spec params at row rest shows e = absurd cc
  row_typed (Some t) spec params at row rest shows e =
      (and_parts (shown_fits (F.bound t).kinds spec row.cells) _ (subst (λ (l : List GivenRow). list_all (λ r. shown_fits (F.bound t).kinds spec r.cells) l ≡ true) e
      (shown_typed (F.bound t).kinds spec (F.takes t spec params) (drop at (F.rows t)) shows (rest_fit (F.bound t).kinds at (F.rows t) (F.typed t))))).0

  pub place_gives : (shelf : Shelf) (tables : List (Option T)) (m n : List (ℕ × LiveScan)) (staged : Option StagedWrite) (next pulled number : ℕ) (s : LiveScan) (row : SourceRow) → ShowsTyped → live_at m number ≡ Some s
      → NextIs F (table_at tables s.table) (spec_of s.spec) (map datum s.params.items) s.at (Some row) → Updates m n number (Some (record s { at = row.id.number + 1 }))
      → GivesRow (place_state F shelf tables m staged next pulled) number (row_of row) (place_state F shelf tables n staged next (bumped pulled))
  place_gives shelf tables m n staged next pulled number s row shows is next_is u =
      record {
        nature = refl;
        scan = scan_is F tables s;
        at = mapped_get (scan_is F tables) m number ∙ ap (option_map (scan_is F tables)) is;
        left = 2 ^ 64 - (row.id.number + 1);
        fewer = let a = next_is.0 in let b = next_is.1 in omega arith;
        typed = row_typed (table_at tables s.table) (spec_of s.spec) (map datum s.params.items) s.at (row_of row) _ shows next_is.2;
        ledger =
            ap (λ (l : finmap.FinMap nat_cmp Scan). record (place_state F shelf tables m staged next (bumped pulled)).ledger { live = l })
            (mapped_insert (scan_is F tables) m n number _ u);
        coming = λ honest. ap (scan_rows F tables) is ∙ next_is.2 ∙ ap (λ (l : List GivenRow). row_of row ∷ l) (sym (ap (scan_rows F tables) u.there));
        leaves = λ honest. others shelf tables m n staged number next pulled next (bumped pulled) _ u;
      }

  pub place_gives_none : (shelf : Shelf) (tables : List (Option T)) (m n : List (ℕ × LiveScan)) (staged : Option StagedWrite) (next pulled : ℕ) (number : ℕ) (s : LiveScan) → live_at m number ≡ Some s
      → NextIs F (table_at tables s.table) (spec_of s.spec) (map datum s.params.items) s.at None → Updates m n number (Some s) → GivesNone (place_state F shelf tables m staged next pulled) number (place_state F shelf tables n staged next pulled)
  place_gives_none shelf tables m n staged next pulled number s is next_is u = record {
    nature = refl;
    ledger = ap (λ (l : finmap.FinMap nat_cmp Scan). record (place_state F shelf tables m staged next pulled).ledger { live = l }) (mapped_put_back (scan_is F tables) m n number s is u);
    coming = λ honest. ap (scan_rows F tables) is ∙ next_is;
    still = λ honest. ap (scan_rows F tables) u.there ∙ next_is;
    leaves = λ honest. others shelf tables m n staged number next pulled next pulled (Some s) u;
  }

  pub place_breaks : (shelf : Shelf) (tables : List (Option T)) (m n : List (ℕ × LiveScan)) (staged : Option StagedWrite) (next pulled : ℕ) (number : ℕ) (s : LiveScan) → live_at m number ≡ Some s → Updates m n number (Some (record s { broken = true })) → Breaks (place_state F shelf tables m staged next pulled) number NoMemory (place_state F shelf tables n staged next pulled)
  place_breaks shelf tables m n staged next pulled number s is u = record {
    nature = refl;
    no_cause = tt;
    scan = scan_is F tables s;
    at = mapped_get (scan_is F tables) m number ∙ ap (option_map (scan_is F tables)) is;
    ledger = ap (λ (l : finmap.FinMap nat_cmp Scan). record (place_state F shelf tables m staged next pulled).ledger { live = l }) (mapped_insert (scan_is F tables) m n number _ u);
    leaves = λ honest. others shelf tables m n staged number next pulled next pulled _ u;
  }

  -- the next row of a scan is given or none, and counted
  pub place_iterates : (shelf : Shelf) (tables : List (Option T)) (m n : List (ℕ × LiveScan)) (staged : Option StagedWrite) (next pulled after number : ℕ) (s t : LiveScan) (r : Result (Option SourceRow) Fault) → ShowsTyped → live_at m number ≡ Some s
      → Pulls F (table_at tables s.table) s r t → Updates m n number (Some t) → after ≡ pulled_after r pulled
      → IfOk r (λ row. Iterates (place_state F shelf tables m staged next pulled) number row (place_state F shelf tables n staged next after))
  place_iterates shelf tables m n staged next pulled after number s t (Ok (Some row)) shows is p u e =
      subst (λ (k : ℕ). GivesRow (place_state F shelf tables m staged next pulled) number (row_of row) (place_state F shelf tables n staged next k)) (sym e)
      (place_gives shelf tables m n staged next pulled number s row shows is p.0 (subst (λ (z : LiveScan). Updates m n number (Some z)) p.2 u))
  place_iterates shelf tables m n staged next pulled after number s t (Ok None) shows is p u e =
      subst (λ (k : ℕ). GivesNone (place_state F shelf tables m staged next pulled) number (place_state F shelf tables n staged next k)) (sym e)
      (place_gives_none shelf tables m n staged next pulled number s is p.0 (subst (λ (z : LiveScan). Updates m n number (Some z)) p.1 u))
  place_iterates shelf tables m n staged next pulled after number s t (Err fault) shows is p u e = tt

  -- or memory is wanting, and the scan is broken
  pub place_fails : (shelf : Shelf) (tables : List (Option T)) (m n : List (ℕ × LiveScan)) (staged : Option StagedWrite) (next pulled after number : ℕ) (s t : LiveScan) (r : Result (Option SourceRow) Fault) → live_at m number ≡ Some s
      → Pulls F (table_at tables s.table) s r t → Updates m n number (Some t) → after ≡ pulled_after r pulled → IfErr r (λ fault. fault ≡ NoMemory)
      → IfErr r (λ fault. Breaks (place_state F shelf tables m staged next pulled) number fault (place_state F shelf tables n staged next after))
  place_fails shelf tables m n staged next pulled after number s t (Ok row) is p u e wanting = tt
  place_fails shelf tables m n staged next pulled after number s t (Err fault) is p u e wanting =
      subst (λ (k : ℕ). Breaks (place_state F shelf tables m staged next pulled) number fault (place_state F shelf tables n staged next k)) (sym e)
      (subst (λ (f : Fault). Breaks (place_state F shelf tables m staged next pulled) number f (place_state F shelf tables n staged next pulled)) (sym wanting)
      (place_breaks shelf tables m n staged next pulled number s is (subst (λ (z : LiveScan). Updates m n number (Some z)) p u)))

  pub place_rescans : (shelf : Shelf) (tables : List (Option T)) (m n : List (ℕ × LiveScan)) (staged : Option StagedWrite) (next pulled : ℕ) (number : ℕ) (params : Tuple) (s t : LiveScan) → live_at m number ≡ Some s → s.broken ≡ false → Updates m n number (Some t) → t.table ≡ s.table → spec_of t.spec ≡ spec_of s.spec → map datum t.params.items ≡ params
      → Spans F (table_at tables t.table) (spec_of t.spec) (map datum t.params.items) t.at t.end → t.broken ≡ s.broken
      → Rescans (place_state F shelf tables m staged next pulled) number params (place_state F shelf tables n staged next pulled)
  place_rescans shelf tables m n staged next pulled number params s t is whole u et es ep spans eb =
      let coming : scan_rows F tables (live_at n number) ≡ rows_to_come F (table_at tables s.table) (spec_of s.spec) params 0 = ap (scan_rows F tables) u.there ∙ sym spans.same ∙ rw (es, ep, et) refl in
      record {
        nature = refl;
        scan = scan_is F tables s;
        at = mapped_get (scan_is F tables) m number ∙ ap (option_map (scan_is F tables)) is;
        left = 2 ^ 64 - t.at;
        few = omega arith;
        ledger =
            ap (λ (l : finmap.FinMap nat_cmp Scan). record (place_state F shelf tables m staged next pulled).ledger { live = l })
            (mapped_insert (scan_is F tables) m n number t u ∙ ap (finmap.insert (mapped (scan_is F tables) m) number) (same s t et es ep (eb ∙ whole)));
        coming = λ honest. subst (λ (l : List GivenRow). IsComing (rows_held F (table_at tables s.table)) (spec_of s.spec) params l) (sym coming) (taken_comes (table_at tables s.table) (spec_of s.spec) params refl refl);
        leaves = λ honest. others shelf tables m n staged number next pulled next pulled (Some t) u;
      }
    where
      same : (s t : LiveScan) → t.table ≡ s.table → spec_of t.spec ≡ spec_of s.spec → map datum t.params.items ≡ params → t.broken ≡ false → scan_is F tables t ≡ new_scan s.table (kinds_held F (table_at tables s.table)) (spec_of s.spec) params (2 ^ 64 - t.at)
      same s t et es ep eb = rw (es, ep, et, eb) refl

  pub place_ends : (shelf : Shelf) (tables : List (Option T)) (m n : List (ℕ × LiveScan)) (staged : Option StagedWrite) (next pulled : ℕ) (number : ℕ) → Updates m n number None → Ends (place_state F shelf tables m staged next pulled) number (place_state F shelf tables n staged next pulled)
  place_ends shelf tables m n staged next pulled number u = record {
    nature = refl;
    ledger = ap (λ (l : finmap.FinMap nat_cmp Scan). record (place_state F shelf tables m staged next pulled).ledger { live = l }) (mapped_remove (scan_is F tables) m n number u);
    leaves = λ honest. others shelf tables m n staged number next pulled next pulled None u;
  }

  -- a scan that is open is whole
  pub is_whole : (shelf : Shelf) (tables : List (Option T)) (m : List (ℕ × LiveScan)) (staged : Option StagedWrite) (next pulled : ℕ) (n : ℕ) (s : LiveScan) (scan : Scan) → live_at m n ≡ Some s → scan_of (place_state F shelf tables m staged next pulled) n ≡ Some scan → scan.broken ≡ false → s.broken ≡ false
  is_whole shelf tables m staged next pulled n s scan is at whole =
      ap (λ (z : Scan). z.broken) (same_Some (scan_is F tables s) scan (sym (mapped_get (scan_is F tables) m n ∙ ap (option_map (scan_is F tables)) is) ∙ at)) ∙ whole

  -- a scan that gave its next row fits still
  pub pulls_fit : {E : Type 0} (tables : List (Option T)) (s t : LiveScan) (r : Result (Option SourceRow) E) → ScanFits F (table_at tables s.table) s → Pulls F (table_at tables s.table) s r t → ScanFits F (table_at tables t.table) t
  pulls_fit tables s t (Ok (Some row)) f p = subst (λ (z : LiveScan). ScanFits F (table_at tables z.table) z) (sym p.2) (f.0, f.1, p.1, f.3)
  pulls_fit tables s t (Ok None) f p = subst (λ (z : LiveScan). ScanFits F (table_at tables z.table) z) (sym p.1) f
  pulls_fit tables s t (Err e) f p = subst (λ (z : LiveScan). ScanFits F (table_at tables z.table) z) (sym p) f

  -- and so does one that is begun again
  pub restarts_fit : {E : Type 0} (tables : List (Option T)) (params : Vec Value Global) (s t : LiveScan) (r : Result Unit E) → ScanFits F (table_at tables s.table) s → Restarts F (table_at tables s.table) params s r t → ScanFits F (table_at tables t.table) t
  restarts_fit tables params s t (Ok u) f p = starts_fitting tables s t params f p
  restarts_fit tables params s t (Err e) f p = subst (λ (z : LiveScan). ScanFits F (table_at tables z.table) z) (sym p) f

  -- scans whose entries are the same
  pub same_fitting : (tables : List (Option T)) (m n : List (ℕ × LiveScan)) → n ≡ m → ScansFit F tables m → ScansFit F tables n
  same_fitting tables m n same old q s e = old q s (sym (ap (λ es. lookup (is_at (nat_cmp q)) es) same) ∙ e)

  pub refused_begin : (shelf : Shelf) (tables : List (Option T)) (m n : List (ℕ × LiveScan)) (staged : Option StagedWrite) (next pulled : ℕ) → n ≡ m → RefusesBegin NoMemory (place_state F shelf tables m staged next pulled) (place_state F shelf tables n staged next pulled)
  refused_begin shelf tables m n staged next pulled same = record {
    refuses = record {
      nature = refl;
      next = next;
      rises = omega arith;
      stays = λ e. e;
      keeps = λ e. refl;
      ledger = ap (λ es. record (place_state F shelf tables m staged next pulled).ledger { live = mapped (scan_is F tables) es }) same;
      leaves = λ honest. record {
        coming = λ q l o. ap (λ es. scan_rows F tables (lookup (is_at (nat_cmp q)) es)) same;
        rows = λ t o. refl;
        holdings = λ r o. refl;
      };
    };
    cause = tt;
  }

pub same_fresh : (m n : List (ℕ × LiveScan)) (next : ℕ) → n ≡ m → Fresh m next → Fresh n next
same_fresh m n next same fresh k le = ap (λ es. lookup (is_at (nat_cmp k)) es) same ∙ fresh k le
