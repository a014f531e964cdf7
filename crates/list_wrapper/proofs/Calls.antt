-- What the calls of a scan do to a list wrapper.
use Rattle.std.proofs.Common.{◌≡◌, ◌≢◌, ℕ, ◌+◌, ◌-◌, ◌^◌, ◌<◌, ◌≤◌, ◌⊎◌, Bool, true, false, cond, ◌&&◌, List, [], ◌∷◌, ◌++◌, Option, Some, None, IsSome, IfSome, map, drop, take, filter, min, option_map, slice_get, slice_index_or, zero, suc, refl, ap, sym, ◌∙◌, subst, arith, eqb, inl, inr}
use Rattle.std.specs.Ordering.{nat_cmp}
use Rattle.std.specs.List.{list_all}
use Rattle.std.specs.BTreeMap as tree
use Rattle.std.specs.BTreeMap.{BTreeMap, is_at}
use Rattle.std.specs.Map.{lookup}
use Rattle.std.specs.FinMap as finmap
use Rattle.std.proofs.lemmas.Bool.Decides.{eqb_tells}
use Rattle.med_value.specs.Datum.{Tuple, tuple}
use Rattle.med_value.specs.declared.value.ColType.{ColType}
use Rattle.fdw_api.specs.Prelude.{Spec, GivenRow, TableRow, IsComing, given_row, first_of, shown_cells, shown_fits, row_fits, BoxTable, Scan, scan_of, LeavesOthers, new_scan, Begins, RefusesBegin, GivesRow, GivesNone, Breaks, Rescans, Ends, row_of}
use Rattle.fdw_api.specs.declared.interface.Fault.TheVariants.{NoMemory}
use Rattle.fdw_api.specs.declared.interface.SourceRow.{SourceRow}
use Rattle.list_wrapper.specs.declared.held_tables.Table.{Table}
use Rattle.list_wrapper.specs.declared.scans.ListScan.{ListScan}
use Rattle.list_wrapper.specs.declared.changes.ListWrite.{ListWrite}
use Rattle.list_wrapper.specs.Lists.{rows_fit}
use Rattle.list_wrapper.specs.declared.scans.Step.{Step}
use Rattle.list_wrapper.specs.declared.scans.Walk.{Walk}
use Rattle.list_wrapper.specs.declared.scans.Walk.TheVariants.{InTurn, Within, ByIndex, ByKeys}
use Rattle.list_wrapper.specs.Scans.{table_listed, numbered, spec_is, params_of, left_by_keys, rows_ahead, rows_to_come, rows_at, listed_kinds, kinds_at, marked_bound, scan_is, scan_rows, mapped, list_state, NextIs, one_less, index_of, index_in, newer, Bounds, ScanFits, ScansFit}
use Rattle.wrapper_parts.specs.declared.sought.SoughtIndex.{SoughtIndex}
use Rattle.wrapper_parts.specs.Scans.{is_taken, rows_at_places as rows_of_places, Serves, Stands}
use Rattle.list_wrapper.proofs.Numbered.{numbered_fit}
use Rattle.list_wrapper.proofs.Maps.{mapped_get, mapped_insert, mapped_remove, apart}

-- the first so many of what is shown are the first so many, shown
pub first_map : {X Y : Type 0} (f : X → Y) (limit : Option ℕ) (xs : List X) → first_of limit (map f xs) ≡ map f (first_of limit xs)
first_map {X} {Y} f None xs = refl
first_map {X} {Y} f (Some n) xs = taken n xs
  where
    taken : (n : ℕ) (xs : List X) → take n (map f xs) ≡ map f (take n xs)
    taken zero xs = refl
    taken (suc n) [] = refl
    taken (suc n) (x ∷ xs) = ap (λ (l : List Y). f x ∷ l) (taken n xs)

pub there : {X Y : Type 0} (f : X → Y) (o : Option X) (y : Y) → option_map f o ≡ Some y → IsSome o
there f None y e = absurd cc
there f (Some x) y e = refl

pub at_some : {X : Type 0} (o : Option X) → IsSome o → (x : X) × (o ≡ Some x)
at_some None e = absurd cc
at_some (Some x) e = (x, refl)

pub open_there : (tables : List Table) (bound : List Bool) (m : BTreeMap ℕ ListScan) (staged : Option ListWrite) (next pulled n : ℕ) (scan : Scan) → scan_of (list_state tables bound m staged next pulled) n ≡ Some scan → IsSome (tree.get nat_cmp m n)
open_there tables bound m staged next pulled n scan e = there (scan_is tables) _ _ (sym (mapped_get (scan_is tables) m n) ∙ e)

abbrev Fresh : BTreeMap ℕ ListScan → ℕ → Type 0
Fresh m next = (k : ℕ) → next ≤ k → tree.get nat_cmp m k ≡ None

-- a change of a live scan makes no new number
pub keeps_fresh : (m n : BTreeMap ℕ ListScan) (number next : ℕ) (w : Option ListScan) → Fresh m next → IsSome (tree.get nat_cmp m number) → tree.UpdatesBy nat_cmp (nat_cmp number) m n w → Fresh n next
keeps_fresh m n number next w fresh is u k le = split (eqb_tells k number)
  where
    none_is : (o : Option ListScan) → o ≡ None → IsSome o → ⊥
    none_is None e s = absurd cc
    none_is (Some x) e s = absurd cc

    split : ((eqb k number ≡ true) × (k ≡ number)) ⊎ ((eqb k number ≡ false) × (k ≢ number)) → tree.get nat_cmp n k ≡ None
    split (inl s) = absurd (none_is _ (fresh k le) (subst (λ (q : ℕ). IsSome (tree.get nat_cmp m q)) (sym s.1) is))
    split (inr s) = u.2 k (apart number k s.1) ∙ fresh k le

-- only this ticket changes
others : (tables : List Table) (bound : List Bool) (m n : BTreeMap ℕ ListScan) (staged : Option ListWrite) (number next next' pulled pulled' : ℕ) (w : Option ListScan) → tree.UpdatesBy nat_cmp (nat_cmp number) m n w → LeavesOthers number (list_state tables bound m staged next pulled) (list_state tables bound n staged next' pulled')
others tables bound m n staged number next next' pulled pulled' w u = record {
  coming = λ q live other. ap (scan_rows tables) (u.2 q (apart number q other));
  rows = λ t other. refl;
  holdings = λ r other. refl;
}

-- the types of a bound table are those at its place
pub kinds_bound : (f : Bool) (o : Option Table) (b : BoxTable) → marked_bound f o ≡ Some b → listed_kinds o ≡ b.kinds
kinds_bound false o b e = absurd cc
kinds_bound true None b e = absurd cc
kinds_bound true (Some x) b e = ap (λ (o : Option BoxTable). kinds_or o) e
  where
    kinds_or : Option BoxTable → List ColType
    kinds_or None = []
    kinds_or (Some z) = z.kinds

pub list_begins : (tables : List Table) (bound : List Bool) (m n : BTreeMap ℕ ListScan) (staged : Option ListWrite) (t next pulled : ℕ) (spec : Spec) (params : Tuple) (s : ListScan) (b : BoxTable) → marked_bound (slice_index_or bound t false) (slice_get tables t) ≡ Some b → tree.get nat_cmp m next ≡ None → next < 2 ^ 64 - 1 → tree.Updates nat_cmp m n next (Some s) → s.table ≡ t → spec_is s ≡ spec → params_of s ≡ params → s.at ≡ 0 → s.more ≡ s.limit → s.broken ≡ false
    → IsComing (numbered 0 (rows_at tables t)) spec params (rows_to_come spec params (numbered 0 (rows_at tables t)) s.walk 0 spec.limit)
    → Begins (list_state tables bound m staged next pulled) t spec params next (list_state tables bound n staged (next + 1) pulled)
list_begins tables bound m n staged t next pulled spec params s b is_bound fresh room u et es ep ea em eb comes =
    let more : s.more ≡ spec.limit = em ∙ ap (λ (z : Spec). z.limit) es in
    let coming : scan_rows tables (tree.get nat_cmp n next) ≡ rows_to_come spec params (numbered 0 (rows_at tables t)) s.walk 0 spec.limit = ap (scan_rows tables) u.1 ∙ rw (more, es, ep, ea, et) refl in
    record {
      nature = refl;
      is_next = refl;
      room = room;
      fresh = mapped_get (scan_is tables) m next ∙ ap (option_map (scan_is tables)) fresh;
      bound = b;
      is = is_bound;
      left = 2 ^ 64 - s.at;
      few = omega arith;
      ledger =
          ap (λ (l : finmap.FinMap nat_cmp Scan). record (list_state tables bound n staged (next + 1) pulled).ledger { live = l })
          (mapped_insert (scan_is tables) m n next s u ∙ ap (finmap.insert (mapped (scan_is tables) m.entries) next) (scan_same s t spec params et es ep eb)
          ∙ ap (λ (k : List ColType). finmap.insert (mapped (scan_is tables) m.entries) next (new_scan t k spec params (2 ^ 64 - s.at))) (kinds_bound (slice_index_or bound t false) (slice_get tables t) b is_bound));
      coming = λ honest. subst (λ (l : List GivenRow). IsComing (numbered 0 (rows_at tables t)) spec params l) (sym coming) comes;
      leaves = λ honest. others tables bound m n staged next next (next + 1) pulled pulled (Some s) u;
    }
  where
    scan_same : (s : ListScan) (t : ℕ) (spec : Spec) (params : Tuple) → s.table ≡ t → spec_is s ≡ spec → params_of s ≡ params → s.broken ≡ false → scan_is tables s ≡ new_scan t (kinds_at tables t) spec params (2 ^ 64 - s.at)
    scan_same s t spec params et es ep eb = rw (es, ep, et, eb) refl

some_inj : {A : Type 0} (a b : A) → Some a ≡ Some b → a ≡ b
some_inj a b q = cc

both : (a b : Bool) → (a && b) ≡ true → (a ≡ true) × (b ≡ true)
both true b e = (refl, e)
both false b e = absurd cc

-- the rows of each table are of its types, and so is what a scan gives of them
pub rows_fit_at : (ts : List Table) (t : ℕ) → rows_fit (map table_listed ts) ≡ true → list_all (row_fits (kinds_at ts t)) (map tuple (rows_at ts t)) ≡ true
rows_fit_at [] zero e = refl
rows_fit_at [] (suc t) e = refl
rows_fit_at (x ∷ ts) zero e = (both (list_all (row_fits x.kinds.items) (map tuple x.rows.items)) _ e).0
rows_fit_at (x ∷ ts) (suc t) e = rows_fit_at ts t (both (list_all (row_fits x.kinds.items) (map tuple x.rows.items)) _ e).1

abbrev ShowsTyped : Type 0
ShowsTyped = (kinds : List ColType) (spec : Spec) (cells : Tuple) → row_fits kinds cells ≡ true → shown_fits kinds spec (shown_cells spec cells) ≡ true

shown_typed : (kinds : List ColType) (spec : Spec) (params : Tuple) (rows : List TableRow) → ShowsTyped → list_all (λ r. row_fits kinds r.cells) rows ≡ true → list_all (λ r. shown_fits kinds spec r.cells) (map (given_row spec) (filter (is_taken spec params) rows)) ≡ true
shown_typed kinds spec params [] shows e = refl
shown_typed kinds spec params (r ∷ rows) shows e =
    let w = both (row_fits kinds r.cells) _ e in
    at (is_taken spec params r) (shows kinds spec r.cells w.0) (shown_typed kinds spec params rows shows w.1)
  where
    at : (b : Bool) → shown_fits kinds spec (shown_cells spec r.cells) ≡ true → list_all (λ r. shown_fits kinds spec r.cells) (map (given_row spec) (filter (is_taken spec params) rows)) ≡ true
        → list_all (λ r. shown_fits kinds spec r.cells) (map (given_row spec) (cond b (r ∷ filter (is_taken spec params) rows) (filter (is_taken spec params) rows))) ≡ true
    at true f g = rw (f, g) refl
    at false f g = g

rest_fit : (kinds : List ColType) (n : ℕ) (rows : List TableRow) → list_all (λ r. row_fits kinds r.cells) rows ≡ true → list_all (λ r. row_fits kinds r.cells) (drop n rows) ≡ true
rest_fit kinds zero rows e = e
rest_fit kinds (suc n) [] e = e
rest_fit kinds (suc n) (r ∷ rows) e = rest_fit kinds n rows (both (row_fits kinds r.cells) _ e).1

cut_fits : {X : Type 0} (p : X → Bool) (limit : Option ℕ) (xs : List X) → list_all p xs ≡ true → list_all p (first_of limit xs) ≡ true
cut_fits {X} p None xs e = e
cut_fits {X} p (Some n) xs e = taken n xs e
  where
    and_true : (a b : Bool) → a ≡ true → b ≡ true → (a && b) ≡ true
    and_true a b e f = rw (e, f) refl

    taken : (n : ℕ) (xs : List X) → list_all p xs ≡ true → list_all p (take n xs) ≡ true
    taken zero xs e = refl
    taken (suc n) [] e = refl
    taken (suc n) (x ∷ xs) e = let w = both (p x) _ e in and_true _ _ w.0 (taken n xs w.1)

shown_all : (kinds : List ColType) (spec : Spec) (rows : List TableRow) → ShowsTyped → list_all (λ r. row_fits kinds r.cells) rows ≡ true → list_all (λ r. shown_fits kinds spec r.cells) (map (given_row spec) rows) ≡ true
shown_all kinds spec [] shows e = refl
shown_all kinds spec (r ∷ rows) shows e =
    let w = both (row_fits kinds r.cells) _ e in
    rw (shows kinds spec r.cells w.0, shown_all kinds spec rows shows w.1) refl

-- rows at places are of the types of all rows
places_fit : (kinds : List ColType) (places : List ℕ) (rows : List TableRow) → list_all (λ r. row_fits kinds r.cells) rows ≡ true → list_all (λ r. row_fits kinds r.cells) (rows_of_places places rows) ≡ true
places_fit kinds [] rows e = refl
places_fit kinds (p ∷ ps) rows e = first (drop p rows) (rest_fit kinds p rows e) (places_fit kinds ps rows e)
  where
    first : (rest : List TableRow) → list_all (λ r. row_fits kinds r.cells) rest ≡ true → list_all (λ r. row_fits kinds r.cells) (rows_of_places ps rows) ≡ true → list_all (λ r. row_fits kinds r.cells) (take 1 rest ++ rows_of_places ps rows) ≡ true
    first [] f g = g
    first (r ∷ rest) f g = rw ((both (row_fits kinds r.cells) _ f).0, g) refl

left_typed : (kinds : List ColType) (spec : Spec) (params : Tuple) (rows : List TableRow) (walk : Walk) (at : ℕ) → ShowsTyped → list_all (λ r. row_fits kinds r.cells) rows ≡ true → list_all (λ r. shown_fits kinds spec r.cells) (map (given_row spec) (rows_ahead spec params rows walk at)) ≡ true
left_typed kinds spec params rows InTurn at shows e = shown_typed kinds spec params (drop at rows) shows (rest_fit kinds at rows e)
left_typed kinds spec params rows (Within span) at shows e = shown_typed kinds spec params (drop at rows) shows (rest_fit kinds at rows e)
left_typed kinds spec params rows (ByIndex x) at shows e = shown_typed kinds spec params (drop at rows) shows (rest_fit kinds at rows e)
left_typed kinds spec params rows (ByKeys places) at shows e = shown_all kinds spec (left_by_keys places.items rows at) shows (places_fit kinds (drop at places.items) rows e)

row_typed : (tables : List Table) (s : ListScan) (row : SourceRow) (rest : List GivenRow) → ShowsTyped → rows_fit (map table_listed tables) ≡ true → scan_rows tables (Some s) ≡ row_of row ∷ rest → shown_fits (kinds_at tables s.table) (spec_is s) (row_of row).cells ≡ true
row_typed tables s row rest shows typed e =
    let kinds = kinds_at tables s.table in
    let fit = numbered_fit kinds 0 (rows_at tables s.table) ∙ rows_fit_at tables s.table typed in
    let all = cut_fits (λ (r : GivenRow). shown_fits kinds (spec_is s) r.cells) s.more _ (left_typed kinds (spec_is s) (params_of s) (numbered 0 (rows_at tables s.table)) s.walk s.at shows fit) in
    (both (shown_fits kinds (spec_is s) (row_of row).cells) _ (subst (λ (l : List GivenRow). list_all (λ r. shown_fits kinds (spec_is s) r.cells) l ≡ true) e all)).0

pub list_gives : (tables : List Table) (bound : List Bool) (m n : BTreeMap ℕ ListScan) (staged : Option ListWrite) (next pulled number : ℕ) (s : ListScan) (step : Step) → ShowsTyped → rows_fit (map table_listed tables) ≡ true → tree.get nat_cmp m number ≡ Some s → NextIs (spec_is s) (params_of s) (numbered 0 (rows_at tables s.table)) s.walk s.at s.more (Some step) → tree.Updates nat_cmp m n number (Some (record s { at = step.after; more = one_less s.more })) → GivesRow (list_state tables bound m staged next pulled) number (row_of step.row) (list_state tables bound n staged next (min (pulled + 1) (2 ^ 64 - 1)))
list_gives tables bound m n staged next pulled number s step shows typed is next_is u = record {
  nature = refl;
  scan = scan_is tables s;
  at = mapped_get (scan_is tables) m number ∙ ap (option_map (scan_is tables)) is;
  left = 2 ^ 64 - step.after;
  fewer = let a = next_is.0 in let b = next_is.1 in omega arith;
  typed = row_typed tables s step.row _ shows typed next_is.2;
  ledger =
      ap (λ (l : finmap.FinMap nat_cmp Scan). record (list_state tables bound m staged next (min (pulled + 1) (2 ^ 64 - 1))).ledger { live = l })
      (mapped_insert (scan_is tables) m n number _ u);
  coming = λ honest. ap (scan_rows tables) is ∙ next_is.2 ∙ ap (λ (l : List GivenRow). row_of step.row ∷ l) (sym (ap (scan_rows tables) u.1));
  leaves = λ honest. others tables bound m n staged number next next pulled _ _ u;
}

pub list_gives_none : (tables : List Table) (bound : List Bool) (m : BTreeMap ℕ ListScan) (staged : Option ListWrite) (next pulled number : ℕ) (s : ListScan) → tree.get nat_cmp m number ≡ Some s → NextIs (spec_is s) (params_of s) (numbered 0 (rows_at tables s.table)) s.walk s.at s.more None → GivesNone (list_state tables bound m staged next pulled) number (list_state tables bound m staged next pulled)
list_gives_none tables bound m staged next pulled number s is next_is = record {
  nature = refl;
  ledger = refl;
  coming = λ honest. ap (scan_rows tables) is ∙ next_is;
  still = λ honest. ap (scan_rows tables) is ∙ next_is;
  leaves = λ honest. record { coming = λ q l o. refl; rows = λ t o. refl; holdings = λ r o. refl };
}

pub list_breaks : (tables : List Table) (bound : List Bool) (m n : BTreeMap ℕ ListScan) (staged : Option ListWrite) (next pulled number : ℕ) (s : ListScan) → tree.get nat_cmp m number ≡ Some s → tree.Updates nat_cmp m n number (Some (record s { broken = true })) → Breaks (list_state tables bound m staged next pulled) number NoMemory (list_state tables bound n staged next pulled)
list_breaks tables bound m n staged next pulled number s is u = record {
  nature = refl;
  no_cause = tt;
  scan = scan_is tables s;
  at = mapped_get (scan_is tables) m number ∙ ap (option_map (scan_is tables)) is;
  ledger = ap (λ (l : finmap.FinMap nat_cmp Scan). record (list_state tables bound m staged next pulled).ledger { live = l }) (mapped_insert (scan_is tables) m n number _ u);
  leaves = λ honest. others tables bound m n staged number next next pulled pulled _ u;
}

pub list_rescans : (tables : List Table) (bound : List Bool) (m n : BTreeMap ℕ ListScan) (staged : Option ListWrite) (next pulled number : ℕ) (params : Tuple) (s t : ListScan) → tree.get nat_cmp m number ≡ Some s → s.broken ≡ false → tree.Updates nat_cmp m n number (Some t) → t.table ≡ s.table → spec_is t ≡ spec_is s → params_of t ≡ params → t.at ≡ 0 → t.more ≡ s.limit → t.broken ≡ s.broken
    → IsComing (numbered 0 (rows_at tables s.table)) (spec_is s) params (rows_to_come (spec_is s) params (numbered 0 (rows_at tables s.table)) t.walk 0 s.limit)
    → Rescans (list_state tables bound m staged next pulled) number params (list_state tables bound n staged next pulled)
list_rescans tables bound m n staged next pulled number params s t is whole u et es ep ea em eb comes =
    let coming : scan_rows tables (tree.get nat_cmp n number) ≡ rows_to_come (spec_is s) params (numbered 0 (rows_at tables s.table)) t.walk 0 s.limit = ap (scan_rows tables) u.1 ∙ rw (em, es, ep, ea, et) refl in
    record {
      nature = refl;
      scan = scan_is tables s;
      at = mapped_get (scan_is tables) m number ∙ ap (option_map (scan_is tables)) is;
      left = 2 ^ 64 - t.at;
      few = omega arith;
      ledger =
          ap (λ (l : finmap.FinMap nat_cmp Scan). record (list_state tables bound m staged next pulled).ledger { live = l })
          (mapped_insert (scan_is tables) m n number t u ∙ ap (finmap.insert (mapped (scan_is tables) m.entries) number) (same s t et es ep (eb ∙ whole)));
      coming = λ honest. subst (λ (l : List GivenRow). IsComing (numbered 0 (rows_at tables s.table)) (spec_is s) params l) (sym coming) comes;
      leaves = λ honest. others tables bound m n staged number next next pulled pulled (Some t) u;
    }
  where
    same : (s t : ListScan) → t.table ≡ s.table → spec_is t ≡ spec_is s → params_of t ≡ params → t.broken ≡ false → scan_is tables t ≡ new_scan s.table (kinds_at tables s.table) (spec_is s) params (2 ^ 64 - t.at)
    same s t et es ep eb = rw (es, ep, et, eb) refl

pub list_ends : (tables : List Table) (bound : List Bool) (m n : BTreeMap ℕ ListScan) (staged : Option ListWrite) (next pulled number : ℕ) → tree.UpdatesBy nat_cmp (nat_cmp number) m n None → Ends (list_state tables bound m staged next pulled) number (list_state tables bound n staged next pulled)
list_ends tables bound m n staged next pulled number u = record {
  nature = refl;
  ledger = ap (λ (l : finmap.FinMap nat_cmp Scan). record (list_state tables bound m staged next pulled).ledger { live = l }) (mapped_remove (scan_is tables) m n number u);
  leaves = λ honest. others tables bound m n staged number next next pulled pulled None u;
}

-- a scan that is open is whole
pub is_whole : (tables : List Table) (bound : List Bool) (m : BTreeMap ℕ ListScan) (staged : Option ListWrite) (next pulled n : ℕ) (s : ListScan) (scan : Scan) → tree.get nat_cmp m n ≡ Some s → scan_of (list_state tables bound m staged next pulled) n ≡ Some scan → scan.broken ≡ false → s.broken ≡ false
is_whole tables bound m staged next pulled n s scan is at whole =
    ap (λ (z : Scan). z.broken) (some_inj (scan_is tables s) scan (sym (mapped_get (scan_is tables) m n ∙ ap (option_map (scan_is tables)) is) ∙ at)) ∙ whole

pub if_some : {X : Type 0} (o : Option X) (P : X → Type 0) (x : X) → o ≡ Some x → IfSome o P → P x
if_some None P x e p = absurd cc
if_some (Some y) P x e p = subst P (some_inj y x e) p

pub some_if : {X : Type 0} (o : Option X) (P : X → Type 0) (x : X) → o ≡ Some x → P x → IfSome o P
some_if o P x e p = subst (λ (z : Option _). IfSome z P) (sym e) p

-- a change of a scan leaves all scans fitting
pub keeps_fitting : (tables : List Table) (m n : BTreeMap ℕ ListScan) (number : ℕ) (w : ListScan) → ScansFit tables m → ScanFits (rows_at tables w.table) w → tree.UpdatesBy nat_cmp (nat_cmp number) m n (Some w) → ScansFit tables n
keeps_fitting tables m n number w old is u q s e = split (eqb_tells q number)
  where
    split : ((eqb q number ≡ true) × (q ≡ number)) ⊎ ((eqb q number ≡ false) × (q ≢ number)) → ScanFits (rows_at tables s.table) s
    split (inl p) = subst (λ (z : ListScan). ScanFits (rows_at tables z.table) z) (some_inj w s (sym u.1 ∙ ap (tree.get nat_cmp n) (sym p.1) ∙ e)) is
    split (inr p) = old q s (sym (u.2 q (apart number q p.1)) ∙ e)

pub ends_fitting : (tables : List Table) (m n : BTreeMap ℕ ListScan) (number : ℕ) → ScansFit tables m → tree.UpdatesBy nat_cmp (nat_cmp number) m n None → ScansFit tables n
ends_fitting tables m n number old u q s e = split (eqb_tells q number)
  where
    neither : (o : Option ListScan) → o ≡ None → o ≡ Some s → ⊥
    neither None a b = cc
    neither (Some x) a b = cc

    split : ((eqb q number ≡ true) × (q ≡ number)) ⊎ ((eqb q number ≡ false) × (q ≢ number)) → ScanFits (rows_at tables s.table) s
    split (inl p) = absurd (neither (tree.get nat_cmp n number) u.1 (ap (tree.get nat_cmp n) (sym p.1) ∙ e))
    split (inr p) = old q s (sym (u.2 q (apart number q p.1)) ∙ e)

-- a scan that is begun again stands at the beginning, on its own walk or a new one
pub starts_fitting : (rows : List TableRow) (spec : Spec) (params : Tuple) (walk : Option Walk) (old : Walk) → Serves spec rows (index_of old) → Serves spec rows (index_in walk)
    → Bounds spec params rows (newer walk old)
    → Serves spec rows (index_of (newer walk old)) × Stands spec params rows 0 (index_of (newer walk old)) × Bounds spec params rows (newer walk old)
starts_fitting rows spec params walk old was new bounds = (serves walk new, λ x i k up. absurd (omega arith), bounds)
  where
    serves : (walk : Option Walk) → Serves spec rows (index_in walk) → Serves spec rows (index_of (newer walk old))
    serves None new = was
    serves (Some w) new = new

-- scans whose entries are the same
pub same_fitting : (tables : List Table) (m n : BTreeMap ℕ ListScan) → n.entries ≡ m.entries → ScansFit tables m → ScansFit tables n
same_fitting tables m n same old q s e = old q s (sym (ap (λ es. lookup (is_at (nat_cmp q)) es) same) ∙ e)

pub same_fresh : (m n : BTreeMap ℕ ListScan) (next : ℕ) → n.entries ≡ m.entries → Fresh m next → Fresh n next
same_fresh m n next same fresh k le = ap (λ es. lookup (is_at (nat_cmp k)) es) same ∙ fresh k le

pub drops_fresh : (m n : BTreeMap ℕ ListScan) (number next : ℕ) → Fresh m next → tree.UpdatesBy nat_cmp (nat_cmp number) m n None → Fresh n next
drops_fresh m n number next fresh u k le = split (eqb_tells k number)
  where
    split : ((eqb k number ≡ true) × (k ≡ number)) ⊎ ((eqb k number ≡ false) × (k ≢ number)) → tree.get nat_cmp n k ≡ None
    split (inl w) = rw w.1 u.1
    split (inr w) = u.2 k (apart number k w.1) ∙ fresh k le

pub begins_fresh : (m n : BTreeMap ℕ ListScan) (next : ℕ) (t : ListScan) → Fresh m next → tree.Updates nat_cmp m n next (Some t) → Fresh n (next + 1)
begins_fresh m n next t fresh u k le = u.2 k (apart next k (λ e. absurd (omega arith))) ∙ fresh k (omega arith)

pub refused_begin : (tables : List Table) (bound : List Bool) (m n : BTreeMap ℕ ListScan) (staged : Option ListWrite) (next pulled : ℕ) → n.entries ≡ m.entries → RefusesBegin NoMemory (list_state tables bound m staged next pulled) (list_state tables bound n staged next pulled)
refused_begin tables bound m n staged next pulled same = record {
  refuses = record {
    nature = refl;
    next = next;
    rises = omega arith;
    stays = λ e. e;
    keeps = λ e. refl;
    ledger = ap (λ es. record (list_state tables bound m staged next pulled).ledger { live = mapped (scan_is tables) es }) same;
    leaves = λ honest. record {
      coming = λ q l o. ap (λ es. scan_rows tables (lookup (is_at (nat_cmp q)) es)) same;
      rows = λ t o. refl;
      holdings = λ r o. refl;
    };
  };
  cause = tt;
}

-- a walk without an index
pub no_index_serves : (spec : Spec) (rows : List TableRow) (index : Option SoughtIndex) → index ≡ None → Serves spec rows index
no_index_serves spec rows index e x i = absurd (neither index e i)
  where
    neither : (o : Option SoughtIndex) → o ≡ None → o ≡ Some x → ⊥
    neither None a b = cc
    neither (Some y) a b = cc

pub no_index_stands : (spec : Spec) (params : Tuple) (rows : List TableRow) (at : ℕ) (index : Option SoughtIndex) → index ≡ None → Stands spec params rows at index
no_index_stands spec params rows at index e x i = absurd (neither index e i)
  where
    neither : (o : Option SoughtIndex) → o ≡ None → o ≡ Some x → ⊥
    neither None a b = cc
    neither (Some y) a b = cc
