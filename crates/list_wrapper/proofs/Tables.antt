-- What binding does to a list wrapper.
use Rattle.std.proofs.Common.{◌≡◌, ◌≢◌, ℕ, ◌+◌, ◌<◌, ◌≤◌, ◌⊎◌, Bool, true, false, ◌&&◌, nat_eq, List, [], ◌∷◌, Option, Some, None, IsSome, length, map, option_map, slice_get, slice_index_or, slice_set, Contains, refl, ap, sym, ◌∙◌, subst, arith, rules, eqb, inl, inr, bytes_eq}
use Rattle.std.specs.List.{list_all, IsDistinct, AllByRecursion}
use Rattle.std.specs.String.{string_bytes}
use Rattle.std.specs.BTreeMap.{BTreeMap}
use Rattle.std.proofs.lemmas.Bool.Decides.{eqb_tells}
use Rattle.std.proofs.lemmas.List.Elements.{Contains-push_cases}
use lib.Pointwise.{bytes_decides}
use Rattle.med_value.specs.Prelude.{tuple, phase_of}
use Rattle.med_value.specs.declared.value.Row.{Row}
use Rattle.med_value.specs.declared.cause.Cause.{Cause}
use Rattle.med_value.specs.declared.cause.Cause.TheVariants.{TableNotFound, InvalidDataType}
use Rattle.med_value.specs.declared.value.ColType.{ColType}
use Rattle.med_value.specs.declared.value.ColType.TheVariants as types
use Rattle.fdw_api.specs.Prelude.{Column, OptionForm, Held, held, kinds_of, Reading, Spec, row_fits, BoxTable, BoxState, set_at, table_of, Allows, CanBind, Binds, IsLeast, RefusesBind, AllowsPromise}
use Rattle.fdw_api.specs.declared.interface.Fault.TheVariants.{Refused}
use Rattle.list_wrapper.specs.declared.held_tables.Table.{Table}
use Rattle.list_wrapper.specs.declared.scans.ListScan.{ListScan}
use Rattle.list_wrapper.specs.declared.changes.ListWrite.{ListWrite}
use Rattle.list_wrapper.specs.Lists.{list_image, list_reading, same_type, types_match, entry_of, rows_fit}
use Rattle.list_wrapper.specs.Scans.{table_listed, numbered, stored, entry_at, rows_at, listed_rows, listed_kinds, bound_of, marked_bound, list_state}
use Rattle.list_wrapper.proofs.Calls.{rows_fit_at}

pub some_inj : {A : Type 0} (a b : A) → Some a ≡ Some b → a ≡ b
some_inj a b q = cc

bound_allows : (spec : Spec) (f : Bool) (o : Option Table) → IsSome (marked_bound f o) → (b : BoxTable) × (marked_bound f o ≡ Some b) × (b.allows spec ≡ true)
bound_allows spec false o e = absurd cc
bound_allows spec true None e = absurd cc
bound_allows spec true (Some t) e = (bound_of t, refl, refl)

-- a bound list allows every scan
pub list_allows : (tables : List Table) (bound : List Bool) (scans : BTreeMap ℕ ListScan) (staged : Option ListWrite) (next pulled t : ℕ) (spec : Spec) → IsSome (table_of (list_state tables bound scans staged next pulled) t) → Allows (list_state tables bound scans staged next pulled) t spec
list_allows tables bound scans staged next pulled t spec e =
    let w = bound_allows spec (slice_index_or bound t false) (slice_get tables t) e in
    record { bound = w.0; is = w.1; allowed = w.2 }

-- and what a list promises of it
pub list_promises : (tables : List Table) (bound : List Bool) (scans : BTreeMap ℕ ListScan) (staged : Option ListWrite) (next pulled t : ℕ) (spec : Spec) → IsSome (table_of (list_state tables bound scans staged next pulled) t) → AllowsPromise (list_state tables bound scans staged next pulled) t spec
list_promises tables bound scans staged next pulled t spec e = record {
  allows = list_allows tables bound scans staged next pulled t spec e;
  may = λ none. absurd cc;
}

mark_same : (bs : List Bool) (i : ℕ) (b : Bool) → i < length bs → slice_index_or (slice_set bs i b) i false ≡ b
mark_same bs i b lt = search rules

mark_other : (bs : List Bool) (i q : ℕ) (b : Bool) → q ≢ i → slice_index_or (slice_set bs i b) q false ≡ slice_index_or bs q false
mark_other bs i q b ne = search rules

-- the marks after one is set
marks : (tables : List Table) (bound : List Bool) (t : ℕ) (b : Bool) (new : Option BoxTable) → t < length bound → marked_bound b (slice_get tables t) ≡ new → (q : ℕ) → marked_bound (slice_index_or (slice_set bound t b) q false) (slice_get tables q) ≡ set_at (λ u. marked_bound (slice_index_or bound u false) (slice_get tables u)) t new q
marks tables bound t b new lt e q = split (eqb_tells q t)
  where
    split : ((eqb q t ≡ true) × (q ≡ t)) ⊎ ((eqb q t ≡ false) × (q ≢ t)) → marked_bound (slice_index_or (slice_set bound t b) q false) (slice_get tables q) ≡ set_at (λ u. marked_bound (slice_index_or bound u false) (slice_get tables u)) t new q
    split (inl s) = rw (s.0, s.1, mark_same bound t b lt) e
    split (inr s) = rw (s.0, mark_other bound t q b s.1) refl

same_types : (a b : ColType) → same_type a b ≡ true → a ≡ b
same_types types.Int types.Int e = refl
same_types types.Text types.Text e = refl
same_types types.Bool types.Bool e = refl
same_types types.Int types.Text e = absurd cc
same_types types.Int types.Bool e = absurd cc
same_types types.Text types.Int e = absurd cc
same_types types.Text types.Bool e = absurd cc
same_types types.Bool types.Int e = absurd cc
same_types types.Bool types.Text e = absurd cc

both : (a b : Bool) → (a && b) ≡ true → (a ≡ true) × (b ≡ true)
both true b e = (refl, e)
both false b e = absurd cc

types_same : (xs ys : List ColType) → types_match xs ys ≡ true → xs ≡ ys
types_same [] [] e = refl
types_same [] (y ∷ ys) e = absurd cc
types_same (x ∷ xs) [] e = absurd cc
types_same (x ∷ xs) (y ∷ ys) e = let w = both (same_type x y) (types_match xs ys) e in rw (same_types x y w.0, types_same xs ys w.1) refl

held_numbered : (n : ℕ) (rs : List Row) → map held (numbered n rs) ≡ map (λ r. record { cells = r; origin = [] }) (map tuple rs)
held_numbered n [] = refl
held_numbered n (r ∷ rs) = ap (λ (l : List Held). record { cells = tuple r; origin = [] } ∷ l) (held_numbered (n + 1) rs)

below : (m n : ℕ) (rs : List Row) → m < n → AllByRecursion (λ y. nat_eq m y ≡ false) (map (λ r. r.id) (numbered n rs))
below m n [] lt = tt
below m n (r ∷ rs) lt = (search rules, below m (n + 1) rs (omega arith))

pub numbered_once : (n : ℕ) (rs : List Row) → IsDistinct nat_eq (map (λ r. r.id) (numbered n rs))
unfolding IsDistinct
numbered_once n [] = tt
numbered_once n (r ∷ rs) = (below n (n + 1) rs (omega arith), numbered_once (n + 1) rs)

not_marked : (s : BoxState) (t : ℕ) (x : Table) (f : Bool) (remote : List ℕ) → ((b : BoxTable) → marked_bound f (Some x) ≡ Some b → b.remote ≢ remote) → string_bytes x.name ≡ remote → f ≡ false
not_marked s t x true remote free e = absurd (free (bound_of x) refl e)
not_marked s t x false remote free e = refl

pub list_binds : (tables : List Table) (bound : List Bool) (scans : BTreeMap ℕ ListScan) (staged : Option ListWrite) (next pulled t : ℕ) (remote : List ℕ) (columns : List Column) (settings : List OptionForm) (x : Table) → t < length bound → CanBind (list_state tables bound scans staged next pulled) remote columns settings → entry_of (map table_listed tables) remote ≡ entry_at tables (Some t) → slice_get tables t ≡ Some x → bytes_eq (string_bytes x.name) remote ≡ true → types_match x.kinds.items (kinds_of columns) ≡ true → rows_fit (map table_listed tables) ≡ true → Binds (list_state tables bound scans staged next pulled) remote columns settings t (list_state tables (slice_set bound t true) scans staged next pulled)
list_binds tables bound scans staged next pulled t remote columns settings x lt can is_entry at same fits typed =
    let named : string_bytes x.name ≡ remote = (bytes_decides (string_bytes x.name) remote).0 same in
    let kinds = types_same x.kinds.items (kinds_of columns) fits in
    let readable : list_all (row_fits (kinds_of columns)) (map tuple x.rows.items) ≡ true =
    ap (λ (k : List ColType). list_all (row_fits k) (map tuple x.rows.items)) (sym kinds)
    ∙ ap (λ (o : Option Table). list_all (row_fits (listed_kinds o)) (map tuple (listed_rows o))) (sym at) ∙ rows_fit_at tables t typed in
    let free : slice_index_or bound t false ≡ false = not_marked (list_state tables bound scans staged next pulled) t x (slice_index_or bound t false) remote (λ b e. can.free t b (ap (marked_bound (slice_index_or bound t false)) at ∙ e)) named in
    record {
      nature = refl;
      fresh = ap (λ (f : Bool). marked_bound f (slice_get tables t)) free;
      bound = bound_of x;
      remote_is = named;
      kinds_are = kinds;
      line_is = refl;
      image_is = ap list_image kinds;
      arrangement_is = refl;
      refuses_is = refl;
      ledger = ap (λ (f : ℕ → Option BoxTable). record (list_state tables bound scans staged next pulled).ledger { tables = f }) (λ i q. marks tables bound t true (Some (bound_of x)) lt (ap (marked_bound true) at) q i);
      entry = Some (stored x);
      picked = λ honest. sym (is_entry ∙ ap (option_map stored) at);
      no_cause = λ honest. rw (fits, readable) refl;
      rows = λ honest. rw (fits, readable, at, held_numbered 0 x.rows.items) refl;
      once = λ honest. numbered_once 0 (rows_at tables t);
      leaves = λ honest. record { coming = λ q l o. refl; rows = λ u o. refl; holdings = λ r o. refl };
    }

-- the only cause is the least
only_cause : (c : Cause) (p : ℕ) → phase_of c ≡ Some p → IsLeast (c ∷ []) c
only_cause c p has = record {
  stands = (0, omega arith, refl);
  phase = p;
  has = has;
  least = λ d q is d_has. at_one d q d_has (Contains-push_cases [] c d is);
}
  where
    at_one : (d : Cause) (q : ℕ) → phase_of d ≡ Some q → Contains [] d ⊎ (c ≡ d) → p ≤ q
    at_one d q d_has (inl (k, lt, e)) = absurd (omega arith)
    at_one d q d_has (inr same) = let e = some_inj p q (sym has ∙ ap phase_of same ∙ d_has) in omega arith

-- a list source refuses a table that it does not have
pub list_lacks : (tables : List Table) (bound : List Bool) (scans : BTreeMap ℕ ListScan) (staged : Option ListWrite) (next pulled : ℕ) (remote : List ℕ) (columns : List Column) (settings : List OptionForm) → entry_of (map table_listed tables) remote ≡ None → RefusesBind (list_state tables bound scans staged next pulled) remote columns settings (Refused TableNotFound) (list_state tables bound scans staged next pulled)
list_lacks tables bound scans staged next pulled remote columns settings none = record {
  refuses = record { nature = refl; next = next; rises = omega arith; stays = λ e. e; keeps = λ e. refl; ledger = refl; leaves = λ honest. record { coming = λ q l o. refl; rows = λ u o. refl; holdings = λ r o. refl } };
  cause = (refl, λ honest. (None, sym none, only_cause TableNotFound 5 refl));
}

-- and columns of other types
pub list_mismatches : (tables : List Table) (bound : List Bool) (scans : BTreeMap ℕ ListScan) (staged : Option ListWrite) (next pulled t : ℕ) (remote : List ℕ) (columns : List Column) (settings : List OptionForm) (x : Table) → entry_of (map table_listed tables) remote ≡ entry_at tables (Some t) → slice_get tables t ≡ Some x → types_match x.kinds.items (kinds_of columns) ≡ false → RefusesBind (list_state tables bound scans staged next pulled) remote columns settings (Refused InvalidDataType) (list_state tables bound scans staged next pulled)
list_mismatches tables bound scans staged next pulled t remote columns settings x is_entry at differs = record {
  refuses = record { nature = refl; next = next; rises = omega arith; stays = λ e. e; keeps = λ e. refl; ledger = refl; leaves = λ honest. record { coming = λ q l o. refl; rows = λ u o. refl; holdings = λ r o. refl } };
  cause = (refl, λ honest. (Some (stored x), sym (is_entry ∙ ap (option_map stored) at), subst (λ (r : Reading). IsLeast r.causes InvalidDataType) (sym reading) (only_cause InvalidDataType 5 refl)));
}
  where
    reading : list_reading (kinds_of columns) (Some (stored x)) ≡ record { causes = InvalidDataType ∷ []; rows = []; late = refl }
    reading = rw differs refl
