-- The rows that FROM brings are of the types of the columns in view, where the rows of each entry are of those of its table.
use Rattle.std.proofs.Common.{◌≡◌, ◌+◌, ℕ, suc, true, filter, arith, length, List, [], ◌∷◌, ◌++◌, map, flat_map, All, Some, slice_get, replicate, refl, sym, ap, ◌∙◌, subst, append_assoc, append-nil}
use Rattle.std.proofs.lemmas.List.{map-append}
use Rattle.std.proofs.lemmas.List.Elements.{All-cons, All-nil, All-head, All-tail, All-append, All-filter}
use Rattle.med_value.specs.Prelude.{Column, NoValue, Tuple}
use Rattle.med_value.specs.declared.value.ColType.{ColType}
use Rattle.med_syntax.specs.QueryTree.{EntryTree, JoinTree, inner_join, left_join, cross_join, ChainTree}
use Rattle.tri_expr.specs.Prelude.{OnClass, means, conjunct_trees}
use Rattle.med_query.specs.Prelude.{join_by, joins_by, chain_by, Tables, Chain, Table, beside, pairs, keeps, or_nulls, matched, joined_chain, joined_chains}
use Rattle.fdw_api.specs.Scan.{has_kind, is_clean, row_fits}
use Rattle.bind_names.specs.Scope.{TableShape, Scope, columns_of, joined_entry, chain_entries, entries_of, entry_columns, entry_shape, from_scope}
use Rattle.bind_names.specs.Meaning as names
use Rattle.bind_types.specs.TreeTypes.{column_kinds}
use Rattle.med_statements.specs.Typed.{AreTyped}
use Rattle.med_statements.proofs.Values.{null_fits, three, joined}

abbrev pub AllRows : List ColType → List Tuple → Type 0
AllRows kinds rows = All (λ r. row_fits kinds r ≡ true) rows

-- ---- rows side by side

beside_fits : (ks ls : List ColType) (x y : Tuple) → row_fits ks x ≡ true → row_fits ls y ≡ true → row_fits (ks ++ ls) (x ++ y) ≡ true
beside_fits [] ls [] y h k = k
beside_fits [] ls (v ∷ vs) y h k = absurd cc
beside_fits (t ∷ ks) ls [] y h k = absurd cc
beside_fits (t ∷ ks) ls (v ∷ vs) y h k =
    let parts = three (has_kind t v) (is_clean v) (row_fits ks vs) h in
    joined (has_kind t v) (is_clean v) (row_fits (ks ++ ls) (vs ++ y)) parts.0 (beside_fits ks ls vs y parts.1 k)

all_beside : (ks ls : List ColType) (x : Tuple) (ys : List Tuple) → row_fits ks x ≡ true → AllRows ls ys → AllRows (ks ++ ls) (beside x ys)
all_beside ks ls x [] h k = All-nil (λ r. row_fits (ks ++ ls) r ≡ true)
all_beside ks ls x (y ∷ ys) h k =
    All-cons (λ r. row_fits (ks ++ ls) r ≡ true) (x ++ y) (beside x ys)
    (beside_fits ks ls x y h (All-head (λ r. row_fits ls r ≡ true) y ys k)) (all_beside ks ls x ys h (All-tail (λ r. row_fits ls r ≡ true) y ys k))

all_flat : (ks ms : List ColType) (f : Tuple → List Tuple) → ((x : Tuple) → row_fits ks x ≡ true → AllRows ms (f x)) → (xs : List Tuple) → AllRows ks xs → AllRows ms (flat_map f xs)
all_flat ks ms f h [] k = All-nil (λ r. row_fits ms r ≡ true)
all_flat ks ms f h (x ∷ xs) k =
    All-append (λ r. row_fits ms r ≡ true) (f x) (flat_map f xs) (h x (All-head (λ r. row_fits ks r ≡ true) x xs k))
    (all_flat ks ms f h xs (All-tail (λ r. row_fits ks r ≡ true) x xs k))

pairs_fit : (ks ls : List ColType) (xs ys : List Tuple) → AllRows ks xs → AllRows ls ys → AllRows (ks ++ ls) (pairs xs ys)
pairs_fit ks ls xs ys h k = all_flat ks (ks ++ ls) (λ x. beside x ys) (λ x i. all_beside ks ls x ys i k) xs h

nulls_fit : (ls : List ColType) → row_fits ls (replicate (length ls) NoValue) ≡ true
nulls_fit [] = refl
nulls_fit (t ∷ ls) = joined (has_kind t NoValue) true (row_fits ls (replicate (length ls) NoValue)) (null_fits (Some t)) (nulls_fit ls)

or_nulls_fit : (ks ls : List ColType) (width : ℕ) (x : Tuple) (rows : List Tuple) → width ≡ length ls → row_fits ks x ≡ true → AllRows (ks ++ ls) rows → AllRows (ks ++ ls) (or_nulls width x rows)
or_nulls_fit ks ls width x [] e h k =
    All-cons (λ r. row_fits (ks ++ ls) r ≡ true) (x ++ replicate width NoValue) []
    (beside_fits ks ls x (replicate width NoValue) h (subst (λ n. row_fits ls (replicate n NoValue) ≡ true) (sym e) (nulls_fit ls))) (All-nil (λ r. row_fits (ks ++ ls) r ≡ true))
or_nulls_fit ks ls width x (r ∷ rs) e h k = k

matched_fit : (ks ls : List ColType) (on : List OnClass) (ys : List Tuple) (width : ℕ) (x : Tuple) → width ≡ length ls → row_fits ks x ≡ true → AllRows ls ys → AllRows (ks ++ ls) (matched on ys width x)
matched_fit ks ls on ys width x e h k =
    or_nulls_fit ks ls width x (filter (keeps on) (beside x ys)) e h (All-filter (keeps on) (λ r. row_fits (ks ++ ls) r ≡ true) (beside x ys) (all_beside ks ls x ys h k))

-- ---- one chain: its entries have these numbers, and bring these types

abbrev kinds_of_entry : List TableShape → EntryTree → List ColType
kinds_of_entry tables e = column_kinds (entry_columns tables e)

abbrev kinds_of_entries : List TableShape → List EntryTree → List ColType
kinds_of_entries tables es = flat_map (kinds_of_entry tables) es

width_is : (columns : List Column) → length columns ≡ length (column_kinds columns)
width_is [] = refl
width_is (c ∷ cs) = ap (λ n. suc n) (width_is cs)

-- the rows of the entries from this number on
abbrev pub AreTypedFrom : List TableShape → ℕ → List EntryTree → Tables → Type 0
AreTypedFrom tables number [] db = Unit {0}
AreTypedFrom tables number (e ∷ es) db = AllRows (kinds_of_entry tables e) (db number) × AreTypedFrom tables (suc number) es db

join_fits : (tables : List TableShape) (db : Tables) (left : Chain) (ks : List ColType) (s : Scope) (number : ℕ) (j : JoinTree)
    → AllRows ks (joined_chain db left) → AllRows (kinds_of_entry tables (joined_entry j)) (db number)
    → AllRows (ks ++ kinds_of_entry tables (joined_entry j))
    (joined_chain db (join_by left (names.join_meant s number (length (entry_columns tables (joined_entry j))) j)))
join_fits tables db left ks s number (inner_join e on) h k =
    All-filter (keeps (means [] (conjunct_trees (names.resolved s on)))) (λ r. row_fits (ks ++ kinds_of_entry tables e) r ≡ true) (pairs (joined_chain db left) (db number))
    (pairs_fit ks (kinds_of_entry tables e) (joined_chain db left) (db number) h k)
join_fits tables db left ks s number (left_join e on) h k =
    all_flat ks (ks ++ kinds_of_entry tables e) (matched (means [] (conjunct_trees (names.resolved s on))) (db number) (length (entry_columns tables e)))
    (λ x i. matched_fit ks (kinds_of_entry tables e) (means [] (conjunct_trees (names.resolved s on))) (db number) (length (entry_columns tables e)) x (width_is (entry_columns tables e)) i k)
    (joined_chain db left) h
join_fits tables db left ks s number (cross_join e) h k = pairs_fit ks (kinds_of_entry tables e) (joined_chain db left) (db number) h k

joins_fit : (tables : List TableShape) (db : Tables) (left : Chain) (ks : List ColType) (s : Scope) (number : ℕ) (js : List JoinTree)
    → AllRows ks (joined_chain db left) → AreTypedFrom tables number (map joined_entry js) db
    → AllRows (ks ++ kinds_of_entries tables (map joined_entry js)) (joined_chain db (joins_by left (names.joins_meant tables s number js)))
joins_fit tables db left ks s number [] h k = subst (λ ls. AllRows ls (joined_chain db left)) (sym (append-nil ks)) h
joins_fit tables db left ks s number (j ∷ js) h k =
    let t = names.with_join tables s j in
    let next = join_by left (names.join_meant t number (length (entry_columns tables (joined_entry j))) j) in
    subst (λ ls. AllRows ls (joined_chain db (joins_by next (names.joins_meant tables t (suc number) js))))
    (append_assoc ks (kinds_of_entry tables (joined_entry j)) (kinds_of_entries tables (map joined_entry js)))
    (joins_fit tables db next (ks ++ kinds_of_entry tables (joined_entry j)) t (suc number) js (join_fits tables db left ks t number j h k.0) k.1)

chain_fits : (tables : List TableShape) (db : Tables) (number : ℕ) (c : ChainTree) → AreTypedFrom tables number (chain_entries c) db
    → AllRows (kinds_of_entries tables (chain_entries c)) (joined_chain db (chain_by (names.chain_meant tables number c)))
chain_fits tables db number c h =
    joins_fit tables db (Table number) (kinds_of_entry tables c.first) (entry_shape tables c.first ∷ []) (suc number) c.joins h.0 h.1

-- ---- all of FROM

pub typed_left : (tables : List TableShape) (db : Tables) (number : ℕ) (es fs : List EntryTree) → AreTypedFrom tables number (es ++ fs) db → AreTypedFrom tables number es db
typed_left tables db number [] fs h = tt
typed_left tables db number (e ∷ es) fs h = (h.0, typed_left tables db (suc number) es fs h.1)

pub typed_right : (tables : List TableShape) (db : Tables) (number : ℕ) (es fs : List EntryTree) → AreTypedFrom tables number (es ++ fs) db → AreTypedFrom tables (number + length es) fs db
typed_right tables db number [] fs h = subst (λ n. AreTypedFrom tables n fs db) (let e : number ≡ number + 0 = omega arith in e) h
typed_right tables db number (e ∷ es) fs h =
    subst (λ n. AreTypedFrom tables n fs db) (let e : suc number + length es ≡ number + suc (length es) = omega arith in e) (typed_right tables db (suc number) es fs h.1)

kinds_apart : (tables : List TableShape) (es fs : List EntryTree) → kinds_of_entries tables (es ++ fs) ≡ kinds_of_entries tables es ++ kinds_of_entries tables fs
kinds_apart tables [] fs = refl
kinds_apart tables (e ∷ es) fs = ap (λ ls. kinds_of_entry tables e ++ ls) (kinds_apart tables es fs) ∙ sym (append_assoc (kinds_of_entry tables e) (kinds_of_entries tables es) (kinds_of_entries tables fs))

chains_fit : (tables : List TableShape) (db : Tables) (number : ℕ) (cs : List ChainTree) → AreTypedFrom tables number (entries_of cs) db
    → AllRows (kinds_of_entries tables (entries_of cs)) (joined_chains db (map chain_by (names.chains_meant tables number cs)))
chains_fit tables db number [] h = All-cons (λ r. row_fits [] r ≡ true) [] [] refl (All-nil (λ r. row_fits [] r ≡ true))
chains_fit tables db number (c ∷ []) h =
    subst (λ ls. AllRows ls (joined_chain db (chain_by (names.chain_meant tables number c))))
    (sym (ap (kinds_of_entries tables) (append-nil (chain_entries c))))
    (chain_fits tables db number c (typed_left tables db number (chain_entries c) [] h))
chains_fit tables db number (c ∷ d ∷ cs) h =
    subst (λ ls. AllRows ls (joined_chains db (map chain_by (names.chains_meant tables number (c ∷ d ∷ cs)))))
    (sym (kinds_apart tables (chain_entries c) (entries_of (d ∷ cs))))
    (pairs_fit (kinds_of_entries tables (chain_entries c)) (kinds_of_entries tables (entries_of (d ∷ cs))) (joined_chain db (chain_by (names.chain_meant tables number c)))
    (joined_chains db (map chain_by (names.chains_meant tables (number + length (chain_entries c)) (d ∷ cs))))
    (chain_fits tables db number c (typed_left tables db number (chain_entries c) (entries_of (d ∷ cs)) h))
    (chains_fit tables db (number + length (chain_entries c)) (d ∷ cs) (typed_right tables db number (chain_entries c) (entries_of (d ∷ cs)) h)))

-- entry by entry
typed_from : (tables : List TableShape) (db : Tables) (number : ℕ) (es : List EntryTree) → ((k : ℕ) (e : EntryTree) → slice_get es k ≡ Some e → AllRows (kinds_of_entry tables e) (db (number + k))) → AreTypedFrom tables number es db
typed_from tables db number [] h = tt
typed_from tables db number (e ∷ es) h = (
  subst (λ n. AllRows (kinds_of_entry tables e) (db n)) (let q : number + 0 ≡ number = omega arith in q) (h 0 e refl),
  typed_from tables db (suc number) es (λ k f there. subst (λ n. AllRows (kinds_of_entry tables f) (db n)) (let q : number + suc k ≡ suc number + k = omega arith in q) (h (suc k) f there)),
)

-- the columns in view
kinds_in_view : (tables : List TableShape) (es : List EntryTree) → kinds_of_entries tables es ≡ column_kinds (columns_of (map (entry_shape tables) es))
kinds_in_view tables [] = refl
kinds_in_view tables (e ∷ es) =
    ap (λ ls. kinds_of_entry tables e ++ ls) (kinds_in_view tables es)
    ∙ sym (map-append (λ (c : Column). c.kind) (entry_columns tables e) (columns_of (map (entry_shape tables) es)))

pub joined_fit : (tables : List TableShape) (db : Tables) (number : ℕ) (cs : List ChainTree) → AreTypedFrom tables number (entries_of cs) db
    → AllRows (column_kinds (columns_of (from_scope tables cs))) (joined_chains db (map chain_by (names.chains_meant tables number cs)))
joined_fit tables db number cs h =
    subst (λ ls. AllRows ls (joined_chains db (map chain_by (names.chains_meant tables number cs)))) (kinds_in_view tables (entries_of cs)) (chains_fit tables db number cs h)

-- the rows of all entries, entry by entry
pub all_typed : (tables : List TableShape) (db : Tables) (es : List EntryTree) → AreTyped tables es db → AreTypedFrom tables 0 es db
all_typed tables db es h = typed_from tables db 0 es (λ k e there. subst (λ n. AllRows (kinds_of_entry tables e) (db n)) (let q : k ≡ 0 + k = omega arith in q) (h k e there))
