-- Joins, one after the other.
use Rattle.std.proofs.Common.{◌≡◌, ℕ, suc, ◌+◌, ◌<◌, List, [], ◌∷◌, ◌++◌, length, map, drop, get_or, ap, sym, ◌∙◌, add-one, arith}
use Rattle.std.proofs.lemmas.List.{map-append, length-map}
use Rattle.med_value.specs.Column.{column_of}
use Rattle.med_value.specs.declared.cause.Cause.{Cause}
use Rattle.med_syntax.specs.Prelude.{EntryTree, join_tree, chain_tree}
use Rattle.med_syntax.specs.declared.statement.Chain.{Chain}
use Rattle.med_syntax.specs.declared.statement.Join.{Join}
use Rattle.med_query.specs.Form.{JoinForm, ChainForm}
use Rattle.bind_names.specs.Prelude.{TableShape, Scope, visible, scope_of, entry_shape, entry_columns, joined_entry, chain_entries, on_name_causes, joins_name_causes, with_join, join_meant, joins_meant, chain_meant, chains_meant, TellsCause}
use Rattle.bind_names.specs.declared.scope.Visible.{Visible}
use Rattle.bind_names.proofs.Causes.{tells_first, next_causes}
use Rattle.bind_names.proofs.Added.{added_after}
use Rattle.bind_names.proofs.Parts.{drop_read}

pub one_suc : (m n : ℕ) → m ≡ n + 1 → m ≡ suc n
one_suc m n h = h ∙ add-one n

pub brought : (xs ys : List Visible) (v : Visible) (e : TableShape) → ys ≡ xs ++ v ∷ [] → visible v ≡ e → scope_of ys ≡ scope_of xs ++ e ∷ []
brought xs ys v e h k = ap scope_of h ∙ map-append visible xs (v ∷ []) ∙ ap (λ t. scope_of xs ++ t ∷ []) k

pub width_of : (v : Visible) (tables : List TableShape) (e : EntryTree) → visible v ≡ entry_shape tables e → length v.columns.now ≡ length (entry_columns tables e)
width_of v tables e h = sym (length-map v.columns.now column_of) ∙ ap (λ (t : TableShape). length t.columns) h

pub joins_next : (tables : List TableShape) (all out new : List JoinForm) (before after : Scope) (last table : ℕ) (xs : List Join) (i : ℕ) (x : Join) → out ++ joins_meant tables before (suc last) (map join_tree (drop i xs)) ≡ all
    → i < length xs → x ≡ get_or xs i x → table ≡ suc last → after ≡ with_join tables before (join_tree x)
    → new ≡ out ++ join_meant (with_join tables before (join_tree x)) (suc last) (length (entry_columns tables (joined_entry (join_tree x)))) (join_tree x) ∷ []
    → new ++ joins_meant tables after (suc table) (map join_tree (drop (i + 1) xs)) ≡ all
joins_next tables all out new before after last table xs i x e lt read t s h =
    let rest = map join_tree (drop (i + 1) xs) in
    ap (λ k. new ++ joins_meant tables after (suc k) rest) t ∙ ap (λ k. new ++ joins_meant tables k (suc (suc last)) rest) s
    ∙ added_after all out new (join_meant (with_join tables before (join_tree x)) (suc last) (length (entry_columns tables (joined_entry (join_tree x)))) (join_tree x) ∷ [])
    (joins_meant tables (with_join tables before (join_tree x)) (suc (suc last)) rest)
    (ap (λ ys. out ++ joins_meant tables before (suc last) (map join_tree ys)) (sym (drop_read xs i x lt read)) ∙ e) h

pub joins_told : (tables : List TableShape) (all : List Cause) (before : Scope) (xs : List Join) (i : ℕ) (x : Join) (c : Cause) → all ≡ joins_name_causes tables before (map join_tree (drop i xs)) → i < length xs → x ≡ get_or xs i x
    → TellsCause (on_name_causes (with_join tables before (join_tree x)) (join_tree x)) c → TellsCause all c
joins_told tables all before xs i x c e lt read h =
    tells_first all (on_name_causes (with_join tables before (join_tree x)) (join_tree x)) _ c (e ∙ ap (λ ys. joins_name_causes tables before (map join_tree ys)) (drop_read xs i x lt read)) h

pub joins_clear : (tables : List TableShape) (all : List Cause) (before after : Scope) (xs : List Join) (i : ℕ) (x : Join) → all ≡ joins_name_causes tables before (map join_tree (drop i xs)) → i < length xs → x ≡ get_or xs i x
    → after ≡ with_join tables before (join_tree x) → on_name_causes (with_join tables before (join_tree x)) (join_tree x) ≡ [] → all ≡ joins_name_causes tables after (map join_tree (drop (i + 1) xs))
joins_clear tables all before after xs i x e lt read s h =
    next_causes all (on_name_causes (with_join tables before (join_tree x)) (join_tree x)) _ (e ∙ ap (λ ys. joins_name_causes tables before (map join_tree ys)) (drop_read xs i x lt read)) h
    ∙ ap (λ k. joins_name_causes tables k (map join_tree (drop (i + 1) xs))) (sym s)

pub chain_length : (c : Chain) → length (chain_entries (chain_tree c)) ≡ suc (length c.joins.items)
chain_length c = ap (λ n. suc n) (length-map (map join_tree c.joins.items) joined_entry ∙ length-map c.joins.items join_tree)

pub after_chain : (m n : ℕ) (c : Chain) (k : ℕ) → k ≡ n + length c.joins.items → m ≡ k + 1 → m ≡ n + length (chain_entries (chain_tree c))
after_chain m n c k h g = let e = chain_length c in omega (arith, h, g, e)

pub chains_next : (tables : List TableShape) (all out new : List ChainForm) (n m : ℕ) (xs : List Chain) (i : ℕ) (x : Chain) → out ++ chains_meant tables n (map chain_tree (drop i xs)) ≡ all → i < length xs → x ≡ get_or xs i x
    → m ≡ n + length (chain_entries (chain_tree x)) → new ≡ out ++ chain_meant tables n (chain_tree x) ∷ [] → new ++ chains_meant tables m (map chain_tree (drop (i + 1) xs)) ≡ all
chains_next tables all out new n m xs i x e lt read g h =
    let rest = map chain_tree (drop (i + 1) xs) in
    ap (λ k. new ++ chains_meant tables k rest) g
    ∙ added_after all out new (chain_meant tables n (chain_tree x) ∷ []) (chains_meant tables (n + length (chain_entries (chain_tree x))) rest)
    (ap (λ ys. out ++ chains_meant tables n (map chain_tree ys)) (sym (drop_read xs i x lt read)) ∙ e) h
