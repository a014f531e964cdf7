-- Names of the cores of a query, looked up part by part.
use Rattle.std.proofs.Common.{◌≡◌, ℕ, ◌+◌, ◌<◌, List, [], ◌∷◌, ◌++◌, map, flat_map, drop, length, get_or, if◌then◌else◌, refl, ap, sym, subst, ◌∙◌}
use Rattle.med_value.specs.declared.cause.Cause.{Cause}
use Rattle.med_syntax.specs.Prelude.{ItemTree, GroupTree, CoreTree, SelectTree, cores_of, core_tree}
use Rattle.med_syntax.specs.declared.statement.Core.{Core}
use Rattle.tri_expr.specs.Tree.{Tree}
use Rattle.med_query.specs.Form.{CoreForm}
use Rattle.bind_names.specs.Prelude.{TableShape, Scope, columns_of, entries_of, from_scope, chain_name_causes, item_name_causes, condition_name_causes, group_name_causes, core_causes_in, core_asked_causes, order_causes_in, order_name_causes, asked_causes, Output, outputs_of, output_values, core_outputs, is_empty, key_meant, key_place, Sorting, by_keys, by_places, keys_sorting, sorting_in, sorting_of, core_meant, cores_meant, TellsCause}
use Rattle.bind_names.proofs.Added.{added_after}
use Rattle.bind_names.proofs.Causes.{tells_left, tells_right}
use Rattle.bind_names.proofs.Parts.{drop_read}
use Rattle.bind_types.specs.TreeTypes.{tree_type, column_kinds}
use Rattle.bind_types.specs.Typing.{core_types}
use Rattle.med_binder.specs.Looking.{parts_causes, IsAsked, core_with, core_over, IsCompleted, IsResolved, Leaves}
use Rattle.med_binder.specs.declared.cores.AskedCore.{AskedCore}
use Rattle.med_binder.specs.declared.cores.ResolvedCore.{ResolvedCore}

-- ---- what the first core says

pub shown_same : (tables : List TableShape) (c : CoreTree) (s : Scope) (items : List ItemTree) (outs : List Output) → s ≡ from_scope tables c.from → items ≡ c.items → outs ≡ outputs_of s items → outs ≡ core_outputs tables c
shown_same tables c s items outs e i h = h ∙ ap (λ (s : Scope). outputs_of s items) e ∙ ap (outputs_of (from_scope tables c.from)) i

pub head_items : (tables : List TableShape) (q : SelectTree) (s : Scope) (items : List ItemTree) (c : Cause) → s ≡ from_scope tables q.core.from → items ≡ q.core.items → TellsCause (flat_map (item_name_causes s) items) c
    → TellsCause (asked_causes tables q) c
head_items tables q s items c e i t =
    tells_left _ (order_name_causes tables q) c
    (tells_left (core_asked_causes tables q.core) (flat_map (core_asked_causes tables) q.others) c
    (tells_right (flat_map (chain_name_causes tables) q.core.from) _ c
    (tells_left _ _ c (subst (λ (xs : List Cause). TellsCause xs c) (ap (λ (s : Scope). flat_map (item_name_causes s) items) e ∙ ap (flat_map (item_name_causes (from_scope tables q.core.from))) i) t))))

order_same : (tables : List TableShape) (q : SelectTree) (s : Scope) (outs : List Output) → s ≡ from_scope tables q.core.from → outs ≡ core_outputs tables q.core → order_causes_in s outs q ≡ order_name_causes tables q
order_same tables q s outs e o = ap (λ (s : Scope). order_causes_in s outs q) e ∙ ap (λ (os : List Output). order_causes_in (from_scope tables q.core.from) os q) o

pub head_order : (tables : List TableShape) (q : SelectTree) (s : Scope) (outs : List Output) (c : Cause) → s ≡ from_scope tables q.core.from → outs ≡ core_outputs tables q.core → TellsCause (order_causes_in s outs q) c
    → TellsCause (asked_causes tables q) c
head_order tables q s outs c e o t = tells_right (flat_map (core_asked_causes tables) (cores_of q)) _ c (subst (λ (xs : List Cause). TellsCause xs c) (order_same tables q s outs e o) t)

pub order_clear : (tables : List TableShape) (q : SelectTree) (s : Scope) (outs : List Output) → s ≡ from_scope tables q.core.from → outs ≡ core_outputs tables q.core → order_causes_in s outs q ≡ [] → order_name_causes tables q ≡ []
order_clear tables q s outs e o h = sym (order_same tables q s outs e o) ∙ h

pub sorting_same : (tables : List TableShape) (q : SelectTree) (s : Scope) (outs : List Output) → s ≡ from_scope tables q.core.from → outs ≡ core_outputs tables q.core
    → sorting_in s outs q ≡ sorting_in (from_scope tables q.core.from) (core_outputs tables q.core) q
sorting_same tables q s outs e o = ap (λ (s : Scope). sorting_in s outs q) e ∙ ap (λ (os : List Output). sorting_in (from_scope tables q.core.from) os q) o

-- ---- what is asked of the entries of a core, part by part

pub item_told : (tables : List TableShape) (s : Scope) (q : CoreTree) (items : List ItemTree) (c : Cause) → items ≡ q.items → TellsCause (flat_map (item_name_causes s) items) c → TellsCause (core_causes_in tables s q) c
item_told tables s q items c e t = tells_right (flat_map (chain_name_causes tables) q.from) _ c (tells_left _ _ c (subst (λ xs. TellsCause (flat_map (item_name_causes s) xs) c) e t))

pub condition_told : (tables : List TableShape) (s : Scope) (q : CoreTree) (c : Cause) → TellsCause (condition_name_causes s q.condition) c → TellsCause (core_causes_in tables s q) c
condition_told tables s q c t = tells_right (flat_map (chain_name_causes tables) q.from) _ c (tells_right (flat_map (item_name_causes s) q.items) _ c (tells_left _ _ c t))

pub group_told : (tables : List TableShape) (s : Scope) (q : CoreTree) (groups : List GroupTree) (c : Cause) → groups ≡ q.groups → TellsCause (flat_map (group_name_causes s) groups) c → TellsCause (core_causes_in tables s q) c
group_told tables s q groups c e t =
    tells_right (flat_map (chain_name_causes tables) q.from) _ c
    (tells_right (flat_map (item_name_causes s) q.items) _ c
    (tells_right (condition_name_causes s q.condition) _ c (tells_left _ _ c (subst (λ xs. TellsCause (flat_map (group_name_causes s) xs) c) e t))))

pub having_told : (tables : List TableShape) (s : Scope) (q : CoreTree) (c : Cause) → TellsCause (condition_name_causes s q.having) c → TellsCause (core_causes_in tables s q) c
having_told tables s q c t =
    tells_right (flat_map (chain_name_causes tables) q.from) _ c
    (tells_right (flat_map (item_name_causes s) q.items) _ c
    (tells_right (condition_name_causes s q.condition) _ c (tells_right (flat_map (group_name_causes s) q.groups) _ c t)))

-- ---- a core

pub core_told : (tables : List TableShape) (q : CoreTree) (s : Scope) (c : Cause) → s ≡ from_scope tables q.from → TellsCause (core_causes_in tables s q) c → TellsCause (core_asked_causes tables q) c
core_told tables q s c e t = subst (λ (s : Scope). TellsCause (core_causes_in tables s q) c) e t

-- what its items ask, and all else that it asks
pub core_clear : (tables : List TableShape) (q : CoreTree) (s : Scope) (items : List ItemTree) → s ≡ from_scope tables q.from → items ≡ q.items → flat_map (item_name_causes s) items ≡ [] → parts_causes tables s q ≡ []
    → core_asked_causes tables q ≡ []
core_clear tables q s items e i h k =
    let rest = condition_name_causes s q.condition ++ (flat_map (group_name_causes s) q.groups ++ condition_name_causes s q.having) in
    ap (λ (s : Scope). core_causes_in tables s q) (sym e)
    ∙ ap (λ (xs : List Cause). flat_map (chain_name_causes tables) q.from ++ (xs ++ rest)) (ap (flat_map (item_name_causes s)) (sym i) ∙ h) ∙ k

pub formed : (tables : List TableShape) (s : Scope) (number : ℕ) (c : CoreTree) (items keys : List Tree) (a : AskedCore) → IsAsked tables s number c a → core_with c items keys a ≡ core_over tables s number c items keys
formed tables s number c items keys a h = rw (h.from, h.conditions, h.places, h.having) refl

pub core_same : (tables : List TableShape) (sorting : Sorting) (number : ℕ) (c : CoreTree) (s : Scope) (items keys : List Tree) → s ≡ from_scope tables c.from → items ≡ output_values (core_outputs tables c) → keys ≡ keys_sorting sorting items
    → core_over tables s number c items keys ≡ core_meant tables sorting number c
core_same tables sorting number c s items keys e i k =
    ap (λ (s : Scope). core_over tables s number c items keys) e
    ∙ ap (λ (ks : List Tree). core_over tables (from_scope tables c.from) number c items ks) k
    ∙ ap (λ (is : List Tree). core_over tables (from_scope tables c.from) number c is (keys_sorting sorting is)) i

pub types_same : (tables : List TableShape) (c : CoreTree) (s : Scope) (items : List Tree) → s ≡ from_scope tables c.from → items ≡ output_values (core_outputs tables c) → map (tree_type (column_kinds (columns_of s))) items ≡ core_types tables c
types_same tables c s items e i =
    ap (λ (s : Scope). map (tree_type (column_kinds (columns_of s))) items) e ∙ ap (map (tree_type (column_kinds (columns_of (from_scope tables c.from))))) i

-- a core that was completed is resolved
pub completed_is : (tables : List TableShape) (sorting : Sorting) (number : ℕ) (c : CoreTree) (s : Scope) (written : List ItemTree) (items keys : List Tree) (r : ResolvedCore) → s ≡ from_scope tables c.from → written ≡ c.items
    → flat_map (item_name_causes s) written ≡ [] → items ≡ output_values (core_outputs tables c) → keys ≡ keys_sorting sorting items → IsCompleted tables s number c items keys r → IsResolved tables sorting number c r
completed_is tables sorting number c s written items keys r e w n i k h = record {
  form = h.form ∙ core_same tables sorting number c s items keys e i k;
  kinds = h.kinds ∙ types_same tables c s items e i;
  clear = core_clear tables c s written e w n h.clear;
}

pub first_told : (tables : List TableShape) (q : SelectTree) (s : Scope) (c : Cause) → s ≡ from_scope tables q.core.from → TellsCause (core_causes_in tables s q.core) c → TellsCause (asked_causes tables q) c
first_told tables q s c e t = tells_left _ (order_name_causes tables q) c (tells_left (core_asked_causes tables q.core) (flat_map (core_asked_causes tables) q.others) c (core_told tables q.core s c e t))

-- ---- by what the others are sorted

sorted_by_rest : (tables : List TableShape) (ks : List Tree) (ps : List ℕ) (rest : Sorting) (n : ℕ) (cs : List CoreTree) → Leaves (if is_empty cs then by_keys ks else by_places ps) rest
    → cores_meant tables rest n cs ≡ cores_meant tables (if is_empty cs then by_keys ks else by_places ps) n cs
sorted_by_rest tables ks ps rest n [] h = refl
sorted_by_rest tables ks ps rest n (c ∷ cs) h = ap (λ (s : Sorting). cores_meant tables s n (c ∷ cs)) h

pub others_sorted : (tables : List TableShape) (q : SelectTree) (rest : Sorting) (n : ℕ) → Leaves (sorting_of tables q) rest → cores_meant tables rest n q.others ≡ cores_meant tables (sorting_of tables q) n q.others
others_sorted tables q rest n h =
    let s = from_scope tables q.core.from in
    let outs = core_outputs tables q.core in
    sorted_by_rest tables (map (key_meant s outs) q.keys) (map (key_place outs) q.keys) rest n q.others h

-- ---- one core after another

pub cores_next : (tables : List TableShape) (sorting : Sorting) (all out new : List CoreForm) (n m : ℕ) (xs : List Core) (i : ℕ) (x : Core) → out ++ cores_meant tables sorting n (map core_tree (drop i xs)) ≡ all → i < length xs → x ≡ get_or xs i x
    → m ≡ n + length (entries_of (core_tree x).from) → new ≡ out ++ core_meant tables sorting n (core_tree x) ∷ [] → new ++ cores_meant tables sorting m (map core_tree (drop (i + 1) xs)) ≡ all
cores_next tables sorting all out new n m xs i x e lt read g h =
    let rest = map core_tree (drop (i + 1) xs) in
    ap (λ k. new ++ cores_meant tables sorting k rest) g
    ∙ added_after all out new (core_meant tables sorting n (core_tree x) ∷ []) (cores_meant tables sorting (n + length (entries_of (core_tree x).from)) rest)
    (ap (λ ys. out ++ cores_meant tables sorting n (map core_tree ys)) (sym (drop_read xs i x lt read)) ∙ e) h
