-- Where no cause stands, no ON may fault.
use Rattle.std.proofs.Common.{◌≡◌, Bool, true, false, not, ◌&&◌, ◌||◌, List, [], ◌∷◌, ◌++◌, Result, Ok, Err, OnOk, map, flat_map, refl, sym, ◌∙◌}
use Rattle.std.specs.List.{list_any, list_all}
use Rattle.med_value.specs.declared.cause.Cause.{Cause}
use Rattle.tri_expr.specs.Prelude.{Tree, is_risky_tree}
use Rattle.med_query.specs.Prelude.{JoinForm, cross_form, inner_form, left_form, ChainForm, all_safe_trees, is_safe_join_form, are_safe_chains, core_form, are_safe_cores}
use Rattle.med_query.specs.declared.select.SelectCore.{SelectCore}
use Rattle.bind_names.specs.Telling.{Passes}
use Rattle.bind_types.specs.Typing.{unless, no_aggregate, no_risk, join_causes, chain_causes, core_causes}

pub left_empty : (xs ys : List Cause) → xs ++ ys ≡ [] → xs ≡ []
left_empty [] ys h = refl
left_empty (x ∷ xs) ys h = absurd cc

pub right_empty : (xs ys : List Cause) → xs ++ ys ≡ [] → ys ≡ []
right_empty [] ys h = h
right_empty (x ∷ xs) ys h = absurd cc

both : (a b : Bool) → a ≡ true → b ≡ true → (a && b) ≡ true
both a b p q = rw (p, q) refl

held : (b : Bool) (c : Cause) → unless b c ≡ [] → b ≡ true
held true c h = refl
held false c h = absurd cc

none_risky : (ts : List Tree) → not (list_any is_risky_tree ts) ≡ all_safe_trees ts
none_risky [] = refl
none_risky (t ∷ ts) =
    let go : (r : Bool) → not (r || list_any is_risky_tree ts) ≡ (not r && all_safe_trees ts) = elim [ true ↦ refl | false ↦ none_risky ts ] in go (is_risky_tree t)

safe_on : (ts : List Tree) → no_aggregate ts ++ no_risk ts ≡ [] → all_safe_trees ts ≡ true
safe_on ts h = sym (none_risky ts) ∙ held _ _ (right_empty (no_aggregate ts) (no_risk ts) h)

safe_join : (j : JoinForm) → join_causes j ≡ [] → is_safe_join_form j ≡ true
safe_join (cross_form n) h = refl
safe_join (inner_form n on) h = safe_on on h
safe_join (left_form n w on) h = safe_on on h

safe_joins : (js : List JoinForm) → flat_map join_causes js ≡ [] → list_all is_safe_join_form js ≡ true
safe_joins [] h = refl
safe_joins (j ∷ js) h = both _ _ (safe_join j (left_empty (join_causes j) (flat_map join_causes js) h)) (safe_joins js (right_empty (join_causes j) (flat_map join_causes js) h))

pub safe_chains : (cs : List ChainForm) → flat_map chain_causes cs ≡ [] → are_safe_chains cs ≡ true
safe_chains [] h = refl
safe_chains (c ∷ cs) h = both _ _ (safe_joins c.joins (left_empty (chain_causes c) (flat_map chain_causes cs) h)) (safe_chains cs (right_empty (chain_causes c) (flat_map chain_causes cs) h))

-- a query that passes has no cause
safe_froms : (cs : List SelectCore) → flat_map core_causes (map core_form cs) ≡ [] → are_safe_cores cs ≡ true
safe_froms [] h = refl
safe_froms (c ∷ cs) h =
    let here = left_empty (core_causes (core_form c)) (flat_map core_causes (map core_form cs)) h in
    both _ _ (safe_chains (core_form c).from (left_empty (flat_map chain_causes (core_form c).from) _ here)) (safe_froms cs (right_empty (core_causes (core_form c)) (flat_map core_causes (map core_form cs)) h))

pub safe_cores : {X : Type 0} (r : Result X Cause) (cs : List SelectCore) → Passes (flat_map core_causes (map core_form cs)) r → OnOk r (are_safe_cores cs ≡ true)
safe_cores (Ok x) cs p = safe_froms cs p
safe_cores (Err c) cs p = tt
