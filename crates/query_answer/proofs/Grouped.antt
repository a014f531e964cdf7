-- A core that groups: its outputs over its groups in any order.
use Rattle.std.proofs.Common.{◌≡◌, ◌≤◌, ◌^◌, ℕ, List, [], ◌∷◌, ◌++◌, map, filter, flat_map, length, refl, sym, ap, ◌∙◌, Contains, subst, IsPermutation, arith, append-nil, Option, Some}
use Rattle.std.proofs.lemmas.List.Sorted.{IsPermutation-sym}
use Rattle.std.proofs.lemmas.List.Elements.{Contains-append_left, Contains-append_right}
use Rattle.med_value.specs.Datum.{Tuple}
use Rattle.tri_expr.specs.declared.expr.Expr.{Expr}
use Rattle.tri_expr.specs.declared.expr.Fault.{Fault}
use Rattle.tri_expr.specs.declared.expr.EvalFault.{EvalFault}
use Rattle.tri_expr.specs.Prelude.{over, OnClass, is_in, faults_told}
use Rattle.med_query.specs.Laws.{IsSteady, IsSteadyCore, AllIgnoreOrder, AnswersIgnoreOrder}
use Rattle.med_query.specs.Query.{Core, Query, Chain, Table, Tables, SameRows, Output, senses, keeps, joined_chains, classes_by, core_faults, core_outputs, outputs_all, alone, IsTold, output_faults, Grouping as Groups}
use Rattle.query_answer.specs.Staging.{row_kept, where_told, arguments_told, class_output, class_staged, class_told}
use Rattle.query_answer.specs.Answering.{IsSmall}
use Rattle.med_query.proofs.Telling.{tells_more}
use Rattle.query_answer.proofs.ToldParts.{both_told, quiet_parts, told_parts}
use Rattle.query_answer.proofs.Joining.{all_kept}
use Rattle.query_answer.proofs.Ungrouped.{none_told, kept_mapped, kept_filtered, Stages, staged_core}
use Rattle.query_answer.proofs.Folded.{AreGroups}

abbrev pub groups_by : List ℕ → List OnClass → List OnClass → Option Groups
groups_by columns arguments having = Some (record { keys = columns; arguments = arguments; having = having })

-- the laws of answers in any order
abbrev pub AnyOrder : Type 0
AnyOrder = (q : Query) (db other : Tables) → IsSteady q → SameRows db other → AnswersIgnoreOrder q db other

-- over the same rows in any order a core has the same outputs, and the same faults may be told
record CoreIgnoresOrder (c : Core) (db other : Tables) : Type 0 where
  outputs : IsPermutation (core_outputs c db) (core_outputs c other)
  told : (f : Fault) → Contains (core_faults c db) f → Contains (core_faults c other) f

of_core : AnyOrder → (c : Core) (db other : Tables) → IsSteadyCore c → SameRows db other → CoreIgnoresOrder c db other
of_core any c db other w h =
    let moved : AnswersIgnoreOrder (alone c) db other = any (alone c) db other (w, tt) h in
    record {
      outputs = subst (λ (l : List Output). IsPermutation l (core_outputs c other)) (append-nil (core_outputs c db)) (subst (λ (l : List Output). IsPermutation (core_outputs c db ++ []) l) (append-nil (core_outputs c other)) moved.outputs);
      told = λ f t. subst (λ (l : List Fault). Contains l f) (append-nil (core_faults c other)) (moved.told f (subst (λ (l : List Fault). Contains l f) (sym (append-nil (core_faults c db))) t));
    }

abbrev pub Steady : Type 0
Steady = (params : Tuple) (es : List Expr) → AllIgnoreOrder (senses params es)

-- the groups alone: one table, no WHERE, no arguments
abbrev groups_alone : List ℕ → List OnClass → List OnClass → List OnClass → Core
groups_alone at having keys items = staged_core (Table 0 ∷ []) [] (groups_by at [] having) keys items

abbrev over_groups : List OnClass → List OnClass → List OnClass → List (List Tuple) → List Fault
over_groups having keys items gs = both_told (λ c. faults_told (over having c)) (output_faults keys items) (λ c. is_in (over having c)) gs

alone_faults : (at : List ℕ) (having keys items : List OnClass) (rows : List Tuple) → core_faults (groups_alone at having keys items) (λ t. rows) ≡ over_groups having keys items (classes_by at rows)
alone_faults at having keys items rows =
    let a : flat_map (where_told []) rows ≡ [] = none_told (where_told []) (λ r. refl) rows in
    let b : flat_map (arguments_told []) (filter (keeps []) rows) ≡ [] = none_told (arguments_told []) (λ r. refl) (filter (keeps []) rows) in
    ap (λ (gs : List Fault). gs ++ (flat_map (arguments_told []) (filter (keeps []) rows) ++ over_groups having keys items (classes_by at (filter (keeps []) rows)))) a
    ∙ ap (λ (gs : List Fault). gs ++ over_groups having keys items (classes_by at (filter (keeps []) rows))) b
    ∙ ap (λ (rs : List Tuple). over_groups having keys items (classes_by at rs)) (all_kept rows)

alone_outputs : (at : List ℕ) (having keys items : List OnClass) (rows : List Tuple) → outputs_all (groups_alone at having keys items) (λ t. rows) ≡ map (class_output keys items) (filter (λ c. is_in (over having c)) (classes_by at rows))
alone_outputs at having keys items rows = ap (λ (rs : List Tuple). map (class_output keys items) (filter (λ c. is_in (over having c)) (classes_by at rs))) (all_kept rows)

steady : Steady → (at : List ℕ) (having keys items : List Expr) → IsSteadyCore (groups_alone at (senses [] having) (senses [] keys) (senses [] items))
steady law at having keys items = record { having = law [] having; keys = law [] keys; items = law [] items }

-- the faults of such a core
group_faults : (from : List Chain) (fs : List OnClass) (at : List ℕ) (arguments having keys items : List OnClass) (db : Tables) (rows kept : List Tuple) → joined_chains db from ≡ rows → kept ≡ flat_map (row_kept fs) rows
    → core_faults (staged_core from fs (groups_by at arguments having) keys items) db ≡ flat_map (where_told fs) rows ++ (flat_map (arguments_told arguments) kept ++ over_groups having keys items (classes_by at kept))
group_faults from fs at arguments having keys items db rows kept j k =
    rw j (ap (λ (rs : List Tuple). flat_map (where_told fs) rows ++ (flat_map (arguments_told arguments) rs ++ over_groups having keys items (classes_by at rs))) (sym (k ∙ kept_filtered (keeps fs) rows)))

group_outputs : (from : List Chain) (fs : List OnClass) (at : List ℕ) (arguments having keys items : List OnClass) (db : Tables) (rows kept : List Tuple) → joined_chains db from ≡ rows → kept ≡ flat_map (row_kept fs) rows
    → outputs_all (staged_core from fs (groups_by at arguments having) keys items) db ≡ map (class_output keys items) (filter (λ c. is_in (over having c)) (classes_by at kept))
group_outputs from fs at arguments having keys items db rows kept j k =
    rw j (ap (λ (rs : List Tuple). map (class_output keys items) (filter (λ c. is_in (over having c)) (classes_by at rs))) (sym (k ∙ kept_filtered (keeps fs) rows)))

nothing_in : (fs gs : List Fault) → ((c : Fault) → Contains fs c → Contains gs c) → gs ≡ [] → fs ≡ []
nothing_in [] gs h e = refl
nothing_in (f ∷ fs) gs h e = absurd (let k : Contains [] f = subst (λ l. Contains l f) e (h f (0, omega arith, refl)) in let n = k.1 in omega arith)

pub group_stages : AnyOrder → Steady → (from : List Chain) (fs : List OnClass) (at : List ℕ) (arguments : List OnClass) (having keys items : List Expr) (db : Tables) (rows kept : List Tuple) (gs : List (List Tuple)) (outs : List Output)
    → joined_chains db from ≡ rows → kept ≡ flat_map (row_kept fs) rows → flat_map (where_told fs) rows ≡ [] → flat_map (arguments_told arguments) kept ≡ [] → AreGroups at kept gs
    → outs ≡ flat_map (class_staged (senses [] having) (senses [] keys) (senses [] items)) gs → flat_map (class_told (senses [] having) (senses [] keys) (senses [] items)) gs ≡ []
    → Stages (staged_core from fs (groups_by at arguments (senses [] having)) (senses [] keys) (senses [] items)) db outs
group_stages any law from fs at arguments having keys items db rows kept gs outs j k w a g o quiet =
    let hs = senses [] having in
    let ks = senses [] keys in
    let is = senses [] items in
    let q = groups_alone at hs ks is in
    let moved : CoreIgnoresOrder q (λ t. kept) (λ t. g.ordered) = of_core any q (λ t. kept) (λ t. g.ordered) (steady law at having keys items) (λ t. g.same) in
    let still : core_faults q (λ t. g.ordered) ≡ [] = alone_faults at hs ks is g.ordered ∙ ap (over_groups hs ks is) (sym g.are) ∙ quiet_parts (λ c. faults_told (over hs c)) (output_faults ks is) (λ c. is_in (over hs c)) gs quiet in
    let none : over_groups hs ks is (classes_by at kept) ≡ [] = sym (alone_faults at hs ks is kept) ∙ nothing_in (core_faults q (λ t. kept)) (core_faults q (λ t. g.ordered)) moved.told still in
    let made : outputs_all q (λ t. g.ordered) ≡ outs = alone_outputs at hs ks is g.ordered ∙ ap (λ (cs : List (List Tuple)). map (class_output ks is) (filter (λ c. is_in (over hs c)) cs)) (sym g.are) ∙ sym (kept_mapped (λ c. is_in (over hs c)) (class_output ks is) gs) ∙ sym o in
    let same : outputs_all q (λ t. kept) ≡ outputs_all (staged_core from fs (groups_by at arguments hs) ks is) db = alone_outputs at hs ks is kept ∙ sym (group_outputs from fs at arguments hs ks is db rows kept j k) in
    record {
      no_fault = group_faults from fs at arguments hs ks is db rows kept j k ∙ rw (w, a) none;
      same = subst (λ l. IsPermutation l outs) same (subst (λ l. IsPermutation (outputs_all q (λ t. kept)) l) made moved.outputs);
    }

-- the faults that it answers
pub tells_where : (f : EvalFault) (from : List Chain) (fs : List OnClass) (at : List ℕ) (arguments having keys items : List OnClass) (db : Tables) (rows : List Tuple) → joined_chains db from ≡ rows → IsTold f (flat_map (where_told fs) rows) → IsTold f (core_faults (staged_core from fs (groups_by at arguments having) keys items) db)
tells_where f from fs at arguments having keys items db rows j h =
    let kept = flat_map (row_kept fs) rows in
    tells_more f _ _ (λ c t. rw (group_faults from fs at arguments having keys items db rows kept j refl) (Contains-append_left (flat_map (where_told fs) rows) (flat_map (arguments_told arguments) kept ++ over_groups having keys items (classes_by at kept)) c t)) h

pub tells_arguments : (f : EvalFault) (from : List Chain) (fs : List OnClass) (at : List ℕ) (arguments having keys items : List OnClass) (db : Tables) (rows kept : List Tuple) → joined_chains db from ≡ rows → kept ≡ flat_map (row_kept fs) rows → IsTold f (flat_map (arguments_told arguments) kept) → IsTold f (core_faults (staged_core from fs (groups_by at arguments having) keys items) db)
tells_arguments f from fs at arguments having keys items db rows kept j k h =
    tells_more f _ _ (λ c t. rw (group_faults from fs at arguments having keys items db rows kept j k) (Contains-append_right (flat_map (where_told fs) rows) (flat_map (arguments_told arguments) kept ++ over_groups having keys items (classes_by at kept)) c (Contains-append_left (flat_map (arguments_told arguments) kept) (over_groups having keys items (classes_by at kept)) c t))) h

-- how many rows it groups over
pub groups_small : (from : List Chain) (fs : List OnClass) (at : List ℕ) (arguments having keys items : List OnClass) (db : Tables) (rows kept : List Tuple) → joined_chains db from ≡ rows → kept ≡ flat_map (row_kept fs) rows → length kept ≤ 2 ^ 62 → IsSmall (staged_core from fs (groups_by at arguments having) keys items) db
groups_small from fs at arguments having keys items db rows kept j k h = λ g. subst (λ (l : List Tuple). length l ≤ 2 ^ 62) (k ∙ kept_filtered (keeps fs) rows ∙ ap (filter (keeps fs)) (sym j)) h

pub tells_groups : (f : EvalFault) → AnyOrder → Steady → (from : List Chain) (fs : List OnClass) (at : List ℕ) (arguments : List OnClass) (having keys items : List Expr) (db : Tables) (rows kept : List Tuple) (gs : List (List Tuple)) → joined_chains db from ≡ rows → kept ≡ flat_map (row_kept fs) rows → AreGroups at kept gs
    → IsTold f (flat_map (class_told (senses [] having) (senses [] keys) (senses [] items)) gs) → IsTold f (core_faults (staged_core from fs (groups_by at arguments (senses [] having)) (senses [] keys) (senses [] items)) db)
tells_groups f any law from fs at arguments having keys items db rows kept gs j k g h =
    let hs = senses [] having in
    let ks = senses [] keys in
    let is = senses [] items in
    let q = groups_alone at hs ks is in
    let moved : CoreIgnoresOrder q (λ t. g.ordered) (λ t. kept) = of_core any q (λ t. g.ordered) (λ t. kept) (steady law at having keys items) (λ t. IsPermutation-sym kept g.ordered g.same) in
    tells_more f _ _ (λ c t.
    let here : Contains (over_groups hs ks is gs) c = told_parts (λ c. faults_told (over hs c)) (output_faults ks is) (λ c. is_in (over hs c)) gs c t in
    let there : Contains (core_faults q (λ t. g.ordered)) c = subst (λ l. Contains l c) (sym (alone_faults at hs ks is g.ordered ∙ ap (over_groups hs ks is) (sym g.are))) here in
    let back : Contains (over_groups hs ks is (classes_by at kept)) c = subst (λ l. Contains l c) (alone_faults at hs ks is kept) (moved.told c there) in
    rw (group_faults from fs at arguments hs ks is db rows kept j k) (Contains-append_right (flat_map (where_told fs) rows) (flat_map (arguments_told arguments) kept ++ over_groups hs ks is (classes_by at kept)) c (Contains-append_right (flat_map (arguments_told arguments) kept) (over_groups hs ks is (classes_by at kept)) c back))) h
