-- A core that does not group: its classes are its rows, one by one.
use Rattle.std.proofs.Common.{IsPermutation, subst, ◌≡◌, Bool, true, false, cond, List, [], ◌∷◌, ◌++◌, map, filter, flat_map, refl, sym, ap, ◌∙◌, None, Result, Ok, Err, Option}
use Rattle.std.proofs.lemmas.List.Sorted.{IsPermutation-refl}
use Rattle.med_value.specs.Datum.{Tuple}
use Rattle.tri_expr.specs.declared.expr.Fault.{Fault}
use Rattle.tri_expr.specs.declared.expr.EvalFault.{EvalFault}
use Rattle.tri_expr.specs.Prelude.{over, OnClass, faults_told, fault_list}
use Rattle.med_query.specs.Query.{Core, Chain, Tables, Output, on_row, keeps, joined_chains, classes, kept_classes, class_faults, core_faults, output, outputs_all, has_class, TellsFault, output_faults, Grouping as Groups}
use Rattle.query_answer.specs.Staging.{where_told, row_staged, row_told_all}
use Rattle.med_query.proofs.Telling.{tells_more}
use Rattle.query_answer.proofs.ToldParts.{both_told, quiet_parts, told_parts}

-- a core of which nothing but its outputs is asked
abbrev pub staged_core : List Chain → List OnClass → Option Groups → List OnClass → List OnClass → Core
staged_core from conditions group keys items = record {
  from = from;
  where_ = conditions;
  group = group;
  items = items;
  distinct = false;
  keys = keys;
}

-- what the classes of a core show, in some order, where no fault may be told
pub record Stages (c : Core) (db : Tables) (outs : List Output) : Type 0 where
  pub no_fault : core_faults c db ≡ []
  pub same : IsPermutation (outputs_all c db) outs

-- each part of a core that does not group
abbrev pub ungrouped : List Chain → List OnClass → List OnClass → Bool → List OnClass → Core
ungrouped from fs items unique keys = record {
  from = from;
  where_ = fs;
  group = None;
  items = items;
  distinct = unique;
  keys = keys;
}

abbrev pub alone : Tuple → List Tuple
alone r = r ∷ []

pub none_told : {X : Type 0} (f : X → List Fault) → ((x : X) → f x ≡ []) → (xs : List X) → flat_map f xs ≡ []
none_told f h [] = refl
none_told f h (x ∷ xs) = rw (h x) (none_told f h xs)

pub ones_kept : (rows : List Tuple) → filter (has_class None) (map alone rows) ≡ map alone rows
ones_kept [] = refl
ones_kept (r ∷ rs) = ap (λ (cs : List (List Tuple)). alone r ∷ cs) (ones_kept rs)

-- the faults of WHERE, and those of the classes that are kept
pub ungrouped_faults : (from : List Chain) (fs items : List OnClass) (unique : Bool) (keys : List OnClass) (db : Tables)
    → core_faults (ungrouped from fs items unique keys) db
    ≡ flat_map (λ r. faults_told (on_row fs r)) (joined_chains db from) ++ flat_map (class_faults (ungrouped from fs items unique keys)) (map alone (filter (keeps fs) (joined_chains db from)))
ungrouped_faults from fs items unique keys db =
    let q = ungrouped from fs items unique keys in
    let rows = filter (keeps fs) (joined_chains db from) in
    let a : flat_map (λ r. fault_list (on_row [] r)) rows ≡ [] = none_told _ (λ r. refl) rows in
    let b : flat_map (λ (c : List Tuple). faults_told (over [] c)) (classes q db) ≡ [] = none_told _ (λ c. refl) (classes q db) in
    let e : flat_map (class_faults q) (kept_classes q db) ≡ flat_map (class_faults q) (map alone rows) = ap (flat_map (class_faults q)) (ones_kept rows) in
    ap (λ (gs : List Fault). flat_map (λ r. faults_told (on_row fs r)) (joined_chains db from) ++ (gs ++ (flat_map (λ (c : List Tuple). faults_told (over [] c)) (classes q db) ++ flat_map (class_faults q) (kept_classes q db)))) a
    ∙ ap (λ (gs : List Fault). flat_map (λ r. faults_told (on_row fs r)) (joined_chains db from) ++ (gs ++ flat_map (class_faults q) (kept_classes q db))) b
    ∙ ap (λ (gs : List Fault). flat_map (λ r. faults_told (on_row fs r)) (joined_chains db from) ++ gs) e

pub ungrouped_outputs : (from : List Chain) (fs items : List OnClass) (unique : Bool) (keys : List OnClass) (db : Tables)
    → outputs_all (ungrouped from fs items unique keys) db ≡ map (output (ungrouped from fs items unique keys)) (map alone (filter (keeps fs) (joined_chains db from)))
ungrouped_outputs from fs items unique keys db = ap (map (output (ungrouped from fs items unique keys))) (ones_kept (filter (keeps fs) (joined_chains db from)))

-- what a test keeps, one by one
mapped_one : {X Y : Type 0} (p : X → Bool) (h : X → Y) (x : X) (xs : List X) (b : Bool) → p x ≡ b → flat_map (λ z. cond (p z) (h z ∷ []) []) xs ≡ map h (filter p xs) → flat_map (λ z. cond (p z) (h z ∷ []) []) (x ∷ xs) ≡ map h (filter p (x ∷ xs))
mapped_one p h x xs true e inv = rw e (ap (λ ys. h x ∷ ys) inv)
mapped_one p h x xs false e inv = rw e inv

pub kept_mapped : {X Y : Type 0} (p : X → Bool) (h : X → Y) (xs : List X) → flat_map (λ z. cond (p z) (h z ∷ []) []) xs ≡ map h (filter p xs)
kept_mapped p h [] = refl
kept_mapped p h (x ∷ xs) = mapped_one p h x xs (p x) refl (kept_mapped p h xs)

filtered_one : {X : Type 0} (p : X → Bool) (x : X) (xs : List X) (b : Bool) → p x ≡ b → flat_map (λ z. cond (p z) (z ∷ []) []) xs ≡ filter p xs → flat_map (λ z. cond (p z) (z ∷ []) []) (x ∷ xs) ≡ filter p (x ∷ xs)
filtered_one p x xs true e inv = rw e (ap (λ ys. x ∷ ys) inv)
filtered_one p x xs false e inv = rw e inv

pub kept_filtered : {X : Type 0} (p : X → Bool) (xs : List X) → flat_map (λ z. cond (p z) (z ∷ []) []) xs ≡ filter p xs
kept_filtered p [] = refl
kept_filtered p (x ∷ xs) = filtered_one p x xs (p x) refl (kept_filtered p xs)

-- the outputs of a core that does not group

told_alone : (g : List Tuple → List Fault) (rows : List Tuple) → flat_map g (map alone rows) ≡ flat_map (λ r. g (alone r)) rows
told_alone g [] = refl
told_alone g (r ∷ rs) = ap (λ (gs : List Fault). g (alone r) ++ gs) (told_alone g rs)

map_alone : {Y : Type 0} (h : List Tuple → Y) (rows : List Tuple) → map h (map alone rows) ≡ map (λ r. h (alone r)) rows
map_alone h [] = refl
map_alone h (r ∷ rs) = ap (λ ys. h (alone r) ∷ ys) (map_alone h rs)

row_faults : (from : List Chain) (fs keys items : List OnClass) (db : Tables) (rows : List Tuple) → joined_chains db from ≡ rows → core_faults (staged_core from fs None keys items) db ≡ both_told (where_told fs) (λ r. output_faults keys items (alone r)) (keeps fs) rows
row_faults from fs keys items db rows j =
    ungrouped_faults from fs items false keys db ∙ rw j (ap (λ (gs : List Fault). flat_map (where_told fs) rows ++ gs) (told_alone (output_faults keys items) (filter (keeps fs) rows)))

pub row_stages : (from : List Chain) (fs keys items : List OnClass) (db : Tables) (rows : List Tuple) (outs : List Output) → joined_chains db from ≡ rows → flat_map (row_told_all fs keys items) rows ≡ [] → outs ≡ flat_map (row_staged fs keys items) rows → Stages (staged_core from fs None keys items) db outs
row_stages from fs keys items db rows outs j quiet is =
    let q = staged_core from fs None keys items in
    let made : outputs_all q db ≡ outs = ungrouped_outputs from fs items false keys db ∙ rw j (map_alone (output q) (filter (keeps fs) rows)) ∙ sym (kept_mapped (keeps fs) (λ r. output q (alone r)) rows) ∙ sym is in
    record {
      no_fault = row_faults from fs keys items db rows j ∙ quiet_parts (where_told fs) (λ r. output_faults keys items (alone r)) (keeps fs) rows quiet;
      same = subst (λ l. IsPermutation (outputs_all q db) l) made (IsPermutation-refl (outputs_all q db));
    }

pub rows_tell : {T : Type 0} (r : Result T EvalFault) (from : List Chain) (fs keys items : List OnClass) (db : Tables) (rows : List Tuple) → joined_chains db from ≡ rows → TellsFault r (flat_map (row_told_all fs keys items) rows) → TellsFault r (core_faults (staged_core from fs None keys items) db)
rows_tell (Ok x) from fs keys items db rows j h = tt
rows_tell (Err f) from fs keys items db rows j h = tells_more f _ _ (λ c t. rw (row_faults from fs keys items db rows j) (told_parts (where_told fs) (λ r. output_faults keys items (alone r)) (keeps fs) rows c t)) h
