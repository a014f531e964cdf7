-- The answer of a core over its only joined row.
use Rattle.std.proofs.Common.{◌≡◌, ◌<◌, ℕ, zero, suc, Bool, true, false, List, [], ◌∷◌, map, flat_map, take, drop, length, append-nil, refl, sym, ap, ◌∙◌, arith, Option, None, Some, IsPermutation, IsSorted, subst}
use Rattle.std.proofs.lemmas.List.Sorted.{IsPermutation-refl}
use Rattle.std.specs.Ordering.{on}
use Rattle.std.specs.declared.cmp.Ordering.{Ordering}
use Rattle.med_value.specs.Datum.{Tuple}
use Rattle.tri_expr.specs.declared.expr.Fault.{Fault}
use Rattle.tri_expr.specs.declared.expr.EvalFault.{EvalFault}
use Rattle.med_query.specs.Prelude.{Tables, Output, IsTold, IsAnswer, core_faults, core_outputs, faults, joined_chains, keys_cmp, limited, direction_of, chains_of, core_of, query_of}
use Rattle.med_query.specs.declared.select.Grouping.{Grouping}
use Rattle.med_query.specs.declared.select.Select.{Select}
use Rattle.med_query.specs.declared.select.SelectCore.{SelectCore}
use Rattle.query_answer.specs.declared.outputs.AnswerFault.TheVariants.{Evaluation}
use Rattle.query_answer.specs.declared.staged.Staged.{Staged}
use Rattle.query_answer.specs.Answering.{IsCoreFault, IsShownIn}
use Rattle.query_answer.specs.Finishing.{Finishes, made_unique}
use Rattle.query_answer.specs.Gathering.{told_by, told_in}
use Rattle.query_answer.specs.Giving.{Gives, AllGive}
use Rattle.query_answer.specs.Ordering.{StandsIn}
use Rattle.query_answer.specs.Staging.{faults_by, outputs_by, outputs_in, shown_by}
use Rattle.query_answer.proofs.Finished.{all_told, answered, one_told}
use Rattle.query_answer.proofs.Gathered.{Unique, joined_by, rows_given, trouble_told}

-- ---- what OFFSET and LIMIT leave of one row

abbrev nothing : (X : Type 0) → List X
nothing X = []

none_taken : (X : Type 0) (n : ℕ) → take n (nothing X) ≡ []
none_taken X zero = refl
none_taken X (suc n) = refl

none_dropped : (X : Type 0) (n : ℕ) → drop n (nothing X) ≡ []
none_dropped X zero = refl
none_dropped X (suc n) = refl

none_limited : (X : Type 0) (limit : Option ℕ) → limited limit (nothing X) ≡ []
none_limited X None = refl
none_limited X (Some n) = none_taken X n

pub none_shown : (X : Type 0) (offset : ℕ) (limit : Option ℕ) → limited limit (drop offset (nothing X)) ≡ []
none_shown X offset limit = ap (λ (xs : List X). limited limit xs) (none_dropped X offset) ∙ none_limited X limit

-- a page of one output is as long as one of what it shows
as_long : (X Y : Type 0) (x : X) (y : Y) (offset : ℕ) (limit : Option ℕ) → length (limited limit (drop offset (x ∷ []))) ≡ length (limited limit (drop offset (y ∷ [])))
as_long X Y x y zero None = refl
as_long X Y x y zero (Some zero) = refl
as_long X Y x y zero (Some (suc n)) = ap (λ (xs : List X). suc (length xs)) (none_taken X n) ∙ sym (ap (λ (ys : List Y). suc (length ys)) (none_taken Y n))
as_long X Y x y (suc k) limit = ap (λ (xs : List X). length xs) (none_shown X k limit) ∙ sym (ap (λ (ys : List Y). length ys) (none_shown Y k limit))

left_one : (X : Type 0) (x : X) (offset : ℕ) (limit : Option ℕ) → 0 < length (limited limit (drop offset (x ∷ []))) → limited limit (drop offset (x ∷ [])) ≡ x ∷ []
left_one X x zero None h = refl
left_one X x zero (Some zero) h = absurd (omega (arith, h))
left_one X x zero (Some (suc n)) h = ap (λ (xs : List X). x ∷ xs) (none_taken X n)
left_one X x (suc k) limit h = let e = ap (λ (xs : List X). length xs) (none_shown X k limit) in absurd (omega (arith, h, e))

left_none : {X : Type 0} (xs : List X) → length xs ≡ 0 → xs ≡ []
left_none [] h = refl
left_none (x ∷ xs) h = absurd (omega arith)

module _ (s : Staged) (offset : ℕ) (limit : Option ℕ) (n : ℕ) (long : n ≡ length (limited limit (drop offset (s ∷ [])))) where
  is_long : n ≡ length (limited limit (drop offset (shown_by s ∷ [])))
  is_long = long ∙ as_long Staged Tuple s (shown_by s) offset limit

  pub one_shown : 0 < n → limited limit (drop offset (shown_by s ∷ [])) ≡ shown_by s ∷ []
  one_shown h = left_one Tuple (shown_by s) offset limit (let e = is_long in omega (arith, h, e))

  pub one_passed : n ≡ 0 → limited limit (drop offset (shown_by s ∷ [])) ≡ []
  one_passed h = left_none (limited limit (drop offset (shown_by s ∷ []))) (sym is_long ∙ h)

-- ---- one output, or none

few_sorted : (cmp : Output → Output → Ordering) (o : Option Staged) → IsSorted cmp (outputs_in o)
few_sorted cmp None k d low high = absurd (omega (arith, high))
few_sorted cmp (Some s) k d low high = absurd (omega (arith, high))

few_unique : (unique : Bool) (o : Option Staged) → made_unique unique (outputs_in o) ≡ outputs_in o
few_unique false o = refl
few_unique true None = refl
few_unique true (Some s) = refl

-- ---- the answer

module _ (select : Select) (s : SelectCore) (db : Tables) (r : Tuple) (one : select.cores.items ≡ s ∷ []) (none : s.grouping ≡ None) (joined : joined_chains db (chains_of s.from.items) ≡ r ∷ []) where
  told_here : told_by s (joined_by s db) ≡ faults_by s r
  told_here =
      ap (told_by s) joined ∙ append-nil (told_in s s.grouping r) ∙ ap (λ (g : Option Grouping). told_in s g r) none

  outputs_here : flat_map (outputs_by s) (joined_by s db) ≡ outputs_by s r
  outputs_here = ap (flat_map (outputs_by s)) joined ∙ append-nil (outputs_by s r)

  pub row_answers : Unique → (o : Option Staged) (rows : List Tuple) → faults_by s r ≡ [] → outputs_in o ≡ outputs_by s r
      → rows ≡ limited select.limit (drop select.offset (map (λ (p : Output). p.1) (outputs_in o))) → IsAnswer (query_of select) db rows
  row_answers law o rows quiet are shown = answered select db select.directions.items outs rows refl all finishes
    where
      outs : List Output
      outs = outputs_in o

      same : made_unique s.distinct (flat_map (outputs_by s) (joined_by s db)) ≡ outs
      same = ap (made_unique s.distinct) (outputs_here ∙ sym are) ∙ few_unique s.distinct o

      given : Gives select (core_of s) db outs
      given = rows_given law select s db outs none (subst (λ (l : List Output). IsPermutation (made_unique s.distinct (flat_map (outputs_by s) (joined_by s db))) l) same (IsPermutation-refl (made_unique s.distinct (flat_map (outputs_by s) (joined_by s db))))) (told_here ∙ quiet)

      alone : AllGive select (map core_of (s ∷ [])) db outs
      alone = record {
        no_fault = append-nil (core_faults (core_of s) db) ∙ given.no_fault;
        stands = subst (λ (l : List Output). StandsIn select l outs) (sym (append-nil (core_outputs (core_of s) db))) given.stands;
      }

      all : AllGive select (map core_of select.cores.items) db outs
      all = subst (λ (cs : List SelectCore). AllGive select (map core_of cs) db outs) (sym one) alone

      finishes : Finishes (map direction_of select.directions.items) select.offset select.limit outs rows
      finishes = record {
        ordered = outs;
        same = IsPermutation-refl outs;
        sorted = few_sorted (on (λ p. p.0) (keys_cmp (map direction_of select.directions.items))) o;
        shown = shown;
      }

  pub row_tells : (f : EvalFault) → IsTold f (faults_by s r) → IsTold f (faults (query_of select) db)
  row_tells f h =
      let told : IsTold f (told_by s (joined_by s db)) = subst (λ (l : List Fault). IsTold f l) (sym told_here) h in
      let here : IsCoreFault (Evaluation f) (core_of s) db = trouble_told (Evaluation f) s db told in
      let among : IsShownIn (Evaluation f) (map core_of (s ∷ [])) db = one_told (Evaluation f) (s ∷ []) 0 s db (omega arith) refl here in
      all_told (Evaluation f) select db (subst (λ (cs : List SelectCore). IsShownIn (Evaluation f) (map core_of cs) db) (sym one) among)
