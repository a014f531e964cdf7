-- From outputs to the answer.
use Rattle.std.proofs.Common.{◌≡◌, ◌<◌, ℕ, zero, suc, Bool, true, false, List, [], ◌∷◌, ◌++◌, map, flat_map, drop, length, get_or, append-nil, refl, sym, ap, ◌∙◌, arith, Option, None, Some, IsPermutation, subst}
use Rattle.std.specs.List.{Any}
use Rattle.std.proofs.lemmas.List.{drop-map, take-map, map-append}
use Rattle.std.proofs.lemmas.List.Elements.{All-append, All-cons}
use Rattle.std.proofs.lemmas.Grind.{flat_map-append}
use Rattle.std.proofs.lemmas.List.Sorted.{IsPermutation-trans, IsPermutation-map}
use Rattle.std.specs.Ordering.{on}
use Rattle.med_value.specs.Datum.{Tuple}
use Rattle.med_query.specs.Prelude.{distinct, Core, Tables, Output, output_eq, keys_cmp, limited, core_faults, core_outputs, outputs, outputs_all, IsAnswer, IsTooLarge, core_form, core_by, direction_of, core_of, query_of}
use Rattle.tri_expr.specs.declared.expr.Fault.{Fault}
use Rattle.med_query.specs.declared.select.SortDirection.{SortDirection}
use Rattle.query_answer.specs.declared.staged.Staged.{Staged}
use Rattle.query_answer.specs.declared.outputs.AnswerFault.{AnswerFault}
use Rattle.query_answer.specs.declared.outputs.AnswerFault.TheVariants.{Evaluation, TooManyRows}
use Rattle.query_answer.specs.Answering.{IsCoreFault, IsShownIn, IsShownFault, IsSmall, AreSmall}
use Rattle.med_query.specs.declared.select.SelectCore.{SelectCore}
use Rattle.med_query.specs.declared.select.Select.{Select}
use Rattle.query_answer.specs.Giving.{Gives, AllGive}
use Rattle.query_answer.specs.Staging.{output_of, shown_by}
use Rattle.query_answer.specs.Ordering.{staged_cmp, output_cmp, LeadsIn, StandsIn}
use Rattle.query_answer.specs.Finishing.{Finishes, made_unique}
use Rattle.med_query.proofs.Telling.{tells_more, contains_seen}
use Rattle.query_answer.proofs.Groups.{sorted_map}
use Rattle.query_answer.proofs.Leading.{leads_all}
use Rattle.query_answer.proofs.Standing.{stands_same, stands_both}

shown_of : (xs : List Staged) → map (λ (o : Output). o.1) (map output_of xs) ≡ map shown_by xs
shown_of [] = refl
shown_of (x ∷ xs) = ap (λ (rs : List Tuple). shown_by x ∷ rs) (shown_of xs)

limited-map : {X Y : Type 0} (f : X → Y) (limit : Option ℕ) (xs : List X) → limited limit (map f xs) ≡ map f (limited limit xs)
limited-map f None xs = refl
limited-map f (Some n) xs = take-map f n xs

pub finishes : (directions : List SortDirection) (offset : ℕ) (limit : Option ℕ) (before first : List Staged) (rows : List Tuple)
    → LeadsIn (staged_cmp directions) offset limit before first → rows ≡ map shown_by (limited limit (drop offset first))
    → Finishes (map direction_of directions) offset limit (map output_of before) rows
finishes directions offset limit before first rows l r = record {
  ordered = map output_of l.ordered;
  same = IsPermutation-map output_of before l.ordered l.same;
  sorted = sorted_map output_of (on (λ o. o.0) (keys_cmp (map direction_of directions))) l.ordered l.sorted;
  shown = r ∙ ap (map shown_by) l.shown ∙ sym (limited-map shown_by limit (drop offset l.ordered)) ∙ ap (limited limit) (sym (drop-map shown_by offset l.ordered) ∙ ap (drop offset) (sym (shown_of l.ordered)));
}

unique_same : ((os us : List Output) → IsPermutation os us → IsPermutation (distinct output_eq os) (distinct output_eq us)) → (unique : Bool) (os us : List Output) → IsPermutation os us → IsPermutation (made_unique unique os) (made_unique unique us)
unique_same law true os us p = law os us p
unique_same law false os us p = p

pub gives : (select : Select) → ((os us : List Output) → IsPermutation os us → IsPermutation (distinct output_eq os) (distinct output_eq us)) → (c : Core) (db : Tables) (staged outs : List Output) → core_faults c db ≡ [] → IsPermutation (outputs_all c db) staged → IsPermutation (made_unique c.distinct staged) outs → Gives select c db outs
gives select law c db staged outs quiet same unique = record {
  no_fault = quiet;
  stands = stands_same (output_cmp select.directions.items) select.offset select.limit (core_outputs c db) outs (IsPermutation-trans (made_unique c.distinct (outputs_all c db)) (made_unique c.distinct staged) outs (unique_same law c.distinct (outputs_all c db) staged same) unique);
}

-- one core more
pub joined_gives : (select : Select) (all cs : List Core) (c : Core) (db : Tables) (before after more : List Staged) → all ≡ cs ++ c ∷ [] → after ≡ before ++ more
    → AllGive select cs db (map output_of before) → Gives select c db (map output_of more) → AllGive select all db (map output_of after)
joined_gives select all cs c db before after more next joined given one =
    let outs : map output_of after ≡ map output_of before ++ map output_of more = ap (map output_of) joined ∙ map-append output_of before more in
    let shown : flat_map (λ (c : Core). core_outputs c db) (cs ++ c ∷ []) ≡ flat_map (λ (c : Core). core_outputs c db) cs ++ core_outputs c db =
    flat_map-append (λ (c : Core). core_outputs c db) cs (c ∷ []) ∙ ap (λ (l : List Output). flat_map (λ (c : Core). core_outputs c db) cs ++ l) (append-nil (core_outputs c db)) in
    let told : flat_map (λ (c : Core). core_faults c db) (cs ++ c ∷ []) ≡ flat_map (λ (c : Core). core_faults c db) cs ++ core_faults c db =
    flat_map-append (λ (c : Core). core_faults c db) cs (c ∷ []) ∙ ap (λ (l : List Fault). flat_map (λ (c : Core). core_faults c db) cs ++ l) (append-nil (core_faults c db)) in
    record {
      no_fault = ap (flat_map (λ (c : Core). core_faults c db)) next ∙ told ∙ ap (λ (l : List Fault). l ++ core_faults c db) given.no_fault ∙ one.no_fault;
      stands = subst (λ (l : List Core). StandsIn select (flat_map (λ c. core_outputs c db) l) (map output_of after)) (sym next)
          (subst (λ (l : List Output). StandsIn select l (map output_of after)) (sym shown)
          (subst (λ (l : List Output). StandsIn select (flat_map (λ (c : Core). core_outputs c db) cs ++ core_outputs c db) l) (sym outs)
          (stands_both (output_cmp select.directions.items) select.offset select.limit (flat_map (λ (c : Core). core_outputs c db) cs) (core_outputs c db) (map output_of before) (map output_of more) given.stands one.stands)));
    }

pub joined_small : (all cs : List Core) (c : Core) (db : Tables) → all ≡ cs ++ c ∷ [] → AreSmall cs db → IsSmall c db → AreSmall all db
joined_small all cs c db next given one =
    subst (λ (l : List Core). AreSmall l db) (sym next) (All-append (λ c. IsSmall c db) cs (c ∷ []) given (All-cons (λ c. IsSmall c db) c [] one (λ k x low. absurd (omega arith))))

-- a core that is too large is one of the query's
large_at : (cores : List SelectCore) (i : ℕ) (d : SelectCore) (db : Tables) → i < length cores → d ≡ get_or cores i d → IsTooLarge (core_of d) db → Any (λ c. IsTooLarge c db) (map core_of cores)
large_at [] i d db lt e h = absurd (omega arith)
large_at (x ∷ xs) zero d db lt e h = (0, core_of x, omega arith, refl, subst (λ (s : SelectCore). IsTooLarge (core_of s) db) e h)
large_at (x ∷ xs) (suc i) d db lt e h =
    let w = large_at xs i d db (omega arith) e h in
    let low = w.2 in
    (suc w.0, w.1, omega (arith, low), w.3, w.4)

pub one_told : (f : AnswerFault) (cores : List SelectCore) (i : ℕ) (d : SelectCore) (db : Tables) → i < length cores → d ≡ get_or cores i d → IsCoreFault f (core_of d) db → IsShownIn f (map core_of cores) db
one_told (Evaluation f) cores i d db lt e h = tells_more f _ _ (λ c t. contains_seen core_of (λ (x : Core). core_faults x db) cores i d c lt e t) h
one_told TooManyRows cores i d db lt e h = large_at cores i d db lt e h

-- the cores of a SELECT are those of its query
cores_are : (cores : List SelectCore) → map core_of cores ≡ map core_by (map core_form cores)
cores_are [] = refl
cores_are (c ∷ cs) = ap (λ (l : List Core). core_of c ∷ l) (cores_are cs)

-- what OFFSET and LIMIT leave of the outputs that stand for all
all_finished : (select : Select) (all outs : List Output) (rows : List Tuple) → StandsIn select all outs → Finishes (map direction_of select.directions.items) select.offset select.limit outs rows → Finishes (map direction_of select.directions.items) select.offset select.limit all rows
all_finished select all outs rows s f =
    let cmp = output_cmp select.directions.items in
    let offset = select.offset in
    let limit = select.limit in
    let show : Output → Tuple = λ o. o.1 in
    let held : LeadsIn cmp offset limit (outs ++ []) f.ordered = leads_all cmp offset limit (outs ++ []) f.ordered (rw append-nil f.same) f.sorted in
    let found : LeadsIn cmp offset limit all f.ordered = subst (λ l. LeadsIn cmp offset limit l f.ordered) (append-nil all) (s [] f.ordered held) in
    let page : (os : List Output) → limited limit (drop offset (map show os)) ≡ map show (limited limit (drop offset os)) = λ os. ap (limited limit) (drop-map show offset os) ∙ limited-map show limit (drop offset os) in
    record {
      ordered = found.ordered;
      same = found.same;
      sorted = found.sorted;
      shown = f.shown ∙ page f.ordered ∙ ap (map show) found.shown ∙ sym (page found.ordered);
    }

pub answered : (select : Select) (db : Tables) (ds : List SortDirection) (outs : List Output) (rows : List Tuple) → ds ≡ select.directions.items
    → AllGive select (map core_of select.cores.items) db outs → Finishes (map direction_of ds) select.offset select.limit outs rows → IsAnswer (query_of select) db rows
answered select db ds outs rows b g f =
    let all : AllGive select (query_of select).cores db outs = subst (λ (l : List Core). AllGive select l db outs) (cores_are select.cores.items) g in
    let done : Finishes (map direction_of select.directions.items) select.offset select.limit outs rows = subst (λ (l : List SortDirection). Finishes (map direction_of l) select.offset select.limit outs rows) b f in
    let whole : Finishes (map direction_of select.directions.items) select.offset select.limit (outputs (query_of select) db) rows = all_finished select (outputs (query_of select) db) outs rows all.stands done in
    record {
      no_fault = all.no_fault;
      ordered = whole.ordered;
      same = whole.same;
      sorted = whole.sorted;
      shown = whole.shown;
    }

pub all_small : (select : Select) (db : Tables) → AreSmall (map core_of select.cores.items) db → AreSmall (query_of select).cores db
all_small select db h = subst (λ (l : List Core). AreSmall l db) (cores_are select.cores.items) h

pub all_told : (f : AnswerFault) (select : Select) (db : Tables) → IsShownIn f (map core_of select.cores.items) db → IsShownFault f (query_of select) db
all_told f select db h = subst (λ (l : List Core). IsShownIn f l db) (cores_are select.cores.items) h
