-- The parts of a query: its entries, its run, and what it means in whatever order rows come.
use Rattle.std.proofs.Common.{◌≡◌, ℕ, true, false, string_bytes, List, [], ◌∷◌, Option, Some, None, map, length, refl, sym, ap, ◌∙◌, subst}
use Rattle.std.proofs.lemmas.List.{length-map}
use Rattle.std.proofs.lemmas.List.Sorted.{IsPermutation-sym}
use Rattle.med_value.specs.Prelude.{Tuple, phase_of}
use Rattle.med_value.specs.declared.cause.Cause.{Cause}
use Rattle.med_value.specs.declared.cause.Cause.TheVariants.{LimitExceeded}
use Rattle.tri_expr.specs.declared.expr.Expr.{Expr}
use Rattle.med_query.specs.declared.select.Grouping.{Grouping}
use Rattle.med_query.specs.declared.select.SelectCore.{SelectCore}
use Rattle.med_query.specs.declared.select.Select.{Select}
use Rattle.med_query.specs.Prelude.{core_form, core_by, query_by, form_of, AllIgnoreOrder, IsSteadyCore, AreSteady, IsSteady, AnswersIgnoreOrder, Query, Tables, SameRows, senses, having_of, IsShownCause}
use Rattle.med_query.specs.Select.{query_of as written_query, core_of, groups_of}
use Rattle.fdw_api.specs.Prelude.{is_of_run, BoxState}
use Rattle.fdw_api.specs.declared.interface.Fault.{Fault}
use Rattle.med_binder.specs.Prelude.{Place, entry_place, IsMeant, meant_by, IsBindable, Attached, ArePlaces}
use Rattle.med_planner.specs.Planned.{entry_rows}
use Rattle.med_exec.specs.Running.{AllServed, Stops, lacks_memory, source_fails, numbers_end, query_shows}
use Rattle.med_syntax.specs.Prelude.{SelectTree, Name}
use Rattle.bind_names.specs.Meaning.{Meant}
use Rattle.med_binder.specs.declared.bound.BoundQuery.{BoundQuery}
use Rattle.med_binder.specs.declared.bound.BoundEntry.{BoundEntry}
use Rattle.sql_meaning.specs.Prelude.{query_of, is_large_form}
use Rattle.med_catalog.specs.Objects.{Objects}
use Rattle.med_world.specs.Prelude.{cause_of, ReadsTables}
use Rattle.med_world.specs.Selecting.{AnswersOver, Selects, SelectFails, run_fails, too_many}
use Rattle.med_world.specs.Starting.{RunFails, no_memory, box_fails, numbers_out, shows_cause}
use Rattle.bound_order.specs.Ordered.{IsOrdered}
use Rattle.med_exec.specs.Prelude.{PullsRows, RunAnswers}
use Rattle.std.specs.Prelude.{Result, Ok, Err, IfOk}

-- what each value has, where there is one
pub if_ok : {T E : Type 0} (P Q : T → Type 0) (r : Result T E) → ((x : T) → P x → Q x) → IfOk r P → IfOk r Q
if_ok P Q (Ok x) f p = f x p
if_ok P Q (Err e) f p = tt

-- ---- what was bound

-- as many entries
pub entries_counted : (m : Meant) (b : BoundQuery) → IsMeant m b → length m.entries ≡ length b.entries.items
entries_counted m b is = sym (ap (λ (ks : List ℕ). length ks) is.entries) ∙ length-map b.entries.items (λ (e : BoundEntry). e.place)

-- ---- the query

-- the query of what was bound is the statement's
pub query_bound : (m : Meant) (b : BoundQuery) → IsMeant m b → written_query b.select ≡ query_of m
query_bound m b is = ap query_by is.form

abbrev pub ExpressionsIgnoreOrder : Type 0
ExpressionsIgnoreOrder = (params : Tuple) (es : List Expr) → AllIgnoreOrder (senses params es)

having_steady : ExpressionsIgnoreOrder → (g : Option Grouping) → AllIgnoreOrder (having_of (groups_of g))
having_steady law None = tt
having_steady law (Some g) = law [] g.having.items

steady_core : ExpressionsIgnoreOrder → (c : SelectCore) → IsSteadyCore (core_of c)
steady_core law c = record { having = having_steady law c.grouping; keys = law [] c.keys.items; items = law [] c.items.items }

steady_cores : ExpressionsIgnoreOrder → (cs : List SelectCore) → AreSteady (map core_by (map core_form cs))
steady_cores law [] = tt
steady_cores law (c ∷ cs) = (steady_core law c, steady_cores law cs)

pub steady : ExpressionsIgnoreOrder → (s : Select) → IsSteady (written_query s)
steady law s = steady_cores law s.cores.items

abbrev pub AnswersInAnyOrder : Type 0
AnswersInAnyOrder = (q : Query) (db other : Tables) → IsSteady q → SameRows db other → AnswersIgnoreOrder q db other

pub same_back : (db other : Tables) → SameRows db other → SameRows other db
same_back db other h t = IsPermutation-sym (db t) (other t) (h t)

abbrev pub CausesInAnyOrder : Type 0
CausesInAnyOrder = (q : Query) → IsSteady q → (db other : Tables) → SameRows db other → (c : Cause) → IsShownCause q db c → IsShownCause q other c

-- what holds over the rows as the boxes give them holds of them in any order
pub answers_over : AnswersInAnyOrder → CausesInAnyOrder → (q : Query) → IsSteady q → (places : List Place) (boxes : List (Option BoxState)) (rows : List Tuple) → RunAnswers q places boxes rows → AnswersOver q places boxes rows
answers_over law causes q is places boxes rows h = record {
  answers = λ honest db same. (law q (entry_rows boxes places) db is same).answers rows (h.answers honest);
  clear = λ honest db same c shows. h.clear honest c (causes q is db (entry_rows boxes places) (same_back (entry_rows boxes places) db same) c shows);
}

pub fails_over : CausesInAnyOrder → (q : Query) → IsSteady q → (places : List Place) (fault : Fault) (old new : List (Option BoxState)) → Stops q places fault old new → RunFails q places (cause_of fault) old new
fails_over law q is places fault old new (lacks_memory e) = no_memory (ap cause_of e)
fails_over law q is places fault old new (source_fails e failed) = box_fails (ap cause_of e) failed
fails_over law q is places fault old new (numbers_end e used) = numbers_out (ap cause_of e) used
fails_over law q is places fault old new (query_shows c e of_run shows) =
    shows_cause (ap (λ (d : Cause). is_of_run (phase_of d)) (ap cause_of e) ∙ of_run) (λ honest db same. subst (λ (d : Cause). IsShownCause q db d) (sym (ap cause_of e)) (law q is (entry_rows old places) db same c (shows honest)))

-- ---- the whole

-- what binding said of a query
pub record IsBoundBy (o : Objects) (user : Name) (bound : List Attached) (q : SelectTree) (b : BoundQuery) : Type 0 where
  pub bindable : IsBindable o user q
  pub meant : IsMeant (meant_by o q) b
  pub places : ArePlaces bound (meant_by o q).entries (map entry_place b.entries.items)

pub selected : ExpressionsIgnoreOrder → AnswersInAnyOrder → CausesInAnyOrder → (o : Objects) (user : Name) (bound : List Attached) (q : SelectTree) (b : BoundQuery) (rows : List Tuple) (old new : List (Option BoxState))
    → IsBoundBy o user bound q b → is_large_form (form_of b.select) ≡ false → AllServed old new → ReadsTables (map entry_place b.entries.items) old new → (asked : BoundQuery) → form_of asked.select ≡ form_of b.select → map entry_place asked.entries.items ≡ map entry_place b.entries.items → (planned : BoundQuery) → IsOrdered asked planned → PullsRows planned old new → RunAnswers (written_query b.select) (map entry_place b.entries.items) old rows → Selects o user bound q old (map string_bytes b.names.items) rows new
selected order any causes o user bound q b rows old new is few served once asked form at planned by pulls run =
    let m = meant_by o q in
    let places = map entry_place b.entries.items in
    record {
      bindable = is.bindable;
      few = sym (ap is_large_form is.meant.form) ∙ few;
      named = is.meant.names;
      served = served;
      places = places;
      are = is.places;
      reads = once;
      pulls = record { bound = asked; form = form ∙ is.meant.form; at = at; planned = planned; order = by; rows = pulls };
      answers = subst (λ (x : Query). AnswersOver x places old rows) (query_bound m b is.meant) (answers_over any causes (written_query b.select) (steady order b.select) places old rows run);
    }

pub unanswered : ExpressionsIgnoreOrder → CausesInAnyOrder → (o : Objects) (user : Name) (bound : List Attached) (q : SelectTree) (b : BoundQuery) (fault : Fault) (old new : List (Option BoxState))
    → IsBoundBy o user bound q b → is_large_form (form_of b.select) ≡ false → AllServed old new → Stops (written_query b.select) (map entry_place b.entries.items) fault old new → SelectFails o user bound q old (cause_of fault) new
unanswered order causes o user bound q b fault old new is few served stops =
    let m = meant_by o q in
    let places = map entry_place b.entries.items in
    run_fails is.bindable (sym (ap is_large_form is.meant.form) ∙ few) served places is.places
    (subst (λ (x : Query). RunFails x places (cause_of fault) old new) (query_bound m b is.meant) (fails_over causes (written_query b.select) (steady order b.select) places fault old new stops))

pub crowded : (o : Objects) (user : Name) (bound : List Attached) (q : SelectTree) (b : BoundQuery) (old : List (Option BoxState)) → IsBoundBy o user bound q b → is_large_form (form_of b.select) ≡ true → SelectFails o user bound q old LimitExceeded old
crowded o user bound q b old is many =
    too_many is.bindable (sym (ap is_large_form is.meant.form) ∙ many) refl refl
