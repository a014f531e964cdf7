-- The run of a bound query: begun, or why not.
use Rattle.std.proofs.Common.{◌≡◌, ◌∙◌, ℕ, ◌<◌, Bool, false, List, Option, map, refl, sym, ap, subst, string_bytes}
use Rattle.med_value.specs.Prelude.{Tuple, phase_of}
use Rattle.med_syntax.specs.Prelude.{Name, SelectTree}
use Rattle.med_query.specs.Prelude.{Form, form_of, is_risky_form, IsSteady, Query, IsShownCause}
use Rattle.med_planner.specs.Plain.{IsPlainForm, IsBareForm}
use Rattle.med_query.specs.Select.{query_of as written_query}
use Rattle.fdw_api.specs.Prelude.{is_of_run, BoxState}
use Rattle.fdw_api.specs.declared.interface.Fault.{Fault}
use Rattle.med_binder.specs.Prelude.{Place, entry_place, meant_by, Attached, bound_widths, widths, shapes}
use Rattle.med_planner.specs.Planned.{entry_rows}
use Rattle.med_exec.specs.Running.{AllServed, ServesRun, Stops, lacks_memory, source_fails, numbers_end, query_shows, Begun, none_held}
use Rattle.med_exec.specs.Prelude.{AsksNone, ShowsAll, OpensScans}
use Rattle.med_exec.specs.Rests.{Rests, held, IsRunning}
use Rattle.med_exec.specs.declared.running.Run.{Run}
use Rattle.med_binder.specs.declared.bound.BoundQuery.{BoundQuery}
use Rattle.med_value.specs.declared.cause.Cause.{Cause}
use Rattle.med_catalog.specs.Objects.{Objects}
use Rattle.med_world.specs.Prelude.{cause_of, ReadsTables}
use Rattle.sql_meaning.specs.Sizes.{is_large_form}
use Rattle.med_world.specs.Starting.{HoldsOf, RestsOver, Starts, RunFails, no_memory, box_fails, numbers_out, shows_cause, StartFails, run_fails}
use Rattle.bind_names.specs.Scope.{query_scope}
use Rattle.med_statements.proofs.Selections.{ExpressionsIgnoreOrder, AnswersInAnyOrder, CausesInAnyOrder, IsBoundBy, steady, same_back, query_bound, entries_counted}

-- what the run may give are answers in whatever order the rows of the entries come
rests_over : AnswersInAnyOrder → CausesInAnyOrder → (q : Query) → IsSteady q → (places : List Place) (boxes : List (Option BoxState)) (rests : List Tuple → Type 0) → Begun q places rests boxes → RestsOver q places boxes rests
rests_over law causes q is places boxes rests h = record {
  some = h.some;
  answers = λ honest db same rows left. (law q (entry_rows boxes places) db is same).answers rows (h.answers rows left honest);
  clear = λ honest db same c shows. h.clear honest c (causes q is db (entry_rows boxes places) (same_back (entry_rows boxes places) db same) c shows);
}

stopped_over : CausesInAnyOrder → (q : Query) → IsSteady q → (places : List Place) (fault : Fault) (old new : List (Option BoxState)) → Stops q places fault old new → RunFails q places (cause_of fault) old new
stopped_over law q is places fault old new (lacks_memory e) = no_memory (ap cause_of e)
stopped_over law q is places fault old new (source_fails e failed) = box_fails (ap cause_of e) failed
stopped_over law q is places fault old new (numbers_end e used) = numbers_out (ap cause_of e) used
stopped_over law q is places fault old new (query_shows c e of_run shows) =
    shows_cause (ap (λ (d : Cause). is_of_run (phase_of d)) (ap cause_of e) ∙ of_run) (λ honest db same. subst (λ (d : Cause). IsShownCause q db d) (sym (ap cause_of e)) (law q is (entry_rows old places) db same c (shows honest)))

-- a query that was bound and may have a cursor
pub record MayBegin (full : Bool) (b : BoundQuery) : Type 0 where
  pub safe : is_risky_form (form_of b.select) ≡ false
  pub room : full ≡ false
  pub few : is_large_form (form_of b.select) ≡ false

few_meant : (o : Objects) (user : Name) (bound : List Attached) (q : SelectTree) (b : BoundQuery) → IsBoundBy o user bound q b → is_large_form (form_of b.select) ≡ false → is_large_form (meant_by o q).form ≡ false
few_meant o user bound q b is few = sym (ap is_large_form is.meant.form) ∙ few

safe_meant : (o : Objects) (user : Name) (bound : List Attached) (q : SelectTree) (b : BoundQuery) → IsBoundBy o user bound q b → is_risky_form (form_of b.select) ≡ false → is_risky_form (meant_by o q).form ≡ false
safe_meant o user bound q b is safe = sym (ap is_risky_form is.meant.form) ∙ safe

pub starts : ExpressionsIgnoreOrder → AnswersInAnyOrder → CausesInAnyOrder → (o : Objects) (user : Name) (bound : List Attached) (q : SelectTree) (full : Bool) (b : BoundQuery) (run : Run) (old new : List (Option BoxState))
    → IsBoundBy o user bound q b → bound_widths b ≡ widths (query_scope (shapes o) q) → MayBegin full b → ServesRun none_held (held run) old new → IsRunning run new → HoldsOf (map entry_place b.entries.items) run new → ReadsTables (map entry_place b.entries.items) old new → AsksNone b old new → ShowsAll b run → OpensScans b run new → Begun (written_query b.select) (map entry_place b.entries.items) (Rests run new) old
    → Starts o user bound q full old (map string_bytes b.names.items) run new
starts order any causes o user bound q full b run old new is wide may served running holds once asks shows opens begun =
    let m = meant_by o q in
    let places = map entry_place b.entries.items in
    record {
      bindable = is.bindable;
      safe = safe_meant o user bound q b is may.safe;
      room = may.room;
      few = few_meant o user bound q b is may.few;
      named = is.meant.names;
      served = served;
      running = running;
      places = places;
      are = is.places;
      holds = holds;
      reads = once;
      plain = λ plain some. asks (subst (λ (f : Form). IsPlainForm f) (sym is.meant.form) plain) may.safe (subst (λ (n : ℕ). 0 < n) (entries_counted m b is.meant) some);
      bare = λ bare. shows (subst (λ (f : Form). IsBareForm f) (sym is.meant.form) bare) may.safe;
      opens = record { bound = b; form = is.meant.form; at = refl; wide = wide; opens = λ plain some. opens plain may.safe some };
      rests = subst (λ (x : Query). RestsOver x places old (Rests run new)) (query_bound m b is.meant) (rests_over any causes (written_query b.select) (steady order b.select) places old (Rests run new) begun);
    }

pub not_begun : ExpressionsIgnoreOrder → CausesInAnyOrder → (o : Objects) (user : Name) (bound : List Attached) (q : SelectTree) (full : Bool) (b : BoundQuery) (fault : Fault) (old new : List (Option BoxState))
    → IsBoundBy o user bound q b → MayBegin full b → AllServed old new → Stops (written_query b.select) (map entry_place b.entries.items) fault old new → StartFails o user bound q full old (cause_of fault) new
not_begun order causes o user bound q full b fault old new is may served stops =
    let m = meant_by o q in
    let places = map entry_place b.entries.items in
    run_fails is.bindable (safe_meant o user bound q b is may.safe) may.room (few_meant o user bound q b is may.few) served places is.places
    (subst (λ (x : Query). RunFails x places (cause_of fault) old new) (query_bound m b is.meant) (stopped_over causes (written_query b.select) (steady order b.select) places fault old new stops))
