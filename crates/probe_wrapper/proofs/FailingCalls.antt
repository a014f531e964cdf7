-- The calls of a failing wrapper that reach its inner one, after they were counted.
use Rattle.std.proofs.Common.{◌≡◌, ℕ, Bool, List, Option, sym, subst}
use Rattle.med_value.specs.Datum.{Tuple}
use Rattle.fdw_api.specs.Prelude.{Spec, Column, OptionForm, Change, BoxState, Binds, RefusesBind, Begins, RefusesBegin, IsOpen, Iterates, Breaks, Rescans, Ends, Opens, RefusesModify, CanChange, Stages, RefusesChange, Closes, RefusesClose}
use Rattle.fdw_api.specs.declared.interface.Fault.{Fault}
use Rattle.fdw_api.specs.declared.interface.SourceRow.{SourceRow}
use Rattle.probe_wrapper.specs.declared.failing.Failure.{Failure}
use Rattle.probe_wrapper.specs.Failing.{after_call, failed, failed_ledger, past_scan, past_write}
use Rattle.probe_wrapper.proofs.FailingLemmas as inner
use Rattle.probe_wrapper.proofs.RoundLemmas.{bind_cause}

pub binds_after : (f g : Failure) (s t : BoxState) (remote : List ℕ) (columns : List Column) (settings : List OptionForm) (n : ℕ) → g ≡ after_call f → Binds s remote columns settings n t → Binds (failed s f) remote columns settings n (failed t g)
binds_after f g s t remote columns settings n e b = inner.moved (λ o. Binds o remote columns settings n (failed t g)) s f g e (inner.binds g s t remote columns settings n b)

pub refuses_bind_after : (f g : Failure) (s t : BoxState) (remote : List ℕ) (columns : List Column) (settings : List OptionForm) (fault : Fault) → g ≡ after_call f → RefusesBind s remote columns settings fault t → RefusesBind (failed s f) remote columns settings fault (failed t g)
refuses_bind_after f g s t remote columns settings fault e r =
    inner.moved (λ o. RefusesBind o remote columns settings fault (failed t g)) s f g e
    (record { refuses = inner.refuses g s t fault r.refuses; cause = bind_cause s s.nature (failed_ledger g s.ledger) s.content.coming remote columns settings fault r.cause })

pub begins_after : (f g h : Failure) (s t : BoxState) (n : ℕ) (spec : Spec) (params : Tuple) (q : ℕ) → g ≡ after_call f → h ≡ past_scan g q → Begins s n spec params q t → Begins (failed s f) n spec params q (failed t h)
begins_after f g h s t n spec params q e p b =
    inner.moved (λ o. Begins o n spec params q (failed t h)) s f g e
    (subst (λ (k : Failure). Begins (failed s g) n spec params q (failed t k)) (sym p) (inner.begins g s t n spec params q b))

pub refuses_begin_after : (f g : Failure) (s t : BoxState) (fault : Fault) → g ≡ after_call f → RefusesBegin fault s t → RefusesBegin fault (failed s f) (failed t g)
refuses_begin_after f g s t fault e r = inner.moved (λ o. RefusesBegin fault o (failed t g)) s f g e (record { refuses = inner.refuses g s t fault r.refuses; cause = r.cause })

pub open_inside : (f : Failure) (s : BoxState) (q : ℕ) → IsOpen (failed s f) q → IsOpen s q
open_inside f s q o = (o.0, (inner.open_in f s q o.0 o.1 o.2).0, o.2)

pub gives_after : (f g : Failure) (s t : BoxState) (q : ℕ) (row : Option SourceRow) → g ≡ after_call f → IsOpen (failed s f) q → Iterates s q row t → Iterates (failed s f) q row (failed t g)
gives_after f g s t q row e o r = inner.moved (λ x. Iterates x q row (failed t g)) s f g e (inner.gives g s t q row (inner.same_of f g q e (inner.open_in f s q o.0 o.1 o.2).1) r)

pub breaks_after : (f g : Failure) (s t : BoxState) (q : ℕ) (fault : Fault) → g ≡ after_call f → IsOpen (failed s f) q → Breaks s q fault t → Breaks (failed s f) q fault (failed t g)
breaks_after f g s t q fault e o r = inner.moved (λ x. Breaks x q fault (failed t g)) s f g e (inner.breaks g s t q fault (inner.same_of f g q e (inner.open_in f s q o.0 o.1 o.2).1) r)

pub rescans_after : (f g : Failure) (s t : BoxState) (q : ℕ) (params : Tuple) → g ≡ after_call f → IsOpen (failed s f) q → Rescans s q params t → Rescans (failed s f) q params (failed t g)
rescans_after f g s t q params e o r = inner.moved (λ x. Rescans x q params (failed t g)) s f g e (inner.rescans g s t q params (inner.same_of f g q e (inner.open_in f s q o.0 o.1 o.2).1) r)

pub ends_after : (f g : Failure) (s t : BoxState) (q : ℕ) → g ≡ past_scan f q → Ends s q t → Ends (failed s f) q (failed t g)
ends_after f g s t q e r = subst (λ (k : Failure). Ends (failed s f) q (failed t k)) (sym e) (inner.ends f s t q r)

pub opens_after : (f g h : Failure) (s t : BoxState) (n : ℕ) → g ≡ after_call f → h ≡ past_write g → Opens s n t → Opens (failed s f) n (failed t h)
opens_after f g h s t n e p o = inner.moved (λ x. Opens x n (failed t h)) s f g e (subst (λ (k : Failure). Opens (failed s g) n (failed t k)) (sym p) (inner.opens g s t n o))

pub refuses_modify_after : (f g : Failure) (s t : BoxState) (fault : Fault) → g ≡ after_call f → RefusesModify fault s t → RefusesModify fault (failed s f) (failed t g)
refuses_modify_after f g s t fault e r = inner.moved (λ o. RefusesModify fault o (failed t g)) s f g e (record { refuses = inner.refuses g s t fault r.refuses; no_cause = r.no_cause })

pub stages_after : (f g : Failure) (s t : BoxState) (change : Change) → g ≡ after_call f → CanChange (failed s f) change → Stages s change t → Stages (failed s f) change (failed t g)
stages_after f g s t change e c r = inner.moved (λ o. Stages o change (failed t g)) s f g e (inner.stages g s t change (inner.same_write f g e (inner.can_change f s change c).1) r)

pub refuses_change_after : (f g : Failure) (s t : BoxState) (change : Change) (fault : Fault) → g ≡ after_call f → CanChange (failed s f) change → RefusesChange s change fault t → RefusesChange (failed s f) change fault (failed t g)
refuses_change_after f g s t change fault e c r = inner.moved (λ o. RefusesChange o change fault (failed t g)) s f g e (inner.refuses_change g s t change fault (inner.same_write f g e (inner.can_change f s change c).1) r)

pub closes_after : (f g : Failure) (s t : BoxState) (keep : Bool) → g ≡ after_call f → Closes s keep t → Closes (failed s f) keep (failed t g)
closes_after f g s t keep e r = inner.moved (λ o. Closes o keep (failed t g)) s f g e (inner.closes g s t keep r)

pub refuses_close_after : (f g : Failure) (s t : BoxState) (keep : Bool) (fault : Fault) → g ≡ after_call f → RefusesClose s keep fault t → RefusesClose (failed s f) keep fault (failed t g)
refuses_close_after f g s t keep fault e r = inner.moved (λ o. RefusesClose o keep fault (failed t g)) s f g e (inner.refuses_close g s t keep fault r)
