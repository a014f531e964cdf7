use Rattle.std.proofs.Common.{map, refl, sym, subst}
use Rattle.std.proofs.lemmas.Result.{IfOk-weaker, IfErr-weaker}
use Rattle.wrapper_parts.specs.Staged.{change_is}
use Rattle.fdw_api.specs.declared.interface.Fault.{Fault}
use Rattle.place_wrapper.specs.Forms.{RefusesChanges}
use Rattle.jsonl_wrapper.specs.Tables.{readers_in}
use Rattle.jsonl_wrapper.specs.Formats.{json_form}
use Rattle.jsonl_wrapper.proofs.DraftLaws.{drafts, again_same, shows_same}
use Rattle.jsonl_wrapper.proofs.FormatLaws.{changes_refused}
use Rattle.jsonl_wrapper.proofs.RisingKeys.{after_rises}
use Rattle.jsonl_wrapper.proofs.RisingTold.{rise_told}
use Rattle.jsonl_wrapper.proofs.placed.JsonTablePlacedTable.rewritten.Goals as goal

pub drafted-requires : goal.drafted-requires
drafted-requires c =
    let t = c.args.self in
    let e = c.in-Ok.ensures.exchanges in
    (e.0, e.1, λ told. rise_told _ (after_rises (readers_in t) e.0 _ e.2 (rw c.deref.ensures.value at (c.stays_rising-stays.ensures told))))

pub returns-in-Ok-clause-ok : goal.returns-in-Ok-clause-ok
returns-in-Ok-clause-ok c =
    let t = c.args.self in
    let e = c.in-Ok.ensures.exchanges in
    IfOk-weaker c.drafted.result _ _
    (λ d is. drafts t c.in-Ok.exchange d e.0 (map change_is c.args.changes.items) is e.1 e.2 c.in-Ok.ensures.no_cause) c.drafted.ensures.ok

pub returns-in-Ok-clause-same : goal.returns-in-Ok-clause-same
returns-in-Ok-clause-same c = IfErr-weaker c.drafted.result _ _ (λ u is. again_same c.args.self u.table is) c.drafted.ensures.same

pub returns-in-Ok-clause-err : goal.returns-in-Ok-clause-err
returns-in-Ok-clause-err c =
    let changes = map change_is c.args.changes.items in
    IfErr-weaker c.drafted.result _ _ (λ u is. subst (λ (f : Fault). RefusesChanges json_form c.args.self changes f) (sym is) tt) c.drafted.ensures.err

pub returns-in-Err-clause-same : goal.returns-in-Err-clause-same
returns-in-Err-clause-same c = shows_same c.args.self c.args.self refl refl refl refl

pub returns-in-Err-clause-err : goal.returns-in-Err-clause-err
returns-in-Err-clause-err c = changes_refused c.args.self (map change_is c.args.changes.items) c.in-Err.fault c.in-Err.ensures.err
