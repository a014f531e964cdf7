use Rattle.std.proofs.Common.{◌≡◌, Some, sym, subst}
use Rattle.fdw_api.specs.Scan.{spec_of}
use Rattle.wrapper_parts.specs.declared.sought.SoughtIndex.{SoughtIndex}
use Rattle.wrapper_parts.specs.Scans.{Serves}
use Rattle.list_wrapper.specs.Scans.{numbered}
use Rattle.list_wrapper.proofs.Rows.{serves_found}
use Rattle.list_wrapper.proofs.scans.best_index.Goals as goal
use Rattle.list_wrapper.proofs.scans.best_index.Goals.{in-Some-exact_at+then-found-best+in_ok-places-2+then-distinct, in-Some-exact_at+then-found-best+in_ok-places-2+else-distinct, in_default}

pub loop-at-preserved : goal.loop-at-preserved
loop-at-preserved c =
    let rows = numbered 0 c.args.rows.now.items in
    let spec = spec_of c.args.spec.now in
    elim c.match-exact_at.branch [
      | in-Some-exact_at+then-found-best+in_ok-places-2+then-distinct w ↦ subst (λ (b : SoughtIndex). Serves spec rows (Some b)) (sym w.best-is)
          (serves_found spec rows _ w.in-Some-exact_at.ensures w.in_ok-places-2.ensures)
      | in-Some-exact_at+then-found-best+in_ok-places-2+else-distinct w ↦ subst (λ (b : SoughtIndex). Serves spec rows (Some b)) (sym w.best-is) c.loop-at.invariant
      | in_default w ↦ subst (λ (b : SoughtIndex). Serves spec rows (Some b)) (sym w.best-is) c.loop-at.invariant
    ]
