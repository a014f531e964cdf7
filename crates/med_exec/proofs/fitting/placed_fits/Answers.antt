use Rattle.std.proofs.Common.{◌≡◌, ◌&&◌, sym, subst}
use Rattle.med_value.specs.Datum.{Datum}
use Rattle.fdw_api.specs.Scan.{has_kind, is_clean}
use Rattle.med_exec.proofs.Fitted.{placed_is}
use Rattle.med_exec.proofs.fitting.placed_fits.Goals as goal

pub returns-in-Some-get : goal.returns-in-Some-get
returns-in-Some-get c =
    let h = c.in-Some-get.ensures.lookup in
    rw c.deref.ensures.value at (subst (λ (d : Datum). c.value_fits.result ≡ (has_kind c.args.kind d && is_clean d)) (sym (placed_is c.deref.result.now c.args.place c.in-Some.at c.in-Some-get.value.now c.in-Some.is h.3.0 h.1)) c.value_fits.ensures)
