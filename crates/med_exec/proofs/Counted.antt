-- What is counted where no scan is begun.
use Rattle.std.proofs.Common.{ℕ, List, Option, ap, sym, ◌∙◌, add-zero}
use Rattle.fdw_api.specs.State.{BoxState}
use Rattle.scan_loops.specs.Prelude.{next_in, BeginsNone, none_in, or_none}
use Rattle.med_exec.specs.Counting.{BeginsScans}

-- the loops count the next numbers of all slots
pub begins_none : (old new : List (Option BoxState)) → BeginsNone old new → BeginsScans none_in old new
begins_none old new h slot s t was is =
    ap (λ (o : Option (Option BoxState)). next_in (or_none o)) (sym is) ∙ ap (λ (f : ℕ → ℕ). f slot) h
    ∙ ap (λ (o : Option (Option BoxState)). next_in (or_none o)) was ∙ sym (add-zero s.ledger.next)
