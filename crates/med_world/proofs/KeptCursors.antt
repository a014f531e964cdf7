-- The tables of a run's scans, from call to call.
use Rattle.std.proofs.Common.{◌≡◌, List, Option, Some, Contains, ap, sym, ◌∙◌, subst}
use Rattle.fdw_api.specs.State.{Scan, BoxState, scan_of}
use Rattle.med_exec.specs.declared.running.Run.{Run}
use Rattle.med_exec.specs.Prelude.{Held, KeepTables}
use Rattle.med_exec.specs.Rests.{held, IsRunning}
use Rattle.med_exec.proofs.Leaving.{is_some_of}
use Rattle.med_exec.proofs.Served.{box_inj}
use Rattle.med_exec.proofs.Left.{run_is_held, held_is_live}

some_inj : (a b : Scan) → Some a ≡ Some b → a ≡ b
some_inj a b e = cc

pub tables_itself : (own : Held) (boxes : List (Option BoxState)) → KeepTables own boxes boxes
tables_itself own boxes slot number has s t at_s at_t was now is_s is_t =
    let same : s ≡ t = box_inj s t (sym at_s ∙ at_t) in
    let one : now ≡ was = some_inj now was (sym is_t ∙ ap (λ (b : BoxState). scan_of b number) (sym same) ∙ is_s) in
    (ap (λ (x : Scan). x.table) one, ap (λ (x : Scan). x.kinds) one)

-- in between the run is good for its next row
pub tables_on : (run : Run) (own : Held) (old mid new : List (Option BoxState)) → held run ≡ own → IsRunning run mid → KeepTables own old mid → KeepTables (held run) mid new → KeepTables own old new
tables_on run own old mid new same running first after slot number has s t at_s at_t was now is_s is_t =
    let has_run = subst (λ (h : Held). Contains (h slot) number) (sym same) has in
    let at = held_is_live run mid slot number (run_is_held run mid running) has_run in
    let scan = is_some_of (scan_of at.box number) at.holds in
    let later = after slot number has_run at.box t at.there at_t scan.0 now scan.1 is_t in
    let sooner = first slot number has s at.box at_s at.there was scan.0 is_s scan.1 in
    (later.0 ∙ sooner.0, later.1 ∙ sooner.1)
