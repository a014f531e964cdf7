use Rattle.std.proofs.Common.{sym, ◌∙◌}
use Rattle.fdw_api.specs.Calls.{row_of}
use Rattle.med_exec.proofs.DistinctIds.{map_seen, rising_once, tells_distinct}
use Rattle.med_exec.proofs.writing.are_distinct.Goals as goal

pub returns-then-are_rising-clause-ok : goal.returns-then-are_rising-clause-ok
returns-then-are_rising-clause-ok c = rising_once (λ r. r.id.number) c.args.rows.now _ (map_seen (λ r. r.id) row_of c.args.rows.now) (sym c.are_rising.ensures ∙ c.if-are_rising.true)

pub returns-clause-ok : goal.returns-clause-ok
returns-clause-ok c = tells_distinct (λ r. r.id.number) c.args.rows.now c.in_ok-ids.ids c.len.result c.in_ok-ids.ensures c.len.ensures.len _ (map_seen (λ r. r.id) row_of c.args.rows.now)
