use Rattle.std.proofs.Common.{◌≡◌, false, rules}
use Rattle.std.specs.List.{list_any}
use Rattle.list_wrapper.specs.Changes.{is_delete}
use Rattle.list_wrapper.proofs.Kept.{none_gone}
use Rattle.list_wrapper.proofs.changes.gone_rows.Goals as goal

pub returns-then-not-takes_out-clause-each : goal.returns-then-not-takes_out-clause-each
returns-then-not-takes_out-clause-each c = λ id lt. (let e : list_any is_delete c.args.changes.now ≡ false = search rules in let n = none_gone c.args.changes.now e id in search rules)
