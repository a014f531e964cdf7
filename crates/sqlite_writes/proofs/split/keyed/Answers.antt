use Rattle.std.proofs.Common.{refl}
use Rattle.med_value.specs.Datum.{tuple}
use Rattle.sqlite_writes.proofs.Splits.{place_by, missing_by}
use Rattle.sqlite_writes.proofs.split.keyed.Goals as goal

pub returns-then-has_key-clause-placed : goal.returns-then-has_key-clause-placed
returns-then-has_key-clause-placed c = λ t fits. place_by t (tuple c.args.row) c.has_key.result fits c.has_key.ensures.has c.if-has_key.true

pub returns-else-has_key-clause-err : goal.returns-else-has_key-clause-err
returns-else-has_key-clause-err c = (refl, missing_by (tuple c.args.row) c.has_key.result c.has_key.ensures.has c.if-has_key.false)
