use Rattle.std.proofs.Common.{refl}
use Rattle.csv.specs.Records.{fields_of}
use Rattle.csv_tables.proofs.Gathering.{gathers_more}
use Rattle.csv_tables.proofs.middle.gather.Goals as goal

pub returns-clause-rows : goal.returns-clause-rows
returns-clause-rows c = λ width rows was wide. gathers_more width rows c.args.gathered.now _ (fields_of c.args.row.now) was wide c.in_ok-push_fields.ensures.fields c.in_ok-push_fields.ensures.partial refl c.stay_plain-gathered.ensures
