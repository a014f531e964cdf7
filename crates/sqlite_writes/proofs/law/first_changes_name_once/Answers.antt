use Rattle.sqlite_writes.proofs.Named.{none_named, once_more}
use Rattle.sqlite_writes.proofs.law.first_changes_name_once.Goals as goal

pub returns : goal.returns
returns c = record { none = none_named; more = once_more }
