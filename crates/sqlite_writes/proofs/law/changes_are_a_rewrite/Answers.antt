use Rattle.sqlite_writes.proofs.Rewritten.{rows_are, repeats_are, count_is, once_is, shaped}
use Rattle.sqlite_writes.proofs.law.changes_are_a_rewrite.Goals as goal

pub returns : goal.returns
returns c = record { rows = rows_are; repeats = repeats_are; count = count_is; once = once_is; ordered = shaped }
