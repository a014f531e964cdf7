use Rattle.source_kinds.proofs.ListTakes.{list_takes}
use Rattle.source_kinds.proofs.law.lists_take_their_tables.Goals as goal

pub returns-clause-all : goal.returns-clause-all
returns-clause-all c = list_takes c.lists_are_told_nothing.ensures

pub returns-clause-new : goal.returns-clause-new
returns-clause-new c s tables new = list_takes c.lists_are_told_nothing.ensures s new.kind
