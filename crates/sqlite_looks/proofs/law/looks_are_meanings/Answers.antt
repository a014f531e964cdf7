use Rattle.sqlite_looks.proofs.Meant.{page_is, delete_is, insert_is}
use Rattle.sqlite_looks.proofs.law.looks_are_meanings.Goals as goal

pub returns-clause-page : goal.returns-clause-page
returns-clause-page c schema text tree places size holds = page_is schema text tree places size holds

pub returns-clause-delete : goal.returns-clause-delete
returns-clause-delete c schema text place tree holds = delete_is schema text place tree holds

pub returns-clause-insert : goal.returns-clause-insert
returns-clause-insert c schema text place cells width holds = insert_is schema text place cells width holds
