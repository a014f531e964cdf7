use Rattle.source_kinds.proofs.JsonTakes.{json_takes}
use Rattle.source_kinds.proofs.law.jsonl_takes_its_tables.Goals as goal

pub returns-clause-all : goal.returns-clause-all
returns-clause-all c = json_takes

pub returns-clause-new : goal.returns-clause-new
returns-clause-new c s shelf new = json_takes s new.kind
