use Rattle.fed_setup.proofs.sources.of_jsonl.Goals as goal

pub returns-clause-takes : goal.returns-clause-takes
returns-clause-takes g c = c.jsonl_takes_its_tables.ensures.new _ _ c.new-jsonl.ensures.new
