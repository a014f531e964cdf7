use Rattle.session_tests.proofs.blobs.new_jsonl.Goals as goal

pub returns-clause-takes : goal.returns-clause-takes
returns-clause-takes c = c.jsonl_takes_its_tables.ensures.new _ _ c.new-jsonl.ensures.new
