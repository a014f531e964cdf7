use Rattle.source_tests.proofs.files.new_jsonl.Goals as goal

pub returns : goal.returns
returns c = c.new.ensures.new.idle
