use Rattle.session_tests.proofs.blobs.new_csv.Goals as goal

pub returns-clause-takes : goal.returns-clause-takes
returns-clause-takes c = c.csv_takes_its_tables.ensures.new _ _ c.new-csv.ensures.new
