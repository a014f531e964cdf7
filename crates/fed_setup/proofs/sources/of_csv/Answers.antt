use Rattle.fed_setup.proofs.sources.of_csv.Goals as goal

pub returns-clause-takes : goal.returns-clause-takes
returns-clause-takes g c = c.csv_takes_its_tables.ensures.new _ _ c.new-csv.ensures.new
