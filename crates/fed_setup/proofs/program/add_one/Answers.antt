use Rattle.fed_setup.proofs.FirstEngines.{place_takes}
use Rattle.fed_setup.proofs.program.add_one.Goals as goal

-- a new source takes what the catalogue lets pass
pub add_place-requires-clause-takes : goal.add_place-requires-clause-takes
add_place-requires-clause-takes g c =
    place_takes (g.V.Surroundings.outside c.args.rt.now) c.args.place.kind c.args.place.path.now _ c.in-Ok.ensures.new c.csv_takes_its_tables.ensures.new c.jsonl_takes_its_tables.ensures.new c.sqlite_takes_its_tables.ensures

pub returns-in-Err-clause-fault : goal.returns-in-Err-clause-fault
returns-in-Err-clause-fault g c = c.in-Err.ensures.fault _
