use Rattle.csv.specs.Records.{fields_of}
use Rattle.csv_tables.proofs.ReadLaws.{reads_on}
use Rattle.csv_tables.proofs.content.next_record.Goals as goal

pub returns-clause-found : goal.returns-clause-found
returns-clause-found c = λ bytes rows h.
    reads_on bytes rows c.args.rdr.now c.read_byte_record.new.self c.in-Ok.found (fields_of c.read_byte_record.new.row) h
    (c.in-Ok.ensures.reads h.trim h.ready) (c.in-Ok.ensures.ready h.trim) c.in-Ok.ensures.flexible c.in-Ok.ensures.goes
