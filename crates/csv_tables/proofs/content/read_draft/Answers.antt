use Rattle.std.proofs.Common.{sym, subst, List}
use Rattle.csv.specs.Records.{fields_of}
use Rattle.csv_tables.specs.CsvRecords.{Record}
use Rattle.csv_tables.specs.Content.{HasRead, records_so_far}
use Rattle.csv_tables.specs.Tables.{shape_is}
use Rattle.csv_tables.proofs.ReadLaws.{next_comes}
use Rattle.csv_tables.proofs.content.read_draft.Goals as goal

pub returns-then-not-branch-clause-all : goal.returns-then-not-branch-clause-all
returns-then-not-branch-clause-all c =
    rw c.if-not-branch.true at (c.in_ok-next_record.ensures.found c.args.bytes.now (records_so_far (shape_is c.args.layout.now) c.loop.draft) c.loop.invariant.was_read)

pub returns-in-Err-clause-err : goal.returns-in-Err-clause-err
returns-in-Err-clause-err c =
    let r = rw c.if-not-branch.false at (c.in_ok-next_record.ensures.found c.args.bytes.now (records_so_far (shape_is c.args.layout.now) c.loop.draft) c.loop.invariant.was_read) in
    let w = next_comes c.args.bytes.now (records_so_far (shape_is c.args.layout.now) c.loop.draft) (fields_of c.next_record.new.row) c.next_record.new.rdr r in
    c.in-Err.ensures.err c.args.bytes.now w.0 w.1

pub loop-preserved : goal.loop-preserved
loop-preserved c =
    let r = rw c.if-not-branch.false at (c.in_ok-next_record.ensures.found c.args.bytes.now (records_so_far (shape_is c.args.layout.now) c.loop.draft) c.loop.invariant.was_read) in
    record {
      drafted = c.in-Ok.ensures.draft;
      was_read = subst (λ (l : List Record). HasRead c.args.bytes.now l c.next_record.new.rdr) (sym c.in-Ok.ensures.records) r;
    }
