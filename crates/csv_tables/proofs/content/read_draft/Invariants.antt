use Rattle.csv_tables.specs.Content.{HasRead, IsDraft, records_so_far}
use Rattle.csv_tables.specs.Tables.{shape_is}
use Rattle.csv_tables.proofs.content.read_draft.Given as goal

abbrev pub invariant-loop : goal.invariant-loop
invariant-loop l = record {
  drafted : IsDraft (shape_is l.layout) l.draft;
  was_read : HasRead l.bytes (records_so_far (shape_is l.layout) l.draft) l.rdr;
}
