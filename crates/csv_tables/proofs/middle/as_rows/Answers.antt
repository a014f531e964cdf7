use Rattle.std.proofs.Common.{◌∙◌, ap, arith}
use Rattle.std.specs.List.{list_all}
use Rattle.csv_tables.specs.Held.{is_plain}
use Rattle.csv_tables.proofs.Holding.{holds_rows}
use Rattle.csv_tables.proofs.Shown.{plain_told}
use Rattle.csv_tables.proofs.middle.as_rows.Goals as goal

pub invariant_of-result : goal.invariant_of-result
invariant_of-result c =
    let was = c.requires in
    let g = was.1 in
    let few = was.2 in
    let count = g.count_is in
    let held = holds_rows c.args.width c.args.gathered.count was.0 c.args.gathered.fields count g.whole g.lines in
    record {
      whole = held.full;
      small = omega arith;
      closed = g.no_partial;
      texts = held.texts;
      lines = held.lines;
      shown = plain_told _ _ (λ e. ap (list_all is_plain) held.rows_are ∙ g.shown e);
    }

pub returns-clause-rows : goal.returns-clause-rows
returns-clause-rows c = λ rows g. (holds_rows c.args.width c.args.gathered.count rows c.args.gathered.fields g.count_is g.whole g.lines).rows_are
