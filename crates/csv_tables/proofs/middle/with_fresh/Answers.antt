use Rattle.std.proofs.Common.{◌≡◌, ◌∷◌, ◌++◌, [], ◌∙◌, ap, length, map, arith, rules}
use Rattle.std.specs.List.{list_all}
use Rattle.csv.specs.Records.{fields_of}
use Rattle.csv_tables.specs.CsvRecords.{is_whole}
use Rattle.csv_tables.proofs.Gathering.{lines_first, lines_on, lines_end, no_lines, gathers_as}
use Rattle.csv_tables.proofs.middle.with_fresh.Goals as goal

pub loop-line-preserved : goal.loop-line-preserved
loop-line-preserved c =
    let i = c.loop-line.invariant in
    let xs = c.loop-line.line-iterator.rest.items in
    let ys = c.next.new.self.rest.items in
    let line = c.in-Some.line in
    let e : xs ≡ line ∷ ys = search rules in
    let size = ap length e in
    let g = c.in_ok-gather.ensures in
    let count = g.count in
    let few = i.few in
    record {
      none_open = g.partial;
      few = omega arith;
      done = λ width rows was wide.
          (let d = i.done width rows was wide in
          let first = lines_first width line xs ys e d.2 in
          (d.0 ++ fields_of line ∷ [], g.rows width d.0 d.1 first.0, first.1, lines_on d.0 _ line xs ys d.3 e));
    }

pub returns : goal.returns
returns c =
    let xs = c.loop-line.line-iterator.rest.items in
    let none = no_lines xs (search rules) in
    let start : c.into_iter-line-iterator.result.rest.items ≡ c.args.fresh.items = search rules in
    λ width rows was wide.
    (let d = c.loop-line.invariant.done width rows was (ap (λ l. list_all (is_whole width) (map fields_of l)) start ∙ wide) in
    gathers_as width d.0 _ c.loop-line.gathered d.1 (lines_end d.0 _ xs d.3 none ∙ ap (λ l. rows ++ map fields_of l) start))
