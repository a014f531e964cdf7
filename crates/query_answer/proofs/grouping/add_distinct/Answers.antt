use Rattle.std.proofs.Common.{map, ap, ◌∙◌}
use Rattle.med_query.specs.Query.{output_eq}
use Rattle.query_answer.specs.Keys.{output_in}
use Rattle.query_answer.proofs.KeyNumbers.{inserted_seen}
use Rattle.query_answer.proofs.grouping.add_distinct.Goals as goal

pub returns : goal.returns
returns c = ap (map output_in) c.in_ok-insert.ensures.keys ∙ inserted_seen output_in output_eq c.args.seen.now.keys (record { output = c.args.output })
