use Rattle.std.proofs.Common.{map, rules}
use Rattle.std.specs.String.{string_bytes}
use Rattle.med_syntax.specs.QueryView.{core_tree}
use Rattle.sql_print.proofs.WritingParts.{unions_next}
use Rattle.sql_print.proofs.query_writer.write_unions.Goals as goal

pub loop-core-preserved : goal.loop-core-preserved
loop-core-preserved c =
    unions_next (string_bytes c.args.out.now) (string_bytes c.loop-core.out) (string_bytes c.write_union.new.out) (core_tree c.in-Some.core.now) (map core_tree c.in-Some.rest.now) (map core_tree c.args.cores.now)
    (search rules) c.in_ok-write_union.ensures
