use Rattle.std.proofs.Common.{map, rules}
use Rattle.std.specs.String.{string_bytes}
use Rattle.sql_print.specs.WritePrinting.{name_written}
use Rattle.sql_print.proofs.WritingParts.{others_next}
use Rattle.sql_print.proofs.write_lists.write_other_names.Goals as goal

pub loop-name-preserved : goal.loop-name-preserved
loop-name-preserved c =
    others_next name_written (string_bytes c.args.out.now) (string_bytes c.loop-name.out) (string_bytes c.write_fixed.new.out) (string_bytes c.write_name.new.out) (string_bytes c.in-Some.name.now) (map string_bytes c.in-Some.rest.now) (map string_bytes c.args.names.now)
    (search rules) c.in_ok-write_fixed.ensures c.in_ok-write_name.ensures
