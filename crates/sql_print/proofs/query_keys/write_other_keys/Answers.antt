use Rattle.std.proofs.Common.{map, rules}
use Rattle.std.specs.String.{string_bytes}
use Rattle.med_syntax.specs.QueryView.{key_tree}
use Rattle.sql_print.proofs.WritingParts.{keys_next}
use Rattle.sql_print.proofs.query_keys.write_other_keys.Goals as goal

pub loop-key-preserved : goal.loop-key-preserved
loop-key-preserved c =
    keys_next (string_bytes c.args.out.now) (string_bytes c.loop-key.out) (string_bytes c.write_comma.new.out) (string_bytes c.write_key.new.out) (key_tree c.in-Some.key.now) (map key_tree c.in-Some.rest.now) (map key_tree c.args.keys.now)
    (search rules) c.in_ok-write_comma.ensures c.in_ok-write_key.ensures
