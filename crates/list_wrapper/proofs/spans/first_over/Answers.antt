use Rattle.std.proofs.Common.{arith}
use Rattle.std.proofs.lemmas.Int.{ints}
use Rattle.list_wrapper.specs.Scans.{keys_of}
use Rattle.wrapper_parts.proofs.Halving.{beyond_by, beyond_all}
use Rattle.list_wrapper.proofs.RisingLists.{keys_length}
use Rattle.list_wrapper.proofs.spans.first_over.Goals as goal

pub returns : goal.returns
returns c =
    beyond_by (keys_of c.args.rows.now.items) c.args.key _ c.first_at_least.result (omega (arith, ints)) c.first_at_least.ensures

pub returns-then-key-eq9223372036854775807 : goal.returns-then-key-eq9223372036854775807
returns-then-key-eq9223372036854775807 c =
    let many = keys_length c.args.rows.now.items in
    beyond_all (keys_of c.args.rows.now.items) c.args.key _ (omega arith)
