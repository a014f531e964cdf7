use Rattle.std.proofs.Common.{map, sym}
use Rattle.bind_query.specs.Shown.{output_of}
use Rattle.bind_query.proofs.KeySteps.{null_keyed}
use Rattle.bind_query.proofs.keys.+form_of_key.Goals as goal

pub returns-in-Null : goal.returns-in-Null
returns-in-Null t c = sym (null_keyed (map output_of c.args.outputs.now) c.args.e.now c.in-Null.is)
