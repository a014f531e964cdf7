use Rattle.std.proofs.Common.{map}
use Rattle.bind_query.specs.Shown.{output_of}
use Rattle.bind_query.proofs.KeySteps.{place_none}
use Rattle.bind_query.proofs.keys.place_named.Goals as goal

pub returns-in-Nothing : goal.returns-in-Nothing
returns-in-Nothing c = place_none (map output_of c.args.outputs.now) c.args.name.now c.in-Nothing.ensures
