use Rattle.std.proofs.Common.{refl}
use Rattle.loop_runs.proofs.Left.{left_is}
use Rattle.loop_runs.proofs.leaving.left_select.Goals as goal

pub returns-clause-is : goal.returns-clause-is
returns-clause-is c = left_is c.args.select (record { cores = c.in_ok-cores.cores; directions = c.args.select.directions; offset = c.args.select.offset; limit = c.args.select.limit }) c.in_ok-cores.ensures.are refl refl refl
