use Rattle.std.proofs.Common.{◌-◌, arith}
use Rattle.session_wire.proofs.frames.three_digits.Goals as goal

pub returns-clause-some : goal.returns-clause-some
returns-clause-some c = (
  c.args.hundred - 48,
  c.args.ten - 48,
  c.args.unit - 48,
  omega arith,
  omega arith,
  omega arith,
  omega arith,
  omega arith,
  omega arith,
  omega arith,
  omega arith,
)
