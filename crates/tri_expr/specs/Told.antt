-- How a fault of an expression is told by an evaluation.
use Rattle.tri_expr.specs.declared.expr.Fault.{Fault}
use Rattle.tri_expr.specs.declared.expr.Fault.TheVariants.{Range, Zero}
use Rattle.tri_expr.specs.declared.expr.EvalFault.{EvalFault}
use Rattle.tri_expr.specs.declared.expr.EvalFault.TheVariants.{OutOfRange, ZeroDivisor}

-- 22003 and 22012
abbrev pub told_as : Fault → EvalFault
told_as Range = OutOfRange
told_as Zero = ZeroDivisor
