-- How a fault of an answer is told as a box's: by its cause.
use Rattle.med_value.specs.declared.cause.Cause.TheVariants.{OutOfRange, DivisionByZero, TooLarge}
use Rattle.tri_expr.specs.declared.expr.EvalFault.{EvalFault}
use Rattle.tri_expr.specs.declared.expr.EvalFault.TheVariants.{OutOfRange as Overflow, ZeroDivisor, NoMemory as LacksMemory}
use Rattle.query_answer.specs.declared.outputs.AnswerFault.{AnswerFault}
use Rattle.query_answer.specs.declared.outputs.AnswerFault.TheVariants.{Evaluation, TooManyRows}
use Rattle.fdw_api.specs.declared.interface.Fault.{Fault}
use Rattle.fdw_api.specs.declared.interface.Fault.TheVariants.{NoMemory, Refused}

-- a fault by its cause: 22003, 22012 and 54000; want of memory has none
abbrev pub eval_refusal : EvalFault → Fault
eval_refusal Overflow = Refused OutOfRange
eval_refusal ZeroDivisor = Refused DivisionByZero
eval_refusal LacksMemory = NoMemory

abbrev pub run_fault : AnswerFault → Fault
run_fault (Evaluation f) = eval_refusal f
run_fault TooManyRows = Refused TooLarge
