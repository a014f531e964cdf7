-- The room first, then how far down a level stands.
use Rattle.std.proofs.Common.{ℕ, ◌+◌, ◌*◌, length}
use Rattle.med_syntax.specs.ExprView.{expr_tree, expr_trees}
use Rattle.med_syntax.specs.SymbolView.{terminals_of}
use Rattle.med_syntax.specs.declared.expr.Joint.{Joint}
use Rattle.med_syntax.specs.declared.expr.Joint.TheVariants.{Or, And}
use Rattle.med_syntax.specs.declared.symbols.Separator.{Separator}
use Rattle.med_syntax.specs.declared.symbols.Separator.TheVariants.{Between, Comma}
use Rattle.med_syntax.specs.declared.symbols.Level.{Level}
use Rattle.med_syntax.specs.declared.symbols.Level.TheVariants.{Sum, Product}
use Rattle.expr_reader.proofs.ExprLoops.{ChainLoop, OthersLoop}
use Rattle.expr_reader.proofs.+reader.Given as goal

abbrev pub separator_rank : Separator → ℕ
separator_rank (Between Or) = 21
separator_rank (Between And) = 18
separator_rank Comma = 0

abbrev pub joint_rank : Joint → ℕ
joint_rank Or = 23
joint_rank And = 20

abbrev pub level_rank : Level → ℕ
level_rank Sum = 9
level_rank Product = 7

abbrev pub decreases-conditions::whole : goal.decreases-conditions::whole
decreases-conditions::whole l = 32 * l.room + 24

abbrev pub decreases-conditions::boxed_whole : goal.decreases-conditions::boxed_whole
decreases-conditions::boxed_whole l = 32 * l.room + 25

abbrev pub decreases-arithmetic::boxed_sum : goal.decreases-arithmetic::boxed_sum
decreases-arithmetic::boxed_sum l = 32 * l.room + 11

abbrev pub decreases-conditions::joined : goal.decreases-conditions::joined
decreases-conditions::joined l = 32 * l.room + joint_rank l.joint

abbrev pub decreases-conditions::others : goal.decreases-conditions::others
decreases-conditions::others l = 32 * l.room + separator_rank l.separator + 1

abbrev pub decreases-conditions::item : goal.decreases-conditions::item
decreases-conditions::item l = 32 * l.room + separator_rank l.separator

abbrev pub decreases-conditions::inversion : goal.decreases-conditions::inversion
decreases-conditions::inversion l = 32 * l.room + 18

abbrev pub decreases-conditions::inversion_here : goal.decreases-conditions::inversion_here
decreases-conditions::inversion_here l = 32 * l.room + 17

abbrev pub decreases-conditions::checked : goal.decreases-conditions::checked
decreases-conditions::checked l = 32 * l.room + 16

abbrev pub decreases-predicates::compared : goal.decreases-predicates::compared
decreases-predicates::compared l = 32 * l.room + 15

abbrev pub decreases-predicates::ranged : goal.decreases-predicates::ranged
decreases-predicates::ranged l = 32 * l.room + 14

abbrev pub decreases-predicates::in_range : goal.decreases-predicates::in_range
decreases-predicates::in_range l = 32 * l.room + 13

abbrev pub decreases-predicates::in_bounds : goal.decreases-predicates::in_bounds
decreases-predicates::in_bounds l = 32 * l.room + 12

abbrev pub decreases-predicates::in_list : goal.decreases-predicates::in_list
decreases-predicates::in_list l = 32 * l.room + 11

abbrev pub decreases-arithmetic::chain : goal.decreases-arithmetic::chain
decreases-arithmetic::chain l = 32 * l.room + level_rank l.level + 1

abbrev pub decreases-arithmetic::operand : goal.decreases-arithmetic::operand
decreases-arithmetic::operand l = 32 * l.room + level_rank l.level

abbrev pub decreases-operands::signed : goal.decreases-operands::signed
decreases-operands::signed l = 32 * l.room + 7

abbrev pub decreases-operands::signed_here : goal.decreases-operands::signed_here
decreases-operands::signed_here l = 32 * l.room + 6

abbrev pub decreases-operands::minus : goal.decreases-operands::minus
decreases-operands::minus l = 32 * l.room + 0

abbrev pub decreases-operands::primary : goal.decreases-operands::primary
decreases-operands::primary l = 32 * l.room + 5

abbrev pub decreases-operands::parens : goal.decreases-operands::parens
decreases-operands::parens l = 32 * l.room + 3

abbrev pub decreases-operands::named : goal.decreases-operands::named
decreases-operands::named l = 32 * l.room + 4

abbrev pub decreases-operands::call : goal.decreases-operands::call
decreases-operands::call l = 32 * l.room + 3

abbrev pub decreases-operands::call_of_parts : goal.decreases-operands::call_of_parts
decreases-operands::call_of_parts l = 32 * l.room + 2

abbrev pub invariant-arithmetic::chain-loop-op : goal.invariant-arithmetic::chain-loop-op
invariant-arithmetic::chain-loop-op l = ChainLoop l.level l.room (terminals_of l.symbols) (expr_tree l.found.expr) l.found.height (terminals_of l.found.rest.now)

abbrev pub decreases-arithmetic::chain-loop-op : goal.decreases-arithmetic::chain-loop-op
decreases-arithmetic::chain-loop-op l = length (terminals_of l.found.rest.now)

abbrev pub invariant-conditions::others-loop-after : goal.invariant-conditions::others-loop-after
invariant-conditions::others-loop-after l = OthersLoop l.separator l.room (terminals_of l.symbols) (expr_trees l.list.items) l.highest (terminals_of l.rest)

abbrev pub decreases-conditions::others-loop-after : goal.decreases-conditions::others-loop-after
decreases-conditions::others-loop-after l = length (terminals_of l.rest)
