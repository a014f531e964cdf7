-- The levels that one function of the code reads, as it is told.
use Rattle.std.specs.Prelude.{ℕ, Bool, cond, List, [], ◌∷◌, Option, Some, None, option_map}
use Rattle.med_value.specs.declared.operators.Operation.{Operation}
use Rattle.med_value.specs.declared.operators.Operation.TheVariants.{Subtract}
use Rattle.med_syntax.specs.declared.expr.Joint.{Joint}
use Rattle.med_syntax.specs.declared.expr.Joint.TheVariants.{Or, And}
use Rattle.med_syntax.specs.declared.symbols.Separator.{Separator}
use Rattle.med_syntax.specs.declared.symbols.Separator.TheVariants.{Between, Comma}
use Rattle.med_syntax.specs.declared.symbols.Level.{Level}
use Rattle.med_syntax.specs.declared.symbols.Level.TheVariants.{Sum, Product}
use Rattle.med_syntax.specs.Terminal.{Terminal}
use Rattle.med_syntax.specs.Terminal as t
use Rattle.med_syntax.specs.ExprReading.{Parser, Below, additive, multiplicative, is_comma, is_joint, chain_of, signed_of, product_of, negated_of, conjunction_of}

abbrev pub is_mark : Separator → Terminal → Bool
is_mark (Between joint) = is_joint joint
is_mark Comma = is_comma

abbrev pub behind_of : Separator → List Terminal → Option (List Terminal)
behind_of mark [] = None
behind_of mark (u ∷ ts) = cond (is_mark mark u) (Some ts) None

abbrev pub behind_minus_of : List Terminal → Option (List Terminal)
behind_minus_of (t.Binary Subtract ∷ ts) = Some ts
behind_minus_of ts = None

abbrev pub op_of : Level → Terminal → Option Operation
op_of Sum = additive
op_of Product = multiplicative

abbrev pub operator_of : Level → List Terminal → Option (Operation × List Terminal)
operator_of level [] = None
operator_of level (u ∷ ts) = option_map (λ op. (op, ts)) (op_of level u)

abbrev pub item_of : Separator → Below → ℕ → Parser
item_of (Between Or) b room = conjunction_of b room
item_of (Between And) b room = negated_of b room
item_of Comma b room = b.whole

abbrev pub joined_of : Joint → Below → ℕ → Parser
joined_of joint b room = chain_of joint (item_of (Between joint) b room) room

abbrev pub operand_of : Level → Below → ℕ → Parser
operand_of Sum b room = product_of b room
operand_of Product b room = signed_of b
