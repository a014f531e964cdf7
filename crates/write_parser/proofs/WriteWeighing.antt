-- The height of a statement's expressions is bounded by its heavy terminals.
use Rattle.std.proofs.Common.{◌≡◌, ◌+◌, ◌*◌, ◌≤◌, ◌<◌, ◌⊎◌, List, [], ◌∷◌, ◌++◌, ap, arith, codes}
use Rattle.std.specs.Prelude.{Ok, Err}
use Rattle.med_value.specs.declared.order.Comparison.TheVariants.{Equal}
use Rattle.med_syntax.specs.declared.refusal.Refusal.TheVariants.{Syntax, TooHigh}
use Rattle.med_syntax.specs.Prelude.{Terminal, height, weight, keywords, SpellsExpr, GivenTree, values, rows_of, WriteTree, insert, update, delete, row_height, set_height, write_height}
use Rattle.med_syntax.specs.Terminal as t
use Rattle.med_syntax.proofs.BoundedReading.{ReadsInRoom, tried_sound, tried_out, tried_told}
use Rattle.med_syntax.proofs.ExprWeighing.{weight_append, weight_more}
use Rattle.write_parser.specs.WriteGrammar.{SpellsTuple, SpellsSet}
use Rattle.write_parser.specs.WriteReading.{plain_line, bounded_plain}
use Rattle.write_parser.proofs.WriteSound.{SpellsGiven, SpellsPlain, IsPlain, line_sound}
use Rattle.write_parser.proofs.WriteComplete.{reads_line, refuses_line}
use Rattle.query_reader.proofs.QueryWeighing.{Bounded, expr_bound, list_bound, condition_bound}

row_bound : Bounded (SpellsTuple SpellsExpr) row_height
row_bound es ts s =
    omega (arith, list_bound SpellsExpr height (λ e us x. expr_bound us e x) es s.0 s.2, ap weight s.1, weight_more t.LeftParen (s.0 ++ t.RightParen ∷ []), weight_append s.0 (t.RightParen ∷ []))

set_bound : Bounded SpellsSet set_height
set_bound x ts s = omega (arith, expr_bound s.0 x.value s.2, ap weight s.1, weight_more (t.Name x.column) (t.Compare Equal ∷ s.0), weight_more (t.Compare Equal) s.0)

plain_bound : Bounded SpellsPlain write_height
plain_bound (insert i) ts s =
    let go : (g : GivenTree) (us : List Terminal) → SpellsGiven i.table i.columns g us → write_height (insert (record { table = i.table; columns = i.columns; given = g })) ≤ 7 * weight us + 7 = elim [
      | values rows ↦ (λ us x. omega (arith, list_bound (SpellsTuple SpellsExpr) row_height row_bound rows (x.4).0 (x.4).2, ap weight x.2, weight_append x.0 x.1, ap weight (x.4).1, weight_more (t.Reserved (codes "values")) (x.4).0))
      | rows_of q ↦ (λ us x. absurd x)
    ]
    in go i.given ts s
plain_bound (update u) ts s =
    omega (
      arith,
      list_bound SpellsSet set_height set_bound u.sets s.sets s.changed,
      condition_bound (codes "where" ∷ []) u.condition s.condition s.filtered,
      ap weight s.is,
      weight_more (t.Reserved (codes "update")) (s.entry ++ t.Reserved (codes "set") ∷ (s.sets ++ s.condition)),
      weight_append s.entry (t.Reserved (codes "set") ∷ (s.sets ++ s.condition)),
      weight_more (t.Reserved (codes "set")) (s.sets ++ s.condition),
      weight_append s.sets s.condition,
    )
plain_bound (delete d) ts s =
    omega (arith, condition_bound (codes "where" ∷ []) d.condition s.condition s.filtered, ap weight s.is, weight_append (keywords (codes "delete" ∷ codes "from" ∷ [])) (s.entry ++ s.condition), weight_append s.entry s.condition)

line_bound : (ts : List Terminal) (s : WriteTree) → IsPlain ts s → write_height s ≤ 7 * weight ts + 7
line_bound ts s x = omega (arith, plain_bound s x.0 x.3, ap weight x.2, weight_append x.0 x.1)

-- ---- what the bounded reader gives

in_room : ReadsInRoom IsPlain write_height plain_line
in_room = record { reads = reads_line; refuses = refuses_line; sound = line_sound; low = line_bound }

pub bounded_sound : (ts : List Terminal) (s : WriteTree) → bounded_plain ts ≡ Ok s → IsPlain ts s × (write_height s ≤ 64)
unfolding bounded_plain
bounded_sound ts s g = tried_sound IsPlain write_height plain_line in_room ts s g

-- what is refused as no statement is none
pub bounded_out : (ts : List Terminal) → bounded_plain ts ≡ Err Syntax → (s : WriteTree) → IsPlain ts s → ⊥
unfolding bounded_plain
bounded_out ts g s x = tried_out IsPlain write_height plain_line in_room ts g s x

-- what is refused as too high has an expression that is so, or is no statement and has many heavy terminals
pub bounded_told : (ts : List Terminal) → bounded_plain ts ≡ Err TooHigh → ((s : WriteTree) × IsPlain ts s × (64 < write_height s)) ⊎ (((s : WriteTree) → IsPlain ts s → ⊥) × (64 < weight ts))
unfolding bounded_plain
bounded_told ts g = tried_told IsPlain write_height plain_line in_room ts g
