-- The loops of the parser.
use Rattle.std.proofs.Common.{◌≡◌, ℕ, zero, suc, ◌≤◌, ◌<◌, Bool, true, false, cond, List, [], ◌∷◌, ◌++◌, length, refl, sym, ◌∙◌, ap, subst, arith, max, length-append}
use Rattle.std.specs.Prelude.{nat_le, Result, Ok, Err, Option, Some, None, option_map, ◌-◌}
use Rattle.med_value.specs.declared.operators.Operation.{Operation}
use Rattle.med_value.specs.declared.operators.Operation.TheVariants.{Subtract}
use Rattle.med_syntax.specs.declared.expr.Joint.{Joint}
use Rattle.med_syntax.specs.declared.expr.Joint.TheVariants.{Or, And}
use Rattle.med_syntax.specs.Terminal.{Terminal}
use Rattle.med_syntax.specs.Terminal as t
use Rattle.med_syntax.specs.declared.refusal.Refusal.{Refusal}
use Rattle.med_syntax.specs.declared.refusal.Refusal.TheVariants.{TooHigh}
use Rattle.med_syntax.specs.ExprTree.{ExprTree, ExprTrees, binary, chain, none, more, height, highest, level, spelling}
use Rattle.med_syntax.specs.ExprReading.{Read, Reads, Parser, ◌>>=◌, within, Below, is_comma, left_more, left_of, others_after, chained, primary_of, after_minus, signed_of, negated_of, below}
use Rattle.med_syntax.specs.declared.symbols.Separator.{Separator}
use Rattle.med_syntax.specs.declared.symbols.Separator.TheVariants.{Between, Comma}
use Rattle.med_syntax.specs.declared.symbols.Level.{Level}
use Rattle.med_syntax.specs.declared.symbols.Level.TheVariants.{Sum, Product}
use Rattle.med_syntax.specs.ExprSteps.{is_mark, behind_of, behind_minus_of, op_of, operator_of, item_of, joined_of, operand_of}
use Rattle.med_syntax.specs.ExprView.{expr_tree, expr_trees}
use Rattle.med_syntax.specs.declared.expr.Expr.{Expr}
use Rattle.expr_reader.specs.ReaderAnswers.{Answers, AnswersAll}
use Rattle.expr_reader.specs.declared.found.Items.{Items}
use Rattle.med_syntax.specs.declared.refusal.ReadFault.{ReadFault}
use Rattle.med_syntax.specs.declared.refusal.ReadFault.TheVariants as errors
use Rattle.expr_reader.specs.declared.found.FoundExpr as was
use Rattle.med_syntax.proofs.ExprSound.{FoundExpr, FoundAll, sounds, ok_same, is_comma_true, others_sound, chain_sound, negated_sound, product_sound, signed_sound}

-- ---- what is left is no longer

no_longer : (n room : ℕ) (ts : List Terminal) (e : ExprTree) (rest : List Terminal) → FoundExpr n room ts e rest → length rest ≤ length ts
no_longer n room ts e rest f = omega (arith, ap length f.spelled, length-append (spelling e) rest)

item_sound : (mark : Separator) (r : ℕ) (ts : List Terminal) (e : ExprTree) (rest : List Terminal) → item_of mark (below r) (suc r) ts ≡ Ok (e, rest) → length rest ≤ length ts
item_sound (Between Or) r ts e rest h = no_longer 1 (suc r) ts e rest (chain_sound And (negated_of (below r) (suc r)) (suc r) (negated_sound (below r) r (sounds r)) ts e rest h)
item_sound (Between And) r ts e rest h = no_longer 2 (suc r) ts e rest (negated_sound (below r) r (sounds r) ts e rest h)
item_sound Comma r ts e rest h = no_longer 0 r ts e rest ((sounds r).whole ts e rest h)

operand_sound : (level : Level) (r : ℕ) (ts : List Terminal) (e : ExprTree) (rest : List Terminal) → operand_of level (below r) (suc r) ts ≡ Ok (e, rest) → length rest ≤ length ts
operand_sound Sum r ts e rest h = no_longer 7 (suc r) ts e rest (product_sound (below r) r (sounds r) ts e rest h)
operand_sound Product r ts e rest h = no_longer 8 (suc r) ts e rest (signed_sound (below r) r (sounds r) ts e rest h)

pub item_shorter : (mark : Separator) (room : ℕ) (ts : List Terminal) (e : ExprTree) (rest : List Terminal) → 1 ≤ room → item_of mark (below (room - 1)) room ts ≡ Ok (e, rest) → length rest ≤ length ts
item_shorter mark zero ts e rest low h = absurd (omega arith)
item_shorter mark (suc r) ts e rest low h = item_sound mark r ts e rest (let p : suc r - 1 ≡ r = omega arith in rw p at h)

pub operand_shorter : (level : Level) (room : ℕ) (ts : List Terminal) (e : ExprTree) (rest : List Terminal) → 1 ≤ room → operand_of level (below (room - 1)) room ts ≡ Ok (e, rest) → length rest ≤ length ts
operand_shorter level zero ts e rest low h = absurd (omega arith)
operand_shorter level (suc r) ts e rest low h = operand_sound level r ts e rest (let p : suc r - 1 ≡ r = omega arith in rw p at h)

-- ---- operators

some_same : {A : Type 0} (x y : A) → ◌≡◌ {A = Option A} (Some x) (Some y) → x ≡ y
some_same x y h = cc

operator_found : (level : Level) (ts : List Terminal) (op : Operation) (after : List Terminal) → operator_of level ts ≡ Some (op, after) → (u : Terminal) × (ts ≡ u ∷ after) × (op_of level u ≡ Some op)
operator_found level [] op after h = absurd (cc)
operator_found level (u ∷ ts) op after h =
    let go : (o : Option Operation) → op_of level u ≡ o → option_map {U = Operation × List Terminal} (λ p. (p, ts)) o ≡ Some (op, after) → (v : Terminal) × (u ∷ ts ≡ v ∷ after) × (op_of level v ≡ Some op) = elim [
      | None ↦ (λ p q. absurd (cc))
      | Some x ↦ (λ p q. let same : (x, ts) ≡ (op, after) = some_same (x, ts) (op, after) q in (u, ap (λ (y : Operation × List Terminal). u ∷ y.1) same, p ∙ ap (λ (y : Operation × List Terminal). Some y.0) same))
    ]
    in go (op_of level u) refl h

map_none : (o : Option Operation) (ts : List Terminal) → option_map {U = Operation × List Terminal} (λ p. (p, ts)) o ≡ None → o ≡ None
map_none None ts h = refl
map_none (Some x) ts h = absurd (cc)

pub record ChainLoop (level : Level) (room : ℕ) (tokens : List Terminal) (e : ExprTree) (h : ℕ) (rest : List Terminal) : Type 0 where
  pub k : ℕ
  pub enough : length rest ≤ k
  pub same : left_of (op_of level) (operand_of level (below (room - 1)) room) room tokens ≡ left_more (op_of level) (operand_of level (below (room - 1)) room) room k e rest
  pub is_height : h ≡ height e
  pub low : h ≤ room

chain_unfolds : (level : Level) (room k : ℕ) (e : ExprTree) (ts : List Terminal) (op : Operation) (after : List Terminal) (item : Parser) → operator_of level ts ≡ Some (op, after) →
    left_more (op_of level) item room (suc k) e ts ≡ (item after >>= λ x. within room (binary op e x.0) x.1 >>= λ y. left_more (op_of level) item room k y.0 y.1)
chain_unfolds level room k e ts op after item h =
    let f = operator_found level ts op after h in
    rw f.1 (rw f.2 refl)

chain_next_at : (level : Level) (room : ℕ) (tokens : List Terminal) (e : ExprTree) (h : ℕ) (rest : List Terminal) (op : Operation) (after : List Terminal) (b : ExprTree) (us : List Terminal) (d : ExprTree) (hd : ℕ) (vs : List Terminal) (k : ℕ) → length rest ≤ k →
    left_of (op_of level) (operand_of level (below (room - 1)) room) room tokens ≡ left_more (op_of level) (operand_of level (below (room - 1)) room) room k e rest →
    {u : Terminal} → rest ≡ u ∷ after → length us ≤ length after → operator_of level rest ≡ Some (op, after) → operand_of level (below (room - 1)) room after ≡ Ok (b, us) → within room (binary op e b) us ≡ Ok (d, vs) → vs ≡ us → hd ≡ height d → hd ≤ room → ChainLoop level room tokens d hd vs
chain_next_at level room tokens e h rest op after b us d hd vs zero enough same {u} cut shorter o read fits tail is low = absurd (omega (arith, ap length cut))
chain_next_at level room tokens e h rest op after b us d hd vs (suc k) enough same {u} cut shorter o read fits tail is low =
    record {
      k = k;
      enough = omega (arith, ap length cut, ap length tail);
      same = same ∙ chain_unfolds level room k e rest op after (operand_of level (below (room - 1)) room) o ∙ (rw read (rw fits refl));
      is_height = is;
      low = low;
    }

chain_fault_at : (level : Level) (room : ℕ) (tokens : List Terminal) (e : ExprTree) (rest : List Terminal) (op : Operation) (after : List Terminal) (f : Refusal) (k : ℕ) → length rest ≤ k →
    left_of (op_of level) (operand_of level (below (room - 1)) room) room tokens ≡ left_more (op_of level) (operand_of level (below (room - 1)) room) room k e rest →
    {u : Terminal} → rest ≡ u ∷ after → operator_of level rest ≡ Some (op, after) → operand_of level (below (room - 1)) room after ≡ Err f → left_of (op_of level) (operand_of level (below (room - 1)) room) room tokens ≡ Err f
chain_fault_at level room tokens e rest op after f zero enough same {u} cut o read = absurd (omega (arith, ap length cut))
chain_fault_at level room tokens e rest op after f (suc k) enough same {u} cut o read =
    same ∙ chain_unfolds level room k e rest op after (operand_of level (below (room - 1)) room) o ∙ rw read refl

chain_high_at : (level : Level) (room : ℕ) (tokens : List Terminal) (e : ExprTree) (rest : List Terminal) (op : Operation) (after : List Terminal) (b : ExprTree) (us : List Terminal) (f : Refusal) (k : ℕ) → length rest ≤ k →
    left_of (op_of level) (operand_of level (below (room - 1)) room) room tokens ≡ left_more (op_of level) (operand_of level (below (room - 1)) room) room k e rest →
    {u : Terminal} → rest ≡ u ∷ after → operator_of level rest ≡ Some (op, after) → operand_of level (below (room - 1)) room after ≡ Ok (b, us) → within room (binary op e b) us ≡ Err f → left_of (op_of level) (operand_of level (below (room - 1)) room) room tokens ≡ Err f
chain_high_at level room tokens e rest op after b us f zero enough same {u} cut o read high = absurd (omega (arith, ap length cut))
chain_high_at level room tokens e rest op after b us f (suc k) enough same {u} cut o read high =
    same ∙ chain_unfolds level room k e rest op after (operand_of level (below (room - 1)) room) o ∙ rw read (rw high refl)

pub chain_next : (level : Level) (room : ℕ) (tokens : List Terminal) (e : ExprTree) (h : ℕ) (rest : List Terminal) (op : Operation) (after : List Terminal) (b : ExprTree) (us : List Terminal) (d : ExprTree) (hd : ℕ) (vs : List Terminal) → 1 ≤ room →
    ChainLoop level room tokens e h rest → operator_of level rest ≡ Some (op, after) → operand_of level (below (room - 1)) room after ≡ Ok (b, us) → within room (binary op e b) us ≡ Ok (d, vs) → vs ≡ us → hd ≡ height d → hd ≤ room → ChainLoop level room tokens d hd vs
chain_next level room tokens e h rest op after b us d hd vs some loop o read fits tail is low =
    let f = operator_found level rest op after o in
    let shorter : length us ≤ length after = operand_shorter level room after b us some read in
    chain_next_at level room tokens e h rest op after b us d hd vs loop.k loop.enough loop.same f.1 shorter o read fits tail is low

pub chain_fault : (level : Level) (room : ℕ) (tokens : List Terminal) (e : ExprTree) (h : ℕ) (rest : List Terminal) (op : Operation) (after : List Terminal) (f : Refusal) →
    ChainLoop level room tokens e h rest → operator_of level rest ≡ Some (op, after) → operand_of level (below (room - 1)) room after ≡ Err f → left_of (op_of level) (operand_of level (below (room - 1)) room) room tokens ≡ Err f
chain_fault level room tokens e h rest op after f loop o read =
    let g = operator_found level rest op after o in
    chain_fault_at level room tokens e rest op after f loop.k loop.enough loop.same g.1 o read

pub chain_high : (level : Level) (room : ℕ) (tokens : List Terminal) (e : ExprTree) (h : ℕ) (rest : List Terminal) (op : Operation) (after : List Terminal) (b : ExprTree) (us : List Terminal) (f : Refusal) →
    ChainLoop level room tokens e h rest → operator_of level rest ≡ Some (op, after) → operand_of level (below (room - 1)) room after ≡ Ok (b, us) → within room (binary op e b) us ≡ Err f → left_of (op_of level) (operand_of level (below (room - 1)) room) room tokens ≡ Err f
chain_high level room tokens e h rest op after b us f loop o read high =
    let g = operator_found level rest op after o in
    chain_high_at level room tokens e rest op after b us f loop.k loop.enough loop.same g.1 o read high

chain_stops : (level : Level) (room k : ℕ) (e : ExprTree) (ts : List Terminal) (item : Parser) → operator_of level ts ≡ None → left_more (op_of level) item room k e ts ≡ Ok (e, ts)
chain_stops level room zero e ts item h = refl
chain_stops level room (suc k) e [] item h = refl
chain_stops level room (suc k) e (u ∷ ts) item h = rw (map_none (op_of level u) ts h) refl

pub chain_end : (level : Level) (room : ℕ) (tokens : List Terminal) (e : ExprTree) (h : ℕ) (rest : List Terminal) → ChainLoop level room tokens e h rest → operator_of level rest ≡ None → left_of (op_of level) (operand_of level (below (room - 1)) room) room tokens ≡ Ok (e, rest)
chain_end level room tokens e h rest loop o = loop.same ∙ chain_stops level room loop.k e rest (operand_of level (below (room - 1)) room) o

-- ---- lists

behind_found : (mark : Separator) (ts after : List Terminal) → behind_of mark ts ≡ Some after → (u : Terminal) × (ts ≡ u ∷ after) × (is_mark mark u ≡ true)
behind_found mark [] after h = absurd (cc)
behind_found mark (u ∷ ts) after h =
    let go : (b : Bool) → is_mark mark u ≡ b → cond b (Some ts) None ≡ Some after → (v : Terminal) × (u ∷ ts ≡ v ∷ after) × (is_mark mark v ≡ true) = elim [
      | false ↦ (λ p q. absurd (cc))
      | true ↦ (λ p q. (u, ap (λ y. u ∷ y) (some_same ts after q), p))
    ]
    in go (is_mark mark u) refl h

abbrev pub ahead : ExprTrees → ExprTrees → ExprTrees
ahead none fs = fs
ahead (more e es) fs = more e (ahead es fs)

ahead_ahead : (es : ExprTrees) (e : ExprTree) (fs : ExprTrees) → ahead (ahead es (more e none)) fs ≡ ahead es (more e fs)
ahead_ahead none e fs = refl
ahead_ahead (more d es) e fs = ap (more d) (ahead_ahead es e fs)

ahead_none : (es : ExprTrees) → ahead es none ≡ es
ahead_none none = refl
ahead_none (more d es) = ap (more d) (ahead_none es)

highest_ahead : (es : ExprTrees) (e : ExprTree) → highest (ahead es (more e none)) ≡ max (highest es) (height e)
highest_ahead none e = omega arith
highest_ahead (more d es) e = omega (arith, highest_ahead es e)

pub trees_push : (xs : List Expr) (x : Expr) → expr_trees (xs ++ x ∷ []) ≡ ahead (expr_trees xs) (more (expr_tree x) none)
trees_push [] x = refl
trees_push (y ∷ ys) x = ap (more (expr_tree y)) (trees_push ys x)

abbrev pub after_these : ExprTrees → Reads → Reads
after_these es read = read >>= λ y. Ok (ahead es y.0, y.1)

pub record OthersLoop (mark : Separator) (room : ℕ) (tokens : List Terminal) (es : ExprTrees) (hi : ℕ) (rest : List Terminal) : Type 0 where
  pub k : ℕ
  pub enough : length rest ≤ k
  pub same : others_after (is_mark mark) (item_of mark (below (room - 1)) room) (length tokens) tokens ≡ after_these es (others_after (is_mark mark) (item_of mark (below (room - 1)) room) k rest)
  pub is_highest : hi ≡ highest es
  pub low : hi ≤ room

one_more : (es : ExprTrees) (e : ExprTree) (read : Reads) → after_these es (read >>= λ y. Ok (more e y.0, y.1)) ≡ after_these (ahead es (more e none)) read
one_more es e (Ok x) = rw (ahead_ahead es e x.0) refl
one_more es e (Err f) = refl

others_unfold : (is : Terminal → Bool) (item : Parser) (k : ℕ) (u : Terminal) (after : List Terminal) (e : ExprTree) (us : List Terminal) → is u ≡ true → item after ≡ Ok (e, us) →
    others_after is item (suc k) (u ∷ after) ≡ (others_after is item k us >>= λ y. Ok (more e y.0, y.1))
others_unfold is item k u after e us h read = rw h (rw read refl)

others_refuse : (is : Terminal → Bool) (item : Parser) (k : ℕ) (u : Terminal) (after : List Terminal) (f : Refusal) → is u ≡ true → item after ≡ Err f → others_after is item (suc k) (u ∷ after) ≡ Err f
others_refuse is item k u after f h read = rw h (rw read refl)

others_next_at : (mark : Separator) (room : ℕ) (tokens : List Terminal) (es : ExprTrees) (hi : ℕ) (after : List Terminal) (e : ExprTree) (he : ℕ) (us : List Terminal) (u : Terminal) (k : ℕ) → length (u ∷ after) ≤ k →
    others_after (is_mark mark) (item_of mark (below (room - 1)) room) (length tokens) tokens ≡ after_these es (others_after (is_mark mark) (item_of mark (below (room - 1)) room) k (u ∷ after)) →
    is_mark mark u ≡ true → item_of mark (below (room - 1)) room after ≡ Ok (e, us) → length us ≤ length after → hi ≡ highest es → hi ≤ room → he ≡ height e → he ≤ room → OthersLoop mark room tokens (ahead es (more e none)) (max hi he) us
others_next_at mark room tokens es hi after e he us u zero enough same h read shorter is low ise lowe = absurd (omega arith)
others_next_at mark room tokens es hi after e he us u (suc k) enough same h read shorter is low ise lowe =
    record {
      k = k;
      enough = omega arith;
      same = same ∙ ap (after_these es) (others_unfold (is_mark mark) (item_of mark (below (room - 1)) room) k u after e us h read) ∙ one_more es e (others_after (is_mark mark) (item_of mark (below (room - 1)) room) k us);
      is_highest = omega (arith, highest_ahead es e);
      low = omega arith;
    }

pub others_next : (mark : Separator) (room : ℕ) (tokens : List Terminal) (es : ExprTrees) (hi : ℕ) (rest after : List Terminal) (e : ExprTree) (he : ℕ) (us : List Terminal) → 1 ≤ room → OthersLoop mark room tokens es hi rest → behind_of mark rest ≡ Some after → item_of mark (below (room - 1)) room after ≡ Ok (e, us) → he ≡ height e → he ≤ room →
    OthersLoop mark room tokens (ahead es (more e none)) (max hi he) us
others_next mark room tokens es hi rest after e he us some loop b read is low =
    let f = behind_found mark rest after b in
    others_next_at mark room tokens es hi after e he us f.0 loop.k (omega (arith, ap length f.1, loop.enough)) (subst (λ ts. others_after (is_mark mark) (item_of mark (below (room - 1)) room) (length tokens) tokens ≡ after_these es (others_after (is_mark mark) (item_of mark (below (room - 1)) room) loop.k ts)) f.1 loop.same) f.2 read
    (item_shorter mark room after e us some read) loop.is_highest loop.low is low

others_fault_at : (mark : Separator) (room : ℕ) (tokens : List Terminal) (es : ExprTrees) (after : List Terminal) (f : Refusal) (u : Terminal) (k : ℕ) → length (u ∷ after) ≤ k →
    others_after (is_mark mark) (item_of mark (below (room - 1)) room) (length tokens) tokens ≡ after_these es (others_after (is_mark mark) (item_of mark (below (room - 1)) room) k (u ∷ after)) →
    is_mark mark u ≡ true → item_of mark (below (room - 1)) room after ≡ Err f → others_after (is_mark mark) (item_of mark (below (room - 1)) room) (length tokens) tokens ≡ Err f
others_fault_at mark room tokens es after f u zero enough same h read = absurd (omega arith)
others_fault_at mark room tokens es after f u (suc k) enough same h read = same ∙ ap (after_these es) (others_refuse (is_mark mark) (item_of mark (below (room - 1)) room) k u after f h read)

pub others_fault : (mark : Separator) (room : ℕ) (tokens : List Terminal) (es : ExprTrees) (hi : ℕ) (rest after : List Terminal) (f : Refusal) → OthersLoop mark room tokens es hi rest → behind_of mark rest ≡ Some after → item_of mark (below (room - 1)) room after ≡ Err f →
    others_after (is_mark mark) (item_of mark (below (room - 1)) room) (length tokens) tokens ≡ Err f
others_fault mark room tokens es hi rest after f loop b read =
    let g = behind_found mark rest after b in
    others_fault_at mark room tokens es after f g.0 loop.k (omega (arith, ap length g.1, loop.enough)) (subst (λ ts. others_after (is_mark mark) (item_of mark (below (room - 1)) room) (length tokens) tokens ≡ after_these es (others_after (is_mark mark) (item_of mark (below (room - 1)) room) loop.k ts)) g.1 loop.same) g.2 read

cond_none : (b : Bool) (ts : List Terminal) → cond b (Some ts) None ≡ None → b ≡ false
cond_none false ts h = refl
cond_none true ts h = absurd (cc)

others_stop : (mark : Separator) (k : ℕ) (ts : List Terminal) (item : Parser) → behind_of mark ts ≡ None → others_after (is_mark mark) item k ts ≡ Ok (none, ts)
others_stop mark zero ts item h = refl
others_stop mark (suc k) [] item h = refl
others_stop mark (suc k) (u ∷ ts) item h = rw (cond_none (is_mark mark u) ts h) refl

pub others_end : (mark : Separator) (room : ℕ) (tokens : List Terminal) (es : ExprTrees) (hi : ℕ) (rest : List Terminal) → OthersLoop mark room tokens es hi rest → behind_of mark rest ≡ None →
    others_after (is_mark mark) (item_of mark (below (room - 1)) room) (length tokens) tokens ≡ Ok (es, rest)
others_end mark room tokens es hi rest loop b =
    loop.same ∙ ap (after_these es) (others_stop mark loop.k rest (item_of mark (below (room - 1)) room) b) ∙ (rw (ahead_none es) refl)

-- ---- the levels that have room

pub whole_some : (room : ℕ) (ts : List Terminal) → 1 ≤ room → (below room).whole ts ≡ joined_of Or (below (room - 1)) room ts
unfolding below
whole_some zero ts h = absurd (omega arith)
whole_some (suc r) ts h = let p : suc r - 1 ≡ r = omega arith in rw p refl

pub negated_some : (room : ℕ) (ts : List Terminal) → 1 ≤ room → (below room).negated ts ≡ negated_of (below (room - 1)) room ts
unfolding below
negated_some zero ts h = absurd (omega arith)
negated_some (suc r) ts h = let p : suc r - 1 ≡ r = omega arith in rw p refl

pub signed_some : (room : ℕ) (ts : List Terminal) → 1 ≤ room → (below room).signed ts ≡ signed_of (below (room - 1)) ts
unfolding below
signed_some zero ts h = absurd (omega arith)
signed_some (suc r) ts h = let p : suc r - 1 ≡ r = omega arith in rw p refl

pub whole_none : (room : ℕ) (ts : List Terminal) → room ≡ 0 → (below room).whole ts ≡ Err TooHigh
unfolding below
whole_none zero ts h = refl
whole_none (suc r) ts h = absurd (omega arith)

pub negated_none : (room : ℕ) (ts : List Terminal) → room ≡ 0 → (below room).negated ts ≡ Err TooHigh
unfolding below
negated_none zero ts h = refl
negated_none (suc r) ts h = absurd (omega arith)

pub signed_none : (room : ℕ) (ts : List Terminal) → room ≡ 0 → (below room).signed ts ≡ Err TooHigh
unfolding below
signed_none zero ts h = refl
signed_none (suc r) ts h = absurd (omega arith)

-- ---- as the code has it

within_rest : (room : ℕ) (x : ExprTree) (us : List Terminal) (d : ExprTree) (vs : List Terminal) → within room x us ≡ Ok (d, vs) → vs ≡ us
within_rest room x us d vs h =
    let go : (b : Bool) → cond {A = Read} b (Ok (x, us)) (Err TooHigh) ≡ Ok (d, vs) → vs ≡ us = elim [
      | true ↦ (λ g. let p : (x, us) ≡ (d, vs) = ok_same (x, us) (d, vs) g in ap (λ (y : ExprTree × List Terminal). y.1) (sym p))
      | false ↦ (λ g. absurd (cc))
    ]
    in go (nat_le (height x) room) h

pub chain_preserved : (level : Level) (room : ℕ) (tokens : List Terminal) (e : ExprTree) (h : ℕ) (rest : List Terminal) (op : Operation) (after : List Terminal) (b : ExprTree) (us : List Terminal) (x d : ExprTree) (hd : ℕ) (vs : List Terminal) → 1 ≤ room →
    ChainLoop level room tokens e h rest → operator_of level rest ≡ Some (op, after) → operand_of level (below (room - 1)) room after ≡ Ok (b, us) → x ≡ binary op e b → within room x us ≡ Ok (d, vs) → hd ≡ height d → hd ≤ room → ChainLoop level room tokens d hd vs
chain_preserved level room tokens e h rest op after b us x d hd vs some loop o read same fits is low =
    chain_next level room tokens e h rest op after b us d hd vs some loop o read (subst (λ y. within room y us ≡ Ok (d, vs)) same fits) (within_rest room x us d vs fits) is low

pub chain_smaller : (level : Level) (room : ℕ) (rest : List Terminal) (op : Operation) (after : List Terminal) (b : ExprTree) (us : List Terminal) (x d : ExprTree) (vs : List Terminal) → 1 ≤ room →
    operator_of level rest ≡ Some (op, after) → operand_of level (below (room - 1)) room after ≡ Ok (b, us) → within room x us ≡ Ok (d, vs) → length vs < length rest
chain_smaller level room rest op after b us x d vs some o read fits =
    let f = operator_found level rest op after o in
    omega (arith, ap length f.1, ap length (within_rest room x us d vs fits), operand_shorter level room after b us some read)

pub others_smaller : (mark : Separator) (room : ℕ) (rest after : List Terminal) (e : ExprTree) (us : List Terminal) → 1 ≤ room → behind_of mark rest ≡ Some after → item_of mark (below (room - 1)) room after ≡ Ok (e, us) → length us < length rest
others_smaller mark room rest after e us some b read =
    let f = behind_found mark rest after b in
    omega (arith, ap length f.1, item_shorter mark room after e us some read)

pub others_preserved : (mark : Separator) (room : ℕ) (tokens : List Terminal) (old : List Expr) (new : List Expr) (x : Expr) (hi m : ℕ) (rest after : List Terminal) (he : ℕ) (us : List Terminal) → 1 ≤ room → OthersLoop mark room tokens (expr_trees old) hi rest → behind_of mark rest ≡ Some after → item_of mark (below (room - 1)) room after ≡ Ok (expr_tree x, us) → he ≡ height (expr_tree x) → he ≤ room →
    new ≡ old ++ x ∷ [] → m ≡ max hi he → OthersLoop mark room tokens (expr_trees new) m us
others_preserved mark room tokens old new x hi m rest after he us some loop b read is low p q =
    subst (λ n. OthersLoop mark room tokens (expr_trees new) n us) (sym q) (subst (λ es. OthersLoop mark room tokens es (max hi he) us) (sym (trees_push old x) ∙ ap expr_trees (sym p)) (others_next mark room tokens (expr_trees old) hi rest after (expr_tree x) he us some loop b read is low))

pub others_failed : (mark : Separator) (room : ℕ) (tokens : List Terminal) (es : ExprTrees) (hi : ℕ) (rest after : List Terminal) (e : ReadFault) (r : Result Items ReadFault) → OthersLoop mark room tokens es hi rest → behind_of mark rest ≡ Some after → Answers room (Err e) (item_of mark (below (room - 1)) room after) → r ≡ Err e →
    AnswersAll room r (others_after (is_mark mark) (item_of mark (below (room - 1)) room) (length tokens) tokens)
others_failed mark room tokens es hi rest after errors.NoMemory r loop b h is = rw is tt
others_failed mark room tokens es hi rest after (errors.Refused f) r loop b h is = rw is (others_fault mark room tokens es hi rest after f loop b h)

pub chained_many : (j : Joint) (room : ℕ) (first : ExprTree) (es : List Expr) (ts : List Terminal) → 0 < length es → chained j room first (expr_trees es) ts ≡ within room (chain j first (expr_trees es)) ts
chained_many j room first [] ts h = absurd (omega arith)
chained_many j room first (e ∷ es) ts h = refl

pub chain_failed : (level : Level) (room : ℕ) (tokens : List Terminal) (e : ExprTree) (h : ℕ) (rest : List Terminal) (op : Operation) (after : List Terminal) (x : ReadFault) (r : Result was.FoundExpr ReadFault) → ChainLoop level room tokens e h rest → operator_of level rest ≡ Some (op, after) → Answers room (Err x) (operand_of level (below (room - 1)) room after) → r ≡ Err x →
    Answers room r (left_of (op_of level) (operand_of level (below (room - 1)) room) room tokens)
chain_failed level room tokens e h rest op after errors.NoMemory r loop o a is = rw is tt
chain_failed level room tokens e h rest op after (errors.Refused f) r loop o a is = rw is (chain_fault level room tokens e h rest op after f loop o a)

pub chain_failed_high : (level : Level) (room : ℕ) (tokens : List Terminal) (e : ExprTree) (h : ℕ) (rest : List Terminal) (op : Operation) (after : List Terminal) (b : ExprTree) (us : List Terminal) (y : ExprTree) (x : ReadFault) (r : Result was.FoundExpr ReadFault) → ChainLoop level room tokens e h rest → operator_of level rest ≡ Some (op, after) → operand_of level (below (room - 1)) room after ≡ Ok (b, us) → y ≡ binary op e b → Answers room (Err x) (within room y us) → r ≡ Err x →
    Answers room r (left_of (op_of level) (operand_of level (below (room - 1)) room) room tokens)
chain_failed_high level room tokens e h rest op after b us y errors.NoMemory r loop o read same a is = rw is tt
chain_failed_high level room tokens e h rest op after b us y (errors.Refused f) r loop o read same a is =
    rw is (chain_high level room tokens e h rest op after b us f loop o read (subst (λ (z : ExprTree). within room z us ≡ Err f) same a))

-- a sum, as the code tells it
pub operand_sum : (level : Level) (b : Below) (room : ℕ) (ts : List Terminal) → level ≡ Sum → operand_of level b room ts ≡ left_of (op_of Product) (operand_of Product b room) room ts
operand_sum level b room ts is = rw is refl

pub chain_made_of : (j : Joint) (room : ℕ) (first : ExprTree) (es : List Expr) (ts : List Terminal) (x : ExprTree) (r : Result was.FoundExpr ReadFault) → 0 < length es → x ≡ chain j first (expr_trees es) → Answers room r (within room x ts) →
    Answers room r (chained j room first (expr_trees es) ts)
chain_made_of j room first es ts x r some is h = subst (λ (y : Read). Answers room r y) (ap (λ y. within room y ts) is ∙ sym (chained_many j room first es ts some)) h

-- the parts of a call are lower than it
pub parts_low : (room h : ℕ) (us : List Terminal) (others : ExprTrees) (vs : List Terminal) → 1 ≤ room → others_after is_comma (below (room - 1)).whole (length us) us ≡ Ok (others, vs) → h ≡ highest others → h < room
parts_low room h us others vs some read is =
    let g : FoundAll 0 (room - 1) t.Comma us others vs = others_sound is_comma t.Comma (below (room - 1)).whole (room - 1) 0 (length us) is_comma_true (sounds (room - 1)).whole us others vs read in
    omega (arith, g.low)

pub signed_plain : (b : Below) (ts : List Terminal) → behind_minus_of ts ≡ None → signed_of b ts ≡ primary_of b ts
signed_plain b (t.Binary Subtract ∷ ts) h = absurd (cc)
signed_plain b ts h = refl

pub signed_minus : (b : Below) (ts us : List Terminal) → behind_minus_of ts ≡ Some us → signed_of b ts ≡ after_minus b us
signed_minus b (t.Binary Subtract ∷ ts) us h = ap (after_minus b) (some_same ts us h)
signed_minus b ts us h = absurd (cc)
