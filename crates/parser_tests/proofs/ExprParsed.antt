-- What a text's tokens say of its expression and of its causes.
use Rattle.std.proofs.Common.{◌≡◌, ℕ, ◌≤◌, ◌<◌, ◌⊎◌, inl, inr, arith, true, false, List, refl, sym, ◌∙◌, ap, subst}
use Rattle.std.specs.Prelude.{Any, Result, Ok, Err, IfOk, OnOk, IfErr}
use Rattle.med_value.specs.declared.cause.Cause.{Cause}
use Rattle.med_value.specs.declared.cause.Cause.TheVariants as causes
use Rattle.med_lexer.specs.declared.Token.{Token}
use Rattle.med_lexer.specs.Lexemes.{Shape, Lexeme, Lexes}
use Rattle.med_lexer.specs.View.{views}
use Rattle.med_syntax.specs.Prelude.{shapes, IsLongName, shapes_of, LexesOnly, cause_of, ExprTree, IsExpr, height, terminals_at, AreReadable, weight, IsExpression, HasExpr, in_range, TokenCauses, ExprCauses, expr_tree, ReadsAs, cause_of_read}
use Rattle.med_syntax.specs.ExprWeight.{bounded_of}
use Rattle.med_syntax.specs.declared.fault.ParseFault.{ParseFault}
use Rattle.med_syntax.specs.declared.fault.ParseFault.TheVariants as parse_faults
use Rattle.med_syntax.specs.declared.expr.Expr.{Expr}
use Rattle.med_syntax.specs.declared.refusal.ReadFault.{ReadFault}
use Rattle.med_syntax.specs.declared.refusal.ReadFault.TheVariants as faults
use Rattle.med_syntax.specs.declared.refusal.Refusal.TheVariants.{Syntax, TooHigh}
use Rattle.med_syntax.proofs.TokenShapes.{OneList, shapes_are}
use Rattle.med_syntax.proofs.TokenNumbers.{small_at}
use Rattle.med_syntax.proofs.ExprComplete.{one_tree}
use Rattle.med_syntax.proofs.ExprTerminals.{to_terminals, of_terminals}
use Rattle.med_syntax.proofs.ExprWeighing.{bounded_sound, bounded_out, bounded_told, weight_is}

-- ---- causes of tokens

deep_told : (ss : List Shape) → ((e : ExprTree) × IsExpr (terminals_at false ss) e × (64 < height e)) ⊎ (((e : ExprTree) → IsExpr (terminals_at false ss) e → ⊥) × (64 < weight (terminals_at false ss))) → TokenCauses ss causes.TooDeep
deep_told ss (inl h) = inl (h.0, of_terminals ss h.0 h.1, h.2)
deep_told ss (inr h) = inr ((λ e x. h.0 e (to_terminals ss e x)), omega (arith, h.1, weight_is false ss))

pub told : (ss : List Shape) (f : ReadFault) → ReadsAs expr_tree (Err f) (bounded_of (terminals_at false ss)) → (cause_of_read f ≡ causes.OutOfMemory) ⊎ TokenCauses ss (cause_of_read f)
told ss faults.NoMemory h = inl refl
told ss (faults.Refused Syntax) h = inr (λ e x. bounded_out (terminals_at false ss) h e (to_terminals ss e x))
told ss (faults.Refused TooHigh) h = inr (deep_told ss (bounded_told (terminals_at false ss) h))

pub read_expr : (ss : List Shape) (e : ExprTree) → bounded_of (terminals_at false ss) ≡ Ok e → IsExpression ss e × (height e ≤ 64)
read_expr ss e h =
    let x = bounded_sound (terminals_at false ss) e h in
    (of_terminals ss e x.0, x.1)

one_expression : (ss : List Shape) (d e : ExprTree) → IsExpression ss d → IsExpression ss e → d ≡ e
one_expression ss d e x y = one_tree (terminals_at false ss) d e (to_terminals ss d x) (to_terminals ss e y)

pub no_cause : (ss : List Shape) (e : ExprTree) → IsExpression ss e → height e ≤ 64 → in_range e ≡ true → AreReadable ss → (Any IsLongName ss → ⊥) → (c : Cause) → TokenCauses ss c → ⊥
no_cause ss e x low range r short causes.Syntax h = h e x
no_cause ss e x low range r short causes.NameTooLong h = short h
no_cause ss e x low range r short causes.LiteralOutOfRange (inl h) = small_at ss h.0 h.1 r h.2 h.3 h.4
no_cause ss e x low range r short causes.LiteralOutOfRange (inr h) = absurd (let same : in_range h.0 ≡ in_range e = ap in_range (one_expression ss h.0 e h.1 x) in let f : in_range h.0 ≡ false = h.2 in cc)
no_cause ss e x low range r short causes.TooDeep (inl h) = absurd (omega (arith, h.2, ap height (one_expression ss h.0 e h.1 x)))
no_cause ss e x low range r short causes.TooDeep (inr h) = h.0 e x
no_cause ss e x low range r short c h = absurd h

-- ---- causes of texts

pub text_has : (text : List ℕ) (ts : List Token) (e : ExprTree) → Lexes 0 text (views ts) → IsExpression (shapes_of ts) e → HasExpr text e
text_has text ts e l x = (views ts, l, subst (λ ss. IsExpression ss e) (sym (shapes_are ts)) x)

same_shapes : (text : List ℕ) (ts : List Token) (us : List Lexeme) → OneList text (views ts) → Lexes 0 text us → shapes us ≡ shapes_of ts
same_shapes text ts us one l = ap shapes (one us l) ∙ shapes_are ts

pub text_cause : (text : List ℕ) (ts : List Token) → Lexes 0 text (views ts) → OneList text (views ts) → (c : Cause) → TokenCauses (shapes_of ts) c → ExprCauses text c
text_cause text ts l one causes.Syntax h = λ e x. h e (subst (λ ss. IsExpression ss e) (same_shapes text ts x.0 one x.1) x.2)
text_cause text ts l one causes.NameTooLong h = (views ts, l, subst (λ ss. TokenCauses ss causes.NameTooLong) (sym (shapes_are ts)) h)
text_cause text ts l one causes.LiteralOutOfRange h = (views ts, l, subst (λ ss. TokenCauses ss causes.LiteralOutOfRange) (sym (shapes_are ts)) h)
text_cause text ts l one causes.TooDeep h = (views ts, l, subst (λ ss. TokenCauses ss causes.TooDeep) (sym (shapes_are ts)) h)
text_cause text ts l one c h = absurd h

pub text_clear : (text : List ℕ) (ts : List Token) → Lexes 0 text (views ts) → OneList text (views ts) → ((c : Cause) → TokenCauses (shapes_of ts) c → ⊥) → (c : Cause) → ExprCauses text c → ⊥
text_clear text ts l one none causes.Syntax h = none causes.Syntax (λ e x. h e (text_has text ts e l x))
text_clear text ts l one none causes.NameTooLong h = none causes.NameTooLong (subst (λ ss. TokenCauses ss causes.NameTooLong) (same_shapes text ts h.0 one h.1) h.2)
text_clear text ts l one none causes.LiteralOutOfRange h = none causes.LiteralOutOfRange (subst (λ ss. TokenCauses ss causes.LiteralOutOfRange) (same_shapes text ts h.0 one h.1) h.2)
text_clear text ts l one none causes.TooDeep h = none causes.TooDeep (subst (λ ss. TokenCauses ss causes.TooDeep) (same_shapes text ts h.0 one h.1) h.2)
text_clear text ts l one none c h = absurd h.2

pub text_refused : {X : Type 0} (text : List ℕ) (ts : List Token) → Lexes 0 text (views ts) → OneList text (views ts) → (r : Result X Cause) → IfErr r (λ c. (c ≡ causes.OutOfMemory) ⊎ TokenCauses (shapes_of ts) c) → IfErr r (λ c. (c ≡ causes.OutOfMemory) ⊎ ExprCauses text c)
text_refused text ts l one (Ok x) h = tt
text_refused text ts l one (Err c) (inl h) = inl h
text_refused text ts l one (Err c) (inr h) = inr (text_cause text ts l one c h)

pub only_memory : {X : Type 0} (text : List ℕ) (r : Result X Cause) → IfErr r (λ c. (c ≡ causes.OutOfMemory) ⊎ ExprCauses text c) → ((c : Cause) → ExprCauses text c → ⊥) → IfErr r (λ c. c ≡ causes.OutOfMemory)
only_memory text (Ok x) h none = tt
only_memory text (Err c) (inl h) none = h
only_memory text (Err c) (inr h) none = absurd (none c h)

pub one_text : ((text : List ℕ) (ts us : List Lexeme) → Lexes 0 text ts → Lexes 0 text us → ts ≡ us) → (text : List ℕ) (d e : ExprTree) → HasExpr text d → HasExpr text e → d ≡ e
one_text one text d e x y =
    let same : x.0 ≡ y.0 = one text x.0 y.0 x.1 y.1 in
    one_expression (shapes y.0) d e (subst (λ ts. IsExpression (shapes ts) d) same x.2) y.2

-- ---- as the code has it

pub told_refused : {X : Type 0} (ss : List Shape) (f : ReadFault) (r : Result X Cause) → (cause_of_read f ≡ causes.OutOfMemory) ⊎ TokenCauses ss (cause_of_read f) → r ≡ Err (cause_of_read f) → IfErr r (λ c. (c ≡ causes.OutOfMemory) ⊎ TokenCauses ss c)
told_refused ss f r h is = rw is h

pub lexed_read : {X : Type 0} (A : Type 0) (text : List ℕ) (f : ParseFault) (r : Result X Cause) → LexesOnly {A = A} (Err f) text → r ≡ Err (cause_of f) → ((c : Cause) → ExprCauses text c → ⊥) → IfErr r (λ c. c ≡ causes.OutOfMemory)
lexed_read A text parse_faults.NoMemory r h is none = rw is refl
lexed_read A text parse_faults.Syntax r h is none = absurd (none causes.Syntax (λ e x. h x.0 x.1))

pub text_found : (text : List ℕ) (ts : List Token) → Lexes 0 text (views ts) → (r : Result Expr Cause) → IfOk r (λ e. IsExpression (shapes_of ts) (expr_tree e)) → IfOk r (λ e. HasExpr text (expr_tree e))
text_found text ts l (Ok e) h = text_has text ts (expr_tree e) l h
text_found text ts l (Err c) h = tt

pub text_none : (text : List ℕ) (ts : List Token) → Lexes 0 text (views ts) → OneList text (views ts) → (r : Result Expr Cause) → OnOk r ((c : Cause) → TokenCauses (shapes_of ts) c → ⊥) → OnOk r ((c : Cause) → ExprCauses text c → ⊥)
text_none text ts l one (Ok e) h = text_clear text ts l one h
text_none text ts l one (Err c) h = tt
