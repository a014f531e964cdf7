use Rattle.std.proofs.Common.{List, sym, subst, Bor}
use Rattle.std.specs.Prelude.{Result}
use Rattle.med_lexer.specs.declared.Token.{Token}
use Rattle.med_lexer.specs.Lexemes.{Shape}
use Rattle.med_syntax.specs.declared.refusal.Refusal.{Refusal}
use Rattle.med_syntax.specs.Prelude.{ReadsAs, shapes_of}
use Rattle.write_parser.proofs.CursorRead.{properties_at}
use Rattle.write_parser.proofs.cursor_statement.behind_properties.Goals as goal

pub returns : goal.returns
returns c =
    subst (λ (r : Result (Unit {0} × List Shape) Refusal). ReadsAs (λ (x : Bor (List Token)). (tt, shapes_of x.now)) c.behind_held.result r)
    (sym (properties_at (shapes_of c.args.tokens.now) (shapes_of c.word_if.result.1.now) (shapes_of c.two_if.result.1.now) c.word_if.result.0 c.two_if.result.0 c.word_if.ensures c.two_if.ensures))
    c.behind_held.ensures
