use Rattle.med_lexer.specs.Lexemes.{Lexes}
use Rattle.med_lexer.specs.View.{views}
use Rattle.med_syntax.proofs.token_list.tokens_of.Goals as goal

pub returns-in-Ok : goal.returns-in-Ok
returns-in-Ok c =
    let text = c.args.text.now in
    let lexed : Lexes 0 text (views c.in-Ok.tokens.items) = c.in-Ok.ensures in
    (lexed, λ ts h. c.one_list.ensures text ts (views c.in-Ok.tokens.items) h lexed)
