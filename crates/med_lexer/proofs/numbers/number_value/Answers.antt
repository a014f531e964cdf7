use Rattle.std.proofs.Common.{◌≢◌, ℕ, get_or, ap, arith, rules}
use Rattle.std.specs.Prelude.{Ok, Err}
use Rattle.std.specs.Char.{is_ascii_digit}
use Rattle.std.specs.Str.Parse.{digits_value, digits_value_after}
use Rattle.std.proofs.lemmas.Str.Parse.{IsNumeralModel, numerals_by_fold, parse_plain}
use Rattle.med_lexer.specs.Lexemes.{Every}
use Rattle.med_lexer.proofs.numbers.number_value.Goals as goal

own : IsNumeralModel (λ ds. Every is_ascii_digit ds) (digits_value 10)
own = numerals_by_fold _ (search rules) (digits_value_after 10) (search rules)

pub returns-then-n : goal.returns-then-n
returns-then-n c =
    let no_plus : get_or c.args.digits.now 0 0 ≢ 43 = grind (arith, ap (λ l. get_or l 0 0) c.as_bytes-bytes.ensures.value, c.if-bytes-eq43.false) in
    let parsed = parse_plain own {E = ℕ} 64 c.args.digits.now (Ok c.in-Ok.n) c.in-Ok.ensures.value.0 no_plus in
    ((((parsed.0).0, (parsed.0).1), omega (arith, c.if-n.true, parsed.1)), parsed.1)

pub returns-in-Err : goal.returns-in-Err
returns-in-Err c = λ h.
    let no_plus : get_or c.args.digits.now 0 0 ≢ 43 = grind (arith, ap (λ l. get_or l 0 0) c.as_bytes-bytes.ensures.value, c.if-bytes-eq43.false) in
    parse_plain own {E = ℕ} 64 c.args.digits.now (Err 0) c.in-Err.ensures.value.0 no_plus ((h.0).0, (h.0).1, omega (arith, h.1))
