use Rattle.std.proofs.Common.{◌≡◌, true, false, sym, ◌∙◌, inl, inr}
use Rattle.std.proofs.lemmas.Result.{err_from_is_err_and}
use Rattle.med_syntax.specs.View.{shapes_of}
use Rattle.med_parser.specs.CommandTree.{command_tree}
use Rattle.med_parser.specs.CommandCauses.{command_in_range}
use Rattle.med_syntax.proofs.TokenShapes.{short_names, long_name}
use Rattle.med_syntax.proofs.TokenNumbers.{huge, readable}
use Rattle.med_parser.proofs.CommandParsed.{told_refused, told_syntax, no_cause}
use Rattle.med_parser.proofs.parser.checked_command.Goals as goal

pub returns-then-has_unreadable-clause-refused : goal.returns-then-has_unreadable-clause-refused
returns-then-has_unreadable-clause-refused c = inr (inl (huge c.args.tokens.now c.requires (c.has_unreadable.ensures.0 c.if-has_unreadable.true)))

pub command_of-requires : goal.command_of-requires
command_of-requires c =
    readable c.args.tokens.now c.requires (λ h. absurd (let t : c.has_unreadable.result ≡ true = c.has_unreadable.ensures.1 h in let f : c.has_unreadable.result ≡ false = c.if-has_unreadable.false in cc))

pub returns-in_err-command-clause-refused : goal.returns-in_err-command-clause-refused
returns-in_err-command-clause-refused c =
    let p = err_from_is_err_and c.from_residual.result c.from_residual.ensures.1 in
    told_refused (shapes_of c.args.tokens.now) c.in_err-command.field-0.0 c.from_residual.result c.in_err-command.ensures.refused (cc)

pub returns-in_err-command-clause-syntax : goal.returns-in_err-command-clause-syntax
returns-in_err-command-clause-syntax c = λ none.
    let p = err_from_is_err_and c.from_residual.result c.from_residual.ensures.1 in
    told_syntax c.in_err-command.field-0.0 c.from_residual.result (cc)

pub returns-then-has_long_name-clause-refused : goal.returns-then-has_long_name-clause-refused
returns-then-has_long_name-clause-refused c = inr (long_name c.args.tokens.now (c.has_long_name.ensures.0 c.if-has_long_name.true))

pub returns-then-has_long_name-clause-syntax : goal.returns-then-has_long_name-clause-syntax
returns-then-has_long_name-clause-syntax c = λ none. absurd (none (command_tree c.in_ok-command.command) c.in_ok-command.ensures.found)

pub returns-then-not-is_command_in_range-clause-refused : goal.returns-then-not-is_command_in_range-clause-refused
returns-then-not-is_command_in_range-clause-refused c =
    inr (inr (command_tree c.in_ok-command.command, c.in_ok-command.ensures.found, (let r : c.is_command_in_range.result ≡ command_in_range (command_tree c.in_ok-command.command) = c.is_command_in_range.ensures in cc)))

pub returns-then-is_fetch_zero_command-clause-refused : goal.returns-then-is_fetch_zero_command-clause-refused
returns-then-is_fetch_zero_command-clause-refused c =
    inr (command_tree c.in_ok-command.command, c.in_ok-command.ensures.found, sym c.is_fetch_zero_command.ensures ∙ c.if-is_fetch_zero_command.true)

pub returns-else-is_fetch_zero_command-clause-clear : goal.returns-else-is_fetch_zero_command-clause-clear
returns-else-is_fetch_zero_command-clause-clear c =
    no_cause (shapes_of c.args.tokens.now) (command_tree c.in_ok-command.command) c.in_ok-command.ensures.found c.in_ok-command.ensures.low
    (let r : c.is_command_in_range.result ≡ command_in_range (command_tree c.in_ok-command.command) = c.is_command_in_range.ensures in cc)
    (sym c.is_fetch_zero_command.ensures ∙ c.if-is_fetch_zero_command.false)
    (readable c.args.tokens.now c.requires (λ h. absurd (let t : c.has_unreadable.result ≡ true = c.has_unreadable.ensures.1 h in let f : c.has_unreadable.result ≡ false = c.if-has_unreadable.false in cc)))
    (λ h. absurd (let t : c.has_long_name.result ≡ true = c.has_long_name.ensures.1 (short_names c.args.tokens.now h) in let f : c.has_long_name.result ≡ false = c.if-has_long_name.false in cc))
