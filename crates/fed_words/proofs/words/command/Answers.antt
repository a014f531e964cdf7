use Rattle.std.proofs.Common.{◌≡◌, ◌∙◌, true, ap, ap₂}
use Rattle.std.proofs.lemmas.Result.{IfOk-weaker}
use Rattle.clap.specs.Words.{App, app_of, with_subcommand}
use Rattle.fed_words.specs.CommandLine.{fedq_command}
use Rattle.fed_words.proofs.Commands.{third_is_not}
use Rattle.fed_words.proofs.words.command.Goals as goal

pub returns : goal.returns
returns c =
    let top = ap (λ (a : App). let all : App = record a { top = record a.top { subcommand_required = true; arg_required_else_help = true; has_version = true } } in all) c.new.ensures.app in
    let top_is : app_of c.in_ok-bin_name.field-0 ≡ fedq_command = rw (c.in_ok-bin_name.ensures.0, c.arg_required_else_help.ensures, c.subcommand_required.ensures, c.after_help.ensures, c.version.ensures, c.about.ensures) top in
    let run_local = third_is_not _ _ _ _ (ap (λ (a : App). a.top.is_plain) c.in_ok-run.ensures) in
    let serve_local = third_is_not _ _ _ _ (ap (λ (a : App). a.top.is_plain) c.in_ok-serve.ensures) in
    let one = c.in_ok-subcommand.ensures.shape run_local ∙ ap₂ with_subcommand top_is (ap (λ (a : App). a.top) c.in_ok-run.ensures) in
    IfOk-weaker c.subcommand-2.result _ _ (λ r h. h.shape serve_local ∙ ap₂ with_subcommand one (ap (λ (a : App). a.top) c.in_ok-serve.ensures)) c.subcommand-2.ensures
