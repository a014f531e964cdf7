use Rattle.std.proofs.Common.{[], refl}
use Rattle.med_lexer.proofs.Quoting.{ahead_none, loop_end, loop_bad}
use Rattle.med_lexer.proofs.quotes.unquoted.Goals as goal

pub returns-in_default : goal.returns-in_default
returns-in_default c = loop_bad c.args.quote c.args.text.now [] c.args.text.now _ _ (ahead_none _) c.cut_run.ensures c.in_default.ensures

pub returns-in_default-strip : goal.returns-in_default-strip
returns-in_default-strip c =
    loop_end c.args.quote c.args.text.now [] c.args.text.now _ _ _ _ c.cut_run.result.0.now (ahead_none _) c.cut_run.ensures c.in-Some.ensures c.in_default-strip.ensures refl
