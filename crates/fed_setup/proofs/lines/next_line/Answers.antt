use Rattle.fed_setup.proofs.Cuts.{one_line, first_line}
use Rattle.fed_setup.proofs.lines.next_line.Goals as goal

pub returns-in-Some : goal.returns-in-Some
returns-in-Some c =
    first_line c.args.text.now c.without_carriage_return.result.now (c.in-Some.line, c.in-Some.after) c.in-Some.ensures.cases c.without_carriage_return.ensures

pub returns-in-None : goal.returns-in-None
returns-in-None c = one_line c.args.text.now c.without_carriage_return-in-None.result.now c.in-None.ensures.cases c.without_carriage_return-in-None.ensures
