use Rattle.std.proofs.Common.{subst}
use Rattle.sqlite_resolve.specs.Compile.{compiled}
use Rattle.sqlite_resolve.specs.Lowering.{Gives}
use Rattle.sqlite_looks.specs.Looks.{is_insert_command}
use Rattle.sqlite_looks.proofs.Given.{looked, unread}
use Rattle.sqlite_looks.proofs.looks.puts_in.Goals as goal

pub returns-in-Ok : goal.returns-in-Ok
returns-in-Ok c =
    looked (is_insert_command c.args.place c.args.cells.now c.args.width)
    (compiled c.args.schema.now c.args.text.now) c.in-Ok.compiled c.is_insert.result
    (subst (Gives (compiled c.args.schema.now c.args.text.now)) c.in-Ok.is c.compile.ensures) c.is_insert.ensures

pub returns-in-Err : goal.returns-in-Err
returns-in-Err c =
    unread (is_insert_command c.args.place c.args.cells.now c.args.width)
    (compiled c.args.schema.now c.args.text.now) c.in-Err.error c.refused.result
    (subst (Gives (compiled c.args.schema.now c.args.text.now)) c.in-Err.is c.compile.ensures) c.refused.ensures
