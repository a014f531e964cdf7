use Rattle.std.proofs.Common.{subst}
use Rattle.sqlite_resolve.specs.Compile.{compiled}
use Rattle.sqlite_resolve.specs.Lowering.{Gives}
use Rattle.sqlite_looks.specs.Looks.{is_page_command}
use Rattle.sqlite_looks.proofs.Given.{looked, unread}
use Rattle.sqlite_looks.proofs.looks.reads_page.Goals as goal

pub returns-in-Ok : goal.returns-in-Ok
returns-in-Ok c =
    looked (is_page_command c.args.tree c.args.places.now c.args.size)
    (compiled c.args.schema.now c.args.text.now) c.in-Ok.compiled c.is_page.result
    (subst (Gives (compiled c.args.schema.now c.args.text.now)) c.in-Ok.is c.compile.ensures) c.is_page.ensures

pub returns-in-Err : goal.returns-in-Err
returns-in-Err c =
    unread (is_page_command c.args.tree c.args.places.now c.args.size)
    (compiled c.args.schema.now c.args.text.now) c.in-Err.error c.refused.result
    (subst (Gives (compiled c.args.schema.now c.args.text.now)) c.in-Err.is c.compile.ensures) c.refused.ensures
