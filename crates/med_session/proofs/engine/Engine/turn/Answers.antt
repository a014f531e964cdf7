use Rattle.std.proofs.Common.{subst}
use Rattle.med_syntax.specs.CursorView.{cursor_tree}
use Rattle.med_syntax.specs.declared.cursor.CursorStatement.{CursorStatement}
use Rattle.med_parser.specs.CommandTree.{on_cursors}
use Rattle.med_world.specs.Laws.{IsRead}
use Rattle.med_session.specs.Shows.{shown}
use Rattle.med_session.proofs.Turns.{never}
use Rattle.med_session.proofs.engine.Engine.turn.Goals as goal

pub returns-in-Declare-clause-leads : goal.returns-in-Declare-clause-leads
returns-in-Declare-clause-leads g c = λ text user read.
    c.declare-outcome.ensures.leads text user (subst (λ (s : CursorStatement). IsRead (shown g.W.Wrapper.meaning c.args.self.now) c.args.sid.number text user (on_cursors (cursor_tree s))) c.in-Declare.is read)

pub returns-in-Declare-clause-untold : goal.returns-in-Declare-clause-untold
returns-in-Declare-clause-untold g c = λ text user read. never c.declare-outcome.result _ c.declare-outcome.ensures.told

pub returns-in-Fetch-clause-leads : goal.returns-in-Fetch-clause-leads
returns-in-Fetch-clause-leads g c = λ text user read.
    c.fetch.ensures.leads text user (subst (λ (s : CursorStatement). IsRead (shown g.W.Wrapper.meaning c.args.self.now) c.args.sid.number text user (on_cursors (cursor_tree s))) c.in-Fetch.is read)

pub returns-in-Fetch-clause-untold : goal.returns-in-Fetch-clause-untold
returns-in-Fetch-clause-untold g c = λ text user read.
    c.fetch.ensures.untold text user (subst (λ (s : CursorStatement). IsRead (shown g.W.Wrapper.meaning c.args.self.now) c.args.sid.number text user (on_cursors (cursor_tree s))) c.in-Fetch.is read)

pub returns-in-Close-clause-leads : goal.returns-in-Close-clause-leads
returns-in-Close-clause-leads g c = λ text user read.
    c.close.ensures.leads text user (rw c.as_str.ensures.value (subst (λ (s : CursorStatement). IsRead (shown g.W.Wrapper.meaning c.args.self.now) c.args.sid.number text user (on_cursors (cursor_tree s))) c.in-Close.is read))

pub returns-in-Close-clause-untold : goal.returns-in-Close-clause-untold
returns-in-Close-clause-untold g c = λ text user read. never c.close.result _ c.close.ensures.told
