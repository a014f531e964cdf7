use Rattle.med_value.specs.declared.cause.Cause.TheVariants.{OutOfMemory}
use Rattle.sql_meaning.specs.Replies.{refused}
use Rattle.med_session.specs.Asking.{asked}
use Rattle.med_statements.specs.Outcomes.{reply_of}
use Rattle.med_session.specs.Shows.{shown}
use Rattle.med_session.proofs.Leading.{answers, not_told, rows_untold, of_fetch}
use Rattle.med_session.proofs.engine.Engine.request.Goals as goal
use Rattle.med_session.proofs.engine.Engine.request.Goals.{in-Fetched, in_default}

pub returns-clause-answered : goal.returns-clause-answered
returns-clause-answered g c =
    let m = g.W.Wrapper.meaning in
    let e = shown m c.args.self.now in
    let mid = shown m c.answer-outcome.new.self in
    let sid = c.args.sid.number in
    let old = c.args.out.now.items in
    let out = c.write_reply.new.out.items in
    let o = c.answer-outcome.result in
    let told = not_told sid (reply_of o) c.write_reply.result old out (rw c.reserve.ensures.items at c.write_reply.ensures) c.if-write_reply.false in
    elim c.match-outcome.branch [
      | in-Fetched w ↦
          let untold = of_fetch o w.in-Fetched.name w.in-Fetched.field-1 _ w.in-Fetched.is c.answer-outcome.ensures.untold in
          let lost = untold.lost (shown m w.lose.new.self) (rw w.as_str.ensures.value at w.lose.ensures.lost) in
          rw w.self-is (answers e (shown m w.lose.new.self) sid (asked c.args.request) (refused OutOfMemory) old out lost told.1)
      | in_default w ↦ rw w.self-is (answers e mid sid (asked c.args.request) (refused OutOfMemory) old out (rows_untold o w.in_default.not-Fetched told.0 e mid sid (asked c.args.request) c.answer-outcome.ensures.leads) told.1)
    ]
