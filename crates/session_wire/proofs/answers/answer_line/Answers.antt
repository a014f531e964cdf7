use Rattle.session_wire.proofs.Refused.{no_room_for_refusal}
use Rattle.session_wire.proofs.answers.answer_line.Goals as goal

-- there was no room for the reply to a line that is not in the grammar
pub returns-in-Err-clause-full : goal.returns-in-Err-clause-full
returns-in-Err-clause-full g c =
    no_room_for_refusal c.write_refusal.result c.args.line.now c.in-Err.bad.sid _ _ c.in-Err.ensures.sid c.write_refusal.ensures.full
