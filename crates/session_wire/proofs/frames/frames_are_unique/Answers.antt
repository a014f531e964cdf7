use Rattle.session_wire.proofs.UniqueFrames.{one_frame, one_reply_sid}
use Rattle.session_wire.proofs.frames.frames_are_unique.Goals as goal

pub returns : goal.returns
returns c = record { frame = one_frame; sid = one_reply_sid }
