use Rattle.session_wire.specs.Lines.{lines_of}
use Rattle.session_wire.specs.Run.{line_count}
use Rattle.session_wire.proofs.Runs.{Answering}
use Rattle.session_wire.proofs.answers.answer_lines.Given as goal

abbrev pub invariant-loop-found : goal.invariant-loop-found
invariant-loop-found g l =
    Answering g.H.Handler.step g.H.Handler.ended g.H.Handler.sound l.fn.handler l.fn.unread.items l.fn.out.items l.handler l.codec l.unread.items l.out.items

abbrev pub decreases-loop-found : goal.decreases-loop-found
decreases-loop-found g l = line_count (lines_of l.unread.items)
