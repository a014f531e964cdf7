use Rattle.std.proofs.Common.{◌≡◌, suc, Some, Err, refl, string_bytes, [], ◌++◌, sym, ap, ◌∙◌, subst, append_assoc, append-nil, arith}
use Rattle.session_wire.specs.Lines.{unread_after, lines_of}
use Rattle.session_wire.specs.Run.{RunFront, IsAnswered, line_count}
use Rattle.session_wire.specs.Replies.{closing_replies}
use Rattle.session_wire.proofs.Runs.{SoFar, so_far_none, so_far_more, so_far_stops, so_far_rest, so_far_closed, on_stop, next_refused}
use Rattle.session_wire.proofs.answers.answer_lines.Goals as goal

pub loop-found-init : goal.loop-found-init
loop-found-init g c = record {
  replies = [];
  written = sym (append-nil _);
  so_far = so_far_none _ _ _ _;
  ready = c.new_codec-codec.ensures c.args.unread.now.items;
  kept = c.requires;
}

pub next_line-requires : goal.next_line-requires
next_line-requires g c = c.loop-found.invariant.ready

pub returns-in_default-clause-err : goal.returns-in_default-clause-err
returns-in_default-clause-err g c =
    let kept = c.loop-found.invariant in
    (kept.replies, kept.written, so_far_stops _ _ _ _ _ _ _ kept.so_far)

pub returns-in_err-answer_line-in-Line-clause-err : goal.returns-in_err-answer_line-in-Line-clause-err
returns-in_err-answer_line-in-Line-clause-err g c =
    let same = c.in_err-answer_line-in-Line.ensures.refused in
    let kept = c.loop-found.invariant in
    on_stop _ _ _ _ _ _ _ kept.replies (same.1 ∙ kept.written) (subst (λ w. RunFront g.H.Handler.step c.args.handler.now (lines_of c.args.unread.now.items) kept.replies w) (sym same.0) (so_far_stops _ _ _ _ _ _ _ kept.so_far))

-- room was refused for the next line
pub returns-in_default-clause-cause : goal.returns-in_default-clause-cause
returns-in_default-clause-cause g c =
    let kept = c.loop-found.invariant in
    let has = c.in_default.ensures.memory in
    next_refused {T = Unit {0}} {E = Unit {0}} (Err tt) _ _ _ _ _ _ _ _ _ _ kept.replies has.2 tt refl kept.written kept.so_far

pub returns-in_err-answer_line-in-Line-clause-cause : goal.returns-in_err-answer_line-in-Line-clause-cause
returns-in_err-answer_line-in-Line-clause-cause g c =
    let found = rw c.in-Line.is at c.in-Ok.ensures.found in
    let same = c.in_err-answer_line-in-Line.ensures.refused in
    let kept = c.loop-found.invariant in
    next_refused _ _ _ _ _ _ _ _ _ _ _ kept.replies found.0 tt same.0 (same.1 ∙ kept.written) kept.so_far

pub returns-in_err-write_closing-in-Closing-clause-cause : goal.returns-in_err-write_closing-in-Closing-clause-cause
returns-in_err-write_closing-in-Closing-clause-cause g c =
    let found = rw c.in-Closing.is at c.in-Ok.ensures.found in
    let kept = c.loop-found.invariant in
    let same = c.in_err-write_closing-in-Closing.ensures.refused in
    next_refused _ _ _ _ _ _ _ _ _ _ _ kept.replies found tt refl (same ∙ kept.written) kept.so_far

pub loop-found-smaller : goal.loop-found-smaller
loop-found-smaller g c =
    let found = rw c.in-Line.is at c.in-Ok.ensures.found in
    let one : line_count (lines_of c.loop-found.unread.items) ≡ suc (line_count (lines_of c.next_line.new.unread.items)) = ap line_count found.0 in
    omega arith

pub loop-found-preserved : goal.loop-found-preserved
loop-found-preserved g c =
    let found = rw c.in-Line.is at c.in-Ok.ensures.found in
    let kept = c.loop-found.invariant in
    let answered = c.in_ok-answer_line-in-Line.ensures.ok in
    record {
      replies = kept.replies ++ answered.0;
      written = answered.1 ∙ ap (λ l. l ++ answered.0) kept.written ∙ append_assoc _ kept.replies answered.0;
      so_far = so_far_more g.H.Handler.step g.H.Handler.ended _ _ _ (string_bytes c.in-Line.text) _ kept.replies answered.0 _
          (subst (λ l. SoFar g.H.Handler.step g.H.Handler.ended c.args.handler.now (lines_of c.args.unread.now.items) c.loop-found.handler l kept.replies) found.0 kept.so_far)
          (subst (λ t. IsAnswered g.H.Handler.step c.loop-found.handler t answered.0 c.answer_line.new.handler) c.as_str.ensures.value answered.2);
      ready = found.1;
      kept = c.in_ok-answer_line-in-Line.ensures.sound;
    }

pub returns-in-Nothing-clause-ok : goal.returns-in-Nothing-clause-ok
returns-in-Nothing-clause-ok g c =
    let found = rw c.in-Nothing.is at c.in-Ok.ensures.found in
    let kept = c.loop-found.invariant in
    (kept.replies, kept.written, so_far_rest _ _ _ _ _ _ _ _ found.0 kept.so_far, kept.so_far.unread ∙ ap unread_after found.0 ∙ ap Some (sym found.1))

pub returns-in_err-write_closing-in-Closing-clause-err : goal.returns-in_err-write_closing-in-Closing-clause-err
returns-in_err-write_closing-in-Closing-clause-err g c =
    let kept = c.loop-found.invariant in
    on_stop _ _ _ _ _ _ _ kept.replies (c.in_err-write_closing-in-Closing.ensures.refused ∙ kept.written) (so_far_stops _ _ _ _ _ _ _ kept.so_far)

pub returns-in-Closing-clause-ok : goal.returns-in-Closing-clause-ok
returns-in-Closing-clause-ok g c =
    let found = rw c.in-Closing.is at c.in-Ok.ensures.found in
    let kept = c.loop-found.invariant in (
      kept.replies ++ closing_replies,
      c.in_ok-write_closing-in-Closing.ensures.ok ∙ ap (λ l. l ++ closing_replies) kept.written ∙ append_assoc _ kept.replies closing_replies,
      so_far_closed _ _ _ _ _ _ _ _ found kept.so_far c.close_sessions.ensures.ended,
      kept.so_far.unread ∙ ap unread_after found,
    )
