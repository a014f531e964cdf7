use Rattle.std.proofs.Common.{sym, ◌∙◌, arith, eqb-true}
use Rattle.std.proofs.lemmas.List.{nil_from_length}
use Rattle.fed_stream.proofs.Streams.{unread_of-open, unread_of-closed, parts_none, parts_more, parts_closed, parts_all, parts_failed}
use Rattle.fed_stream.proofs.Calls.{known_unwritten, known_more, known_done, known_fault}
use Rattle.fed_stream.proofs.OneLine.{one_line}
use Rattle.fed_stream.proofs.stream.answer_parts.Goals as goal

pub loop-rest-init : goal.loop-rest-init
loop-rest-init g c = record {
  parts = parts_none _ _ _ _ _ _ (c.runs_join.ensures.none _ _ (c.args.server.now.between c.requires.is_open));
  opened = c.requires.is_open;
  sound = c.requires.sound;
  few = c.requires.piece;
  writes = known_unwritten _;
}

pub returns-in-Err-clause-fault : goal.returns-in-Err-clause-fault
returns-in-Err-clause-fault g c =
    let kept = c.loop-rest.invariant in
    parts_failed _ _ _ _ _ _ _ _ _ _ _ _ _ _ _ c.in-Err.fault c.runs_join.ensures.joined c.runs_join.ensures.broken
    (c.runs_join.ensures.none _ _ (c.loop-rest.server.between kept.opened)) kept.parts c.split_at.ensures.by_index.0 (omega (arith, c.split_at.ensures.back_len, kept.few))
    (one_line _ _ _ _ c.split_at.ensures.by_index.0 c.split_at.ensures.front_len c.first_line.ensures.line) c.in-Err.ensures.fault

pub returns-in-Err-clause-writes : goal.returns-in-Err-clause-writes
returns-in-Err-clause-writes g c = known_fault _ _ c.in-Err.fault _ _ _ c.loop-rest.invariant.writes c.in-Err.ensures.writes

pub returns-then-is_closed-clause-ok : goal.returns-then-is_closed-clause-ok
returns-then-is_closed-clause-ok g c =
    let answered = c.in-Ok.ensures.ok in
    parts_closed _ _ _ _ _ _ _ _ _ _ _ _ answered.0 _ _ _ c.runs_join.ensures.joined c.runs_join.ensures.closed c.loop-rest.invariant.parts c.split_at.ensures.by_index.0 answered.1 answered.2
    (unread_of-closed c.answer_piece.new.server (sym c.is_closed.ensures ∙ c.if-is_closed.true))

pub returns-then-is_closed-clause-writes : goal.returns-then-is_closed-clause-writes
returns-then-is_closed-clause-writes g c = known_done _ _ _ (known_more _ _ _ _ c.loop-rest.invariant.writes c.in-Ok.ensures.writes)

pub loop-rest-preserved : goal.loop-rest-preserved
loop-rest-preserved g c =
    let kept = c.loop-rest.invariant in
    let answered = c.in-Ok.ensures.ok in
    let opened = sym c.is_closed.ensures ∙ c.if-is_closed.false in record {
      parts = parts_more _ _ _ _ _ _ _ _ _ _ _ _ answered.0 _ _ _ _ c.runs_join.ensures.joined kept.parts c.split_at.ensures.by_index.0 answered.1 answered.2 (unread_of-open c.answer_piece.new.server opened);
      opened = opened;
      sound = c.in-Ok.ensures.sound;
      few = omega (arith, c.split_at.ensures.back_len, kept.few);
      writes = known_more _ _ _ _ kept.writes c.in-Ok.ensures.writes;
    }

pub returns-clause-ok : goal.returns-clause-ok
returns-clause-ok g c =
    let kept = c.loop-rest.invariant in
    parts_all _ _ _ _ _ _ _ _ _ _ _ kept.parts (nil_from_length _ (eqb-true _ 0 (sym c.is_empty.ensures ∙ c.loop-rest-test.false))) (unread_of-open c.loop-rest.server kept.opened)

pub returns-clause-writes : goal.returns-clause-writes
returns-clause-writes g c = known_done _ _ _ c.loop-rest.invariant.writes
