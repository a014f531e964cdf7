use Rattle.std.proofs.Common.{Err, refl, sym, ap, ◌∙◌, arith}
use Rattle.fed_stream.specs.declared.stream.Ended.TheVariants as ended
use Rattle.fed_stream.proofs.Streams.{unread_of-open, unread_of-closed, served_none, served_open, served_more, failed}
use Rattle.fed_stream.proofs.Calls.{known_unserved, known_unwritten, known_more, known_done, known_fault, known_untouched, known_reads, known_end, known_closed, known_part_fault, known_read_fault, known_too_many, known_too_long_read}
use Rattle.fed_stream.proofs.Prompts.{prompt_first, prompt_more, prompt_ends, prompt_closed, prompt_fault, answered}
use Rattle.fed_stream.proofs.stream.serve_stream_within.Goals as goal

pub loop-granted-init : goal.loop-granted-init
loop-granted-init g c =
    let opened = sym c.is_closed.ensures ∙ c.if-is_closed.false in record {
      served = served_none _ _ _ _ _ _ _ (c.runs_join.ensures.none _ _ (c.args.server.now.between opened)) (unread_of-open c.args.server.now opened);
      opened = opened;
      sound = c.requires;
      reads = known_untouched c.args.reads _;
      writes = known_unwritten _;
      prompt = prompt_first _ _ _ _;
    }

pub returns-then-is_closed-clause-writes : goal.returns-then-is_closed-clause-writes
returns-then-is_closed-clause-writes g c = known_unserved ended.Closed _

pub returns-in-Ok-eq0-clause-reads : goal.returns-in-Ok-eq0-clause-reads
returns-in-Ok-eq0-clause-reads g c = λ _.
    known_end _ _ c.in-Ok-eq0.field-0-test _ _ _ _ _ _ c.loop-granted.invariant.reads c.in-Ok-eq0.ensures.met

pub returns-in-Ok-eq0-clause-prompt : goal.returns-in-Ok-eq0-clause-prompt
returns-in-Ok-eq0-clause-prompt g c = λ _. prompt_ends _ _ _ _ _ _ _ c.loop-granted.invariant.prompt (refl, refl)

pub returns-in-Err-Failed-clause-prompt : goal.returns-in-Err-Failed-clause-prompt
returns-in-Err-Failed-clause-prompt g c = λ _. prompt_ends _ _ _ _ _ _ _ c.loop-granted.invariant.prompt (refl, refl)

pub returns-in-Err-TooMany-clause-prompt : goal.returns-in-Err-TooMany-clause-prompt
returns-in-Err-TooMany-clause-prompt g c = λ _. prompt_ends _ _ _ _ _ _ _ c.loop-granted.invariant.prompt (refl, refl)

pub returns-clause-prompt : goal.returns-clause-prompt
returns-clause-prompt g c = λ _. prompt_ends _ _ _ _ _ _ _ c.loop-granted.invariant.prompt (refl, refl)

pub returns-in-Err-clause-prompt : goal.returns-in-Err-clause-prompt
returns-in-Err-clause-prompt g c = λ _. prompt_fault _ _ _ _ _ _ _ c.loop-granted.invariant.prompt c.in-Err.ensures.kind

pub returns-then-is_closed-2-clause-prompt : goal.returns-then-is_closed-2-clause-prompt
returns-then-is_closed-2-clause-prompt g c = λ _.
    let parts = c.in-Ok-answer_parts.ensures.ok in
    let closed = unread_of-closed c.answer_parts.new.server (sym c.is_closed-in-loop-granted.ensures ∙ c.if-is_closed-2.true) in
    prompt_closed _ _ _ _ _ _ _ c.loop-granted.invariant.prompt
    (answered _ _ _ _ _ _ _ _ _ _ _ _ c.in-Ok.ensures.bytes.0 c.in-Ok.ensures.met parts.1 parts.2 c.in-Ok-answer_parts.ensures.writes) closed

pub returns-in-Err-Failed-clause-reads : goal.returns-in-Err-Failed-clause-reads
returns-in-Err-Failed-clause-reads g c = λ _. known_read_fault _ _ c.in-Err-Failed.field-0-is _ _ _ _ _ _ c.loop-granted.invariant.reads c.in-Err-Failed.ensures.met

pub returns-in-Err-TooMany-clause-reads : goal.returns-in-Err-TooMany-clause-reads
returns-in-Err-TooMany-clause-reads g c = λ _.
    let f = c.in-Err-TooMany.field-0-is in
    known_too_many _ _ f _ _ _ (c.in-Err-TooMany.ensures.none_left (ap Err f)) _ _ _ c.loop-granted.invariant.reads c.in-Err-TooMany.ensures.met

pub returns-in-Err-clause-serves : goal.returns-in-Err-clause-serves
returns-in-Err-clause-serves g c = λ _.
    let kept = c.loop-granted.invariant in
    failed _ _ _ _ _ _ _ _ _ _ _ _ _ _ c.in-Err.fault c.runs_join.ensures.joined (served_open _ _ _ _ _ _ _ _ _ (unread_of-open c.loop-granted.server kept.opened) kept.served) (c.in-Err.ensures.fault _ _ c.in-Ok.ensures.bytes.0)

pub returns-in-Err-clause-reads : goal.returns-in-Err-clause-reads
returns-in-Err-clause-reads g c = λ _. known_part_fault _ _ c.in-Err.ensures.kind _ _ _ _ _ _ _ c.loop-granted.invariant.reads c.in-Ok.ensures.met

pub returns-in-Err-clause-writes : goal.returns-in-Err-clause-writes
returns-in-Err-clause-writes g c = known_fault _ _ _ _ _ _ c.loop-granted.invariant.writes c.in-Err.ensures.writes

pub returns-then-is_closed-2-clause-serves : goal.returns-then-is_closed-2-clause-serves
returns-then-is_closed-2-clause-serves g c = λ _.
    let kept = c.loop-granted.invariant in
    let answered_parts = c.in-Ok-answer_parts.ensures.ok in (
      served_more _ _ _ _ _ _ _ _ _ _ _ answered_parts.0 _ _ _ _ c.runs_join.ensures.joined (served_open _ _ _ _ _ _ _ _ _ (unread_of-open c.loop-granted.server kept.opened) kept.served) c.in-Ok.ensures.bytes.0 answered_parts.1 answered_parts.2,
      unread_of-closed c.answer_parts.new.server (sym c.is_closed-in-loop-granted.ensures ∙ c.if-is_closed-2.true),
    )

pub returns-then-is_closed-2-clause-reads : goal.returns-then-is_closed-2-clause-reads
returns-then-is_closed-2-clause-reads g c = λ _. known_closed _ _ _ _ _ _ _ _ c.loop-granted.invariant.reads c.in-Ok.ensures.met

pub returns-then-is_closed-2-clause-writes : goal.returns-then-is_closed-2-clause-writes
returns-then-is_closed-2-clause-writes g c = known_done _ _ _ (known_more _ _ _ _ c.loop-granted.invariant.writes c.in-Ok-answer_parts.ensures.writes)

pub loop-granted-preserved : goal.loop-granted-preserved
loop-granted-preserved g c =
    let kept = c.loop-granted.invariant in
    let answered_parts = c.in-Ok-answer_parts.ensures.ok in record {
      served = served_more _ _ _ _ _ _ _ _ _ _ _ answered_parts.0 _ _ _ _ c.runs_join.ensures.joined (served_open _ _ _ _ _ _ _ _ _ (unread_of-open c.loop-granted.server kept.opened) kept.served) c.in-Ok.ensures.bytes.0 answered_parts.1 answered_parts.2;
      opened = sym c.is_closed-in-loop-granted.ensures ∙ c.if-is_closed-2.false;
      sound = c.in-Ok-answer_parts.ensures.sound;
      reads = known_reads _ _ _ _ _ _ _ _ kept.reads c.in-Ok.ensures.met;
      writes = known_more _ _ _ _ kept.writes c.in-Ok-answer_parts.ensures.writes;
      prompt = prompt_more _ _ _ _ _ _ _ kept.prompt
          (answered _ _ _ _ _ _ _ _ _ _ _ _ c.in-Ok.ensures.bytes.0 c.in-Ok.ensures.met answered_parts.1 answered_parts.2 c.in-Ok-answer_parts.ensures.writes)
          (unread_of-open c.answer_parts.new.server (sym c.is_closed-in-loop-granted.ensures ∙ c.if-is_closed-2.false));
    }

pub returns-clause-reads : goal.returns-clause-reads
returns-clause-reads g c = λ _. known_too_long_read _ _ (omega (arith, c.loop-granted-test.false)) _ _ c.loop-granted.invariant.reads
