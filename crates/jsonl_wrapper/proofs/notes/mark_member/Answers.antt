use Rattle.std.proofs.Common.{◌<◌, ◌∙◌, length, arith}
use Rattle.json_members.specs.Scalars.{seen_of}
use Rattle.jsonl_wrapper.specs.Notes.{cell_seen, mark_of}
use Rattle.jsonl_wrapper.proofs.NoteLaws.{at_next}
use Rattle.jsonl_wrapper.proofs.notes.mark_member.Goals as goal

pub loop-at-preserved : goal.loop-at-preserved
loop-at-preserved c =
    let l = c.loop-at in
    let fields = c.args.fields.now in
    let lt : l.at < length fields = omega arith in
    let le : l.at < length l.marks = omega arith in
    l.invariant
    ∙ at_next c.args.name.now (λ kind. mark_of (cell_seen (seen_of c.args.scalar) kind)) fields l.marks c.mark_at.new.marks l.at
    c.index-fields-at.result lt le c.index-fields-at.is c.mark_at.ensures
