use Rattle.std.proofs.Common.{◌≡◌, ◌<◌, ◌∙◌, length, map, unwrap_or, arith}
use Rattle.std.proofs.lemmas.List.{length-map}
use Rattle.med_value.specs.Datum.{datum, NoValue}
use Rattle.json_members.specs.Scalars.{seen_of}
use Rattle.jsonl_wrapper.specs.Notes.{cell_seen}
use Rattle.jsonl_wrapper.proofs.NoteLaws.{at_next}
use Rattle.jsonl_wrapper.proofs.notes.put_member.Goals as goal

pub loop-at-preserved : goal.loop-at-preserved
loop-at-preserved c =
    let l = c.loop-at in
    let fields = c.args.fields.now in
    let many : length (map datum l.cells) ≡ length l.cells = length-map l.cells datum in
    let lt : l.at < length fields = omega arith in
    let le : l.at < length (map datum l.cells) = omega arith in
    l.invariant
    ∙ at_next c.args.name.now (λ kind. unwrap_or (cell_seen (seen_of c.args.scalar) kind) NoValue) fields (map datum l.cells)
    (map datum c.put_at.new.cells) l.at c.index-fields-at.result lt le c.index-fields-at.is c.in_ok-put_at.ensures
