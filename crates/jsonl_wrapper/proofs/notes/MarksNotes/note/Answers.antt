use Rattle.std.proofs.Common.{◌≡◌, ◌≤◌, ◌∙◌, List, length, map, ap, sym, subst, refl, arith}
use Rattle.std.specs.Vec.{with_items}
use Rattle.std.proofs.lemmas.List.{with_items_is}
use Rattle.json_members.specs.Scalars.{seen_of}
use Rattle.jsonl_wrapper.specs.Fields.{reader_of}
use Rattle.jsonl_wrapper.specs.Notes.{Mark, cell_seen, mark_of, at_member}
use Rattle.jsonl_wrapper.proofs.NoteLaws.{marks_after}
use Rattle.jsonl_wrapper.proofs.notes.MarksNotes.note.Goals as goal

pub returns : goal.returns
returns c = λ begun ms d e is.
    let fields = c.args.self.now.fields.now in
    let value = c.deref_mut.ensures.value in
    let many : length c.mark_member.new.marks ≡ c.args.self.now.marks.len = omega (arith, c.deref_mut.ensures.len) in
    let items = with_items_is c.args.self.now.marks c.mark_member.new.marks many in
    marks_after begun c.args.self.now (record c.args.self.now {
      marks =
          with_items c.args.self.now.marks c.mark_member.new.marks;
    }) ms d c.args.name.now
    (seen_of c.args.scalar) e is refl
    (λ le. items ∙ c.mark_member.ensures (subst (λ (xs : List Mark). length fields ≤ length xs) (sym value) le)
    ∙ ap (λ (xs : List Mark). at_member c.args.name.now (λ kind. mark_of (cell_seen (seen_of c.args.scalar) kind))
    (map reader_of fields) xs) value)
