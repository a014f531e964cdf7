use Rattle.std.proofs.Common.{◌≡◌, ◌∙◌, true, false, is_some, map, refl, sym, inr, rules}
use Rattle.std.specs.List.{list_all}
use Rattle.jsonl_wrapper.specs.Fields.{reader_of}
use Rattle.jsonl_wrapper.proofs.NoteLaws.{object_line, typed_line, whole_line}
use Rattle.jsonl_wrapper.proofs.contents.check_line.Goals as goal

pub returns-then-are_typed-clause-wholes : goal.returns-then-are_typed-clause-wholes
returns-then-are_typed-clause-wholes c =
    let got = c.in-Ok.ensures.ok in
    whole_line (map reader_of c.args.notes.now.fields.now) c.args.line.now got.0 c.read_line.new.notes.marks.items got.1 got.2.marks

pub returns-then-are_typed-clause-object : goal.returns-then-are_typed-clause-object
returns-then-are_typed-clause-object c = let got = c.in-Ok.ensures.ok in object_line c.args.line.now got.0 got.1

pub returns-then-are_typed-clause-typed : goal.returns-then-are_typed-clause-typed
returns-then-are_typed-clause-typed c =
    let got = c.in-Ok.ensures.ok in
    let all : list_all is_some c.read_line.new.notes.marks.items ≡ true = search rules in
    sym (typed_line (map reader_of c.args.notes.now.fields.now) c.args.line.now got.0 c.read_line.new.notes.marks.items got.1 got.2.marks)
    ∙ all

pub returns-else-are_typed-clause-err : goal.returns-else-are_typed-clause-err
returns-else-are_typed-clause-err c =
    let got = c.in-Ok.ensures.ok in
    let some : list_all is_some c.read_line.new.notes.marks.items ≡ false = search rules in
    inr (
      refl,
      sym (typed_line (map reader_of c.args.notes.now.fields.now) c.args.line.now got.0 c.read_line.new.notes.marks.items got.1
          got.2.marks) ∙ some,
    )
