use Rattle.std.proofs.Common.{◌≡◌, ◌++◌, ◌∷◌, [], ◌∙◌, ap, length, arith}
use Rattle.std.proofs.lemmas.List.{append_assoc, drop-append-le, length-append}
use Rattle.csv.specs.Records.{fields_of, partial_of}
use Rattle.csv.proofs.RecordFacts.{cut-more, rising-last, rising-more}
use Rattle.csv_tables.proofs.flat_fields.Fields.push_field.Goals as goal

pub returns-clause-fields : goal.returns-clause-fields
returns-clause-fields c =
    let e : c.push.new.self.items ≡ c.self.inside.bytes.items ++ (c.args.field.now ++ c.args.end ∷ []) =
    c.in_ok-push.ensures.items ∙ ap (λ l. l ++ c.args.end ∷ []) c.in_ok-extend_from_slice.ensures.items ∙ append_assoc c.self.inside.bytes.items c.args.field.now (c.args.end ∷ []) in
    let same : fields_of (record { bytes = c.push.new.self.items; ends = c.self.inside.ends.items }) ≡ fields_of c.args.self.now =
    rw (← c.self.view_is, e) (cut-more 0 c.self.inside.ends.items c.self.inside.bytes.items (c.args.field.now ++ c.args.end ∷ []) c.self.invariant) in
    let more : partial_of (record { bytes = c.push.new.self.items; ends = c.self.inside.ends.items }) ≡ partial_of c.args.self.now ++ (c.args.field.now ++ c.args.end ∷ []) =
    rw (← c.self.view_is, e) (drop-append-le _ c.self.inside.bytes.items (c.args.field.now ++ c.args.end ∷ []) (rising-last 0 c.self.inside.ends.items _ c.self.invariant)) in
    rw (same, more) at c.end_field.ensures.fields

pub invariant_of-self-2 : goal.invariant_of-self-2
invariant_of-self-2 c =
    let grown = length-append c.self.inside.bytes.items c.args.field.now in
    let more = length-append c.extend_from_slice.new.self.items (c.args.end ∷ []) in
    let e = ap length c.in_ok-extend_from_slice.ensures.items in
    rw c.in_ok-push.ensures.items (rising-more 0 c.self.inside.ends.items _ _ c.self.invariant (omega arith))

pub invariant_of-self-in_err-push : goal.invariant_of-self-in_err-push
invariant_of-self-in_err-push c =
    let grown = length-append c.self.inside.bytes.items c.args.field.now in
    let e = ap length c.in_ok-extend_from_slice.ensures.items in
    rw c.in_err-push.ensures.items (rising-more 0 c.self.inside.ends.items _ _ c.self.invariant (omega arith))
