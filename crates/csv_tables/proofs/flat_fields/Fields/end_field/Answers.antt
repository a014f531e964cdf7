use Rattle.std.proofs.Common.{◌≡◌, ◌++◌, ◌∷◌, [], length, ◌∙◌, arith, rules, true, inl, inr}
use Rattle.std.proofs.lemmas.List.{drop_all}
use Rattle.std.proofs.lemmas.Bool.{cases_Bool}
use Rattle.std.specs.Result.{is_ok}
use Rattle.csv.proofs.RecordFacts.{cut-end, last-append, rising-end}
use Rattle.csv_tables.proofs.flat_fields.Fields.end_field.Goals as goal

pub returns-clause-fields : goal.returns-clause-fields
returns-clause-fields c =
    let h = c.self.invariant in
    let good : is_ok c.push.result ≡ true = search rules in
    let size : c.len-end.result ≡ length c.self.inside.bytes.items = c.len-end.ensures ∙ c.self.inside.bytes.ok.0 in
    let e : c.push.new.self.items ≡ c.self.inside.ends.items ++ (length c.self.inside.bytes.items ∷ []) = rw (good, size) at c.push.ensures.items in
    rw (← c.self.view_is, e) (cut-end 0 c.self.inside.ends.items c.self.inside.bytes.items h)

pub returns-clause-partial : goal.returns-clause-partial
returns-clause-partial c =
    let h = c.self.invariant in
    let good : is_ok c.push.result ≡ true = search rules in
    let size : c.len-end.result ≡ length c.self.inside.bytes.items = c.len-end.ensures ∙ c.self.inside.bytes.ok.0 in
    let e : c.push.new.self.items ≡ c.self.inside.ends.items ++ (length c.self.inside.bytes.items ∷ []) = rw (good, size) at c.push.ensures.items in
    rw (e, last-append 0 c.self.inside.ends.items _) (drop_all _ c.self.inside.bytes.items (omega arith))

pub invariant_of-self : goal.invariant_of-self
invariant_of-self c =
    let h = c.self.invariant in
    elim (cases_Bool (is_ok c.push.result)) [
      | inl good ↦
          let size : c.len-end.result ≡ length c.self.inside.bytes.items = c.len-end.ensures ∙ c.self.inside.bytes.ok.0 in
          let e : c.push.new.self.items ≡ c.self.inside.ends.items ++ (length c.self.inside.bytes.items ∷ []) = rw (good, size) at c.push.ensures.items in
          rw e (rising-end 0 c.self.inside.ends.items _ h)
      | inr bad ↦ rw (rw bad at c.push.ensures.items) h
    ]

pub invariant_of-self-2 : goal.invariant_of-self-2
invariant_of-self-2 c =
    let h = c.self.invariant in
    elim (cases_Bool (is_ok c.push.result)) [
      | inl good ↦
          let size : c.len-end.result ≡ length c.self.inside.bytes.items = c.len-end.ensures ∙ c.self.inside.bytes.ok.0 in
          let e : c.push.new.self.items ≡ c.self.inside.ends.items ++ (length c.self.inside.bytes.items ∷ []) = rw (good, size) at c.push.ensures.items in
          rw e (rising-end 0 c.self.inside.ends.items _ h)
      | inr bad ↦ rw (rw bad at c.push.ensures.items) h
    ]
