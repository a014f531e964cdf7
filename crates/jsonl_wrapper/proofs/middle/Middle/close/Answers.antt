use Rattle.std.proofs.Common.{◌≡◌, ◌++◌, ◌∙◌, ℕ, List, length, map, refl, rules, string_bytes, subst}
use Rattle.std.specs.List.{slice_range}
use Rattle.std.proofs.lemmas.Result.{on_ok_weaker}
use Rattle.jsonl_wrapper.specs.declared.fields.Field.{Field}
use Rattle.jsonl_wrapper.specs.Fields.{reader_of}
use Rattle.jsonl_wrapper.specs.Tables.{lines_in}
use Rattle.jsonl_wrapper.specs.Changes.{IsWritten, Leads}
use Rattle.jsonl_wrapper.proofs.MiddleLaws.{close_new}
use Rattle.jsonl_wrapper.proofs.middle.Middle.close.Goals as goal

pub returns : goal.returns
returns c =
    let t = c.args.table.now in
    let m = c.args.self.now in
    let n = c.go_to.new.self in
    let new = map string_bytes c.args.fresh.now in
    let count : c.len.result ≡ length t.lines.items = search rules in
    let on = λ (ls : List (List ℕ)) (is : Leads t m ls).
    subst (λ (k : ℕ). Leads t n (ls ++ slice_range (lines_in t) m.to k)) count (c.in_ok-go_to.ensures.leads ls is) in
    on_ok_weaker c.push_all.result
    (λ push lines is. close_new t m n _ lines new (c.in_ok-go_to.ensures.to ∙ count) refl refl on
    (λ ls written. subst (λ (fs : List Field). IsWritten (map reader_of fs) n.made ls → IsWritten (map reader_of fs) c.push_all.new.self (ls ++ new))
    c.deref.ensures.value (push ls) written) is)
    c.push_all.ensures
