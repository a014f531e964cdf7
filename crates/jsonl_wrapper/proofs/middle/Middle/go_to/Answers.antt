use Rattle.std.proofs.Common.{◌≡◌, ℕ, List, true, refl, rules}
use Rattle.jsonl_wrapper.proofs.MiddleLaws.{lead_push, lead_skip}
use Rattle.jsonl_wrapper.proofs.middle.Middle.go_to.Goals as goal

pub returns-then-is_first-clause-leads : goal.returns-then-is_first-clause-leads
returns-then-is_first-clause-leads c = λ lines is.
    let t = c.args.table.now in
    let m = c.args.self.now in
    let image : t.is_image ≡ true = search rules in
    let same : m.from ≡ m.to = search rules in
    lead_skip t m _ c.args.place lines image same c.requires.ordered c.requires.within refl refl refl is

pub returns-clause-leads : goal.returns-clause-leads
returns-clause-leads c = λ lines is.
    lead_push c.args.table.now c.args.self.now _ c.args.place lines c.requires.ordered c.requires.within refl refl
    (λ (ls : List (List ℕ)) written. c.in_ok-push_range.ensures ls written) is
