use Rattle.std.proofs.Common.{◌≡◌, ℕ, List, [], map, subst, rules}
use Rattle.fdw_api.specs.Prelude.{spec_by, restriction_form, Allows}
use Rattle.fdw_api.specs.declared.scan.Restriction.{Restriction}
use Rattle.wrapper_tests.proofs.CallLemmas.{planned_begins, begun_can_rescan}
use Rattle.wrapper_tests.proofs.reads.read_again.Goals as goal

pub begin-requires : goal.begin-requires
begin-requires g c =
    let s = g.W.Wrapper.meaning c.args.source.now in
    let t = c.args.table.number in
    let a = c.in_ok-agreement.agreement in
    let w : c.deref.result.now ≡ c.in_ok-wanted.wanted.items = search rules in
    let o : c.deref-2.result.now ≡ c.new-offered.result.items = search rules in
    planned_begins s t record { wanted = c.in_ok-wanted.wanted; offered = c.new-offered.result; agreement = a } c.new-offered.ensures.items
    (subst (λ (x : List ℕ). Allows s t (spec_by x (map restriction_form c.new-offered.result.items) a)) w (subst (λ (x : List Restriction). Allows s t (spec_by c.deref.result.now (map restriction_form x) a)) o c.in_ok-agreement.ensures.ok))

pub take_and_begin_again-taken-requires : goal.take_and_begin_again-taken-requires
take_and_begin_again-taken-requires g c =
    let none : map restriction_form c.new-offered.result.items ≡ [] = search rules in
    begun_can_rescan _ _ _ _ _ none c.requires c.in_ok-ticket.ensures.ok
