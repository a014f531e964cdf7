use Rattle.std.proofs.Common.{ℕ, false, List, [], map, refl, ap}
use Rattle.tri_expr.specs.Tree.{tree}
use Rattle.fdw_api.specs.Scan.{restriction_form, spec_by}
use Rattle.med_exec.proofs.LeftOut.{begins_whole}
use Rattle.med_exec.proofs.reading.scan_by.Goals as goal

pub returns-clause-offers : goal.returns-clause-offers
returns-clause-offers g c = record { offered = c.in_ok-restrictions.ensures.forms; whole = refl; unordered = refl; unlimited = refl }

pub returns-clause-allowed : goal.returns-clause-allowed
returns-clause-allowed g c =
    begins_whole c.tests_decide.ensures c.bare_tree_means_the_same.ensures c.args.width (map tree c.args.conditions.now) (g.W.Wrapper.meaning c.args.b.now) c.args.table.number
    (record { wanted = c.new.result; offered = c.in_ok-restrictions.field-0.restrictions; agreement = record { answers = c.in_ok-agreement.agreement.answers; narrow = false } })
    c.in_ok-agreement.agreement c.in_ok-restrictions.ensures.forms
    (ap (λ (w : List ℕ). record (spec_by [] (map restriction_form c.in_ok-restrictions.field-0.restrictions.items) c.in_ok-agreement.agreement) { wanted = w; narrow = false }) c.new.ensures.items)
    (rw c.as_slice.ensures.value at c.in_ok-agreement.ensures.ok)
