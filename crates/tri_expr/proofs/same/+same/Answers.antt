use Rattle.std.proofs.Common.{◌≡◌, ap}
use Rattle.tri_expr.specs.Tree.{Tree}
use Rattle.tri_expr.specs.TreeParts.{bare}
use Rattle.tri_expr.proofs.SameTrees.{of_two_lengths}
use Rattle.tri_expr.proofs.Forms.{tree_column, tree_parameter, tree_literal, tree_compare, tree_compute, tree_negate, tree_and, tree_or, tree_not, tree_is, tree_between, tree_in, tree_like, tree_count_rows, tree_aggregate}
use Rattle.tri_expr.proofs.Apart.{kind, apart, not_column, not_parameter, not_literal, not_compare, not_compute, not_negate, not_and, not_or, not_not, not_is, not_between, not_in, not_like, not_count_rows, not_aggregate}
use Rattle.tri_expr.proofs.same.+same.Goals as goal

pub are_same-returns-then-a-b : goal.are_same-returns-then-a-b
are_same-returns-then-a-b t c = of_two_lengths c.args.a.now c.args.b.now c.if-a-b.true

pub is_same-returns-in_default : goal.is_same-returns-in_default
is_same-returns-in_default t c =
    apart c.args.a.now c.args.b.now c.inner-plain.result.now 0 c.inner-plain.ensures.same c.inner-plain.ensures.open (ap (λ (t : Tree). kind (bare t)) (tree_column c.args.a.now c.in_default.field-0-0 c.in_default.is-0)) (not_column c.inner-plain.result.now c.in_default.not-Column-1)

pub is_same-returns-in_default-2 : goal.is_same-returns-in_default-2
is_same-returns-in_default-2 t c =
    apart c.args.a.now c.args.b.now c.inner-plain.result.now 1 c.inner-plain.ensures.same c.inner-plain.ensures.open (ap (λ (t : Tree). kind (bare t)) (tree_parameter c.args.a.now c.in_default.field-0-0 c.in_default.is-0)) (not_parameter c.inner-plain.result.now c.in_default.not-Parameter-1)

pub is_same-returns-in_default-3 : goal.is_same-returns-in_default-3
is_same-returns-in_default-3 t c =
    apart c.args.a.now c.args.b.now c.inner-plain.result.now 2 c.inner-plain.ensures.same c.inner-plain.ensures.open (ap (λ (t : Tree). kind (bare t)) (tree_literal c.args.a.now c.in_default.field-0-0 c.in_default.is-0)) (not_literal c.inner-plain.result.now c.in_default.not-Literal-1)

pub is_same-returns-in_default-4 : goal.is_same-returns-in_default-4
is_same-returns-in_default-4 t c =
    apart c.args.a.now c.args.b.now c.inner-plain.result.now 3 c.inner-plain.ensures.same c.inner-plain.ensures.open (ap (λ (t : Tree). kind (bare t)) (tree_compare c.args.a.now c.in_default.field-0-0 c.in_default.field-1-0 c.in_default.field-2-0 c.in_default.is-0)) (not_compare c.inner-plain.result.now c.in_default.not-Compare-1)

pub is_same-returns-in_default-5 : goal.is_same-returns-in_default-5
is_same-returns-in_default-5 t c =
    apart c.args.a.now c.args.b.now c.inner-plain.result.now 4 c.inner-plain.ensures.same c.inner-plain.ensures.open (ap (λ (t : Tree). kind (bare t)) (tree_compute c.args.a.now c.in_default.field-0-0 c.in_default.field-1-0 c.in_default.field-2-0 c.in_default.is-0)) (not_compute c.inner-plain.result.now c.in_default.not-Compute-1)

pub is_same-returns-in_default-6 : goal.is_same-returns-in_default-6
is_same-returns-in_default-6 t c =
    apart c.args.a.now c.args.b.now c.inner-plain.result.now 5 c.inner-plain.ensures.same c.inner-plain.ensures.open (ap (λ (t : Tree). kind (bare t)) (tree_negate c.args.a.now c.in_default.field-0-0 c.in_default.is-0)) (not_negate c.inner-plain.result.now c.in_default.not-Negate-1)

pub is_same-returns-in_default-7 : goal.is_same-returns-in_default-7
is_same-returns-in_default-7 t c =
    apart c.args.a.now c.args.b.now c.inner-plain.result.now 8 c.inner-plain.ensures.same c.inner-plain.ensures.open (ap (λ (t : Tree). kind (bare t)) (tree_not c.args.a.now c.in_default.field-0-0 c.in_default.is-0)) (not_not c.inner-plain.result.now c.in_default.not-Not-1)

pub is_same-returns-in_default-8 : goal.is_same-returns-in_default-8
is_same-returns-in_default-8 t c =
    apart c.args.a.now c.args.b.now c.inner-plain.result.now 6 c.inner-plain.ensures.same c.inner-plain.ensures.open (ap (λ (t : Tree). kind (bare t)) (tree_and c.args.a.now c.in_default.field-0-0 c.in_default.is-0)) (not_and c.inner-plain.result.now c.in_default.not-And-1)

pub is_same-returns-in_default-9 : goal.is_same-returns-in_default-9
is_same-returns-in_default-9 t c =
    apart c.args.a.now c.args.b.now c.inner-plain.result.now 7 c.inner-plain.ensures.same c.inner-plain.ensures.open (ap (λ (t : Tree). kind (bare t)) (tree_or c.args.a.now c.in_default.field-0-0 c.in_default.is-0)) (not_or c.inner-plain.result.now c.in_default.not-Or-1)

pub is_same-returns-in_default-10 : goal.is_same-returns-in_default-10
is_same-returns-in_default-10 t c =
    apart c.args.a.now c.args.b.now c.inner-plain.result.now 9 c.inner-plain.ensures.same c.inner-plain.ensures.open (ap (λ (t : Tree). kind (bare t)) (tree_is c.args.a.now c.in_default.field-0-0 c.in_default.field-1-0 c.in_default.field-2-0 c.in_default.is-0)) (not_is c.inner-plain.result.now c.in_default.not-Is-1)

pub is_same-returns-in_default-11 : goal.is_same-returns-in_default-11
is_same-returns-in_default-11 t c =
    apart c.args.a.now c.args.b.now c.inner-plain.result.now 10 c.inner-plain.ensures.same c.inner-plain.ensures.open (ap (λ (t : Tree). kind (bare t)) (tree_between c.args.a.now c.in_default.field-0-0 c.in_default.field-1-0 c.in_default.field-2-0 c.in_default.field-3-0 c.in_default.is-0)) (not_between c.inner-plain.result.now c.in_default.not-Between-1)

pub is_same-returns-in_default-12 : goal.is_same-returns-in_default-12
is_same-returns-in_default-12 t c =
    apart c.args.a.now c.args.b.now c.inner-plain.result.now 11 c.inner-plain.ensures.same c.inner-plain.ensures.open (ap (λ (t : Tree). kind (bare t)) (tree_in c.args.a.now c.in_default.field-0-0 c.in_default.field-1-0 c.in_default.field-2-0 c.in_default.is-0)) (not_in c.inner-plain.result.now c.in_default.not-In-1)

pub is_same-returns-in_default-13 : goal.is_same-returns-in_default-13
is_same-returns-in_default-13 t c =
    apart c.args.a.now c.args.b.now c.inner-plain.result.now 12 c.inner-plain.ensures.same c.inner-plain.ensures.open (ap (λ (t : Tree). kind (bare t)) (tree_like c.args.a.now c.in_default.field-0-0 c.in_default.field-1-0 c.in_default.field-2-0 c.in_default.is-0)) (not_like c.inner-plain.result.now c.in_default.not-Like-1)

pub is_same-returns-in_default-14 : goal.is_same-returns-in_default-14
is_same-returns-in_default-14 t c =
    apart c.args.a.now c.args.b.now c.inner-plain.result.now 14 c.inner-plain.ensures.same c.inner-plain.ensures.open (ap (λ (t : Tree). kind (bare t)) (tree_count_rows c.args.a.now c.in_default.is-0)) (not_count_rows c.inner-plain.result.now c.in_default.not-CountRows-1)

pub is_same-returns-in_default-15 : goal.is_same-returns-in_default-15
is_same-returns-in_default-15 t c =
    apart c.args.a.now c.args.b.now c.inner-plain.result.now 15 c.inner-plain.ensures.same c.inner-plain.ensures.open (ap (λ (t : Tree). kind (bare t)) (tree_aggregate c.args.a.now c.in_default.field-0-0 c.in_default.field-1-0 c.in_default.is-0)) (not_aggregate c.inner-plain.result.now c.in_default.not-Aggregate-1)
