-- Expressions of two forms are not the same.
use Rattle.std.proofs.Common.{◌≡◌, ℕ, Bool, false, [], ◌∷◌, eqb, eq-eqb, sym, ap, refl, subst, ◌∙◌}
use Rattle.std.proofs.lemmas.Bool.{false≢true, true≢false}
use Rattle.std.specs.declared.alloc.Global.{Global}
use Rattle.std.specs.declared.string.String.{String}
use Rattle.med_value.specs.declared.value.Value.{Value}
use Rattle.med_value.specs.declared.order.Comparison.{Comparison}
use Rattle.med_value.specs.declared.operators.Operation.{Operation}
use Rattle.med_value.specs.declared.operators.Status.{Status}
use Rattle.tri_expr.specs.declared.expr.SetFunction.{SetFunction}
use Rattle.tri_expr.specs.declared.expr.Expr.{Expr}
use Rattle.tri_expr.specs.declared.expr.Expr.TheOpen as layer
use Rattle.tri_expr.specs.declared.expr.Expr.TheVariants as form
use Rattle.tri_expr.specs.declared.expr.Expr.TheViews.{roll-Expr, out-Expr, roll-out-Expr}
use Rattle.tri_expr.specs.declared.expr.Expr.TheFolds.{fold_out-Expr, map-Expr}
use Rattle.tri_expr.specs.Tree.{Tree, column, parameter, literal, compare, compute, negate, all_of, some_of, opposite, asks, between, within, matches, parenthesised, count_rows, aggregate, tree_step, tree, conjunct_trees}
use Rattle.tri_expr.specs.TreeParts.{is_parenthesised, bare, tree_eq, same_tree}
use Rattle.tri_expr.proofs.Forms.{Part, Parts}

-- the number of a form
abbrev pub kind : Tree → ℕ
kind (column a) = 0
kind (parameter a) = 1
kind (literal a) = 2
kind (compare a b d) = 3
kind (compute a b d) = 4
kind (negate a) = 5
kind (all_of a) = 6
kind (some_of a) = 7
kind (opposite a) = 8
kind (asks a b d) = 9
kind (between a b d e) = 10
kind (within a b d) = 11
kind (matches a b d) = 12
kind (parenthesised a) = 13
kind count_rows = 14
kind (aggregate a b) = 15

off_kind : (s t : Tree) → (kind s ≡ kind t → ⊥) → false ≡ tree_eq s t
off_kind (column a) (column p) h = absurd (h refl)
off_kind (parameter a) (parameter p) h = absurd (h refl)
off_kind (literal a) (literal p) h = absurd (h refl)
off_kind (compare a b d) (compare p q r) h = absurd (h refl)
off_kind (compute a b d) (compute p q r) h = absurd (h refl)
off_kind (negate a) (negate p) h = absurd (h refl)
off_kind (all_of a) (all_of p) h = absurd (h refl)
off_kind (some_of a) (some_of p) h = absurd (h refl)
off_kind (opposite a) (opposite p) h = absurd (h refl)
off_kind (asks a b d) (asks p q r) h = absurd (h refl)
off_kind (between a b d e) (between p q r s) h = absurd (h refl)
off_kind (within a b d) (within p q r) h = absurd (h refl)
off_kind (matches a b d) (matches p q r) h = absurd (h refl)
off_kind (parenthesised a) (parenthesised p) h = absurd (h refl)
off_kind count_rows count_rows h = absurd (h refl)
off_kind (aggregate a b) (aggregate p q) h = absurd (h refl)
off_kind s t h = refl

bare_kind : (t : Tree) → is_parenthesised t ≡ false → kind (bare t) ≡ kind t
bare_kind (column a) h = refl
bare_kind (parameter a) h = refl
bare_kind (literal a) h = refl
bare_kind (compare a b d) h = refl
bare_kind (compute a b d) h = refl
bare_kind (negate a) h = refl
bare_kind (all_of a) h = refl
bare_kind (some_of a) h = refl
bare_kind (opposite a) h = refl
bare_kind (asks a b d) h = refl
bare_kind (between a b d e) h = refl
bare_kind (within a b d) h = refl
bare_kind (matches a b d) h = refl
bare_kind (parenthesised a) h = absurd (true≢false h)
bare_kind count_rows h = refl
bare_kind (aggregate a b) h = refl

pub apart : (a b c : Expr) (k : ℕ) → bare (tree c) ≡ bare (tree b) → is_parenthesised (tree c) ≡ false → kind (bare (tree a)) ≡ k → (kind (tree c) ≡ k → ⊥) → false ≡ same_tree (tree a) (tree b)
apart a b c k same plain e n = subst (λ (t : Tree). false ≡ tree_eq (bare (tree a)) t) same (off_kind (bare (tree a)) (bare (tree c)) (λ h. n (sym (bare_kind (tree c) plain) ∙ sym h ∙ e)))

unlike : (m n : ℕ) → eqb m n ≡ false → m ≡ n → ⊥
unlike m n f e = false≢true (sym f ∙ eq-eqb m n e)

abbrev stepped : layer.Expr-F Expr → Tree
stepped y = tree_step (map-Expr Expr Tree tree y)

opened : (f : Expr) (k : ℕ) → (kind (stepped (out-Expr f)) ≡ k → ⊥) → kind (tree f) ≡ k → ⊥
opened f k n e = n (sym (ap kind (fold_out-Expr Tree tree_step f)) ∙ e)

layer_column : (y : layer.Expr-F Expr) → ((at : ℕ) → roll-Expr y ≡ form.Column at → ⊥) → kind (stepped y) ≡ 0 → ⊥
layer_column (layer.Column at) n e = n at (form.rolls-Column at)
layer_column y n e = unlike (kind (stepped y)) 0 refl e

pub not_column : (f : Expr) → ((at : ℕ) → f ≡ form.Column at → ⊥) → kind (tree f) ≡ 0 → ⊥
not_column f n = opened f 0 (layer_column (out-Expr f) (λ at h. n at (sym (roll-out-Expr f) ∙ h)))

layer_parameter : (y : layer.Expr-F Expr) → ((at : ℕ) → roll-Expr y ≡ form.Parameter at → ⊥) → kind (stepped y) ≡ 1 → ⊥
layer_parameter (layer.Parameter at) n e = n at (form.rolls-Parameter at)
layer_parameter y n e = unlike (kind (stepped y)) 1 refl e

pub not_parameter : (f : Expr) → ((at : ℕ) → f ≡ form.Parameter at → ⊥) → kind (tree f) ≡ 1 → ⊥
not_parameter f n = opened f 1 (layer_parameter (out-Expr f) (λ at h. n at (sym (roll-out-Expr f) ∙ h)))

layer_literal : (y : layer.Expr-F Expr) → ((v : Value) → roll-Expr y ≡ form.Literal v → ⊥) → kind (stepped y) ≡ 2 → ⊥
layer_literal (layer.Literal v) n e = n v (form.rolls-Literal v)
layer_literal y n e = unlike (kind (stepped y)) 2 refl e

pub not_literal : (f : Expr) → ((v : Value) → f ≡ form.Literal v → ⊥) → kind (tree f) ≡ 2 → ⊥
not_literal f n = opened f 2 (layer_literal (out-Expr f) (λ v h. n v (sym (roll-out-Expr f) ∙ h)))

layer_compare : (y : layer.Expr-F Expr) → ((op : Comparison) (a : Part) (b : Part) → roll-Expr y ≡ form.Compare op a b → ⊥) → kind (stepped y) ≡ 3 → ⊥
layer_compare (layer.Compare op a b) n e = n op a b (form.rolls-Compare op a b)
layer_compare y n e = unlike (kind (stepped y)) 3 refl e

pub not_compare : (f : Expr) → ((op : Comparison) (a : Part) (b : Part) → f ≡ form.Compare op a b → ⊥) → kind (tree f) ≡ 3 → ⊥
not_compare f n = opened f 3 (layer_compare (out-Expr f) (λ op a b h. n op a b (sym (roll-out-Expr f) ∙ h)))

layer_compute : (y : layer.Expr-F Expr) → ((op : Operation) (a : Part) (b : Part) → roll-Expr y ≡ form.Compute op a b → ⊥) → kind (stepped y) ≡ 4 → ⊥
layer_compute (layer.Compute op a b) n e = n op a b (form.rolls-Compute op a b)
layer_compute y n e = unlike (kind (stepped y)) 4 refl e

pub not_compute : (f : Expr) → ((op : Operation) (a : Part) (b : Part) → f ≡ form.Compute op a b → ⊥) → kind (tree f) ≡ 4 → ⊥
not_compute f n = opened f 4 (layer_compute (out-Expr f) (λ op a b h. n op a b (sym (roll-out-Expr f) ∙ h)))

layer_negate : (y : layer.Expr-F Expr) → ((a : Part) → roll-Expr y ≡ form.Negate a → ⊥) → kind (stepped y) ≡ 5 → ⊥
layer_negate (layer.Negate a) n e = n a (form.rolls-Negate a)
layer_negate y n e = unlike (kind (stepped y)) 5 refl e

pub not_negate : (f : Expr) → ((a : Part) → f ≡ form.Negate a → ⊥) → kind (tree f) ≡ 5 → ⊥
not_negate f n = opened f 5 (layer_negate (out-Expr f) (λ a h. n a (sym (roll-out-Expr f) ∙ h)))

layer_and : (y : layer.Expr-F Expr) → ((parts : Parts) → roll-Expr y ≡ form.And parts → ⊥) → kind (stepped y) ≡ 6 → ⊥
layer_and (layer.And parts) n e = n parts (form.rolls-And parts)
layer_and y n e = unlike (kind (stepped y)) 6 refl e

pub not_and : (f : Expr) → ((parts : Parts) → f ≡ form.And parts → ⊥) → kind (tree f) ≡ 6 → ⊥
not_and f n = opened f 6 (layer_and (out-Expr f) (λ parts h. n parts (sym (roll-out-Expr f) ∙ h)))

layer_or : (y : layer.Expr-F Expr) → ((parts : Parts) → roll-Expr y ≡ form.Or parts → ⊥) → kind (stepped y) ≡ 7 → ⊥
layer_or (layer.Or parts) n e = n parts (form.rolls-Or parts)
layer_or y n e = unlike (kind (stepped y)) 7 refl e

pub not_or : (f : Expr) → ((parts : Parts) → f ≡ form.Or parts → ⊥) → kind (tree f) ≡ 7 → ⊥
not_or f n = opened f 7 (layer_or (out-Expr f) (λ parts h. n parts (sym (roll-out-Expr f) ∙ h)))

layer_not : (y : layer.Expr-F Expr) → ((a : Part) → roll-Expr y ≡ form.Not a → ⊥) → kind (stepped y) ≡ 8 → ⊥
layer_not (layer.Not a) n e = n a (form.rolls-Not a)
layer_not y n e = unlike (kind (stepped y)) 8 refl e

pub not_not : (f : Expr) → ((a : Part) → f ≡ form.Not a → ⊥) → kind (tree f) ≡ 8 → ⊥
not_not f n = opened f 8 (layer_not (out-Expr f) (λ a h. n a (sym (roll-out-Expr f) ∙ h)))

layer_is : (y : layer.Expr-F Expr) → ((test : Status) (negative : Bool) (a : Part) → roll-Expr y ≡ form.Is test negative a → ⊥) → kind (stepped y) ≡ 9 → ⊥
layer_is (layer.Is test negative a) n e = n test negative a (form.rolls-Is test negative a)
layer_is y n e = unlike (kind (stepped y)) 9 refl e

pub not_is : (f : Expr) → ((test : Status) (negative : Bool) (a : Part) → f ≡ form.Is test negative a → ⊥) → kind (tree f) ≡ 9 → ⊥
not_is f n = opened f 9 (layer_is (out-Expr f) (λ test negative a h. n test negative a (sym (roll-out-Expr f) ∙ h)))

layer_between : (y : layer.Expr-F Expr) → ((negative : Bool) (x : Part) (a : Part) (b : Part) → roll-Expr y ≡ form.Between negative x a b → ⊥) → kind (stepped y) ≡ 10 → ⊥
layer_between (layer.Between negative x a b) n e = n negative x a b (form.rolls-Between negative x a b)
layer_between y n e = unlike (kind (stepped y)) 10 refl e

pub not_between : (f : Expr) → ((negative : Bool) (x : Part) (a : Part) (b : Part) → f ≡ form.Between negative x a b → ⊥) → kind (tree f) ≡ 10 → ⊥
not_between f n = opened f 10 (layer_between (out-Expr f) (λ negative x a b h. n negative x a b (sym (roll-out-Expr f) ∙ h)))

layer_in : (y : layer.Expr-F Expr) → ((negative : Bool) (x : Part) (parts : Parts) → roll-Expr y ≡ form.In negative x parts → ⊥) → kind (stepped y) ≡ 11 → ⊥
layer_in (layer.In negative x parts) n e = n negative x parts (form.rolls-In negative x parts)
layer_in y n e = unlike (kind (stepped y)) 11 refl e

pub not_in : (f : Expr) → ((negative : Bool) (x : Part) (parts : Parts) → f ≡ form.In negative x parts → ⊥) → kind (tree f) ≡ 11 → ⊥
not_in f n = opened f 11 (layer_in (out-Expr f) (λ negative x parts h. n negative x parts (sym (roll-out-Expr f) ∙ h)))

layer_like : (y : layer.Expr-F Expr) → ((negative : Bool) (x : Part) (pattern : String Global) → roll-Expr y ≡ form.Like negative x pattern → ⊥) → kind (stepped y) ≡ 12 → ⊥
layer_like (layer.Like negative x pattern) n e = n negative x pattern (form.rolls-Like negative x pattern)
layer_like y n e = unlike (kind (stepped y)) 12 refl e

pub not_like : (f : Expr) → ((negative : Bool) (x : Part) (pattern : String Global) → f ≡ form.Like negative x pattern → ⊥) → kind (tree f) ≡ 12 → ⊥
not_like f n = opened f 12 (layer_like (out-Expr f) (λ negative x pattern h. n negative x pattern (sym (roll-out-Expr f) ∙ h)))

layer_parenthesised : (y : layer.Expr-F Expr) → ((a : Part) → roll-Expr y ≡ form.Parenthesised a → ⊥) → kind (stepped y) ≡ 13 → ⊥
layer_parenthesised (layer.Parenthesised a) n e = n a (form.rolls-Parenthesised a)
layer_parenthesised y n e = unlike (kind (stepped y)) 13 refl e

pub not_parenthesised : (f : Expr) → ((a : Part) → f ≡ form.Parenthesised a → ⊥) → kind (tree f) ≡ 13 → ⊥
not_parenthesised f n = opened f 13 (layer_parenthesised (out-Expr f) (λ a h. n a (sym (roll-out-Expr f) ∙ h)))

layer_count_rows : (y : layer.Expr-F Expr) → (roll-Expr y ≡ form.CountRows → ⊥) → kind (stepped y) ≡ 14 → ⊥
layer_count_rows layer.CountRows n e = n form.rolls-CountRows
layer_count_rows y n e = unlike (kind (stepped y)) 14 refl e

pub not_count_rows : (f : Expr) → (f ≡ form.CountRows → ⊥) → kind (tree f) ≡ 14 → ⊥
not_count_rows f n = opened f 14 (layer_count_rows (out-Expr f) (λ h. n (sym (roll-out-Expr f) ∙ h)))

layer_aggregate : (y : layer.Expr-F Expr) → ((function : SetFunction) (a : Part) → roll-Expr y ≡ form.Aggregate function a → ⊥) → kind (stepped y) ≡ 15 → ⊥
layer_aggregate (layer.Aggregate function a) n e = n function a (form.rolls-Aggregate function a)
layer_aggregate y n e = unlike (kind (stepped y)) 15 refl e

pub not_aggregate : (f : Expr) → ((function : SetFunction) (a : Part) → f ≡ form.Aggregate function a → ⊥) → kind (tree f) ≡ 15 → ⊥
not_aggregate f n = opened f 15 (layer_aggregate (out-Expr f) (λ function a h. n function a (sym (roll-out-Expr f) ∙ h)))

-- a condition that is neither an AND nor in parentheses is one part
one_part : (t : Tree) → (kind t ≡ 6 → ⊥) → (kind t ≡ 13 → ⊥) → conjunct_trees t ≡ t ∷ []
one_part (column a) h j = refl
one_part (parameter a) h j = refl
one_part (literal a) h j = refl
one_part (compare a b d) h j = refl
one_part (compute a b d) h j = refl
one_part (negate a) h j = refl
one_part (all_of a) h j = absurd (h refl)
one_part (some_of a) h j = refl
one_part (opposite a) h j = refl
one_part (asks a b d) h j = refl
one_part (between a b d e) h j = refl
one_part (within a b d) h j = refl
one_part (matches a b d) h j = refl
one_part (parenthesised a) h j = absurd (j refl)
one_part count_rows h j = refl
one_part (aggregate a b) h j = refl

pub one_conjunct : (e : Expr) → ((parts : Parts) → e ≡ form.And parts → ⊥) → ((a : Part) → e ≡ form.Parenthesised a → ⊥) → conjunct_trees (tree e) ≡ tree e ∷ []
one_conjunct e n m = one_part (tree e) (not_and e n) (not_parenthesised e m)
