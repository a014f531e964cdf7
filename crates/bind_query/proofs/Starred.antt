-- `*` and `name.*`, entry by entry.
use Rattle.std.proofs.Common.{◌≡◌, ℕ, ◌+◌, ◌<◌, List, [], ◌++◌, Option, length, drop, get_or, if◌then◌else◌, ap, sym, ◌∙◌}
use Rattle.std.proofs.lemmas.List.{length-map}
use Rattle.med_value.specs.Column.{column_of}
use Rattle.med_syntax.specs.Tree.{Name}
use Rattle.bind_names.specs.Prelude.{scope_of, visible, is_meant, Output, columns_from, starred}
use Rattle.bind_names.specs.declared.scope.Visible.{Visible}
use Rattle.bind_names.proofs.Added.{added_after}
use Rattle.bind_names.proofs.Parts.{drop_read}

-- ---- each column of each entry

pub starred_step : (all old new : List Output) (xs : List Visible) (i at end : ℕ) (v : Visible) (q : Option Name) → old ++ starred at q (scope_of (drop i xs)) ≡ all → i < length xs → v ≡ get_or xs i v
    → new ≡ old ++ (if is_meant q (visible v) then columns_from at (visible v).columns else []) → end ≡ at + length v.columns.now
    → new ++ starred end q (scope_of (drop (i + 1) xs)) ≡ all
starred_step all old new xs i at end v q e lt read f g =
    let rest = scope_of (drop (i + 1) xs) in
    let m = length-map v.columns.now column_of in
    ap (λ k. new ++ starred k q rest) g ∙ ap (λ k. new ++ starred (at + k) q rest) (sym m)
    ∙ added_after all old new (if is_meant q (visible v) then columns_from at (visible v).columns else []) (starred (at + length (visible v).columns) q rest)
    (ap (λ ys. old ++ starred at q (scope_of ys)) (sym (drop_read xs i v lt read)) ∙ e) f
