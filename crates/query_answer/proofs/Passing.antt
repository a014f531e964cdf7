-- Rows that are passed over while outputs wait for ORDER BY, OFFSET and LIMIT.
use Rattle.std.proofs.Common.{◌≡◌, ◌<◌, ◌-◌, ℕ, Bool, true, false, not, List, [], ◌∷◌, ◌++◌, map, length, get_or, refl, sym, ap, ◌∙◌, arith, subst, is_lt, Some, ◌+◌}
use Rattle.std.specs.List.{list_all}
use Rattle.std.specs.List.Sorted.{IsSortedBy}
use Rattle.std.specs.Cmp.{IsStrictWeakOrder, IsTotalOrder}
use Rattle.std.proofs.lemmas.Bool.{and_parts, not-true}
use Rattle.std.proofs.lemmas.List.{get_or-map, length-map, take_all}
use Rattle.std.proofs.lemmas.List.Sorted.{ranks_by}
use Rattle.med_value.specs.Prelude.{Tuple, datum, key_cmp}
use Rattle.med_value.specs.declared.value.Value.{Value}
use Rattle.tri_expr.specs.declared.expr.Expr.{Expr}
use Rattle.tri_expr.specs.Prelude.{HasValue, meaning, is_risky, Outcome, Is, Fails, over, value_of, fault_list, is_in}
use Rattle.med_query.specs.Prelude.{direction_of, Output, keys_cmp, on_row, senses}
use Rattle.med_query.specs.declared.select.Select.{Select}
use Rattle.med_query.specs.declared.select.SelectCore.{SelectCore}
use Rattle.med_query.specs.declared.select.SortDirection.{SortDirection}
use Rattle.query_answer.specs.declared.staged.Staged.{Staged}
use Rattle.query_answer.specs.Ordering.{BeginsInOrder, StandsIn, comes_before, output_cmp}
use Rattle.query_answer.specs.Staging.{class_output, output_of, outputs_by, sorted_by}
use Rattle.query_answer.proofs.KeyOrder.{keys_total}
use Rattle.query_answer.proofs.Standing.{stands_more, stands_then, stands_without}

-- an expression that has a value shows no fault
pub no_fault_first : (o : Outcome) (os : List Outcome) → HasValue o → fault_list os ≡ [] → fault_list (o ∷ os) ≡ []
no_fault_first (Is v) os h e = e
no_fault_first (Fails c) os h e = absurd h

-- expressions that are not risky show no fault
pub safe_parts : ((params : Tuple) (e : Expr) (class : List Tuple) → is_risky e ≡ false → HasValue (meaning params e class)) → (parts : List Expr) (class : List Tuple) → list_all (λ e. not (is_risky e)) parts ≡ true
    → fault_list (over (senses [] parts) class) ≡ []
safe_parts law [] class h = refl
safe_parts law (p ∷ ps) class h =
    let q = and_parts (not (is_risky p)) (list_all (λ e. not (is_risky e)) ps) h in
    no_fault_first (meaning [] p class) (over (senses [] ps) class) (law [] p class (not-true (is_risky p) q.0)) (safe_parts law ps class q.1)

-- a row that WHERE keeps, and that does not come before the last of those in front
pub passed_behind : ((desc nulls_first : Bool) → IsTotalOrder (key_cmp desc nulls_first)) → (select : Select) (s : SelectCore) (outs : List Output) (front : ℕ) (r : Tuple) (d : Output)
    → 0 < front → BeginsInOrder select front outs → is_in (over (senses [] s.conditions.items) (r ∷ [])) ≡ true
    → is_lt (keys_cmp (map direction_of select.directions.items) (map value_of (on_row (senses [] s.keys.items) r)) (get_or outs (front - 1) d).0) ≡ false
    → StandsIn select (outs ++ outputs_by s r) outs
passed_behind law select s outs front r d some b kept last =
    let cmp = output_cmp select.directions.items in
    let order : IsStrictWeakOrder (λ a b. is_lt (cmp a b)) = ranks_by (keys_total law (map direction_of select.directions.items)) (λ (o : Output). o.0) in
    let shown : Output = class_output (senses [] s.keys.items) (senses [] s.items.items) (r ∷ []) in
    let one : outputs_by s r ≡ shown ∷ [] = rw kept refl in
    subst (λ l. StandsIn select (outs ++ l) outs) (sym one) (stands_without cmp order select.offset select.limit front outs shown d (front - select.offset, b.limit, omega (arith, b.offset)) some b.many b.sorted last)

end_at : (held : List Staged) (i : ℕ) (x : Staged) → i < length held → x ≡ get_or held i x → get_or (map output_of held) i (output_of x) ≡ output_of x
end_at held i x low e = get_or-map output_of held i x (output_of x) low ∙ ap output_of (sym e)

-- the same by what a comparison of its keys says
pub passed_row : ((desc nulls_first : Bool) → IsTotalOrder (key_cmp desc nulls_first)) → (select : Select) (s : SelectCore) (held : List Staged) (front : ℕ) (r : Tuple) (x : Staged)
    (directions : List SortDirection) (keys : List Expr) (last : List Value) → 0 < front → BeginsInOrder select front (map output_of held) → is_in (over (senses [] s.conditions.items) (r ∷ [])) ≡ true
    → x ≡ get_or held (front - 1) x → directions ≡ select.directions.items → keys ≡ s.keys.items → map datum last ≡ sorted_by x
    → is_lt (keys_cmp (map direction_of directions) (map value_of (on_row (senses [] keys) r)) (map datum last)) ≡ false
    → StandsIn select (map output_of held ++ outputs_by s r) (map output_of held)
passed_row law select s held front r x directions keys last some b kept at one two three behind =
    let n = length-map held output_of in
    let low : front - 1 < length held = omega (arith, some, b.many, n) in
    let e : get_or (map output_of held) (front - 1) (output_of x) ≡ output_of x = end_at held (front - 1) x low at in
    let h : is_lt (keys_cmp (map direction_of select.directions.items) (map value_of (on_row (senses [] s.keys.items) r)) (sorted_by x)) ≡ false =
    subst (λ (vs : Tuple). is_lt (keys_cmp (map direction_of select.directions.items) (map value_of (on_row (senses [] s.keys.items) r)) vs) ≡ false) three
    (subst (λ (ks : List Expr). is_lt (keys_cmp (map direction_of select.directions.items) (map value_of (on_row (senses [] ks) r)) (map datum last)) ≡ false) two
    (subst (λ (ds : List SortDirection). is_lt (keys_cmp (map direction_of ds) (map value_of (on_row (senses [] keys) r)) (map datum last)) ≡ false) one behind)) in
    passed_behind law select s (map output_of held) front r (output_of x) some b kept
    (subst (λ (o : Output). is_lt (keys_cmp (map direction_of select.directions.items) (map value_of (on_row (senses [] s.keys.items) r)) o.0) ≡ false) (sym e) h)

-- as many as are wanted, in order
pub begins_all : (select : Select) (wanted : ℕ) (outs : List Output) → (most : ℕ) × (select.limit ≡ Some most) × (wanted ≡ select.offset + most) → length outs ≡ wanted → IsSortedBy (comes_before select) outs
    → BeginsInOrder select wanted outs
begins_all select wanted outs (most, is, w) long up = record {
  limit = is ∙ ap Some (omega (arith, w));
  offset = omega (arith, w);
  many = omega (arith, long);
  sorted = rw (take_all wanted outs (omega (arith, long))) up;
}

-- one more output
pub stands_passed : (select : Select) (all held more : List Output) → StandsIn select (held ++ more) held → StandsIn select all held → StandsIn select (all ++ more) held
stands_passed select all held more h k =
    let cmp = output_cmp select.directions.items in
    stands_then cmp select.offset select.limit (all ++ more) (held ++ more) held (stands_more cmp select.offset select.limit all held more k) h

pub stands_held : (select : Select) (all held new more : List Output) → new ≡ held ++ more → StandsIn select all held → StandsIn select (all ++ more) new
stands_held select all held new more e k = subst (λ l. StandsIn select (all ++ more) l) (sym e) (stands_more (output_cmp select.directions.items) select.offset select.limit all held more k)

pub stands_trimmed : (select : Select) (all held new more out : List Output) → new ≡ held ++ more → StandsIn select new out → StandsIn select all held → StandsIn select (all ++ more) out
stands_trimmed select all held new more out e h k =
    stands_then (output_cmp select.directions.items) select.offset select.limit (all ++ more) new out (stands_held select all held new more e k) h
