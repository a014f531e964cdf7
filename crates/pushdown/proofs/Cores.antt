-- A core over one table reads the cells of its columns alone.
use Rattle.std.proofs.Common.{◌≡◌, ℕ, if◌then◌else◌, List, [], ◌∷◌, ◌++◌, map, filter, Option, Some, None, refl, ap, ◌∙◌, subst}
use Rattle.std.specs.Prelude.{option_map}
use Rattle.med_value.specs.Datum.{Datum, Tuple}
use Rattle.tri_expr.specs.declared.expr.Expr.{Expr}
use Rattle.tri_expr.specs.declared.expr.Fault.{Fault}
use Rattle.tri_expr.specs.Prelude.{over, value_of, tree, is_in, faults_told, fault_list}
use Rattle.tri_expr.proofs.Forms.{two}
use Rattle.med_query.specs.Prelude.{distinct, tuple_eq, GroupForm, group_form, group_by, Core, Tables, Grouping, Output, joined, kept, keeps, on_row, key_of, has_key, classes_by, classes_of, classes, has_class, kept_classes, having_of, arguments_of, class_faults, core_faults, output, output_eq, core_outputs}
use Rattle.med_query.specs.declared.select.SelectCore.{SelectCore}
use Rattle.pushdown.specs.Joins.{Each}
use Rattle.pushdown.specs.Columns.{tree_columns, columns_of, Pairwise, SameCells, AgreeOn}
use Rattle.pushdown.specs.Cores.{one_core, group_columns, core_columns, SeesTheSame}
use Rattle.pushdown.proofs.Pairs.{same_map, same_flat, same_length, pair_filter, pair_map, pair_both}
use Rattle.pushdown.proofs.Reading.{Covers, covers_left, covers_right, Reads, all_reads, over_same, row_same}

-- what a core does reads no more than these columns
abbrev pub GroupReads : List ℕ → Option Grouping → Type 0
GroupReads columns None = Unit {0}
GroupReads columns (Some g) = Covers columns g.keys × (Each (Reads columns) g.arguments × Each (Reads columns) g.having)

pub record CoreReads (columns : List ℕ) (c : Core) : Type 0 where
  pub where_ : Each (Reads columns) c.where_
  pub group : GroupReads columns c.group
  pub items : Each (Reads columns) c.items
  pub keys : Each (Reads columns) c.keys

arguments_read : (columns : List ℕ) (g : Option Grouping) → GroupReads columns g → Each (Reads columns) (arguments_of g)
arguments_read columns None r = tt
arguments_read columns (Some g) r = r.1.0

having_reads : (columns : List ℕ) (g : Option Grouping) → GroupReads columns g → Each (Reads columns) (having_of g)
having_reads columns None r = tt
having_reads columns (Some g) r = r.1.1

-- ---- groups

key_same : (ks : List ℕ) (x y : Tuple) → SameCells ks x y → key_of ks x ≡ key_of ks y
key_same [] x y h = refl
key_same (at ∷ ks) x y h = two (λ (v : Datum) (vs : Tuple). v ∷ vs) h.0 (key_same ks x y h.1)

module _ (columns : List ℕ) where
  classes_agree_by : (ks : List ℕ) → Covers columns ks → (xs ys : List Tuple) → AgreeOn columns xs ys → Pairwise (AgreeOn columns) (classes_by ks xs) (classes_by ks ys)
  classes_agree_by [] c xs ys h = (h, tt)
  classes_agree_by (at ∷ ats) c xs ys h =
      let same = same_map (SameCells columns) (key_of (at ∷ ats)) (λ x y e. key_same (at ∷ ats) x y (c x y e)) xs ys h in
      let class = λ (k : Tuple). pair_filter (SameCells columns) (has_key (at ∷ ats) k) (λ x y e. ap (tuple_eq k) (key_same (at ∷ ats) x y (c x y e))) xs ys h in
      let keys = distinct tuple_eq (map (key_of (at ∷ ats)) xs) in
      subst (λ (vs : List Tuple). Pairwise (AgreeOn columns) (classes_by (at ∷ ats) xs) (map (λ k. filter (has_key (at ∷ ats) k) ys) (distinct tuple_eq vs))) same
      (pair_both (AgreeOn columns) (λ k. filter (has_key (at ∷ ats) k) xs) (λ k. filter (has_key (at ∷ ats) k) ys) class keys)

  classes_agree : (g : Option Grouping) → GroupReads columns g → (xs ys : List Tuple) → AgreeOn columns xs ys → Pairwise (AgreeOn columns) (classes_of g xs) (classes_of g ys)
  classes_agree None r xs ys h = pair_map (SameCells columns) (AgreeOn columns) (λ x. x ∷ []) (λ x y e. (e, tt)) xs ys h
  classes_agree (Some g) r xs ys h = classes_agree_by g.keys r.0 xs ys h

-- ---- a core

module _ (columns : List ℕ) (c : Core) (db seen : Tables) (r : CoreReads columns c) (h : AgreeOn columns (joined c db) (joined c seen)) where
  rows_agree : AgreeOn columns (kept c db) (kept c seen)
  rows_agree = pair_filter (SameCells columns) (keeps c.where_) (λ x y e. ap is_in (row_same columns c.where_ r.where_ x y e)) (joined c db) (joined c seen) h

  all_classes : Pairwise (AgreeOn columns) (classes c db) (classes c seen)
  all_classes = classes_agree columns c.group r.group (kept c db) (kept c seen) rows_agree

  having_same : (x y : List Tuple) → AgreeOn columns x y → over (having_of c.group) x ≡ over (having_of c.group) y
  having_same = over_same columns (having_of c.group) (having_reads columns c.group r.group)

  some_classes : Pairwise (AgreeOn columns) (kept_classes c db) (kept_classes c seen)
  some_classes = pair_filter (AgreeOn columns) (has_class c.group) (λ x y e. ap is_in (having_same x y e)) (classes c db) (classes c seen) all_classes

  faults_same : core_faults c db ≡ core_faults c seen
  faults_same =
      let more = λ (v vs : List Fault). v ++ vs in
      two more (same_flat (SameCells columns) (λ x. faults_told (on_row c.where_ x)) (λ x y e. ap faults_told (row_same columns c.where_ r.where_ x y e)) (joined c db) (joined c seen) h)
      (two more (same_flat (SameCells columns) (λ x. fault_list (on_row (arguments_of c.group) x)) (λ x y e. ap fault_list (row_same columns (arguments_of c.group) (arguments_read columns c.group r.group) x y e)) (kept c db) (kept c seen) rows_agree)
      (two more (same_flat (AgreeOn columns) (λ k. faults_told (over (having_of c.group) k)) (λ x y e. ap faults_told (having_same x y e)) (classes c db) (classes c seen) all_classes)
      (same_flat (AgreeOn columns) (class_faults c) (λ x y e. two more (ap fault_list (over_same columns c.keys r.keys x y e)) (ap fault_list (over_same columns c.items r.items x y e))) (kept_classes c db) (kept_classes c seen) some_classes)))

  output_same : (x y : List Tuple) → AgreeOn columns x y → output c x ≡ output c y
  output_same x y e =
      ap (λ (v : Tuple). (v, map value_of (over c.items x))) (ap (map value_of) (over_same columns c.keys r.keys x y e))
      ∙ ap (λ (v : Tuple). (map value_of (over c.keys y), v)) (ap (map value_of) (over_same columns c.items r.items x y e))

  outputs_same : core_outputs c db ≡ core_outputs c seen
  outputs_same = ap (λ (os : List Output). if c.distinct then distinct output_eq os else os) (same_map (AgreeOn columns) (output c) output_same (kept_classes c db) (kept_classes c seen) some_classes)

  pub sees : SeesTheSame columns c db seen
  sees = record { joined_rows = h; kept_rows = rows_agree; told = faults_same; given = outputs_same; many = same_length (SameCells columns) (kept c db) (kept c seen) rows_agree }

-- ---- what is left of a core

group_reads : (columns : List ℕ) (g : Option GroupForm) → Covers columns (group_columns g) → GroupReads columns (option_map group_by g)
group_reads columns None c = tt
group_reads columns (Some g) c =
    let past : Covers columns (tree_columns g.arguments ++ tree_columns g.having) = λ x y e. covers_right g.keys (tree_columns g.arguments ++ tree_columns g.having) x y (c x y e) in (
      λ x y e. covers_left g.keys (tree_columns g.arguments ++ tree_columns g.having) x y (c x y e),
      (
        all_reads [] columns g.arguments (λ x y e. covers_left (tree_columns g.arguments) (tree_columns g.having) x y (past x y e)),
        all_reads [] columns g.having (λ x y e. covers_right (tree_columns g.arguments) (tree_columns g.having) x y (past x y e)),
      ),
    )

one_reads : (table : ℕ) (s : SelectCore) (conditions : List Expr) → CoreReads (core_columns s conditions) (one_core table s conditions)
one_reads table s conditions =
    let all = core_columns s conditions in
    let grouped = group_columns (option_map group_form s.grouping) in
    let shown = columns_of s.items.items ++ columns_of s.keys.items in
    let past : Covers all (grouped ++ shown) = covers_right (columns_of conditions) (grouped ++ shown) in
    let last : Covers all shown = λ x y e. covers_right grouped shown x y (past x y e) in
    record {
      where_ = all_reads [] all (map tree conditions) (covers_left (columns_of conditions) (grouped ++ shown));
      group = group_reads all (option_map group_form s.grouping) (λ x y e. covers_left grouped shown x y (past x y e));
      items = all_reads [] all (map tree s.items.items) (λ x y e. covers_left (columns_of s.items.items) (columns_of s.keys.items) x y (last x y e));
      keys = all_reads [] all (map tree s.keys.items) (λ x y e. covers_right (columns_of s.items.items) (columns_of s.keys.items) x y (last x y e));
    }

pub one_sees : (table : ℕ) (s : SelectCore) (conditions : List Expr) (db seen : Tables) → AgreeOn (core_columns s conditions) (db table) (seen table) → SeesTheSame (core_columns s conditions) (one_core table s conditions) db seen
one_sees table s conditions db seen h = sees (core_columns s conditions) (one_core table s conditions) db seen (one_reads table s conditions) h
