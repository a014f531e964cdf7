-- Where no reference leads to a table, a change of its rows sets nothing off.
use Rattle.std.proofs.Common.{
  ◌≡◌,
  ℕ,
  Bool,
  true,
  false,
  ◌||◌,
  ◌&&◌,
  List,
  [],
  ◌∷◌,
  Option,
  Some,
  None,
  refl,
  ap,
  ◌∙◌,
  option_map,
  nat_eq,
  find,
  length,
  ◌==◌,
}
use Rattle.std.specs.Prelude.{if◌then◌else◌}
use Rattle.sqlite_value.specs.declared.keys.Order.{Order}
use Rattle.std.specs.List.{list_any, flat_map, filter_map}
use Rattle.std.specs.Option.{option_and_then}
use Rattle.sqlite.specs.Order.{Row}
use Rattle.sqlite_schema.specs.Names.{same_name}
use Rattle.sqlite_schema.specs.declared.schema.Schema.{Schema}
use Rattle.sqlite_schema.specs.declared.schema.Table.{Table}
use Rattle.sqlite_schema.specs.declared.schema.Reference.{Reference}
use Rattle.sqlite_schema.specs.declared.schema.Keys.{Keys}
use Rattle.sqlite_schema.specs.Rules.{ParentKey, key_in, key_places, declared_order}
use Rattle.sqlite_rules.specs.declared.action.Deed.{Deed}
use Rattle.sqlite_rules.specs.Action.{work_by, work_for, works, deed_for, pairs, loses}
use Rattle.sqlite_looks.specs.Free.{is_in, leads_to, is_parent}

or_left : (a b : Bool) → (a || b) ≡ false → a ≡ false
or_left true b e = e
or_left false b e = refl

or_right : (a b : Bool) → (a || b) ≡ false → b ≡ false
or_right true b e = absurd (cc)
or_right false b e = e

abbrev first : Option ParentKey → ℕ
first None = 0
first (Some key) = key.0

at_tree : (t : Table) (places : List ℕ) (o : Option Order) (key : ParentKey) → Some key ≡ option_map (λ o. (t.tree, places, o)) o
    → key.0 ≡ t.tree
at_tree t places None key e = absurd (cc)
at_tree t places (Some o) key e = ap first e

-- a key elsewhere asks for no work
elsewhere : (depth tree : ℕ) (moves : List (Row × Row)) (child : Table) (ref : Reference) (deed : Option Deed) (t : Table)
    (places : List ℕ) → nat_eq t.tree tree ≡ false
    → (key : Option ParentKey) → key ≡ key_in t places → work_by depth tree moves child ref deed key ≡ None
elsewhere depth tree moves child ref None t places other key is = refl
elsewhere depth tree moves child ref (Some deed) t places other None is = refl
elsewhere depth tree moves child ref (Some deed) t places other (Some key) is =
    let here : nat_eq key.0 tree ≡ false = ap (λ n. nat_eq n tree) (at_tree t places (declared_order t places) key is) ∙ other in
    ap (λ b. if (b && list_any (loses key.2 key.1) moves) then Some
    (record { depth = depth; child = child; ref = ref; places = key.1; order = key.2; deed = deed; moves = moves }) else None) here

found : (depth tree : ℕ) (moves : List (Row × Row)) (child : Table) (ref : Reference) (deed : Option Deed) (parent : Option Table)
    → is_in tree parent ≡ false
    → work_by depth tree moves child ref deed
    (option_and_then (λ t. option_and_then (key_in t) (key_places t ref.parent_columns)) parent) ≡ None
found depth tree moves child ref None parent out = refl
found depth tree moves child ref (Some deed) None out = refl
found depth tree moves child ref (Some deed) (Some t) out = go (key_places t ref.parent_columns)
  where
    go : (o : Option (List ℕ)) → work_by depth tree moves child ref (Some deed) (option_and_then (key_in t) o) ≡ None
    go None = refl
    go (Some places) = elsewhere depth tree moves child ref (Some deed) t places out (key_in t places) refl

module _ (schema : Schema) (keys : Keys) (depth tree : ℕ) (olds news : List Row) where
  no_work : (child : Table) (refs : List Reference) → list_any (leads_to schema.tables tree) refs ≡ false
      → filter_map (work_for schema keys depth tree olds news child) refs ≡ []
  no_work child [] none = refl
  no_work child (r ∷ rs) none =
      let here : work_for schema keys depth tree olds news child r ≡ None =
      found depth tree (pairs olds news) child r (deed_for keys (length news == 0) r)
      (find (λ t. same_name t.name r.parent) schema.tables)
      (or_left (leads_to schema.tables tree r) (list_any (leads_to schema.tables tree) rs) none) in
      let more = no_work child rs (or_right (leads_to schema.tables tree r) (list_any (leads_to schema.tables tree) rs) none) in
      rw (here, more) refl

  no_works : (children : List Table) → is_parent schema.tables tree children ≡ false
      → flat_map (λ child. filter_map (work_for schema keys depth tree olds news child) child.references) children ≡ []
  no_works [] none = refl
  no_works (t ∷ ts) none =
      let here = no_work t t.references
      (or_left (list_any (leads_to schema.tables tree) t.references) (is_parent schema.tables tree ts) none) in
      let more = no_works ts (or_right (list_any (leads_to schema.tables tree) t.references) (is_parent schema.tables tree ts) none) in
      rw (here, more) refl

  pub frees : is_parent schema.tables tree schema.tables ≡ false → works schema keys depth tree olds news ≡ []
  frees none = no_works schema.tables none
