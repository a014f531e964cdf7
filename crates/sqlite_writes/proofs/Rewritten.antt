-- A table after changes, as its entries are rewritten: the rows after the changes, in the order of their keys.
use Rattle.std.proofs.Common.{◌≡◌, ℤ, ◌+◌, Bool, true, false, not, ◌&&◌, List, [], ◌∷◌, ◌++◌, map, filter, nat_eq, length, IsTrue, refl}
use Rattle.std.proofs.Common.{sym, ap, ap₂, ◌∙◌, subst, arith, IsPermutation}
use Rattle.std.specs.declared.cmp.Ordering.TheVariants.{Less}
use Rattle.std.specs.Ordering.{is_lt, is_ge, is_le, int_cmp}
use Rattle.std.specs.List.{AllByRecursion, IsDistinct}
use Rattle.std.specs.FinMap.{int_cmp-IsAntisymmetric}
use Rattle.std.proofs.lemmas.List.{map-append, length-map}
use Rattle.std.proofs.lemmas.List.Elements.{filter-append}
use Rattle.std.proofs.lemmas.List.Sorted.{IsPermutation-trans, IsPermutation-sym, IsPermutation-map}
use Rattle.sqlite.specs.Order.{Row as SqlRow, value_cmp}
use Rattle.sqlite.specs.Edit.{without_all, are_fresh}
use Rattle.sqlite.specs.Tree.{rowid, IsTable}
use Rattle.sqlite.specs.View.{IsShaped, is_int}
use Rattle.sqlite_trees.specs.declared.store.Shape.TheVariants as shape
use Rattle.sqlite_trees.proofs.ListLemmas.{all-filter, ascending-filter, filter_all, map-map, IsPermutation-filter}
use Rattle.sqlite_tables.specs.Prelude.{in_range, key_of, paged, places, Layout, row_in, rows_in, least, greatest}
use Rattle.sqlite_looks.proofs.Unique.{Rises}
use Rattle.med_value.specs.Prelude.{Tuple, datum_cmp}
use Rattle.fdw_api.specs.Prelude.{TableRow, held, Change, rows_after}
use Rattle.sqlite_tables.proofs.PagesJoin.{Ints, inside_filter}
use Rattle.sqlite_tables.proofs.Once.{ids_once}
use Rattle.sqlite_writes.specs.Rewriting.{stored_cells, rewritten, repeats_key}
use Rattle.sqlite_writes.specs.Kinds.{no_line, key_cell, in_key_order, repeats}
use Rattle.sqlite_writes.specs.Splitting.{ids_named, keys_gone, rows_come, AreChanges, key_for}
use Rattle.sqlite_writes.specs.Writable.{IsWritten}
use Rattle.sqlite_writes.proofs.Sorting.{below, by_keys, order_is}
use Rattle.sqlite_writes.proofs.Repeats.{is_same, equal_is, repeats_alike}
use Rattle.sqlite_writes.proofs.Edits.{key_value, by_number, goes, without_all_is, without_all_shaped, filters_commute, put_all_permutes}
use Rattle.sqlite_writes.proofs.Edits.{put_all_shaped, fresh_is}
use Rattle.sqlite_writes.proofs.Woven.{given, unnamed, AreThere, Splits, splits, are_there, counted}
use Rattle.sqlite_writes.proofs.ChangesShown.{seen, IsShownAgain, all_again, ints_both, key_seen, keys_seen, news_seen, news_ints}
use Rattle.sqlite_writes.proofs.ChangesShown.{news_inside, stay_seen}

all_below : (l : Layout) (e : SqlRow) (es : List SqlRow) → IsWritten l → IsTrue (is_int (rowid e))
    → AllByRecursion (λ x. value_cmp (rowid e) (rowid x) ≡ Less) es → Ints es
    → AllByRecursion (λ y. below (seen l e) y ≡ true) (map (seen l) es)
all_below l e [] w h up ints_are = tt
all_below l e (x ∷ es) w h up ints_are = (
  ap₂ (λ u v. is_lt (datum_cmp u v)) (key_seen l e w h) (key_seen l x w ints_are.0)
      ∙ ap is_lt (sym (by_number (rowid e) (rowid x) h ints_are.0) ∙ up.0),
  all_below l e es w h up.1 ints_are.1,
)

-- the rows of a table rise by key
rises : (l : Layout) (es : List SqlRow) → IsWritten l → IsTable es → Ints es → Rises below by_keys (map (seen l) es)
rises l [] w up ints_are = tt
rises l (e ∷ es) w up ints_are = (all_below l e es w ints_are.0 up.0 ints_are.1, rises l es w up.1 ints_are.1)

-- rows of one key are in a range together
sees_keys : (e r : SqlRow) → is_same (key_value r) (key_value e) ≡ true → in_range least greatest r ≡ true
    → in_range least greatest e ≡ true
sees_keys e r same at =
    let is : key_of r ≡ key_of e = int_cmp-IsAntisymmetric (key_of r) (key_of e) (equal_is _ same) in
    subst (λ k. (is_ge (int_cmp k least) && is_le (int_cmp k greatest)) ≡ true) is at

module _ (l : Layout) (entries : List SqlRow) (changes : List Change) (are : AreChanges l entries changes) where
  abbrev gone : List ℤ
  gone = keys_gone changes

  abbrev come : List Tuple
  come = rows_come changes

  abbrev rows : List TableRow
  rows = rows_in l entries

  abbrev news : List SqlRow
  news = map (stored_cells l) come

  -- the entries that stay, and those that have a key of 64 bits
  abbrev kept : List SqlRow
  kept = without_all entries gone

  abbrev inside : List SqlRow → List SqlRow
  inside = filter (in_range least greatest)

  known : AreThere rows (ids_named changes)
  known = are_there changes rows are.there

  split : Splits rows changes
  split = splits changes rows (ids_once l entries are.ordered) are.once known

  again : AllByRecursion (IsShownAgain l) come
  again = all_again l come are.written are.placed are.holdable

  kept_shaped : IsShaped shape.Table kept
  kept_shaped = without_all_shaped gone entries are.ordered

  pub shaped : IsShaped shape.Table (rewritten l gone come entries)
  shaped = put_all_shaped news kept kept_shaped (news_ints l come again)

  -- the old rows that stay
  old_seen : map (seen l) (inside kept) ≡ map held (unnamed changes rows)
  old_seen =
      ap (λ es. map (seen l) (inside es)) (without_all_is gone entries)
      ∙ ap (map (seen l)) (filters_commute (in_range least greatest) (λ e. not (goes gone e)) entries)
      ∙ stay_seen l changes (inside entries) (inside_filter greatest least entries) (all-filter (λ r. IsTrue (is_int (rowid r)))
      (in_range least greatest) entries are.ordered.1) known

  -- the rows after the changes are the new ones and the old ones that stay
  after_is : IsPermutation (map (seen l) (news ++ inside kept)) (rows_after no_line rows changes)
  after_is =
      let all : map (seen l) (news ++ inside kept) ≡ map given come ++ map held (unnamed changes rows) =
      map-append (seen l) news (inside kept) ∙ ap₂ ◌++◌ (news_seen l come again) old_seen in
      subst (λ hs. IsPermutation hs (rows_after no_line rows changes)) (sym all) (IsPermutation-sym _ _ split.parts)

  pub repeats_are : repeats_key l gone come entries ≡ repeats (map key_cell (rows_after no_line rows changes))
  repeats_are =
      fresh_is (in_range least greatest) sees_keys news kept kept_shaped.0 kept_shaped.1 (news_ints l come again) (news_inside l come again)
      ∙ ap repeats (keys_seen l (news ++ inside kept) are.written (ints_both news (inside kept) (news_ints l come again)
      (all-filter (λ r. IsTrue (is_int (rowid r))) (in_range least greatest) kept kept_shaped.1)))
      ∙ repeats_alike _ _ (IsPermutation-map key_cell _ _ after_is)

  pub count_is : length (rows_after no_line rows changes) + length gone ≡ length rows + length come
  count_is =
      let n = counted changes rows split in
      let m = length-map (ids_named changes) key_for in
      omega arith

  module _ (free : repeats_key l gone come entries ≡ false) where
    fresh : are_fresh kept news ≡ true
    fresh = unnot (are_fresh kept news) free
      where
        unnot : (b : Bool) → not b ≡ false → b ≡ true
        unnot true e = refl
        unnot false e = absurd cc

    -- the entries in range are the new ones and those that stay
    put_is : IsPermutation (news ++ inside kept) (inside (rewritten l gone come entries))
    put_is =
        let all : inside (news ++ kept) ≡ news ++ inside kept =
        filter-append (in_range least greatest) news kept
        ∙ ap (λ es. es ++ inside kept) (filter_all (in_range least greatest) news (news_inside l come again)) in
        subst (λ es. IsPermutation es (inside (rewritten l gone come entries))) all (IsPermutation-filter (in_range least greatest)
        (news ++ kept) (rewritten l gone come entries) (put_all_permutes news kept fresh))

    pub rows_are : map held (rows_in l (rewritten l gone come entries)) ≡ in_key_order (rows_after no_line rows changes)
    rows_are =
        let now : List SqlRow = inside (rewritten l gone come entries) in
        let seen_now : map held (rows_in l (rewritten l gone come entries)) ≡ map (seen l) now =
        map-map held (row_in l) (map (paged (places l)) now) ∙ map-map (λ e. held (row_in l e)) (paged (places l)) now in
        let same : IsPermutation (map (seen l) now) (rows_after no_line rows changes) =
        IsPermutation-trans _ _ _ (IsPermutation-sym _ _ (IsPermutation-map (seen l) _ _ put_is)) after_is in
        seen_now ∙ sym (order_is (rows_after no_line rows changes) (map (seen l) now)
        (rises l now are.written (ascending-filter _ (in_range least greatest) (rewritten l gone come entries) shaped.0) (all-filter _
        (in_range least greatest) (rewritten l gone come entries) shaped.1)) same)

  pub once_is : IsDistinct nat_eq (map (λ r. r.id) (rows_in l (rewritten l gone come entries)))
  once_is = ids_once l (rewritten l gone come entries) shaped
