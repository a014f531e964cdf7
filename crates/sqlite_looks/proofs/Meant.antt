-- What a text that was looked at means.
use Rattle.std.proofs.Common.{
  ◌≡◌,
  ℕ,
  ℤ,
  pos,
  negsuc,
  List,
  [],
  ◌∷◌,
  Bool,
  true,
  false,
  not,
  ◌&&◌,
  Option,
  Some,
  None,
  Ok,
  Err,
  Result,
  map,
  refl,
  ap,
  sym,
  ◌∙◌,
  subst,
  nat_eq,
}
use Rattle.std.specs.Prelude.{if◌then◌else◌, is_none}
use Rattle.std.specs.Ordering.{int_eq}
use Rattle.std.proofs.lemmas.Bool.{eqb-true}
use Rattle.std.proofs.lemmas.Bool.Decides.{Decides-int_eq}
use Rattle.sqlite_sql.specs.Term.{Term, lit, col, op1, op2, case}
use Rattle.sqlite_sql.specs.Query.{Join, Query, end, inner}
use Rattle.sqlite_sql.specs.declared.ops.BinaryOp.{BinaryOp}
use Rattle.sqlite_sql.specs.declared.ops.BinaryOp.TheVariants.{Compare}
use Rattle.sqlite_sql.specs.declared.ops.CompareOp.TheVariants.{Eq, Ge, Le}
use Rattle.sqlite_value.specs.declared.keys.Collation.TheVariants.{Binary}
use Rattle.sqlite_value.specs.declared.keys.Collation.{Collation}
use Rattle.sqlite_value.specs.declared.keys.Key.{Key}
use Rattle.sqlite_value.specs.declared.value.Value.{Value}
use Rattle.sqlite_value.specs.declared.value.Value.TheVariants.{Null, Int, Real, Text, Blob}
use Rattle.sqlite_looks.specs.Terms.{
  is_column,
  is_int,
  is_null,
  is_number,
  is_nothing,
  compared,
  is_at_least,
  is_at_most,
  is_equal,
  is_page_filter,
  is_delete_filter,
  shows,
  is_cell,
  are_cells,
  is_binary,
  is_rising,
  is_by_key,
  is_end,
  is_from,
}
use Rattle.sqlite_looks.specs.Pages.{page_filter, by_key, page_query}
use Rattle.sqlite_looks.specs.Changes.{delete_filter, delete_query, cell_term}
use Rattle.sqlite_sql.specs.Group.{Grouping}
use Rattle.sqlite_schema.specs.declared.program.Table.{Table as With}
use Rattle.sqlite.specs.Schema.{Schema}
use Rattle.sqlite.specs.Listing.{understood, reads_listing, misses_table, if_select, listing_schema}
use Rattle.sqlite.specs.Given.{IsPlain}
use Rattle.sqlite.specs.Command.{Command}
use Rattle.sqlite.specs.Command.TheVariants.{Select, Insert, Delete}
use Rattle.sqlite.specs.Source.TheVariants.{Values, Query as Queried}
use Rattle.sqlite_schema.specs.declared.program.Program.{Program}
use Rattle.sqlite_resolve.specs.Compile.{compiled}
use Rattle.sqlite_resolve.specs.declared.compiled.Compiled.{Compiled}
use Rattle.sqlite_resolve.specs.declared.error.CompileError.{CompileError}
use Rattle.sqlite_looks.specs.Pages.{IsPageText, command_of}
use Rattle.sqlite_looks.specs.Changes.{IsDeleteText, IsInsertText}
use Rattle.sqlite_looks.specs.Looks.{
  is_empty,
  is_page_query,
  is_delete_query,
  is_program,
  is_page_command,
  is_delete_command,
  is_insert_command,
  is_plain,
  passes,
  means_page,
  means_delete,
  means_insert,
}

pub both : (a b : Bool) → (a && b) ≡ true → (a ≡ true) × (b ≡ true)
both true true e = (refl, refl)
both true false e = absurd (cc)
both false b e = absurd (cc)

pub no : (a : Bool) → not a ≡ true → a ≡ false
no true e = absurd (cc)
no false e = refl

int_is : (a b : ℤ) → int_eq a b ≡ true → a ≡ b
int_is a b e = (Decides-int_eq a b).0 e

column_is : (slot at : ℕ) (t : Term) → is_column slot at t ≡ true → t ≡ col slot at
column_is slot at (col s a) e = let h = both (nat_eq s slot) (nat_eq a at) e in rw (eqb-true s slot h.0, eqb-true a at h.1) refl
column_is slot at (lit v) e = absurd (cc)
column_is slot at (op1 op a) e = absurd (cc)
column_is slot at (op2 op a b) e = absurd (cc)
column_is slot at (case t a b) e = absurd (cc)

int_value : (n : ℤ) (v : Value) → is_int n v ≡ true → v ≡ Int n
int_value n (Int m) e = ap Int (int_is m n e)
int_value n Null e = absurd (cc)
int_value n (Real x) e = absurd (cc)
int_value n (Text t) e = absurd (cc)
int_value n (Blob b) e = absurd (cc)

null_value : (v : Value) → is_null v ≡ true → v ≡ Null
null_value Null e = refl
null_value (Int m) e = absurd (cc)
null_value (Real x) e = absurd (cc)
null_value (Text t) e = absurd (cc)
null_value (Blob b) e = absurd (cc)

number_is : (n : ℤ) (t : Term) → is_number n t ≡ true → t ≡ lit (Int n)
number_is n (lit v) e = ap lit (int_value n v e)
number_is n (col s a) e = absurd (cc)
number_is n (op1 op a) e = absurd (cc)
number_is n (op2 op a b) e = absurd (cc)
number_is n (case t a b) e = absurd (cc)

nothing_is : (t : Term) → is_nothing t ≡ true → t ≡ lit Null
nothing_is (lit v) e = ap lit (null_value v e)
nothing_is (col s a) e = absurd (cc)
nothing_is (op1 op a) e = absurd (cc)
nothing_is (op2 op a b) e = absurd (cc)
nothing_is (case t a b) e = absurd (cc)

at_least_is : (o : Option BinaryOp) → is_at_least o ≡ true → o ≡ Some (Compare Ge Binary)
at_least_is (Some (Compare Ge Binary)) e = refl
at_least_is _ e = absurd (cc)

at_most_is : (o : Option BinaryOp) → is_at_most o ≡ true → o ≡ Some (Compare Le Binary)
at_most_is (Some (Compare Le Binary)) e = refl
at_most_is _ e = absurd (cc)

equal_is : (o : Option BinaryOp) → is_equal o ≡ true → o ≡ Some (Compare Eq Binary)
equal_is (Some (Compare Eq Binary)) e = refl
equal_is _ e = absurd (cc)

compared_is : (parameter : ℕ) (by : BinaryOp) (t : Term) → compared parameter t ≡ Some by → t ≡ op2 by (col 1 0) (col 0 parameter)
compared_is parameter by (op2 op a b) e = go (is_column 1 0 a && is_column 0 parameter b) refl e
  where
    go : (holds : Bool) → (is_column 1 0 a && is_column 0 parameter b) ≡ holds → (if holds then Some op else None) ≡ Some by
        → op2 op a b ≡ op2 by (col 1 0) (col 0 parameter)
    go true at is = let h = both (is_column 1 0 a) (is_column 0 parameter b) at in let same : op ≡ by = cc in
        rw (column_is 1 0 a h.0, column_is 0 parameter b h.1, same) refl
    go false at is = absurd (cc)
compared_is parameter by (lit v) e = absurd (cc)
compared_is parameter by (col s a) e = absurd (cc)
compared_is parameter by (op1 op a) e = absurd (cc)
compared_is parameter by (case t a b) e = absurd (cc)

page_filter_is : (ts : List Term) → is_page_filter ts ≡ true → ts ≡ page_filter
page_filter_is (low ∷ high ∷ []) e =
    let h = both (is_at_least (compared 0 low)) (is_at_most (compared 1 high)) e in
    rw (
      compared_is 0 (Compare Ge Binary) low (at_least_is (compared 0 low) h.0),
      compared_is 1 (Compare Le Binary) high
          (at_most_is (compared 1 high) h.1),
    ) refl
page_filter_is [] e = absurd (cc)
page_filter_is (t ∷ []) e = absurd (cc)
page_filter_is (t ∷ u ∷ v ∷ ts) e = absurd (cc)

delete_filter_is : (ts : List Term) → is_delete_filter ts ≡ true → ts ≡ delete_filter
delete_filter_is (only ∷ []) e = rw (compared_is 0 (Compare Eq Binary) only (equal_is (compared 0 only) e)) refl
delete_filter_is [] e = absurd (cc)
delete_filter_is (t ∷ u ∷ ts) e = absurd (cc)

shows_is : (places : List ℕ) (ts : List Term) → shows places ts ≡ true → ts ≡ map (col 1) places
shows_is [] [] e = refl
shows_is [] (t ∷ ts) e = absurd (cc)
shows_is (p ∷ ps) [] e = absurd (cc)
shows_is (p ∷ ps) (t ∷ ts) e = let h = both (is_column 1 p t) (shows ps ts) e in rw (column_is 1 p t h.0, shows_is ps ts h.1) refl

cell_is : (c : Option ℕ) (t : Term) → is_cell c t ≡ true → t ≡ cell_term c
cell_is None t e = nothing_is t e
cell_is (Some parameter) t e = column_is 0 parameter t e

pub cells_are : (cs : List (Option ℕ)) (ts : List Term) → are_cells cs ts ≡ true → ts ≡ map cell_term cs
cells_are [] [] e = refl
cells_are [] (t ∷ ts) e = absurd (cc)
cells_are (c ∷ cs) [] e = absurd (cc)
cells_are (c ∷ cs) (t ∷ ts) e = let h = both (is_cell c t) (are_cells cs ts) e in rw (cell_is c t h.0, cells_are cs ts h.1) refl

binary_is : (c : Collation) → is_binary c ≡ true → c ≡ Binary
binary_is Binary e = refl
binary_is _ e = absurd (cc)

rising_is : (b : Bool) → is_rising b ≡ true → b ≡ false
rising_is true e = absurd (cc)
rising_is false e = refl

abbrev key : Collation → Bool → Key
key collation descending = record { collation = collation; descending = descending }

key_is : (k : Key) → k.collation ≡ Binary → k.descending ≡ false → k ≡ by_key
key_is k a b = ap (λ c. key c k.descending) a ∙ ap (key Binary) b

abbrev pair : Term → Key → Term × Key
pair t k = (t, k)

by_key_is : (ks : List (Term × Key)) → is_by_key ks ≡ true → ks ≡ (col 1 0, by_key) ∷ []
by_key_is (only ∷ []) e =
    let h = both (is_column 1 0 only.0) (is_binary only.1.collation && is_rising only.1.descending) e in
    let k = both (is_binary only.1.collation) (is_rising only.1.descending) h.1 in
    let kept = key_is only.1 (binary_is only.1.collation k.0) (rising_is only.1.descending k.1) in
    ap (λ t. pair t only.1 ∷ []) (column_is 1 0 only.0 h.0) ∙ ap (λ k. pair (col 1 0) k ∷ []) kept
by_key_is [] e = absurd (cc)
by_key_is (t ∷ u ∷ ts) e = absurd (cc)

end_is : (j : Join) → is_end j ≡ true → j ≡ end
end_is end e = refl
end_is _ e = absurd (cc)

from_is : (tree : ℕ) (j : Join) → is_from tree j ≡ true → j ≡ inner tree end
from_is tree (inner t more) e = let h = both (nat_eq t tree) (is_end more) e in rw (eqb-true t tree h.0, end_is more h.1) refl
from_is tree _ e = absurd (cc)

pub empty_is : {A : Type 0} (xs : List A) → is_empty xs ≡ true → xs ≡ []
empty_is [] e = refl
empty_is (x ∷ xs) e = absurd (cc)

none_is : {A : Type 0} (o : Option A) → is_none o ≡ true → o ≡ None
none_is None e = refl
none_is (Some x) e = absurd (cc)

-- ---- queries, and the statements that are made of them

abbrev build : Join → List Term → Option Grouping → List Term → Bool → List Collation → List (Term × Key) → Term → Term → Query
build from filter group project distinct collations order limit offset = record {
  from = from;
  filter = filter;
  group = group;
  project = project;
  distinct = distinct;
  collations = collations;
  order = order;
  limit = limit;
  offset = offset;
}

nine : (a b c d e f g h i : Bool) → (a && (b && (c && (d && (e && (f && (g && (h && i)))))))) ≡ true
    → (a ≡ true) × (b ≡ true) × (c ≡ true) × (d ≡ true) × (e ≡ true) × (f ≡ true) × (g ≡ true) × (h ≡ true) × (i ≡ true)
nine true true true true true true true true true p = (refl, refl, refl, refl, refl, refl, refl, refl, refl)
nine true true true true true true true true false p = absurd (cc)
nine true true true true true true true false i p = absurd (cc)
nine true true true true true true false h i p = absurd (cc)
nine true true true true true false g h i p = absurd (cc)
nine true true true true false f g h i p = absurd (cc)
nine true true true false e f g h i p = absurd (cc)
nine true true false d e f g h i p = absurd (cc)
nine true false c d e f g h i p = absurd (cc)
nine false b c d e f g h i p = absurd (cc)

query_is : (q r : Query) → q.from ≡ r.from → q.filter ≡ r.filter → q.group ≡ r.group → q.project ≡ r.project → q.distinct ≡ r.distinct
    → q.collations ≡ r.collations → q.order ≡ r.order → q.limit ≡ r.limit → q.offset ≡ r.offset → q ≡ r
query_is q r a b c d e f g h i =
    ap (λ x. build x q.filter q.group q.project q.distinct q.collations q.order q.limit q.offset) a
    ∙ ap (λ x. build r.from x q.group q.project q.distinct q.collations q.order q.limit q.offset) b
    ∙ ap (λ x. build r.from r.filter x q.project q.distinct q.collations q.order q.limit q.offset) c
    ∙ ap (λ x. build r.from r.filter r.group x q.distinct q.collations q.order q.limit q.offset) d
    ∙ ap (λ x. build r.from r.filter r.group r.project x q.collations q.order q.limit q.offset) e
    ∙ ap (λ x. build r.from r.filter r.group r.project r.distinct x q.order q.limit q.offset) f
    ∙ ap (λ x. build r.from r.filter r.group r.project r.distinct r.collations x q.limit q.offset) g
    ∙ ap (λ x. build r.from r.filter r.group r.project r.distinct r.collations r.order x q.offset) h
    ∙ ap (λ x. build r.from r.filter r.group r.project r.distinct r.collations r.order r.limit x) i

page_query_is : (tree : ℕ) (places : List ℕ) (size : ℕ) (q : Query) → is_page_query tree places size q ≡ true
    → q ≡ page_query tree places size
page_query_is tree places size q e =
    let h = nine (is_from tree q.from) (is_page_filter q.filter) (is_none q.group) (shows places q.project) (not q.distinct)
    (is_empty q.collations) (is_by_key q.order) (is_number (pos size) q.limit) (is_number (pos 0) q.offset) e in
    query_is q (page_query tree places size) (from_is tree q.from h.0) (page_filter_is q.filter h.1) (none_is q.group h.2)
    (shows_is places q.project h.3) (no q.distinct h.4)
    (empty_is q.collations h.5) (by_key_is q.order h.6) (number_is (pos size) q.limit h.7) (number_is (pos 0) q.offset h.8)

delete_query_is : (tree : ℕ) (q : Query) → is_delete_query tree q ≡ true → q ≡ delete_query tree
delete_query_is tree q e =
    let h = nine (is_from tree q.from) (is_delete_filter q.filter) (is_none q.group) (shows (0 ∷ []) q.project) (not q.distinct)
    (is_empty q.collations) (is_empty q.order) (is_number (negsuc 0) q.limit) (is_number (pos 0) q.offset) e in
    query_is q (delete_query tree) (from_is tree q.from h.0) (delete_filter_is q.filter h.1) (none_is q.group h.2)
    (shows_is (0 ∷ []) q.project h.3) (no q.distinct h.4)
    (empty_is q.collations h.5) (empty_is q.order h.6) (number_is (negsuc 0) q.limit h.7) (number_is (pos 0) q.offset h.8)

abbrev program_of : List With → Query → Program
program_of lets body = record { lets = lets; body = body }

program_is : (test : Query → Bool) (r : Query) → ((q : Query) → test q ≡ true → q ≡ r) → (p : Program) → is_program test p ≡ true
    → p ≡ record { lets = []; body = r }
program_is test r f p e =
    let h = both (is_empty p.lets) (test p.body) e in
    ap (λ l. program_of l p.body) (empty_is p.lets h.0) ∙ ap (program_of []) (f p.body h.1)

page_command_is : (tree : ℕ) (places : List ℕ) (size : ℕ) (k : Command) → is_page_command tree places size k ≡ true
    → (names : List (List ℕ)) × (k ≡ Select (record { lets = []; body = page_query tree places size }) names)
page_command_is tree places size (Select p names) e = (
  names,
  ap (λ p. Select p names)
      (program_is (is_page_query tree places size) (page_query tree places size) (page_query_is tree places size) p e),
)
page_command_is tree places size _ e = absurd (cc)

delete_command_is : (place tree : ℕ) (k : Command) → is_delete_command place tree k ≡ true
    → k ≡ Delete place (record { lets = []; body = delete_query tree })
delete_command_is place tree (Delete at p) e =
    let h = both (nat_eq at place) (is_program (is_delete_query tree) p) e in
    ap (λ a. Delete a p) (eqb-true at place h.0)
    ∙ ap (Delete place) (program_is (is_delete_query tree) (delete_query tree) (delete_query_is tree) p h.1)
delete_command_is place tree _ e = absurd (cc)

insert_command_is : (place : ℕ) (cells : List (Option ℕ)) (width : ℕ) (k : Command) → is_insert_command place cells width k ≡ true
    → k ≡ Insert place (Values (map cell_term cells) width)
insert_command_is place cells width (Insert at (Values terms wide)) e =
    let h = both (nat_eq at place) (nat_eq wide width && are_cells cells terms) e in
    let k = both (nat_eq wide width) (are_cells cells terms) h.1 in
    ap (λ a. Insert a (Values terms wide)) (eqb-true at place h.0) ∙ ap (λ w. Insert place (Values terms w)) (eqb-true wide width k.0)
    ∙ ap (λ ts. Insert place (Values ts width)) (cells_are cells terms k.1)
insert_command_is place cells width (Insert at (Queried p)) e = absurd (let h = (both (nat_eq at place) false e).1 in cc)
insert_command_is place cells width _ e = absurd (cc)

module _ (schema : Schema) (text : List ℕ) (c : Compiled) (e : compiled schema text ≡ Ok c) where
  unlisted : reads_listing schema text ≡ false
  unlisted = ap misses_table e

  understood_is : understood schema text ≡ Ok c
  unfolding understood
  understood_is = ap (λ b. if b then if_select (compiled listing_schema text) else compiled schema text) unlisted ∙ e

  plain : is_plain c ≡ true → IsPlain (understood schema text)
  plain h = let k = both (is_none c.returning) (is_empty c.formats) h in
      subst IsPlain (sym understood_is) (none_is c.returning k.0, empty_is c.formats k.1)

-- what a text that passes a test is compiled as
record Passed (test : Command → Bool) (r : Result Compiled CompileError) : Type 0 where
  made : Compiled
  is : r ≡ Ok made
  bare : is_plain made ≡ true
  tested : test made.command ≡ true

passed : (test : Command → Bool) (r : Result Compiled CompileError) → passes test r ≡ true → Passed test r
passed test (Ok c) e = let h = both (is_plain c) (test c.command) e in record { made = c; is = refl; bare = h.0; tested = h.1 }
passed test (Err e) holds = absurd (cc)

pub page_is : (schema : Schema) (text : List ℕ) (tree : ℕ) (places : List ℕ) (size : ℕ) → means_page schema text tree places size ≡ true
    → IsPageText schema text tree places size
page_is schema text tree places size holds =
    let p = passed (is_page_command tree places size) (compiled schema text) holds in
    let k = page_command_is tree places size p.made.command p.tested in
    record {
      names = k.0;
      is = ap command_of (understood_is schema text p.made p.is) ∙ k.1;
      plain = plain schema text p.made p.is p.bare;
      unlisted = unlisted schema text p.made p.is;
    }

pub delete_is : (schema : Schema) (text : List ℕ) (place tree : ℕ) → means_delete schema text place tree ≡ true
    → IsDeleteText schema text place tree
delete_is schema text place tree holds =
    let p = passed (is_delete_command place tree) (compiled schema text) holds in
    record {
      is = ap command_of (understood_is schema text p.made p.is) ∙ delete_command_is place tree p.made.command p.tested;
      plain = plain schema text p.made p.is p.bare;
    }

pub insert_is : (schema : Schema) (text : List ℕ) (place : ℕ) (cells : List (Option ℕ)) (width : ℕ)
    → means_insert schema text place cells width ≡ true
    → IsInsertText schema text place cells width
insert_is schema text place cells width holds =
    let p = passed (is_insert_command place cells width) (compiled schema text) holds in
    record {
      is = ap command_of (understood_is schema text p.made p.is) ∙ insert_command_is place cells width p.made.command p.tested;
      plain = plain schema text p.made p.is p.bare;
    }
