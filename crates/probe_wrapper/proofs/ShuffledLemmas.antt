-- What is said of the inner wrapper is said of a shuffled one.
use Rattle.std.proofs.Common.{◌≡◌, ◌≢◌, ℕ, ◌%◌, List, [], ◌∷◌, ◌++◌, length, map, take, drop, Option, option_map, refl, ap, sym, ◌∙◌, subst, arith, Some, Bool, true}
use Rattle.std.specs.FinMap as finmap
use Rattle.std.specs.List.Sorted.{IsPermutation}
use Rattle.std.proofs.lemmas.List.{take-append-drop, drop-map, take-map, length-map, map-append, length-append}
use Rattle.std.proofs.lemmas.List.Elements.{All-take, All-drop, All-append}
use Rattle.std.proofs.lemmas.List.Sorted.{IsPermutation-append_comm, IsPermutation-append_left, IsPermutation-trans, All-permutation}
use Rattle.std.proofs.lemmas.List.Sums.{AllPass-from_list_all, list_all-from_AllPass}
use Rattle.std.specs.List.{list_all}
use Rattle.med_value.specs.Datum.{Tuple}
use Rattle.fdw_api.specs.Prelude.{Spec, GivenRow, TableRow, IsComing, given_row, meets_exact, Scan, is_unpromised}
use Rattle.fdw_api.proofs.Unpromised.{any_order, all_first, promises_none}
use Rattle.probe_wrapper.specs.Shuffled.{turned, Turn, seen_scan, seen, Stays}
use Rattle.probe_wrapper.proofs.SeenScans.{Scans, See, each_get, each_len, each_insert, each_change, each_remove, each_keep}

abbrev pub Turns : Type 0
Turns = ℕ → Option Turn

-- the map of the scans as they are seen
abbrev see : Turns → See
see turns = λ q. seen_scan (turns q)

pub seen_get : (turns : Turns) (m : Scans) (q : ℕ) → finmap.get (seen turns m) q ≡ option_map (seen_scan (turns q)) (finmap.get m q)
seen_get turns m q = each_get (see turns) m q

pub seen_len : (turns : Turns) (m : Scans) → finmap.len (seen turns m) ≡ finmap.len m
seen_len turns m = each_len (see turns) m

-- a scan is put in or changed, and the turns of the others are as before
pub insert_of : (old new : Turns) (m : Scans) (q : ℕ) (s : Scan) → ((x : ℕ) → x ≢ q → new x ≡ old x) → seen new (finmap.insert m q s) ≡ finmap.insert (seen old m) q (seen_scan (new q) s)
insert_of old new m q s others = each_insert (see old) (see new) m q s (λ x ne. ap seen_scan (others x ne))

pub change_of : (old new : Turns) (m : Scans) (q : ℕ) (s : Scan) → finmap.get m q ≡ Some s → ((x : ℕ) → x ≢ q → new x ≡ old x) → seen new m ≡ finmap.insert (seen old m) q (seen_scan (new q) s)
change_of old new m q s is others = each_change (see old) (see new) m q s is (λ x ne. ap seen_scan (others x ne))

pub remove_of : (old new : Turns) (m : Scans) (q : ℕ) → ((x : ℕ) → x ≢ q → new x ≡ old x) → seen new (finmap.remove m q) ≡ finmap.remove (seen old m) q
remove_of old new m q others = each_remove (see old) (see new) m q (λ x ne. ap seen_scan (others x ne))

pub keep_of : (old new : Turns) (m : Scans) → Stays old new → seen new m ≡ seen old m
keep_of old new m stays = each_keep (see old) (see new) m (λ x. ap seen_scan (stays x))

-- turned lists
pub turned_length : {X : Type 0} (places : ℕ) (xs : List X) → length (turned places xs) ≡ length xs
turned_length places xs =
    let k = places % length xs in
    let a = length-append (drop k xs) (take k xs) in
    let b = length-append (take k xs) (drop k xs) in
    let c = ap (λ (l : List _). length l) (take-append-drop k xs) in
    omega (arith, a, b, c)

pub none_long : {X : Type 0} (xs : List X) → length xs ≡ 0 → xs ≡ []
none_long [] e = refl
none_long (x ∷ xs) e = absurd (omega arith)

pub turned_nil : {X : Type 0} (places : ℕ) (xs : List X) → xs ≡ [] → turned places xs ≡ []
turned_nil places xs e = none_long (turned places xs) (turned_length places xs ∙ ap (λ l. length l) e)

pub nil_turned : {X : Type 0} (places : ℕ) (xs : List X) → turned places xs ≡ [] → xs ≡ []
nil_turned places xs e = none_long xs (sym (turned_length places xs) ∙ ap (λ l. length l) e)

pub turned_map : {X Y : Type 0} (f : X → Y) (places : ℕ) (xs : List X) → turned places (map f xs) ≡ map f (turned places xs)
turned_map f places xs =
    ap (λ (n : ℕ). drop (places % n) (map f xs) ++ take (places % n) (map f xs)) (length-map xs f)
    ∙ ap (λ l. l ++ take (places % length xs) (map f xs)) (drop-map f (places % length xs) xs)
    ∙ ap (λ l. map f (drop (places % length xs) xs) ++ l) (take-map f (places % length xs) xs)
    ∙ sym (map-append f (drop (places % length xs) xs) (take (places % length xs) xs))

turned_permutes : {X : Type 0} (places : ℕ) (xs : List X) → IsPermutation xs (turned places xs)
turned_permutes places xs =
    subst (λ l. IsPermutation l (turned places xs)) (take-append-drop (places % length xs) xs) (IsPermutation-append_comm (take (places % length xs) xs) (drop (places % length xs) xs))

-- what passes a test does so turned
pub turned_pass : {X : Type 0} (p : X → Bool) (places : ℕ) (xs : List X) → list_all p xs ≡ true → list_all p (turned places xs) ≡ true
turned_pass p places xs e = list_all-from_AllPass p (turned places xs) (All-permutation (λ x. p x ≡ true) xs (turned places xs) (turned_permutes places xs) (AllPass-from_list_all p xs e))

-- the rows that a scan may give may come turned
pub turned_come : (rows : List TableRow) (spec : Spec) (params : Tuple) (places : ℕ) (coming : List GivenRow) → is_unpromised spec ≡ true → IsComing rows spec params coming → IsComing rows spec params (turned places coming)
turned_come rows spec params places coming e c =
    let none = promises_none spec e in
    let P : TableRow → Type 0 = λ r. meets_exact spec.offered spec.answers params r.cells ≡ true in
    let k = places % length c.taken in
    record {
      taken = turned places c.taken;
      left_out = c.left_out;
      parts = IsPermutation-trans rows (c.taken ++ c.left_out) (turned places c.taken ++ c.left_out) c.parts (IsPermutation-append_left c.left_out c.taken (turned places c.taken) (turned_permutes places c.taken));
      failing = c.failing;
      exact = All-append P (drop k c.taken) (take k c.taken) (All-drop P k c.taken c.exact) (All-take P k c.taken c.exact);
      sorted = any_order spec.order none.0 (turned places c.taken);
      is =
          ap (turned places) (c.is ∙ ap (map (given_row spec)) (all_first spec.limit none.1 c.taken)) ∙ turned_map (given_row spec) places c.taken
          ∙ ap (map (given_row spec)) (sym (all_first spec.limit none.1 (turned places c.taken)));
    }
