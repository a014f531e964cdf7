-- Outputs that stand for more: the least of them, whatever comes behind.
use Rattle.std.proofs.Common.{◌≡◌, ◌<◌, ◌≤◌, ◌+◌, ◌-◌, ℕ, zero, suc, Bool, true, false, List, [], ◌∷◌, ◌++◌, map, take, drop, length, get_or, All, refl, sym, ap, ◌∙◌, arith, Option, Some, subst, IsPermutation, append_assoc, drop_of_length-le}
use Rattle.std.specs.List.{sum_by}
use Rattle.std.specs.List.Sorted.{IsSortedBy}
use Rattle.std.specs.Cmp.{IsStrictWeakOrder}
use Rattle.std.specs.Ordering.{is_lt}
use Rattle.std.specs.declared.cmp.Ordering.{Ordering}
use Rattle.std.proofs.lemmas.List.{length-append, length-take, append-nil, length-map, map-append, take_all, take-append-drop, get_or_append_left, get_or-append-add, get_or_default}
use Rattle.std.proofs.lemmas.List.Elements.{All-head, All-tail, All-nil, All-weaker, All-map, All-append, All-cons}
use Rattle.std.proofs.lemmas.List.Sums.{sum_by-cons, sum_by-append}
use Rattle.std.proofs.lemmas.List.Sorted.{IsPermutation-refl, IsPermutation-sym, IsPermutation-trans, IsPermutation-append_left, IsPermutation-append_right, IsPermutation-append_comm, IsPermutation-map, length_permutation, sum_by-IsPermutation, sorted_far}
use Rattle.itertools.specs.Extremes.{IsKLeast}
use Rattle.query_answer.specs.Ordering.{LeadsIn, StandsFor}
use Rattle.query_answer.proofs.Groups.{sorted_map}
use Rattle.query_answer.proofs.Leading.{leads_least, wanted_or_none}

-- ---- what stands for more

-- LeadsIn looks at no order of the elements
leads_same : {X : Type 0} (cmp : X → X → Ordering) (offset : ℕ) (limit : Option ℕ) (xs ys first : List X) → IsPermutation xs ys → LeadsIn cmp offset limit ys first → LeadsIn cmp offset limit xs first
leads_same cmp offset limit xs ys first p l = record { ordered = l.ordered; same = IsPermutation-trans xs ys l.ordered p l.same; sorted = l.sorted; shown = l.shown }

pub stands_same : {X : Type 0} (cmp : X → X → Ordering) (offset : ℕ) (limit : Option ℕ) (xs ys : List X) → IsPermutation xs ys → StandsFor cmp offset limit xs ys
stands_same cmp offset limit xs ys p more first l = leads_same cmp offset limit (xs ++ more) (ys ++ more) first (IsPermutation-append_left more xs ys p) l

pub stands_then : {X : Type 0} (cmp : X → X → Ordering) (offset : ℕ) (limit : Option ℕ) (xs ys zs : List X) → StandsFor cmp offset limit xs ys → StandsFor cmp offset limit ys zs → StandsFor cmp offset limit xs zs
stands_then cmp offset limit xs ys zs h k more first l = h more first (k more first l)

-- some more come
pub stands_more : {X : Type 0} (cmp : X → X → Ordering) (offset : ℕ) (limit : Option ℕ) (xs ys new : List X) → StandsFor cmp offset limit xs ys → StandsFor cmp offset limit (xs ++ new) (ys ++ new)
stands_more cmp offset limit xs ys new h more first l =
    subst (λ z. LeadsIn cmp offset limit z first) (sym (append_assoc xs new more))
    (h (new ++ more) first (subst (λ z. LeadsIn cmp offset limit z first) (append_assoc ys new more) l))

turned : {X : Type 0} (xs ys more : List X) → IsPermutation ((xs ++ ys) ++ more) (ys ++ (xs ++ more))
turned xs ys more = subst (λ z. IsPermutation ((xs ++ ys) ++ more) z) (append_assoc ys xs more) (IsPermutation-append_left more (xs ++ ys) (ys ++ xs) (IsPermutation-append_comm xs ys))

-- the same of two lists together
pub stands_both : {X : Type 0} (cmp : X → X → Ordering) (offset : ℕ) (limit : Option ℕ) (xs ys us vs : List X) → StandsFor cmp offset limit xs us → StandsFor cmp offset limit ys vs → StandsFor cmp offset limit (xs ++ ys) (us ++ vs)
stands_both cmp offset limit xs ys us vs h k =
    stands_then cmp offset limit (xs ++ ys) (us ++ ys) (us ++ vs) (stands_more cmp offset limit xs us ys h)
    (λ more first l. leads_same cmp offset limit ((us ++ ys) ++ more) (ys ++ (us ++ more)) first (turned us ys more)
    (k (us ++ more) first (leads_same cmp offset limit (vs ++ (us ++ more)) ((us ++ vs) ++ more) first (IsPermutation-sym ((us ++ vs) ++ more) (vs ++ (us ++ more)) (turned us vs more)) l)))

-- ---- how many elements pass a test

abbrev one_if : Bool → ℕ
one_if true = 1
one_if false = 0

abbrev passing : {X : Type 0} → (X → Bool) → List X → ℕ
passing p xs = sum_by (λ x. one_if (p x)) xs

all_pass : {X : Type 0} (p : X → Bool) (xs : List X) → All (λ x. p x ≡ true) xs → passing p xs ≡ length xs
all_pass p [] h = refl
all_pass p (x ∷ xs) h =
    let e : p x ≡ true = All-head (λ z. p z ≡ true) x xs h in
    sum_by-cons (λ z. one_if (p z)) x xs ∙ rw e (omega (arith, all_pass p xs (All-tail (λ z. p z ≡ true) x xs h)))

none_pass : {X : Type 0} (p : X → Bool) (xs : List X) → All (λ x. p x ≡ false) xs → passing p xs ≡ 0
none_pass p [] h = refl
none_pass p (x ∷ xs) h =
    let e : p x ≡ false = All-head (λ z. p z ≡ false) x xs h in
    sum_by-cons (λ z. one_if (p z)) x xs ∙ rw e (omega (arith, none_pass p xs (All-tail (λ z. p z ≡ false) x xs h)))

few_if : (b : Bool) → one_if b ≤ 1
few_if true = omega arith
few_if false = omega arith

few_pass : {X : Type 0} (p : X → Bool) (xs : List X) → passing p xs ≤ length xs
few_pass p [] = omega arith
few_pass p (x ∷ xs) = omega (arith, sum_by-cons (λ z. one_if (p z)) x xs, few_pass p xs, few_if (p x))

one_fails : {X : Type 0} (p : X → Bool) (xs : List X) (i : ℕ) (d : X) → i < length xs → p (get_or xs i d) ≡ false → passing p xs < length xs
one_fails p [] i d lt e = absurd (omega arith)
one_fails p (x ∷ xs) zero d lt e =
    let f : one_if (p x) ≡ 0 = ap one_if e in
    omega (arith, sum_by-cons (λ z. one_if (p z)) x xs, few_pass p xs, f)
one_fails p (x ∷ xs) (suc i) d lt e = omega (arith, sum_by-cons (λ z. one_if (p z)) x xs, one_fails p xs i d (omega arith) e, few_if (p x))

-- ---- the least of the least

module _ {X : Type 0} (lt : X → X → Bool) (o : IsStrictWeakOrder lt) where
  below_by : (x y z : X) (b : Bool) → lt z y ≡ b → lt x y ≡ true → lt x z ≡ false → lt z y ≡ true
  below_by x y z true e h g = e
  below_by x y z false e h g = absurd (cc (h, o.chain x z y g e))

  -- what is less than another has none of those before it behind that
  all_below : (x y : X) (first : List X) → lt x y ≡ true → All (λ r. lt x r ≡ false) first → All (λ z. lt z y ≡ true) first
  all_below x y first h behind = All-weaker (λ r. lt x r ≡ false) (λ z. lt z y ≡ true) (λ z g. below_by x y z (lt z y) refl h g) first behind

  itself : (y : X) (b : Bool) → lt y y ≡ b → lt y y ≡ false
  itself y true e = o.one_way y y e
  itself y false e = e

  -- as many as are wanted are less than one of the least: there is none such
  crowded : (wanted : ℕ) (first more least rest : List X) (i : ℕ) (d x : X) → length first ≡ wanted → length least ≤ wanted → i < length least
      → IsPermutation (first ++ more) (least ++ rest) → All (λ z. All (λ r. lt z r ≡ false) least) rest
      → lt x (get_or least i d) ≡ true → All (λ r. lt x r ≡ false) first → ⊥
  crowded wanted first more least rest i d x full few low same behind h g =
      let y = get_or least i d in
      let p : X → Bool = λ z. lt z y in
      let f : X → ℕ = λ z. one_if (p z) in
      let a = all_pass p first (all_below x y first h g) in
      let b = sum_by-append f first more in
      let c = sum_by-IsPermutation f (first ++ more) (least ++ rest) same in
      let e = sum_by-append f least rest in
      let n = none_pass p rest (All-weaker (λ z. All (λ r. lt z r ≡ false) least) (λ z. p z ≡ false) (λ z k. k i d low) rest behind) in
      let s = one_fails p least i d low (itself y (lt y y) refl) in
      omega (arith, full, few, a, b, c, e, n, s)

  not_below : (wanted : ℕ) (first more least rest : List X) (i : ℕ) (d x : X) (b : Bool) → lt x (get_or least i d) ≡ b → length first ≡ wanted → length least ≤ wanted → i < length least
      → IsPermutation (first ++ more) (least ++ rest) → All (λ z. All (λ r. lt z r ≡ false) least) rest
      → All (λ r. lt x r ≡ false) first → lt x (get_or least i d) ≡ false
  not_below wanted first more least rest i d x true e full few low same behind g = absurd (crowded wanted first more least rest i d x full few low same behind e g)
  not_below wanted first more least rest i d x false e full few low same behind g = e

  gone_behind : (wanted : ℕ) (first more least rest gone : List X) → length least ≤ wanted → ((length first < wanted → gone ≡ []) × (length first ≤ wanted))
      → IsPermutation (first ++ more) (least ++ rest) → All (λ z. All (λ r. lt z r ≡ false) least) rest
      → All (λ z. All (λ r. lt z r ≡ false) first) gone → All (λ z. All (λ r. lt z r ≡ false) least) gone
  gone_behind wanted first more least rest [] few many same behind g = All-nil (λ z. All (λ r. lt z r ≡ false) least)
  gone_behind wanted first more least rest (x ∷ xs) few many same behind g =
      let full : length first ≡ wanted = wanted_or_none first wanted x xs many in
      All-weaker (λ z. All (λ r. lt z r ≡ false) first) (λ z. All (λ r. lt z r ≡ false) least)
      (λ z h i d low. not_below wanted first more least rest i d z (lt z (get_or least i d)) refl full few low same behind h) (x ∷ xs) g

  -- the least of the least and of some more are the least of all
  pub least_again : (wanted : ℕ) (all first more least : List X) → IsKLeast lt wanted all first → IsKLeast lt wanted (first ++ more) least → IsKLeast lt wanted (all ++ more) least
  least_again wanted all first more least (up, few, gone, same, none, behind) (up', few', rest, same', none', behind') =
      let joined : IsPermutation (all ++ more) (least ++ (rest ++ gone)) =
      IsPermutation-trans (all ++ more) ((first ++ gone) ++ more) (least ++ (rest ++ gone)) (IsPermutation-append_left more all (first ++ gone) same)
      (IsPermutation-trans ((first ++ gone) ++ more) (gone ++ (first ++ more)) (least ++ (rest ++ gone)) (turned first gone more)
      (IsPermutation-trans (gone ++ (first ++ more)) ((first ++ more) ++ gone) (least ++ (rest ++ gone)) (IsPermutation-append_comm gone (first ++ more))
      (subst (λ z. IsPermutation ((first ++ more) ++ gone) z) (append_assoc least rest gone) (IsPermutation-append_left gone (first ++ more) (least ++ rest) same')))) in
      let short : length least < wanted → rest ++ gone ≡ [] = λ h.
      let r : rest ≡ [] = none' h in
      let n : length (least ++ rest) ≡ length (first ++ more) = length_permutation (first ++ more) (least ++ rest) same' in
      let l = length-append first more in
      let k : length (least ++ rest) ≡ length least = ap (λ z. length (least ++ z)) r ∙ ap length (append-nil least) in
      rw (r, none (omega (arith, h, n, l, k))) refl in
      (up', few', rest ++ gone, joined, short, All-append (λ z. All (λ r. lt z r ≡ false) least) rest gone behind' (gone_behind wanted first more least rest gone few' (none, few) same' behind' behind))

  front_sorted : (xs ys : List X) → IsSortedBy lt (xs ++ ys) → IsSortedBy lt xs
  front_sorted xs ys up k d low high =
      let l = length-append xs ys in
      let a : get_or (xs ++ ys) (k + 1) d ≡ get_or xs (k + 1) d = get_or_append_left xs ys d (k + 1) (omega (arith, high)) in
      let b : get_or (xs ++ ys) k d ≡ get_or xs k d = get_or_append_left xs ys d k (omega (arith, high)) in
      let h : lt (get_or (xs ++ ys) (k + 1) d) (get_or (xs ++ ys) k d) ≡ false = up k d (omega arith) (omega (arith, high, l)) in
      rw (a, b) at h

  front_least : (xs ys : List X) → IsSortedBy lt (xs ++ ys) → All (λ z. All (λ r. lt z r ≡ false) xs) ys
  front_least xs ys up j e there i d low =
      let l = length-append xs ys in
      let a : get_or (xs ++ ys) i d ≡ get_or xs i d = get_or_append_left xs ys d i low in
      let b : get_or (xs ++ ys) (length xs + j) d ≡ get_or ys j d = get_or-append-add xs ys j d in
      let c : get_or ys j d ≡ get_or ys j e = get_or_default ys j d e there in
      let h : lt (get_or (xs ++ ys) (length xs + j) d) (get_or (xs ++ ys) i d) ≡ false = sorted_far lt o (xs ++ ys) up i (length xs + j) d (omega (arith, low)) (omega (arith, there, l)) in
      rw (a, b, c) at h

  pub least_sorted : (wanted : ℕ) (all ordered : List X) → IsPermutation all ordered → IsSortedBy lt ordered → IsKLeast lt wanted all (take wanted ordered)
  least_sorted wanted all ordered same up =
      let whole : take wanted ordered ++ drop wanted ordered ≡ ordered = take-append-drop wanted ordered in
      let long = length-take wanted ordered in
      let up' : IsSortedBy lt (take wanted ordered ++ drop wanted ordered) = subst (λ z. IsSortedBy lt z) (sym whole) up in (
        front_sorted (take wanted ordered) (drop wanted ordered) up',
        omega (arith, long),
        drop wanted ordered,
        subst (λ z. IsPermutation all z) (sym whole) same,
        (λ h. drop_of_length-le ordered (omega (arith, long, h))),
        front_least (take wanted ordered) (drop wanted ordered) up',
      )

-- ---- what OFFSET and LIMIT leave of the least

page_of_take : {X : Type 0} (offset most wanted : ℕ) (xs : List X) → wanted ≡ offset + most → take most (drop offset (take wanted xs)) ≡ take most (drop offset xs)
page_of_take zero most wanted xs e =
    let n = length-take wanted xs in
    take_all most (take wanted xs) (omega (arith, n, e)) ∙ ap (λ k. take k xs) (omega (arith, e))
page_of_take (suc offset) most zero xs e = absurd (omega arith)
page_of_take (suc offset) most (suc wanted) [] e = refl
page_of_take (suc offset) most (suc wanted) (x ∷ xs) e = page_of_take offset most wanted xs (omega (arith, e))

stands_least_in : {X : Type 0} (cmp : X → X → Ordering) → IsStrictWeakOrder (λ a b. is_lt (cmp a b)) → (offset most wanted : ℕ) (xs ys more first : List X) → wanted ≡ offset + most
    → IsKLeast (λ a b. is_lt (cmp a b)) wanted xs ys → LeadsIn cmp offset (Some most) (ys ++ more) first → LeadsIn cmp offset (Some most) (xs ++ more) first
stands_least_in {X} cmp o offset most wanted xs ys more first w least l =
    let lt : X → X → Bool = λ a b. is_lt (cmp a b) in
    let front = take wanted l.ordered in
    let again : IsKLeast lt wanted (xs ++ more) front = least_again lt o wanted xs ys more front least (least_sorted lt o wanted (ys ++ more) l.ordered l.same l.sorted) in
    let found : LeadsIn cmp offset (Some most) (xs ++ more) front = leads_least cmp o offset (Some most) wanted (xs ++ more) front (most, refl, w) again in
    record {
      ordered = found.ordered;
      same = found.same;
      sorted = found.sorted;
      shown = l.shown ∙ sym (page_of_take offset most wanted l.ordered w) ∙ found.shown;
    }

pub stands_least : {X : Type 0} (cmp : X → X → Ordering) → IsStrictWeakOrder (λ a b. is_lt (cmp a b)) → (offset : ℕ) (limit : Option ℕ) (wanted : ℕ) (xs ys : List X)
    → (most : ℕ) × (limit ≡ Some most) × (wanted ≡ offset + most) → IsKLeast (λ a b. is_lt (cmp a b)) wanted xs ys → StandsFor cmp offset limit xs ys
stands_least cmp o offset limit wanted xs ys (most, is, w) least = subst (λ l. StandsFor cmp offset l xs ys) (sym is)
    (λ more first l. stands_least_in cmp o offset most wanted xs ys more first w least l)

-- ---- what stands behind the first elements

module _ {X : Type 0} (cmp : X → X → Ordering) (o : IsStrictWeakOrder (λ a b. is_lt (cmp a b))) where
  abbrev lt : X → X → Bool
  lt a b = is_lt (cmp a b)

  behind_at : (x : X) (first : List X) (i : ℕ) (d : X) → IsSortedBy lt first → lt x (get_or first (length first - 1) d) ≡ false → i < length first → lt x (get_or first i d) ≡ false
  behind_at x first i d up last low =
      o.chain x (get_or first (length first - 1) d) (get_or first i d) last (sorted_far lt o first up i (length first - 1) d (omega arith) (omega arith))

  -- an element that does not come before the last of them
  behind_first : (x d : X) (first : List X) → IsSortedBy lt first → lt x (get_or first (length first - 1) d) ≡ false → All (λ r. lt x r ≡ false) first
  behind_first x d first up last i e low =
      behind_at x first i e up (subst (λ y. lt x y ≡ false) (get_or_default first (length first - 1) d e (omega arith)) last) low

  to_end : (first rest : List X) (x : X) → IsPermutation ((first ++ rest) ++ x ∷ []) ((first ++ x ∷ []) ++ rest)
  to_end first rest x =
      subst (λ z. IsPermutation z ((first ++ x ∷ []) ++ rest)) (sym (append_assoc first rest (x ∷ [])))
      (subst (λ z. IsPermutation (first ++ (rest ++ x ∷ [])) z) (sym (append_assoc first (x ∷ []) rest))
      (IsPermutation-append_right first (rest ++ x ∷ []) (x ∷ [] ++ rest) (IsPermutation-append_comm rest (x ∷ []))))

  stands_over : (offset : ℕ) (limit : Option ℕ) (wanted : ℕ) (first rest : List X) (x : X) → (most : ℕ) × (limit ≡ Some most) × (wanted ≡ offset + most) → length first ≡ wanted → IsSortedBy lt first
      → All (λ r. lt x r ≡ false) first → StandsFor cmp offset limit ((first ++ rest) ++ x ∷ []) (first ++ rest)
  stands_over offset limit wanted first rest x w full up behind =
      let least : IsKLeast lt wanted (first ++ x ∷ []) first =
      (up, omega (arith, full), x ∷ [], IsPermutation-refl (first ++ x ∷ []), (λ h. absurd (omega (arith, h, full))), All-cons (λ z. All (λ r. lt z r ≡ false) first) x [] behind (All-nil (λ z. All (λ r. lt z r ≡ false) first))) in
      stands_then cmp offset limit ((first ++ rest) ++ x ∷ []) ((first ++ x ∷ []) ++ rest) (first ++ rest)
      (stands_same cmp offset limit ((first ++ rest) ++ x ∷ []) ((first ++ x ∷ []) ++ rest) (to_end first rest x))
      (stands_more cmp offset limit (first ++ x ∷ []) first rest (stands_least cmp o offset limit wanted (first ++ x ∷ []) first w least))

  -- an element behind as many as are wanted of those that are held can be passed over
  pub stands_without : (offset : ℕ) (limit : Option ℕ) (front : ℕ) (held : List X) (x d : X) → (most : ℕ) × (limit ≡ Some most) × (front ≡ offset + most) → 0 < front → front ≤ length held
      → IsSortedBy lt (take front held) → lt x (get_or held (front - 1) d) ≡ false → StandsFor cmp offset limit (held ++ x ∷ []) held
  stands_without offset limit front held x d w some many up last =
      let first = take front held in
      let full : length first ≡ front = length-take front held ∙ omega (arith, many) in
      let whole : first ++ drop front held ≡ held = take-append-drop front held in
      let long : front - 1 < length first = omega (arith, full, some) in
      let same : get_or held (front - 1) d ≡ get_or first (length first - 1) d =
      ap (λ l. get_or l (front - 1) d) (sym whole) ∙ get_or_append_left first (drop front held) d (front - 1) long ∙ ap (λ n. get_or first n d) (omega (arith, full)) in
      let behind = behind_first x d first up (subst (λ y. lt x y ≡ false) same last) in
      subst (λ l. StandsFor cmp offset limit (l ++ x ∷ []) l) whole (stands_over offset limit front first (drop front held) x w full up behind)

-- ---- by what elements show

pub least_map : {X Y : Type 0} (f : X → Y) (cmp : Y → Y → Ordering) (k : ℕ) (xs ys : List X) → IsKLeast (λ a b. is_lt (cmp (f a) (f b))) k xs ys → IsKLeast (λ a b. is_lt (cmp a b)) k (map f xs) (map f ys)
least_map f cmp k xs ys (up, few, rest, same, none, behind) =
    let l = length-map ys f in (
      sorted_map f cmp ys up,
      omega (arith, few, l),
      map f rest,
      subst (λ z. IsPermutation (map f xs) z) (map-append f ys rest) (IsPermutation-map f xs (ys ++ rest) same),
      (λ h. ap (map f) (none (omega (arith, h, l)))),
      All-map (λ z. All (λ r. is_lt (cmp z r) ≡ false) (map f ys)) f rest
          (All-weaker (λ z. All (λ r. is_lt (cmp (f z) (f r)) ≡ false) ys) (λ z. All (λ r. is_lt (cmp (f z) r) ≡ false) (map f ys)) (λ z h. All-map (λ r. is_lt (cmp (f z) r) ≡ false) f ys h) rest behind),
    )
