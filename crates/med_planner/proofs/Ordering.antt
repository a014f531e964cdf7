-- Where a limit is promised, the rows of a query's only level come in the order that ORDER BY asks for.
use Rattle.std.proofs.Common.{◌≡◌, ◌≢◌, ℕ, zero, suc, ◌+◌, ◌^◌, ◌<◌, ◌≤◌, ◌⊎◌, inl, inr, Bool, true, false, not, ◌&&◌, ◌||◌, cond, eqb, nat_eq, nat_lt, min, List, [], ◌∷◌, map, length, All, Contains, sum, Option, Some, None, is_some, refl, sym, ap, ◌∙◌, subst, arith}
use Rattle.std.specs.List.{filter, list_all, list_any, range_with_len}
use Rattle.std.specs.Option.{is_some as some_there}
use Rattle.std.proofs.lemmas.Bool.Decides.{eqb_tells}
use Rattle.tri_expr.specs.Tree.{Tree, column, parenthesised, tree}
use Rattle.med_query.specs.Prelude.{Direction, ChainForm, CoreForm, direction_of, core_form}
use Rattle.med_query.specs.declared.select.SelectCore.{SelectCore}
use Rattle.med_query.specs.declared.select.Grouping.{Grouping}
use Rattle.med_query.specs.declared.select.Select.{Select}
use Rattle.med_binder.specs.declared.bound.BoundEntry.{BoundEntry}
use Rattle.med_binder.specs.Within.{IsWithin}
use Rattle.fdw_api.specs.Prelude.{KeyForm, WishForm, wish_form, spec2_of, all_exact, has_no_order, is_fair, BoxState}
use Rattle.fdw_api.specs.declared.scan.Agree.{Agree}
use Rattle.fdw_api.specs.declared.scan.Agree.TheVariants.{Ignored, Hint, Exact}
use Rattle.fdw_api.specs.declared.wishes.Agreement2.{Agreement2}
use Rattle.pushdown.specs.Joins.{Each}
use Rattle.pushdown.specs.Columns.{columns_in}
use Rattle.pushdown.specs.Tests.{TestOf}
use Rattle.pushdown.specs.Offers.{next_by, tests_of, forms_from, again_by}
use Rattle.scan_loops.specs.declared.levels.LoopLevel.{LoopLevel}
use Rattle.scan_loops.specs.Prelude.{key_column, with_key, order_of, IsShownCore, IsEnough, ComesInOrder, all_safe}
use Rattle.med_planner.specs.Places.{further}
use Rattle.med_planner.specs.Flat.{Part, end_after, from_parts}
use Rattle.med_planner.specs.Offered.{OfferForm, decided, wanted_of, offer_of, offers_from, core_conditions, core_reads, IsLevelOf, AreLevels}
use Rattle.med_planner.specs.Wished.{no_wish, is_shown_core, rows_enough, all_offered, wish_by, core_wish, wish_for, wish_of, IsUnlimited, ComesAlone}
use Rattle.med_planner.specs.Premises.{IsAllowed, AreAllowed, WishedComeInOrder, UnwishedAreUnlimited}
use Rattle.med_planner.proofs.Counting.{most, own_widths, own_are, own_small, from_end}
use Rattle.med_planner.proofs.Matching.{all_each}
use Rattle.med_planner.proofs.Pulling.{and_left, and_right}
use Rattle.med_planner.proofs.Seen.{Stands, grows}
use Rattle.med_planner.proofs.SeenJoins.{reads_all}
use Rattle.med_planner.proofs.Splits.{part_by}
use Rattle.med_planner.proofs.Viewing.{columns_below}

-- ---- nothing is checked again

list_none : {X : Type 0} (f : X → Tree) (xs : List X) → map f xs ≡ [] → xs ≡ []
list_none f [] e = refl
list_none f (x ∷ xs) e = absurd cc

-- all are offered, and each is answered Exact
none_again : (os : List (Option TestOf)) (ts : List Tree) (answers : List Agree) (k : ℕ) → length os ≡ length ts → list_all (λ b. b) (map some_there os) ≡ true → all_exact answers ≡ true
    → length answers ≡ length (forms_from k os) → again_by (map some_there os) answers ts ≡ []
none_again os [] answers k many offered exact long = refl
none_again [] (t ∷ ts) answers k many offered exact long = absurd (omega (arith, many))
none_again (None ∷ os) (t ∷ ts) answers k many offered exact long = absurd cc
none_again (Some o ∷ os) (t ∷ ts) [] k many offered exact long = absurd (omega (arith, long))
none_again (Some o ∷ os) (t ∷ ts) (Exact ∷ answers) k many offered exact long = none_again os ts answers (next_by o k) (omega (arith, many)) offered exact (omega (arith, long))
none_again (Some o ∷ os) (t ∷ ts) (Hint ∷ answers) k many offered exact long = absurd cc
none_again (Some o ∷ os) (t ∷ ts) (Ignored ∷ answers) k many offered exact long = absurd cc

tests_many : (base width : ℕ) (ts : List Tree) → length (tests_of base width ts) ≡ length ts
tests_many base width [] = refl
tests_many base width (t ∷ ts) = ap suc (tests_many base width ts)

-- ---- the columns of an order

key_one : (P : ℕ → Type 0) (t : Tree) (at : ℕ) → key_column t ≡ Some at → Each P (columns_in t) → P at
key_one P (column c) at same each = let e : c ≡ at = cc in subst P e each.0
key_one P (parenthesised u) at same each = key_one P u at same each
key_one P u at same each = absurd cc

-- what is so of the columns of each key is so of those of the order
order_columns : (P : ℕ → Type 0) (ds : List Direction) (ts : List Tree) (ks : List KeyForm) → order_of ds ts ≡ Some ks → Each (λ t. Each P (columns_in t)) ts → Each (λ (k : KeyForm). P k.column) ks
order_columns P [] [] [] e h = tt
order_columns P [] [] (k ∷ ks) e h = absurd cc
order_columns P [] (t ∷ ts) ks e h = absurd cc
order_columns P (d ∷ ds) [] ks e h = absurd cc
order_columns P (d ∷ ds) (t ∷ ts) ks e h = step (λ more g. order_columns P ds ts more g h.1) (key_column t) (order_of ds ts) refl refl e
  where
    step : ((more : List KeyForm) → order_of ds ts ≡ Some more → Each (λ (k : KeyForm). P k.column) more) → (o : Option ℕ) (later : Option (List KeyForm)) → key_column t ≡ o → order_of ds ts ≡ later → with_key d o later ≡ Some ks → Each (λ (k : KeyForm). P k.column) ks
    step rest None later f g is = absurd cc
    step rest (Some at) None f g is = absurd cc
    step rest (Some at) (Some more) f g is =
        let own : KeyForm = record { column = at; descending = d.descending; nulls_first = d.nulls_first } in
        let same : own ∷ more ≡ ks = cc in
        subst (Each (λ (k : KeyForm). P k.column)) same (key_one P t at f h.0, rest more g)

-- a column that is chosen of some is one of them
chosen_stands : (p : ℕ → Bool) (k n c : ℕ) → k ≤ c → c < k + n → p c ≡ true → Stands (filter p (range_with_len k n)) c
chosen_stands p k zero c le lt h = absurd (omega (arith, le, lt))
chosen_stands p k (suc n) c le lt h = split (λ up. chosen_stands p (k + 1) n c up (omega (arith, lt)) h) (eqb_tells c k)
  where
    first : (b : Bool) (rest : List ℕ) → eqb c k ≡ true → b ≡ true → Stands (cond b (k ∷ rest) rest) c
    first true rest e i = ap (λ (q : Bool). q || list_any (nat_eq c) rest) e
    first false rest e i = absurd cc

    later : (b : Bool) (rest : List ℕ) → Stands rest c → Stands (cond b (k ∷ rest) rest) c
    later true rest s = either (eqb c k) s
      where
        either : (q : Bool) → list_any (nat_eq c) rest ≡ true → (q || list_any (nat_eq c) rest) ≡ true
        either true s = refl
        either false s = s
    later false rest s = s

    split : (k + 1 ≤ c → Stands (filter p (range_with_len (k + 1) n)) c) → ((eqb c k ≡ true) × (c ≡ k)) ⊎ ((eqb c k ≡ false) × (c ≢ k)) → Stands (cond (p k) (k ∷ filter p (range_with_len (k + 1) n)) (filter p (range_with_len (k + 1) n))) c
    split more (inl s) = first (p k) (filter p (range_with_len (k + 1) n)) s.0 (ap p (sym s.1) ∙ h)
    split more (inr s) = later (p k) (filter p (range_with_len (k + 1) n)) (more (grows k c le (λ e. s.1 (sym e))))

contains_at : (xs : List ℕ) (c : ℕ) → Stands xs c → Contains xs c
contains_at [] c h = absurd cc
contains_at (x ∷ xs) c h = split (contains_at xs c) (eqb_tells c x)
  where
    split : (Stands xs c → Contains xs c) → ((eqb c x ≡ true) × (c ≡ x)) ⊎ ((eqb c x ≡ false) × (c ≢ x)) → Contains (x ∷ xs) c
    split more (inl s) = (0, omega arith, sym s.1)
    split more (inr s) =
        let later : Stands xs c = ap (λ (b : Bool). b || list_any (nat_eq c) xs) (sym s.0) ∙ h in
        let i = more later in
        (suc i.0, (let lt = i.1 in omega (arith, lt)), i.2)

each_every : {X : Type 0} (P : X → Type 0) (xs : List X) → Each P xs → All P xs
each_every P [] h k d lt = absurd (omega (arith, lt))
each_every P (x ∷ xs) h zero d lt = h.0
each_every P (x ∷ xs) h (suc k) d lt = each_every P xs h.1 k d (omega (arith, lt))

-- ---- what is wished with a limit

record Wished (s : Select) (c : SelectCore) (o : OfferForm) (w : WishForm) : Type 0 where
  shown : is_shown_core c ≡ true
  order : order_of (map direction_of s.directions.items) (map tree c.keys.items) ≡ Some w.order
  offered : all_offered o ≡ true
  enough : IsEnough s w.limit

enough_is : (s : Select) (limit : Option ℕ) → s.limit ≡ limit → IsEnough s (rows_enough s.offset limit)
enough_is s None e = tt
enough_is s (Some most) e = step (nat_lt (s.offset + most) (2 ^ 64))
  where
    step : (b : Bool) → IsEnough s (cond b (Some (s.offset + most)) None)
    step true = (most, e, omega arith)
    step false = tt

module _ (s : Select) (c : SelectCore) (o : OfferForm) where
  abbrev order_asked : Option (List KeyForm)
  order_asked = order_of (map direction_of s.directions.items) (map tree c.keys.items)

  by_order : (order : Option (List KeyForm)) → order_asked ≡ order → is_shown_core c ≡ true → is_some (wish_by s o order).limit ≡ true → Wished s c o (wish_by s o order)
  by_order None e shown h = absurd cc
  by_order (Some ks) e shown h = step (all_offered o) refl h
    where
      step : (b : Bool) → all_offered o ≡ b → is_some (cond b (rows_enough s.offset s.limit) None) ≡ true → Wished s c o (record { order = ks; limit = cond b (rows_enough s.offset s.limit) None })
      step true f h = record { shown = shown; order = e; offered = f; enough = enough_is s s.limit refl }
      step false f h = absurd cc

  wished : is_some (core_wish s c o).limit ≡ true → Wished s c o (core_wish s c o)
  wished h = step (is_shown_core c) refl h
    where
      step : (b : Bool) → is_shown_core c ≡ b → is_some (cond b (wish_by s o order_asked) no_wish).limit ≡ true → Wished s c o (cond b (wish_by s o order_asked) no_wish)
      step true e h = by_order order_asked refl e h
      step false e h = absurd cc

shown_core : (c : SelectCore) → is_shown_core c ≡ true → IsShownCore c
shown_core c h =
    let safe = all_safe c.conditions.items in
    let items = all_safe c.items.items in
    let alone = not (some_there c.grouping) in
    let a = and_right safe (alone && (items && not c.distinct)) h in
    let b = and_right alone (items && not c.distinct) a in
    record {
      conditions = and_left safe (alone && (items && not c.distinct)) h;
      ungrouped = none_there c.grouping (and_left alone (items && not c.distinct) a);
      items = and_left items (not c.distinct) b;
      all_rows = not_true c.distinct (and_right items (not c.distinct) b);
    }
  where
    none_there : (g : Option Grouping) → not (some_there g) ≡ true → g ≡ None
    none_there None h = refl
    none_there (Some g) h = absurd cc

    not_true : (b : Bool) → not b ≡ true → b ≡ false
    not_true true h = absurd cc
    not_true false h = refl

-- ---- one level

-- the order that is promised is the one that is wished
promised_order : (w : WishForm) (ordered : Bool) → (ordered || has_no_order w) ≡ true → cond ordered w.order [] ≡ w.order
promised_order w true h = refl
promised_order w false h = step w.order h
  where
    step : (ks : List KeyForm) → has_no_order (record { order = ks; limit = w.limit }) ≡ true → [] ≡ ks
    step [] h = refl
    step (k ∷ ks) h = absurd cc

least_same : (a m : ℕ) → a < m → min (a + 0) m ≡ a
least_same a m h = omega (arith, h)

module _ (s : Select) (c : SelectCore) (es : List BoundEntry) (w : WishForm) (table width : ℕ) (on now : List Tree) (a : Agreement2) (l : LoopLevel) where
  abbrev read : List ℕ
  read = core_reads es (core_form c)

  abbrev offer_at : Bool → OfferForm
  offer_at outer = offer_of es read 0 (part_by table width outer on) now

  abbrev IsKey : ℕ → Type 0
  IsKey at = (at < width) × Stands read at

  wants : width < most → l.spec.base.wanted.items ≡ wanted_of read 0 width → (at : ℕ) → IsKey at → Contains l.spec.base.wanted.items at
  wants small same at key =
      let p = λ (k : ℕ). list_any (nat_eq (further 0 k)) read in
      let lt = key.0 in
      let further_is : further 0 at ≡ at = least_same at most (let few = small in omega (arith, lt, few)) in
      let chosen = chosen_stands p 0 width at (omega arith) (omega (arith, lt)) (ap (λ (k : ℕ). list_any (nat_eq k) read) further_is ∙ key.1) in
      subst (λ (cs : List ℕ). Contains cs at) (sym same) (contains_at (wanted_of read 0 width) at chosen)

  wants_each : (P Q : ℕ → Type 0) → ((at : ℕ) → P at → Q at) → (ks : List KeyForm) → Each (λ (k : KeyForm). P k.column) ks → Each (λ (k : KeyForm). Q k.column) ks
  wants_each P Q f [] h = tt
  wants_each P Q f (k ∷ ks) h = (f k.column h.0, wants_each P Q f ks h.1)

  comes : s.cores.items ≡ c ∷ [] → width < most → Each (λ t. Each IsKey (columns_in t)) (map tree c.keys.items) → all_exact a.base.answers.items ≡ true → (a.ordered || has_no_order w) ≡ true → a.limited ≡ true
      → (outer : Bool) → outer ≡ false → length a.base.answers.items ≡ length (offer_at outer).forms → Wished s c (offer_at outer) w → IsLevelOf w (offer_at outer) a l → ComesInOrder s c l
  comes one small keys exact ordered limited true e long wish is = absurd cc
  comes one small keys exact ordered limited false e long wish is =
      let order : (spec2_of l.spec).order ≡ w.order = ap (λ (v : WishForm). cond l.spec.ordered v.order []) is.wish ∙ ap (λ (b : Bool). cond b w.order []) is.ordered ∙ promised_order w a.ordered ordered in
      let limit : (spec2_of l.spec).limit ≡ w.limit = ap (λ (v : WishForm). cond l.spec.limited v.limit None) is.wish ∙ ap (λ (b : Bool). cond b w.limit None) (is.limited ∙ limited) in
      let wanted : Each (λ (k : KeyForm). IsKey k.column) w.order = order_columns IsKey (map direction_of s.directions.items) (map tree c.keys.items) w.order wish.order keys in
      let Held = λ (at : ℕ). Contains l.spec.base.wanted.items at in
      let none : map tree l.conditions.items ≡ [] = is.conditions ∙ none_again (tests_of 0 width now) now a.base.answers.items 0 (tests_many 0 width now) wish.offered exact long in
      record {
        core = one;
        shown = shown_core c wish.shown;
        inner = is.outer;
        order = wish.order ∙ ap (λ (ks : List KeyForm). Some ks) (sym order);
        wanted = λ narrow. subst (λ (ks : List KeyForm). All (λ (k : KeyForm). Contains l.spec.base.wanted.items k.column) ks) (sym order)
            (each_every (λ (k : KeyForm). Held k.column) w.order (wants_each IsKey Held (wants small is.wanted) w.order wanted));
        enough = subst (IsEnough s) (sym limit) wish.enough;
        bare = λ some. record { inner = is.outer; on = list_none tree l.on.items is.on; conditions = list_none tree l.conditions.items none };
      }

-- ---- no limit

none_promised : (b : Bool) (limit : Option ℕ) → limit ≡ None → cond b limit None ≡ None
none_promised true limit e = e
none_promised false limit e = refl

pub unwished_are : UnwishedAreUnlimited
unwished_are w [] [] [] none h = tt
unwished_are w [] [] (l ∷ ls) none h = absurd h
unwished_are w [] (a ∷ answers) ls none h = absurd h
unwished_are w (o ∷ os) [] ls none h = absurd h
unwished_are w (o ∷ os) (a ∷ answers) [] none h = absurd h
unwished_are w (o ∷ os) (a ∷ answers) (l ∷ ls) none h =
    (ap (λ (v : WishForm). cond l.spec.limited v.limit None) h.0.wish ∙ none_promised l.spec.limited w.limit none, unwished_are w os answers ls none h.1)

-- ---- one core

first_inner : (es : List BoundEntry) (cs : List ChainForm) (p : Part) (ps : List Part) → from_parts es 0 cs ≡ p ∷ ps → p.outer ≡ false
first_inner es [] p ps e = absurd cc
first_inner es (c ∷ cs) p ps e = sym (ap first_outer e)
  where
    first_outer : List Part → Bool
    first_outer [] = false
    first_outer (p ∷ ps) = p.outer

module _ (s : Select) (c : SelectCore) (es : List BoundEntry) (boxes : List (Option BoxState)) (w : WishForm) where
  abbrev columns_read : List ℕ
  columns_read = core_reads es (core_form c)

  abbrev offers_by : List Tree → List Part → List OfferForm
  offers_by cs ps = offers_from es columns_read 0 cs ps

  one_comes : (cs : List Tree) (p : Part) (a : Agreement2) (l : LoopLevel) → s.cores.items ≡ c ∷ [] → w ≡ wish_of s (offers_by cs (p ∷ []) ∷ []) → p.outer ≡ false → p.width < most
      → Each (λ t. Each (λ at. (at < p.width) × Stands columns_read at) (columns_in t)) (map tree c.keys.items) → IsAllowed boxes w (offer_of es columns_read 0 p (decided (further p.width 0) cs)) a
      → IsLevelOf w (offer_of es columns_read 0 p (decided (further p.width 0) cs)) a l → Each IsUnlimited (l ∷ []) ⊎ ComesAlone s c (l ∷ [])
  one_comes cs p a l one is_wish inner small keys allowed is = step a.limited refl
    where
      now : List Tree
      now = decided (further p.width 0) cs

      o : OfferForm
      o = offer_of es columns_read 0 p now

      step : (b : Bool) → a.limited ≡ b → Each IsUnlimited (l ∷ []) ⊎ ComesAlone s c (l ∷ [])
      step false e = inl (ap (λ (b : Bool). cond b (wish_form l.spec.wish).limit None) (is.limited ∙ e), tt)
      step true e =
          let fair : (is_some w.limit && (all_exact a.base.answers.items && (a.ordered || has_no_order w))) ≡ true = sym (ap (λ (b : Bool). is_fair w a.base.answers.items a.ordered b) e) ∙ allowed.fair in
          let some = and_left (is_some w.limit) (all_exact a.base.answers.items && (a.ordered || has_no_order w)) fair in
          let rest = and_right (is_some w.limit) (all_exact a.base.answers.items && (a.ordered || has_no_order w)) fair in
          let same : w ≡ core_wish s c o = is_wish ∙ ap (λ (cores : List SelectCore). wish_for s cores ((o ∷ []) ∷ [])) one in
          let wish : Wished s c o w = subst (Wished s c o) (sym same) (wished s c o (sym (ap (λ (v : WishForm). is_some v.limit) same) ∙ some)) in
          inr (record {
            level = l;
            only = refl;
            comes = comes s c es w p.table p.width p.on now a l one small keys (and_left (all_exact a.base.answers.items) (a.ordered || has_no_order w) rest)
                (and_right (all_exact a.base.answers.items) (a.ordered || has_no_order w) rest) e p.outer inner allowed.each wish is;
          })

  by_parts : (cs : List Tree) (ps : List Part) (answers : List Agreement2) (ls : List LoopLevel) → s.cores.items ≡ c ∷ [] → w ≡ wish_of s (offers_by cs ps ∷ [])
      → ((p : Part) → ps ≡ p ∷ [] → (p.outer ≡ false) × (p.width < most) × Each (λ t. Each (λ at. (at < p.width) × Stands columns_read at) (columns_in t)) (map tree c.keys.items))
      → AreAllowed boxes w (offers_by cs ps) answers → AreLevels w (offers_by cs ps) answers ls → Each IsUnlimited ls ⊎ ComesAlone s c ls
  by_parts cs [] answers ls one is_wish known allowed h =
      let same : w ≡ no_wish = is_wish ∙ ap (λ (cores : List SelectCore). wish_for s cores ([] ∷ [])) one in
      inl (unwished_are w (offers_by cs []) answers ls (ap (λ (v : WishForm). v.limit) same) h)
  by_parts cs (p ∷ q ∷ ps) answers ls one is_wish known allowed h =
      let same : w ≡ no_wish = is_wish ∙ ap (λ (cores : List SelectCore). wish_for s cores (offers_by cs (p ∷ q ∷ ps) ∷ [])) one in
      inl (unwished_are w (offers_by cs (p ∷ q ∷ ps)) answers ls (ap (λ (v : WishForm). v.limit) same) h)
  by_parts cs (p ∷ []) [] ls one is_wish known allowed h = absurd h
  by_parts cs (p ∷ []) (a ∷ answers) [] one is_wish known allowed h = absurd h
  by_parts cs (p ∷ []) (a ∷ []) (l ∷ []) one is_wish known allowed h =
      let k = known p refl in
      one_comes cs p a l one is_wish k.0 k.1 k.2 allowed.0 h.0
  by_parts cs (p ∷ []) (a ∷ b ∷ answers) (l ∷ ls) one is_wish known allowed h = absurd h.1
  by_parts cs (p ∷ []) (a ∷ []) (l ∷ m ∷ ls) one is_wish known allowed h = absurd h.1

each_two : {X : Type 0} (P Q : X → Type 0) (xs : List X) → Each P xs → Each Q xs → Each (λ x. P x × Q x) xs
each_two P Q [] h i = tt
each_two P Q (x ∷ xs) h i = ((h.0, i.0), each_two P Q xs h.1 i.1)

keys_are : (here : List ℕ) (sum width : ℕ) → sum ≡ width → (ts : List Tree) → Each (λ t. Each (Stands here) (columns_in t)) ts → Each (IsWithin sum) ts
    → Each (λ t. Each (λ at. (at < width) × Stands here at) (columns_in t)) ts
keys_are here sum width e [] h i = tt
keys_are here sum width e (t ∷ ts) h i =
    (each_two (λ at. at < width) (Stands here) (columns_in t) (subst (λ (n : ℕ). Each (λ at. at < n) (columns_in t)) e (columns_below sum t i.0)) h.0, keys_are here sum width e ts h.1 i.1)

least_width : (w s m : ℕ) → min (0 + w) m ≡ s → s < m → s ≡ w
least_width w s m e h = omega (arith, e, h)

pub wished_come : WishedComeInOrder
wished_come s c es boxes w answers ls one is_wish counts within places allowed levels =
    by_parts s c es boxes w (core_conditions es f) (from_parts es 0 f.from) answers ls one is_wish known allowed levels
  where
    f : CoreForm
    f = core_form c

    read : List ℕ
    read = core_reads es f

    mine : List ℕ
    mine = own_widths es f counts

    known : (p : Part) → from_parts es 0 f.from ≡ p ∷ [] → (p.outer ≡ false) × (p.width < most) × Each (λ t. Each (λ at. (at < p.width) × Stands read at) (columns_in t)) f.keys
    known p e =
        let small = own_small es f counts places in
        let end : further p.width 0 ≡ sum mine = sym (ap (λ (ps : List Part). end_after 0 ps) e) ∙ from_end es f counts places in
        let same : sum mine ≡ p.width = least_width p.width (sum mine) most end small in
        let keys : All (IsWithin (sum mine)) f.keys = subst (λ (ws : List ℕ). All (IsWithin (sum ws)) f.keys) (own_are es f counts) within.keys in
        (first_inner es f.from p [] e, subst (λ (n : ℕ). n < most) same small, keys_are read (sum mine) p.width same f.keys (reads_all es c).keys (all_each (IsWithin (sum mine)) f.keys keys))
