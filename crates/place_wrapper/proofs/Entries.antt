-- Entries whose numbers rise.
use Rattle.std.proofs.Common.{◌≡◌, ◌≢◌, ◌≤◌, ◌<◌, ◌+◌, ◌-◌, ◌⊎◌, ℕ, Bool, true, false, cond, eqb, inl, inr, IsSome, List, [], ◌∷◌, ◌++◌, Option, Some, None, length, set, slice_get, zero, suc, refl, ap, sym, ◌∙◌, subst, get_or, arith, rules}
use Rattle.std.specs.Ordering.{nat_cmp}
use Rattle.std.specs.List.{remove}
use Rattle.std.specs.Option.{unwrap_or}
use Rattle.std.proofs.lemmas.Option.{unwrap_or-slice_get, slice_get_within}
use Rattle.std.proofs.lemmas.Bool.Decides.{eqb_tells}
use Rattle.std.specs.BTreeMap.{is_at}
use Rattle.place_wrapper.specs.Mapped.{live_at, Updates, numbers, Rise}
use Rattle.place_wrapper.proofs.Maps.{apart}

itself : (k : ℕ) → is_at (nat_cmp k) k ≡ true
itself k = search rules

-- a number that is not the other is told apart from it the other way round too
turned : (k q : ℕ) → is_at (nat_cmp k) q ≡ false → k ≢ q
turned k q e same = let at : is_at (nat_cmp k) q ≡ true = subst (λ (i : ℕ). is_at (nat_cmp k) i ≡ true) same (itself k) in absurd cc

module _ {X : Type 0} where
  at_least : (least next at : ℕ) (es : List (ℕ × X)) (e : ℕ × X) → Rise least next (numbers es) → slice_get es at ≡ Some e → least ≤ e.0
  at_least least next at [] e h is = absurd cc
  at_least least next zero (d ∷ es) e h is = let same : d ≡ e = cc in subst (λ (x : ℕ × X). least ≤ x.0) same h.0
  at_least least next (suc at) (d ∷ es) e h is = let w = at_least (d.0 + 1) next at es e h.1 is in let v = h.0 in omega arith

  other_first : (least next at : ℕ) (d : ℕ × X) (es : List (ℕ × X)) (e : ℕ × X) → Rise least next (numbers (d ∷ es)) → slice_get es at ≡ Some e → is_at (nat_cmp e.0) d.0 ≡ false
  other_first least next at d es e h is = apart e.0 d.0 (λ same. let w = at_least (d.0 + 1) next at es e h.1 is in absurd (omega (arith, same)))

  -- the entry at a place is what stands under its number
  pub found : (least next at : ℕ) (es : List (ℕ × X)) (e : ℕ × X) → Rise least next (numbers es) → slice_get es at ≡ Some e → live_at es e.0 ≡ Some e.1
  found least next at [] e h is = absurd cc
  found least next zero (d ∷ es) e h is =
      let same : d ≡ e = cc in
      subst (λ (x : ℕ × X). cond (is_at (nat_cmp e.0) x.0) (Some x.1) (live_at es e.0) ≡ Some e.1) (sym same) (rw (itself e.0) refl)
  found least next (suc at) (d ∷ es) e h is = rw (other_first least next at d es e h is) (found (d.0 + 1) next at es e h.1 is)

  -- another value at a place is another value under its number
  set_there : (least next at : ℕ) (es : List (ℕ × X)) (e : ℕ × X) (v : X) → Rise least next (numbers es) → slice_get es at ≡ Some e → live_at (set es at (e.0, v)) e.0 ≡ Some v
  set_there least next at [] e v h is = absurd cc
  set_there least next zero (d ∷ es) e v h is = rw (itself e.0) refl
  set_there least next (suc at) (d ∷ es) e v h is = rw (other_first least next at d es e h is) (set_there (d.0 + 1) next at es e v h.1 is)

  set_others : (at : ℕ) (es : List (ℕ × X)) (e : ℕ × X) (v : X) (q : ℕ) → slice_get es at ≡ Some e → is_at (nat_cmp q) e.0 ≡ false → live_at (set es at (e.0, v)) q ≡ live_at es q
  set_others at [] e v q is differs = absurd cc
  set_others zero (d ∷ es) e v q is differs =
      let same : d ≡ e = cc in
      rw differs (subst (λ (x : ℕ × X). live_at es q ≡ cond (is_at (nat_cmp q) x.0) (Some x.1) (live_at es q)) (sym same) (rw differs refl))
  set_others (suc at) (d ∷ es) e v q is differs = ap (cond (is_at (nat_cmp q) d.0) (Some d.1)) (set_others at es e v q is differs)

  pub set_updates : (least next at : ℕ) (es : List (ℕ × X)) (e : ℕ × X) (v : X) → Rise least next (numbers es) → slice_get es at ≡ Some e → Updates es (set es at (e.0, v)) e.0 (Some v)
  set_updates least next at es e v h is = record {
    there = set_there least next at es e v h is;
    others = λ q differs. set_others at es e v q is (apart q e.0 (λ same. turned e.0 q differs same));
  }

  pub set_numbers : (at : ℕ) (es : List (ℕ × X)) (e : ℕ × X) (v : X) → slice_get es at ≡ Some e → numbers (set es at (e.0, v)) ≡ numbers es
  set_numbers at [] e v is = absurd cc
  set_numbers zero (d ∷ es) e v is = let same : d ≡ e = cc in ap (λ (x : ℕ × X). x.0 ∷ numbers es) (sym same)
  set_numbers (suc at) (d ∷ es) e v is = ap (λ (ks : List ℕ). d.0 ∷ ks) (set_numbers at es e v is)

  -- what stands under numbers that are all above it is not what stands under this one
  pub none_above : (q least next : ℕ) (es : List (ℕ × X)) → q < least → Rise least next (numbers es) → live_at es q ≡ None
  none_above q least next [] lt h = refl
  none_above q least next (d ∷ es) lt h =
      let v = h.0 in
      rw (apart q d.0 (λ same. absurd (omega (arith, same)))) (none_above q (d.0 + 1) next es (omega arith) h.1)

  next_above : (least next : ℕ) (es : List (ℕ × X)) → Rise least next (numbers es) → least ≤ next
  next_above least next [] h = h
  next_above least next (d ∷ es) h = let w = next_above (d.0 + 1) next es h.1 in let v = h.0 in omega arith

  -- a new number is behind all others
  pushed_there : (least next : ℕ) (es : List (ℕ × X)) (v : X) → Rise least next (numbers es) → live_at (es ++ (next, v) ∷ []) next ≡ Some v
  pushed_there least next [] v h = rw (itself next) refl
  pushed_there least next (d ∷ es) v h =
      let w = next_above (d.0 + 1) next es h.1 in
      rw (apart next d.0 (λ same. absurd (omega (arith, same)))) (pushed_there (d.0 + 1) next es v h.1)

  pushed_others : (es : List (ℕ × X)) (k q : ℕ) (v : X) → is_at (nat_cmp q) k ≡ false → live_at (es ++ (k, v) ∷ []) q ≡ live_at es q
  pushed_others [] k q v differs = rw differs refl
  pushed_others (d ∷ es) k q v differs = ap (cond (is_at (nat_cmp q) d.0) (Some d.1)) (pushed_others es k q v differs)

  pushed_updates : (least next : ℕ) (es : List (ℕ × X)) (v : X) → Rise least next (numbers es) → Updates es (es ++ (next, v) ∷ []) next (Some v)
  pushed_updates least next es v h = record {
    there = pushed_there least next es v h;
    others = λ q differs. pushed_others es next q v (apart q next (λ same. turned next q differs same));
  }

  pushed_rise : (least next : ℕ) (es : List (ℕ × X)) (v : X) → Rise least next (numbers es) → Rise least (next + 1) (numbers (es ++ (next, v) ∷ []))
  pushed_rise least next [] v h = (h, let e : next + 1 ≤ next + 1 = omega arith in e)
  pushed_rise least next (d ∷ es) v h = (h.0, pushed_rise (d.0 + 1) next es v h.1)

  pub pushed : (next : ℕ) (es fs : List (ℕ × X)) (v : X) → Rise 0 next (numbers es) → fs ≡ es ++ (next, v) ∷ [] → Updates es fs next (Some v)
  pushed next es fs v h is = subst (λ (gs : List (ℕ × X)). Updates es gs next (Some v)) (sym is) (pushed_updates 0 next es v h)

  pub pushed_rising : (next : ℕ) (es fs : List (ℕ × X)) (v : X) → Rise 0 next (numbers es) → fs ≡ es ++ (next, v) ∷ [] → Rise 0 (next + 1) (numbers fs)
  pushed_rising next es fs v h is = subst (λ (gs : List (ℕ × X)). Rise 0 (next + 1) (numbers gs)) (sym is) (pushed_rise 0 next es v h)

  -- an entry less
  removed_there : (least next at : ℕ) (es : List (ℕ × X)) (e : ℕ × X) → Rise least next (numbers es) → slice_get es at ≡ Some e → live_at (remove es at) e.0 ≡ None
  removed_there least next at [] e h is = absurd cc
  removed_there least next zero (d ∷ es) e h is =
      let same : d ≡ e = cc in
      none_above e.0 (e.0 + 1) next es (omega arith) (subst (λ (x : ℕ × X). Rise (x.0 + 1) next (numbers es)) same h.1)
  removed_there least next (suc at) (d ∷ es) e h is = rw (other_first least next at d es e h is) (removed_there (d.0 + 1) next at es e h.1 is)

  removed_others : (at : ℕ) (es : List (ℕ × X)) (e : ℕ × X) (q : ℕ) → slice_get es at ≡ Some e → is_at (nat_cmp q) e.0 ≡ false → live_at (remove es at) q ≡ live_at es q
  removed_others at [] e q is differs = absurd cc
  removed_others zero (d ∷ es) e q is differs =
      let same : d ≡ e = cc in subst (λ (x : ℕ × X). live_at es q ≡ cond (is_at (nat_cmp q) x.0) (Some x.1) (live_at es q)) (sym same) (rw differs refl)
  removed_others (suc at) (d ∷ es) e q is differs = ap (cond (is_at (nat_cmp q) d.0) (Some d.1)) (removed_others at es e q is differs)

  pub removed_updates : (least next at : ℕ) (es : List (ℕ × X)) (e : ℕ × X) → Rise least next (numbers es) → slice_get es at ≡ Some e → Updates es (remove es at) e.0 None
  removed_updates least next at es e h is = record {
    there = removed_there least next at es e h is;
    others = λ q differs. removed_others at es e q is (apart q e.0 (λ same. turned e.0 q differs same));
  }

  lower : (least less next : ℕ) (es : List (ℕ × X)) → less ≤ least → Rise least next (numbers es) → Rise less next (numbers es)
  lower least less next [] le h = let w = h in omega arith
  lower least less next (d ∷ es) le h = (let w = h.0 in omega arith, h.1)

  pub removed_rise : (least next at : ℕ) (es : List (ℕ × X)) (e : ℕ × X) → Rise least next (numbers es) → slice_get es at ≡ Some e → Rise least next (numbers (remove es at))
  removed_rise least next at [] e h is = absurd cc
  removed_rise least next zero (d ∷ es) e h is = lower (d.0 + 1) least next es (let w = h.0 in omega arith) h.1
  removed_rise least next (suc at) (d ∷ es) e h is = (h.0, removed_rise (d.0 + 1) next at es e h.1 is)

  -- what is lent at the place of a number
  pub record Lends (es : List (ℕ × X)) (at number : ℕ) (now : ℕ × X) : Type 0 where
    pub live : live_at es number ≡ Some now.1
    pub updates : (v : X) → Updates es (set es at (now.0, v)) number (Some v)
    pub same : (v : X) → numbers (set es at (now.0, v)) ≡ numbers es

  pub lends : (es : List (ℕ × X)) (at number : ℕ) (now d : ℕ × X) → (s : X) × (slice_get es at ≡ Some (number, s)) → (next : ℕ) × Rise 0 next (numbers es) → now ≡ get_or es at d → Lends es at number now
  lends es at number now d there rising read =
      let is_now : now ≡ (number, there.0) = read ∙ sym (unwrap_or-slice_get es at d) ∙ ap (λ (o : Option (ℕ × X)). unwrap_or o d) there.1 in
      let there_now : slice_get es at ≡ Some now = there.1 ∙ ap (λ (e : ℕ × X). Some e) (sym is_now) in
      let number_is : now.0 ≡ number = ap (λ (e : ℕ × X). e.0) is_now in
      record {
        live = subst (λ (k : ℕ). live_at es k ≡ Some now.1) number_is (found 0 rising.0 at es now rising.1 there_now);
        updates = λ v. subst (λ (k : ℕ). Updates es (set es at (now.0, v)) k (Some v)) number_is (set_updates 0 rising.0 at es now v rising.1 there_now);
        same = λ v. set_numbers at es now v there_now;
      }

  -- the entry that is read at a place within
  pub read_there : (es : List (ℕ × X)) (at : ℕ) (now d : ℕ × X) → at < length es → now ≡ get_or es at d → slice_get es at ≡ Some now
  read_there [] at now d within read = absurd (omega arith)
  read_there (e ∷ es) zero now d within read = ap (λ (x : ℕ × X). Some x) (sym read)
  read_there (e ∷ es) (suc at) now d within read = read_there es at now d (omega arith) read

  -- of two entries the one of the lesser number stands first
  pub before : (least next at later : ℕ) (es : List (ℕ × X)) (e f : ℕ × X) → Rise least next (numbers es)
      → slice_get es at ≡ Some e → slice_get es later ≡ Some f → e.0 < f.0 → at < later
  before least next at later [] e f h is there lt = absurd cc
  before least next zero zero (d ∷ es) e f h is there lt = let same : e ≡ f = cc in absurd (omega (arith, ap (λ (x : ℕ × X). x.0) same))
  before least next zero (suc later) (d ∷ es) e f h is there lt = omega arith
  before least next (suc at) zero (d ∷ es) e f h is there lt =
      let same : d ≡ f = cc in
      let w = at_least (d.0 + 1) next at es e h.1 is in
      absurd (omega (arith, ap (λ (x : ℕ × X). x.0) same))
  before least next (suc at) (suc later) (d ∷ es) e f h is there lt =
      let w = before (d.0 + 1) next at later es e f h.1 is there lt in omega arith

  pub not_after : (least next at later : ℕ) (es : List (ℕ × X)) (e f : ℕ × X) → Rise least next (numbers es)
      → slice_get es at ≡ Some e → slice_get es later ≡ Some f → e.0 ≤ f.0 → at ≤ later
  not_after least next at later [] e f h is there le = absurd cc
  not_after least next zero later (d ∷ es) e f h is there le = omega arith
  not_after least next (suc at) zero (d ∷ es) e f h is there le =
      let same : d ≡ f = cc in
      let w = at_least (d.0 + 1) next at es e h.1 is in
      absurd (omega (arith, ap (λ (x : ℕ × X). x.0) same))
  not_after least next (suc at) (suc later) (d ∷ es) e f h is there le =
      let w = not_after (d.0 + 1) next at later es e f h.1 is there le in omega arith

  -- the entry of a number, at one of the places from a first to an end, that one too
  pub record Among (es : List (ℕ × X)) (number first end : ℕ) : Type 0 where
    pub place : ℕ
    pub value : X
    pub is : slice_get es place ≡ Some (number, value)
    pub least : first ≤ place
    pub most : place ≤ end

  among_first : (d : ℕ × X) (es : List (ℕ × X)) (number : ℕ) → (IsSome (live_at es number) → Among es number 0 (length es - 1))
      → ((eqb d.0 number ≡ true) × (d.0 ≡ number)) ⊎ ((eqb d.0 number ≡ false) × (d.0 ≢ number)) → IsSome (live_at (d ∷ es) number)
      → Among (d ∷ es) number 0 (length (d ∷ es) - 1)
  among_first d es number rest (inl s) live =
      record { place = zero; value = d.1; is = ap (λ (k : ℕ). Some (k, d.1)) s.1; least = omega arith; most = omega arith }
  among_first d es number rest (inr s) live =
      let r = rest (subst (λ (b : Bool). IsSome (cond b (Some d.1) (live_at es number))) (apart number d.0 s.1) live) in
      let within = slice_get_within es r.place _ r.is in
      let most = r.most in
      record { place = suc r.place; value = r.value; is = r.is; least = omega arith; most = omega arith }

  pub among_all : (es : List (ℕ × X)) (number : ℕ) → IsSome (live_at es number) → Among es number 0 (length es - 1)
  among_all [] number live = absurd cc
  among_all (d ∷ es) number live = among_first d es number (among_all es number) (eqb_tells d.0 number) live

  pub last_within : (es : List (ℕ × X)) (number : ℕ) → IsSome (live_at es number) → length es - 1 < length es
  last_within [] number live = absurd cc
  last_within (d ∷ es) number live = omega arith

  pub among_later : (next number first end at : ℕ) (es : List (ℕ × X)) (now : ℕ × X) → Rise 0 next (numbers es)
      → slice_get es at ≡ Some now → now.0 < number → Among es number first end → Among es number (at + 1) end
  among_later next number first end at es now h there lt a =
      let later = before 0 next at a.place es now (number, a.value) h there a.is lt in
      record { place = a.place; value = a.value; is = a.is; least = omega arith; most = a.most }

  pub among_earlier : (next number first end at : ℕ) (es : List (ℕ × X)) (now : ℕ × X) → Rise 0 next (numbers es)
      → slice_get es at ≡ Some now → number ≤ now.0 → Among es number first end → Among es number first at
  among_earlier next number first end at es now h there le a =
      let most = not_after 0 next a.place at es (number, a.value) now h a.is there le in
      record { place = a.place; value = a.value; is = a.is; least = a.least; most = most }

  pub among_one : (es : List (ℕ × X)) (number first end : ℕ) → end ≤ first → Among es number first end
      → (x : X) × (slice_get es first ≡ Some (number, x))
  among_one es number first end one a =
      let same : a.place ≡ first = let v = a.least in let w = a.most in omega arith in
      (a.value, subst (λ (at : ℕ). slice_get es at ≡ Some (number, a.value)) same a.is)
