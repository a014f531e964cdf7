-- Cursors of a session: by their names, and with another run.
use Rattle.std.proofs.Common.{◌≡◌, ℕ, ◌+◌, ◌<◌, zero, suc, Bool, true, false, not, cond, if◌then◌else◌, List, [], ◌∷◌, ◌++◌, length, map, take, find, remove, replicate, slice_get, slice_set, get_or, Option, Some, None, is_some, option_map, bytes_eq, string_bytes, refl, ap, sym, ◌∙◌, subst, arith}
use Rattle.std.specs.List.{AllByRecursion, position}
use Rattle.std.specs.Option.{option_and_then}
use Rattle.std.proofs.lemmas.List.{length-map}
use Rattle.std.proofs.lemmas.List.Quantifiers.{position-Some}
use Rattle.std.proofs.lemmas.Map.Keys.{IsDistinct-head, IsDistinct-tail}
use Rattle.std.proofs.lemmas.Option.{slice_get-map, slice_get-get_or}
use Rattle.med_syntax.specs.Tree.{Name}
use Rattle.med_exec.specs.declared.running.Run.{Run}
use Rattle.med_world.specs.declared.cursors.Seat.{Seat}
use Rattle.med_world.specs.declared.cursors.OpenCursor.{OpenCursor}
use Rattle.med_world.specs.Open.{Opened, opened, seats_shown, seated, AreNamedApart, has_name, opened_named, without_named, with_run}
use Rattle.med_session.proofs.AddingLists.{within_some}
use Rattle.med_world.proofs.Lists.{each_at, same_bytes, bytes_same}

-- ---- places

-- one more place is empty
pub next_closed : (seats : List (Option Seat)) (k : ℕ) (o : Option Seat) → o ≡ None → k < length seats → seats_shown (take k seats) ≡ replicate k None → seats_shown (take (k + 1) (slice_set seats k o)) ≡ replicate (k + 1) None
next_closed [] k o e lt h = absurd (omega (arith, lt))
next_closed (x ∷ xs) zero o e lt h = ap (λ (z : Option Seat). option_map seated z ∷ []) e
next_closed (x ∷ xs) (suc k) o e lt h =
    let first : option_map seated x ≡ None = cc in
    let rest : seats_shown (take k xs) ≡ replicate k None = cc in
    let more : seats_shown (take (k + 1) (slice_set xs k o)) ≡ replicate (k + 1) None = next_closed xs k o e (omega (arith, lt)) rest in
    let n : suc k + 1 ≡ suc (k + 1) = omega arith in
    rw n (ap (λ z. z ∷ seats_shown (take (k + 1) (slice_set xs k o))) first ∙ ap (λ z. None ∷ z) more)

-- ---- the cursor of a name

named_has : (name : Name) (cs : List Opened) (at : Opened) → opened_named name cs ≡ Some at → has_name name at ≡ true
named_has name [] at e = absurd cc
named_has name (c ∷ cs) at e = go (named_has name cs at) (has_name name c) refl e
  where
    go : (find (has_name name) cs ≡ Some at → has_name name at ≡ true) → (b : Bool) → has_name name c ≡ b → cond b (Some c) (find (has_name name) cs) ≡ Some at → has_name name at ≡ true
    go rest true has is =
        let same : c ≡ at = cc in
        subst (λ (x : Opened). has_name name x ≡ true) same has
    go rest false has is = rest is

some_named : (name : Name) (cs : List Opened) (r : Option ℕ) → r ≡ position (has_name name) cs → option_and_then (slice_get cs) r ≡ opened_named name cs → is_some r ≡ true → is_some (opened_named name cs) ≡ true
some_named name cs None e there is = absurd cc
some_named name [] (Some k) e there is = absurd cc
some_named name (c ∷ cs) (Some k) e there is =
    let p = position-Some (has_name name) (c ∷ cs) k c (sym e) in
    let x = within_some (c ∷ cs) k p.0 in
    ap is_some (sym there ∙ x.1)

none_named : (name : Name) (cs : List Opened) (r : Option ℕ) → option_and_then (slice_get cs) r ≡ opened_named name cs → is_some r ≡ false → opened_named name cs ≡ None
none_named name cs None there is = sym there
none_named name cs (Some k) there is = absurd cc

-- whether there is one, by whether it has a place
pub is_named : (name text : Name) (cs : List Opened) (r : Option ℕ) → text ≡ name → r ≡ position (has_name text) cs → option_and_then (slice_get cs) r ≡ opened_named text cs → is_some r ≡ true → is_some (opened_named name cs) ≡ true
is_named name text cs r same e there is = subst (λ (n : Name). is_some (opened_named n cs) ≡ true) same (some_named text cs r e there is)

pub is_unknown_by : (name text : Name) (cs : List Opened) (r : Option ℕ) → text ≡ name → option_and_then (slice_get cs) r ≡ opened_named text cs → is_some r ≡ false → opened_named name cs ≡ None
is_unknown_by name text cs r same there is = subst (λ (n : Name). opened_named n cs ≡ None) same (none_named text cs r there is)

pub place_within : (name : Name) (cursors : List OpenCursor) (k : ℕ) → Some k ≡ position (has_name name) (map opened cursors) → k < length cursors
place_within name [] k e = absurd cc
place_within name (c ∷ cursors) k e =
    let p = position-Some (has_name name) (map opened (c ∷ cursors)) k (opened c) (sym e) in
    let n : length (map opened (c ∷ cursors)) ≡ length (c ∷ cursors) = length-map (c ∷ cursors) opened in
    omega (arith, p.0, n)

-- the one in this place
pub there_by : (cursors : List OpenCursor) (k : ℕ) (at : OpenCursor) → k < length cursors → at ≡ get_or cursors k at → slice_get (map opened cursors) k ≡ Some (opened at)
there_by cursors k at lt is = slice_get-map opened cursors k ∙ ap (option_map opened) (slice_get-get_or cursors k at lt) ∙ ap (λ (x : OpenCursor). Some (opened x)) (sym is)

pub named_there : (name : Name) (cursors : List OpenCursor) (k : ℕ) (at : OpenCursor) → k < length cursors → at ≡ get_or cursors k at → slice_get (map opened cursors) k ≡ opened_named name (map opened cursors) → opened_named name (map opened cursors) ≡ Some (opened at)
named_there name cursors k at lt is there = sym there ∙ there_by cursors k at lt is

pub same_at : {X : Type 0} (xs : List X) (k : ℕ) (a b : X) → k < length xs → a ≡ get_or xs k a → b ≡ get_or xs k b → a ≡ b
same_at xs k a b lt p q =
    let e : Some (get_or xs k a) ≡ Some (get_or xs k b) = sym (slice_get-get_or xs k a lt) ∙ slice_get-get_or xs k b lt in
    let f : get_or xs k a ≡ get_or xs k b = cc in
    p ∙ f ∙ sym q

-- one more stands last
map_last : {X Y : Type 0} (f : X → Y) (xs : List X) (x : X) → map f (xs ++ x ∷ []) ≡ map f xs ++ f x ∷ []
map_last f [] x = refl
map_last f (y ∷ ys) x = ap (λ more. f y ∷ more) (map_last f ys x)

pub opened_last : (old now : List OpenCursor) (o : OpenCursor) (name : Name) (leases : List Name) (ok : Bool) → now ≡ (if ok then (old ++ o ∷ []) else old) → ok ≡ true → string_bytes o.name ≡ name → map string_bytes o.leases.items ≡ leases
    → map opened now ≡ map opened old ++ record { name = name; names = map string_bytes o.names.items; leases = leases; run = o.run } ∷ []
opened_last old now o name leases true is e named leased =
    ap (map opened) is ∙ map_last opened old o ∙ (λ i. map opened old ++ record { name = named i; names = map string_bytes o.names.items; leases = leased i; run = o.run } ∷ [])
opened_last old now o name leases false is e named leased = absurd cc

-- where none has the name, all stay
pub all_stay : (name : Name) (cs : List Opened) → opened_named name cs ≡ None → without_named name cs ≡ cs
all_stay name [] e = refl
all_stay name (c ∷ cs) e = go (all_stay name cs) (has_name name c) e
  where
    go : (opened_named name cs ≡ None → without_named name cs ≡ cs) → (b : Bool) → cond b (Some c) (find (has_name name) cs) ≡ None → cond (not b) (c ∷ without_named name cs) (without_named name cs) ≡ c ∷ cs
    go rest true is = absurd cc
    go rest false is = ap (λ more. c ∷ more) (rest is)

-- ---- another run

-- of one that has the name the others have other names
other_name : (name one more : Name) → bytes_eq one name ≡ true → bytes_eq one more ≡ false → (b : Bool) → bytes_eq more name ≡ b → b ≡ false
other_name name one more same apart false is = refl
other_name name one more same apart true is =
    let t : bytes_eq one more ≡ true = same_bytes one more (bytes_same one name same ∙ sym (bytes_same more name is)) in
    absurd cc

others : (name one : Name) (cs : List Opened) → bytes_eq one name ≡ true → AllByRecursion (λ y. bytes_eq one y ≡ false) (map (λ (c : Opened). c.name) cs) → (r : Run) → (with_run name r cs ≡ cs) × (without_named name cs ≡ cs)
others name one [] same apart r = (refl, refl)
others name one (c ∷ cs) same apart r =
    let not_it : has_name name c ≡ false = other_name name one c.name same apart.0 (has_name name c) refl in
    let rest = others name one cs same apart.1 r in (
      ap (λ b. cond b (record c { run = r }) c ∷ with_run name r cs) not_it ∙ ap (λ more. c ∷ more) rest.0,
      ap (λ b. cond (not b) (c ∷ without_named name cs) (without_named name cs)) not_it ∙ ap (λ more. c ∷ more) rest.1,
    )

-- an earlier one has another name
earlier : (name : Name) (c at : Opened) (cs : List Opened) (k : ℕ) → AllByRecursion (λ y. bytes_eq c.name y ≡ false) (map (λ (x : Opened). x.name) cs) → slice_get cs k ≡ Some at → has_name name at ≡ true → (b : Bool) → has_name name c ≡ b → b ≡ false
earlier name c at cs k apart is has false e = refl
earlier name c at cs k apart is has true e =
    let f : bytes_eq c.name at.name ≡ false = each_at (λ y. bytes_eq c.name y ≡ false) (map (λ (x : Opened). x.name) cs) k at.name apart (slice_get-map (λ (x : Opened). x.name) cs k ∙ ap (option_map (λ (x : Opened). x.name)) is) in
    let t : bytes_eq c.name at.name ≡ true = same_bytes c.name at.name (bytes_same c.name name e ∙ sym (bytes_same at.name name has)) in
    absurd cc

set_run : (name : Name) (r : Run) (cs : List Opened) (k : ℕ) (at : Opened) → AreNamedApart cs → slice_get cs k ≡ Some at → has_name name at ≡ true → slice_set cs k (record at { run = r }) ≡ with_run name r cs
set_run name r [] k at apart is has = absurd cc
set_run name r (c ∷ cs) zero at apart is has =
    let same : c ≡ at = cc in
    let it : has_name name c ≡ true = subst (λ (x : Opened). has_name name x ≡ true) (sym same) has in
    ap (λ (x : Opened). record x { run = r } ∷ cs) (sym same) ∙ ap (λ more. record c { run = r } ∷ more) (sym (others name c.name cs it (IsDistinct-head bytes_eq c.name (map (λ (x : Opened). x.name) cs) apart) r).0)
    ∙ ap (λ b. cond b (record c { run = r }) c ∷ with_run name r cs) (sym it)
set_run name r (c ∷ cs) (suc k) at apart is has =
    let not_it : has_name name c ≡ false = earlier name c at cs k (IsDistinct-head bytes_eq c.name (map (λ (x : Opened). x.name) cs) apart) is has (has_name name c) refl in
    ap (λ more. c ∷ more) (set_run name r cs k at (IsDistinct-tail bytes_eq c.name (map (λ (x : Opened). x.name) cs) apart) is has) ∙ ap (λ b. cond b (record c { run = r }) c ∷ with_run name r cs) (sym not_it)

removed_by : (name : Name) (cs : List Opened) (k : ℕ) (at : Opened) → AreNamedApart cs → slice_get cs k ≡ Some at → has_name name at ≡ true → Run → remove cs k ≡ without_named name cs
removed_by name [] k at apart is has r = absurd cc
removed_by name (c ∷ cs) zero at apart is has r =
    let same : c ≡ at = cc in
    let it : has_name name c ≡ true = subst (λ (x : Opened). has_name name x ≡ true) (sym same) has in
    sym (others name c.name cs it (IsDistinct-head bytes_eq c.name (map (λ (x : Opened). x.name) cs) apart) r).1
    ∙ ap (λ b. cond (not b) (c ∷ without_named name cs) (without_named name cs)) (sym it)
removed_by name (c ∷ cs) (suc k) at apart is has r =
    let not_it : has_name name c ≡ false = earlier name c at cs k (IsDistinct-head bytes_eq c.name (map (λ (x : Opened). x.name) cs) apart) is has (has_name name c) refl in
    ap (λ more. c ∷ more) (removed_by name cs k at (IsDistinct-tail bytes_eq c.name (map (λ (x : Opened). x.name) cs) apart) is has r)
    ∙ ap (λ b. cond (not b) (c ∷ without_named name cs) (without_named name cs)) (sym not_it)

map_set : {X Y : Type 0} (f : X → Y) (xs : List X) (k : ℕ) (x : X) → map f (slice_set xs k x) ≡ slice_set (map f xs) k (f x)
map_set f [] k x = refl
map_set f (y ∷ ys) zero x = refl
map_set f (y ∷ ys) (suc k) x = ap (λ more. f y ∷ more) (map_set f ys k x)

removed_set : {X Y : Type 0} (f : X → Y) (xs : List X) (k : ℕ) (x : X) → map f (remove (slice_set xs k x) k) ≡ remove (map f xs) k
removed_set f [] zero x = refl
removed_set f [] (suc k) x = refl
removed_set f (y ∷ ys) zero x = refl
removed_set f (y ∷ ys) (suc k) x = ap (λ more. f y ∷ more) (removed_set f ys k x)

-- the cursor in this place, which has the name, goes on with another run
pub runs_there : (name : Name) (cursors : List OpenCursor) (k : ℕ) (at : OpenCursor) (r : Run) → AreNamedApart (map opened cursors) → k < length cursors → at ≡ get_or cursors k at → slice_get (map opened cursors) k ≡ opened_named name (map opened cursors)
    → map opened (slice_set cursors k (record at { run = r })) ≡ with_run name r (map opened cursors)
runs_there name cursors k at r apart lt is there =
    map_set opened cursors k (record at { run = r }) ∙ set_run name r (map opened cursors) k (opened at) apart (there_by cursors k at lt is)
    (named_has name (map opened cursors) (opened at) (named_there name cursors k at lt is there))

-- it is taken out
pub gone_there : (name : Name) (cursors : List OpenCursor) (k : ℕ) (at now : OpenCursor) → AreNamedApart (map opened cursors) → k < length cursors → at ≡ get_or cursors k at → slice_get (map opened cursors) k ≡ opened_named name (map opened cursors)
    → map opened (remove (slice_set cursors k now) k) ≡ without_named name (map opened cursors)
gone_there name cursors k at now apart lt is there =
    removed_set opened cursors k now ∙ removed_by name (map opened cursors) k (opened at) apart (there_by cursors k at lt is)
    (named_has name (map opened cursors) (opened at) (named_there name cursors k at lt is there)) at.run

-- ---- among cursors of which one goes on with another run

pub without_runs : (name : Name) (r : Run) (cs : List Opened) → without_named name (with_run name r cs) ≡ without_named name cs
without_runs name r [] = refl
without_runs name r (c ∷ cs) = go (without_runs name r cs) (has_name name c) refl
  where
    go : without_named name (with_run name r cs) ≡ without_named name cs → (b : Bool) → has_name name c ≡ b
        → without_named name (cond b (record c { run = r }) c ∷ with_run name r cs) ≡ cond (not b) (c ∷ without_named name cs) (without_named name cs)
    go rest true has = ap (λ b. cond (not b) (record c { run = r } ∷ without_named name (with_run name r cs)) (without_named name (with_run name r cs))) has ∙ rest
    go rest false has = ap (λ b. cond (not b) (c ∷ without_named name (with_run name r cs)) (without_named name (with_run name r cs))) has ∙ ap (λ more. c ∷ more) rest
