-- The cursor of a name in a list of cursors that has one more, one fewer, or one that has handed out more.
use Rattle.std.proofs.Common.{◌≡◌, ◌≢◌, Bool, true, false, not, cond, List, [], ◌∷◌, ◌++◌, Option, Some, None, find, filter, map, refl, ap, sym, ◌∙◌}
use Rattle.std.proofs.lemmas.Option.{same_Some}
use Rattle.med_value.specs.Datum.{Tuple}
use Rattle.med_syntax.specs.Tree.{Name}
use Rattle.sql_meaning.specs.Prelude.{Cursor, is_cursor, handing, hand_out}
use Rattle.med_world.proofs.Lists.{bytes_same, other_bytes}
use Rattle.med_world.proofs.NamedTables.{none_later}

pub finds_more : (name : Name) (cs : List Cursor) (c : Cursor) → is_cursor name c ≡ false → find (is_cursor name) (cs ++ c ∷ []) ≡ find (is_cursor name) cs
finds_more name [] c e = ap (λ (b : Bool). cond b (Some c) (find (is_cursor name) [])) e
finds_more name (x ∷ xs) c e = ap (λ (o : Option Cursor). cond (is_cursor name x) (Some x) o) (finds_more name xs c e)

pub finds_new : (name : Name) (cs : List Cursor) (c : Cursor) → is_cursor name c ≡ true → find (is_cursor name) cs ≡ None → find (is_cursor name) (cs ++ c ∷ []) ≡ Some c
finds_new name [] c e none = ap (λ (b : Bool). cond b (Some c) (find (is_cursor name) [])) e
finds_new name (x ∷ xs) c e none =
    let n = none_later (is_cursor name) x xs none in
    ap (λ (b : Bool). cond b (Some x) (find (is_cursor name) (xs ++ c ∷ []))) n.0 ∙ finds_new name xs c e n.1

pub gone : (name : Name) (cs : List Cursor) → find (is_cursor name) (filter (λ c. not (is_cursor name c)) cs) ≡ None
gone name [] = refl
gone name (x ∷ xs) = split (is_cursor name x) refl (gone name xs)
  where
    split : (b : Bool) → is_cursor name x ≡ b → find (is_cursor name) (filter (λ c. not (is_cursor name c)) xs) ≡ None
        → find (is_cursor name) (cond (not b) (x ∷ filter (λ c. not (is_cursor name c)) xs) (filter (λ c. not (is_cursor name c)) xs)) ≡ None
    split true e others = others
    split false e others = ap (λ (b : Bool). cond b (Some x) (find (is_cursor name) (filter (λ c. not (is_cursor name c)) xs))) e ∙ others

-- a cursor of another name is none of this name
apart_named : (name other : Name) → other ≢ name → (x : Cursor) → is_cursor other x ≡ true → is_cursor name x ≡ false
apart_named name other apart x e = other_bytes x.name name (λ s. apart (sym (bytes_same x.name other e) ∙ s))

pub left : (name other : Name) → other ≢ name → (cs : List Cursor) → find (is_cursor name) (filter (λ c. not (is_cursor other c)) cs) ≡ find (is_cursor name) cs
left name other apart [] = refl
left name other apart (x ∷ xs) = split (is_cursor other x) refl (left name other apart xs)
  where
    split : (b : Bool) → is_cursor other x ≡ b → find (is_cursor name) (filter (λ c. not (is_cursor other c)) xs) ≡ find (is_cursor name) xs
        → find (is_cursor name) (cond (not b) (x ∷ filter (λ c. not (is_cursor other c)) xs) (filter (λ c. not (is_cursor other c)) xs)) ≡ cond (is_cursor name x) (Some x) (find (is_cursor name) xs)
    split true e others = others ∙ sym (ap (λ (b : Bool). cond b (Some x) (find (is_cursor name) xs)) (apart_named name other apart x e))
    split false e others = ap (λ (o : Option Cursor). cond (is_cursor name x) (Some x) o) others

pub handed_else : (name other : Name) (rows : List Tuple) → other ≢ name → (cs : List Cursor) → find (is_cursor name) (map (hand_out other rows) cs) ≡ find (is_cursor name) cs
handed_else name other rows apart [] = refl
handed_else name other rows apart (x ∷ xs) = split (is_cursor other x) refl (handed_else name other rows apart xs)
  where
    split : (b : Bool) → is_cursor other x ≡ b → find (is_cursor name) (map (hand_out other rows) xs) ≡ find (is_cursor name) xs
        → cond (is_cursor name (cond b (handing x rows) x)) (Some (cond b (handing x rows) x)) (find (is_cursor name) (map (hand_out other rows) xs)) ≡ cond (is_cursor name x) (Some x) (find (is_cursor name) xs)
    split true e others =
        ap (λ (b : Bool). cond b (Some (handing x rows)) (find (is_cursor name) (map (hand_out other rows) xs))) (apart_named name other apart x e) ∙ others
        ∙ sym (ap (λ (b : Bool). cond b (Some x) (find (is_cursor name) xs)) (apart_named name other apart x e))
    split false e others = ap (λ (o : Option Cursor). cond (is_cursor name x) (Some x) o) others

pub handed_on : (name : Name) (rows : List Tuple) (cs : List Cursor) (c : Cursor) → find (is_cursor name) cs ≡ Some c → find (is_cursor name) (map (hand_out name rows) cs) ≡ Some (handing c rows)
handed_on name rows [] c found = absurd cc
handed_on name rows (x ∷ xs) c found = split (is_cursor name x) refl found (λ h. handed_on name rows xs c h)
  where
    split : (b : Bool) → is_cursor name x ≡ b → cond b (Some x) (find (is_cursor name) xs) ≡ Some c
        → (find (is_cursor name) xs ≡ Some c → find (is_cursor name) (map (hand_out name rows) xs) ≡ Some (handing c rows))
        → cond (is_cursor name (cond b (handing x rows) x)) (Some (cond b (handing x rows) x)) (find (is_cursor name) (map (hand_out name rows) xs)) ≡ Some (handing c rows)
    split true q e others =
        ap (λ (b : Bool). cond b (Some (handing x rows)) (find (is_cursor name) (map (hand_out name rows) xs))) q ∙ ap (λ (y : Cursor). Some (handing y rows)) (same_Some x c e)
    split false q e others = ap (λ (b : Bool). cond b (Some x) (find (is_cursor name) (map (hand_out name rows) xs))) q ∙ others e
