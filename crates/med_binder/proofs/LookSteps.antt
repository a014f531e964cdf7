-- Names of a query, looked up part by part.
use Rattle.std.proofs.Common.{◌≡◌, inl, inr, List, [], ◌∷◌, map, flat_map, refl, ap, sym, subst, ◌∙◌, arith}
use Rattle.med_value.specs.declared.cause.Cause.{Cause}
use Rattle.med_syntax.specs.QueryTree.{EntryTree, CoreTree, SelectTree, cores_of}
use Rattle.bind_names.specs.Prelude.{TableShape, visible, exposed_name, entry_shape, entries_of, query_entries, from_scope, entry_causes, alias_causes, core_alias_causes, core_asked_causes, order_name_causes, entered_causes, asked_causes, once_known, select_name_causes, name_of, TellsCause}
use Rattle.bind_names.specs.declared.scope.Visible.{Visible}
use Rattle.bind_names.proofs.Causes.{tells_left, tells_right, none_of_two}

-- ---- FROM before all else

none_told : (ys : List Cause) (c : Cause) → TellsCause [] c → TellsCause ys c
none_told ys c t = record { told = elim t.told [ inl h ↦ inl h | inr h ↦ absurd (let lt = h.1 in omega (arith, lt)) ] }

known_tells : (xs asked : List Cause) (c : Cause) → TellsCause xs c → TellsCause (once_known xs asked) c
known_tells [] asked c t = none_told asked c t
known_tells (x ∷ xs) asked c t = t

asked_tells : (xs asked : List Cause) (c : Cause) → xs ≡ [] → TellsCause asked c → TellsCause (once_known xs asked) c
asked_tells xs asked c e t = subst (λ ys. TellsCause (once_known ys asked) c) (sym e) t

names_seen : (vs : List Visible) → map name_of vs ≡ map (λ (t : TableShape). t.name) (map visible vs)
names_seen [] = refl
names_seen (v ∷ vs) = ap (λ ns. name_of v ∷ ns) (names_seen vs)

names_shaped : (tables : List TableShape) (es : List EntryTree) → map (λ (t : TableShape). t.name) (map (entry_shape tables) es) ≡ map exposed_name es
names_shaped tables [] = refl
names_shaped tables (e ∷ es) = ap (λ ns. exposed_name e ∷ ns) (names_shaped tables es)

pub names_of : (tables : List TableShape) (vs : List Visible) (es : List EntryTree) → map visible vs ≡ map (entry_shape tables) es → map name_of vs ≡ map exposed_name es
names_of tables vs es h = names_seen vs ∙ ap (λ ts. map (λ (t : TableShape). t.name) ts) h ∙ names_shaped tables es

-- the names of the entries of a core are those that it has in view
pub alias_same : (tables : List TableShape) (c : CoreTree) (vs seen : List Visible) → seen ≡ vs → map visible vs ≡ from_scope tables c.from → alias_causes (map name_of seen) ≡ core_alias_causes c
alias_same tables c vs seen s h = ap (λ (vs : List Visible). alias_causes (map name_of vs)) s ∙ ap alias_causes (names_of tables vs (entries_of c.from) h)

-- no such table
pub table_told : (tables : List TableShape) (q : SelectTree) (es : List EntryTree) (c : Cause) → es ≡ query_entries q → TellsCause (flat_map (entry_causes tables) es) c → TellsCause (select_name_causes tables q) c
table_told tables q es c e t = known_tells (entered_causes tables q) _ c (tells_left _ (flat_map core_alias_causes (cores_of q)) c (subst (λ xs. TellsCause (flat_map (entry_causes tables) xs) c) e t))

-- two entries of one name
pub name_told : (tables : List TableShape) (q : SelectTree) (c : Cause) → TellsCause (flat_map core_alias_causes (cores_of q)) c → TellsCause (select_name_causes tables q) c
name_told tables q c t = known_tells (entered_causes tables q) _ c (tells_right (flat_map (entry_causes tables) (query_entries q)) _ c t)

pub entered_clear : (tables : List TableShape) (q : SelectTree) → flat_map (entry_causes tables) (query_entries q) ≡ [] → flat_map core_alias_causes (cores_of q) ≡ [] → entered_causes tables q ≡ []
entered_clear tables q k n = none_of_two _ _ k n

-- a name in what the first core says of the query
pub head_told : (tables : List TableShape) (q : SelectTree) (c : Cause) → entered_causes tables q ≡ [] → TellsCause (asked_causes tables q) c → TellsCause (select_name_causes tables q) c
head_told tables q c e t = asked_tells (entered_causes tables q) (asked_causes tables q) c e t

-- a name in a core
pub cores_told : (tables : List TableShape) (q : SelectTree) (c : Cause) → entered_causes tables q ≡ [] → TellsCause (flat_map (core_asked_causes tables) (cores_of q)) c → TellsCause (select_name_causes tables q) c
cores_told tables q c e t = asked_tells (entered_causes tables q) (asked_causes tables q) c e (tells_left _ (order_name_causes tables q) c t)

pub all_clear : (tables : List TableShape) (q : SelectTree) → entered_causes tables q ≡ [] → flat_map (core_asked_causes tables) (cores_of q) ≡ [] → order_name_causes tables q ≡ [] → select_name_causes tables q ≡ []
all_clear tables q e h k = ap (λ (xs : List Cause). once_known xs (asked_causes tables q)) e ∙ none_of_two _ _ h k
