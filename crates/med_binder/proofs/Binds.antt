-- What is told in turn may be told.
use Rattle.std.proofs.Common.{◌≡◌, ◌⊎◌, ℕ, List, [], ◌∷◌, length, map, Option, string_bytes, Result, Ok, Err, IfOk, IfErr, All, Contains, inl, inr, arith, refl, ap, sym, subst, ◌∙◌}
use Rattle.std.proofs.lemmas.List.{length-map}
use Rattle.med_value.specs.declared.cause.Cause.{Cause}
use Rattle.med_value.specs.declared.cause.Cause.TheVariants.{OutOfMemory}
use Rattle.med_value.specs.declared.value.ColType.{ColType}
use Rattle.med_syntax.specs.QueryTree.{SelectTree, StatementTree}
use Rattle.med_query.specs.Form.{Form, form_of}
use Rattle.bind_names.proofs.Causes.{tells_left, tells_right, none_of_two}
use Rattle.med_binder.specs.declared.bound.BoundEntry.{BoundEntry}
use Rattle.med_binder.specs.declared.bound.BoundQuery.{BoundQuery}
use Rattle.bind_names.specs.Prelude.{TableShape, statement_name_causes, Output, Meant, core_outputs, meant_in, meant, TellsCause, Passes}
use Rattle.bind_types.specs.Typing.{written_type_causes, form_causes, union_causes, answer_types, output_type_causes, select_type_causes, statement_type_causes}
use Rattle.med_binder.specs.Binding.{AsksMeant, bound_kinds, BindCauses, BindTells}
use Rattle.med_binder.specs.Looking.{IsLookedUp}
use Rattle.med_binder.specs.Turns.{TellsInTurn, Binds, BindsKnown}

-- ---- one after the other

names_told : (names types : List Cause) (c : Cause) → (c ≡ OutOfMemory) ⊎ Contains names c → (c ≡ OutOfMemory) ⊎ Contains names c ⊎ ((names ≡ []) × Contains types c)
names_told names types c (inl h) = inl h
names_told names types c (inr h) = inr (inl h)

pub names_first : (names types : List Cause) (c : Cause) → TellsCause names c → TellsInTurn names types c
names_first names types c t = record { told = names_told names types c t.told }

types_told : (names types : List Cause) (c : Cause) → names ≡ [] → (c ≡ OutOfMemory) ⊎ Contains types c → (c ≡ OutOfMemory) ⊎ Contains names c ⊎ ((names ≡ []) × Contains types c)
types_told names types c e (inl h) = inl h
types_told names types c e (inr h) = inr (inr (e, h))

pub types_then : (names types : List Cause) (c : Cause) → names ≡ [] → TellsCause types c → TellsInTurn names types c
types_then names types c e t = record { told = types_told names types c e t.told }

-- ---- the outputs of the cores

-- as many names as outputs of the first core
pub widths_same : (tables : List TableShape) (q : SelectTree) (b : BoundQuery) (width : ℕ) (rows : List (List (Option ColType))) → AsksMeant (meant_in tables q) b → bound_kinds b ≡ answer_types tables q
    → width ≡ length b.names.items → rows ≡ bound_kinds b → union_causes width rows ≡ output_type_causes tables q
widths_same tables q b width rows m k w r =
    let outs = core_outputs tables q.core in
    let wide : width ≡ length outs = w ∙ sym (length-map b.names.items string_bytes) ∙ ap length m.names ∙ length-map outs (λ (o : Output). o.name) in
    ap (λ (n : ℕ). union_causes n rows) wide ∙ ap (union_causes (length outs)) (r ∙ k)

outputs_told : (tables : List TableShape) (q : SelectTree) (causes : List Cause) (c : Cause) → causes ≡ output_type_causes tables q → TellsCause causes c → TellsCause (select_type_causes tables q) c
outputs_told tables q causes c e t =
    tells_right (written_type_causes tables q) _ c (tells_right (form_causes (meant_in tables q).form) _ c (subst (λ (xs : List Cause). TellsCause xs c) e t))

pub form_told : (tables : List TableShape) (q : SelectTree) (b : BoundQuery) (c : Cause) → AsksMeant (meant_in tables q) b → TellsCause (form_causes (form_of b.select)) c → TellsCause (select_type_causes tables q) c
form_told tables q b c m t =
    tells_right (written_type_causes tables q) _ c (tells_left _ (output_type_causes tables q) c (subst (λ (f : Form). TellsCause (form_causes f) c) m.form t))

types_clear : (tables : List TableShape) (q : SelectTree) (b : BoundQuery) (causes : List Cause) → AsksMeant (meant_in tables q) b → written_type_causes tables q ≡ [] → form_causes (form_of b.select) ≡ [] → causes ≡ output_type_causes tables q
    → causes ≡ [] → select_type_causes tables q ≡ []
types_clear tables q b causes m w f e o = none_of_two _ _ w (none_of_two _ _ (ap form_causes (sym m.form) ∙ f) (sym e ∙ o))

-- what the outputs of the cores tell last is told of the types
pub outputs_judged : (tables : List TableShape) (q : SelectTree) (b : BoundQuery) (causes : List Cause) (r : Result Unit Cause) → AsksMeant (meant_in tables q) b → written_type_causes tables q ≡ [] → form_causes (form_of b.select) ≡ []
    → causes ≡ output_type_causes tables q → Passes causes r → Passes (select_type_causes tables q) r
outputs_judged tables q b causes (Ok x) m w f e o = types_clear tables q b causes m w f e o
outputs_judged tables q b causes (Err c) m w f e t = outputs_told tables q causes c e t

-- a query that was looked up is so over the entries that it has
pub own_entries : (tables : List TableShape) (q : SelectTree) (es : List BoundEntry) (b : BoundQuery) → IsLookedUp tables q es b → IsLookedUp tables q b.entries.items b
own_entries tables q es b is = record { meant = is.meant; entries = refl; kinds = is.kinds; clear = is.clear }

-- ---- over entries that are known

pub binds_over : (names types : List Cause) (m : Meant) (es : List BoundEntry) (r : Result BoundQuery Cause) → map (λ (e : BoundEntry). e.place) es ≡ m.entries → BindsKnown names types m es r → Binds names types m r
binds_over names types m es (Ok b) p h = (record { names = h.0.names; entries = ap (map (λ (e : BoundEntry). e.place)) h.1 ∙ p; form = h.0.form }, h.2, h.3)
binds_over names types m es (Err c) p h = h

pub entries_over : (P : BoundEntry → Type 0) (names types : List Cause) (m : Meant) (es : List BoundEntry) (r : Result BoundQuery Cause) → All P es → BindsKnown names types m es r → IfOk r (λ b. All P b.entries.items)
entries_over P names types m es (Ok b) all h = subst (λ (xs : List BoundEntry). All P xs) (sym h.1) all
entries_over P names types m es (Err c) all h = tt

-- ---- the clauses

-- where no cause stands, only memory can be refused
pub only_memory : {X : Type 0} (r : Result X Cause) (P Q : Cause → Type 0) → ((c : Cause) → Q c → P c) → IfErr r (λ c. (c ≡ OutOfMemory) ⊎ Q c) → ((c : Cause) → P c → ⊥) → IfErr r (λ c. c ≡ OutOfMemory)
only_memory (Ok x) P Q f h n = tt
only_memory (Err c) P Q f (inl h) n = h
only_memory (Err c) P Q f (inr h) n = absurd (n c (f c h))

told_stands : (tables : List TableShape) (statement : StatementTree) (c : Cause) → BindTells tables statement c → BindCauses tables statement c
told_stands tables statement c (inl h) = inl h
told_stands tables statement c (inr h) = inr h.0

pub no_element : (xs : List Cause) (c : Cause) → xs ≡ [] → Contains xs c → ⊥
no_element [] c e h = let lt = h.1 in omega (arith, lt)
no_element (x ∷ xs) c e h = absurd cc

in_turn : (tables : List TableShape) (statement : StatementTree) (c : Cause)
    → (c ≡ OutOfMemory) ⊎ Contains (statement_name_causes tables statement) c ⊎ ((statement_name_causes tables statement ≡ []) × Contains (statement_type_causes tables statement) c)
    → (c ≡ OutOfMemory) ⊎ BindTells tables statement c
in_turn tables statement c (inl h) = inl h
in_turn tables statement c (inr (inl h)) = inr (inl h)
in_turn tables statement c (inr (inr h)) = inr (inr (h.1, λ d m. no_element _ d h.0 m))

pub binds_refused : (tables : List TableShape) (statement : StatementTree) (r : Result BoundQuery Cause) → Binds (statement_name_causes tables statement) (statement_type_causes tables statement) (meant tables statement) r
    → IfErr r (λ c. (c ≡ OutOfMemory) ⊎ BindTells tables statement c)
binds_refused tables statement (Ok b) h = tt
binds_refused tables statement (Err c) h = in_turn tables statement c h.told

pub binds_read : (tables : List TableShape) (statement : StatementTree) (r : Result BoundQuery Cause) → Binds (statement_name_causes tables statement) (statement_type_causes tables statement) (meant tables statement) r
    → ((c : Cause) → BindCauses tables statement c → ⊥) → IfErr r (λ c. c ≡ OutOfMemory)
binds_read tables statement r h n = only_memory r (BindCauses tables statement) (BindTells tables statement) (told_stands tables statement) (binds_refused tables statement r h) n
