-- What a query means, and which causes stand against it, depend on the tables of its entries alone.
use Rattle.std.proofs.Common.{◌≡◌, ℕ, suc, ◌+◌, Bool, List, [], ◌∷◌, ◌++◌, length, map, flat_map, unwrap_or, if◌then◌else◌, refl, ap, ◌∙◌}
use Rattle.med_value.specs.Column.{Column}
use Rattle.med_value.specs.declared.cause.Cause.{Cause}
use Rattle.med_value.specs.declared.cause.Cause.TheVariants.{UndefinedTable}
use Rattle.med_syntax.specs.QueryTree.{EntryTree, JoinTree, ChainTree, CoreTree, SelectTree, cores_of}
use Rattle.med_query.specs.Form.{ChainForm, CoreForm, Form}
use Rattle.bind_names.specs.Prelude.{TableShape, Scope, is_known, entry_columns, entry_shape, joined_entry, chain_entries, entries_of, query_entries, columns_of, exposed_name, from_scope, Output, outputs_of, output_values, core_outputs, conditions_of, group_meant, key_direction, limit_of, with_join, join_meant, joins_meant, chain_meant, chains_meant, Sorting, keys_sorting, sorting_in, sorting_of, core_meant, cores_meant, meant_in, entry_causes, joins_name_causes, on_name_causes, chain_name_causes, item_name_causes, condition_name_causes, group_name_causes, core_asked_causes, order_causes_in, order_name_causes, core_alias_causes, entered_causes, asked_causes, once_known, select_name_causes}
use Rattle.bind_types.specs.TreeTypes.{tree_type, column_kinds}
use Rattle.bind_types.specs.Typing.{joins_type_causes, on_type_causes, chain_type_causes, item_type_causes, condition_type_causes, key_type_causes, core_written_causes, order_type_causes, written_type_causes, form_causes, core_types, answer_types, union_causes, output_type_causes, select_type_causes}

-- both lists know the entry's table, or neither, with the same columns
pub record Sees (small full : List TableShape) (e : EntryTree) : Type 0 where
  pub known : is_known small e ≡ is_known full e
  pub columns : entry_columns small e ≡ entry_columns full e

abbrev pub SeesAll : List TableShape → List TableShape → List EntryTree → Type 0
SeesAll small full [] = Unit {0}
SeesAll small full (e ∷ es) = Sees small full e × SeesAll small full es

module _ (small full : List TableShape) where
  shape_same : (e : EntryTree) → Sees small full e → entry_shape small e ≡ entry_shape full e
  shape_same e h = ap (λ (cs : List Column). let t : TableShape = record { name = exposed_name e; columns = cs } in t) h.columns

  sees_left : (xs ys : List EntryTree) → SeesAll small full (xs ++ ys) → SeesAll small full xs
  sees_left [] ys h = tt
  sees_left (x ∷ xs) ys h = (h.0, sees_left xs ys h.1)

  sees_right : (xs ys : List EntryTree) → SeesAll small full (xs ++ ys) → SeesAll small full ys
  sees_right [] ys h = h
  sees_right (x ∷ xs) ys h = sees_right xs ys h.1

  pub scope_same : (es : List EntryTree) → SeesAll small full es → map (entry_shape small) es ≡ map (entry_shape full) es
  scope_same [] h = refl
  scope_same (e ∷ es) h = ap (λ x. x ∷ map (entry_shape small) es) (shape_same e h.0) ∙ ap (λ xs. entry_shape full e ∷ xs) (scope_same es h.1)

  pub causes_same : (es : List EntryTree) → SeesAll small full es → flat_map (entry_causes small) es ≡ flat_map (entry_causes full) es
  causes_same [] h = refl
  causes_same (e ∷ es) h =
      ap (λ (b : Bool). (if b then [] else UndefinedTable ∷ []) ++ flat_map (entry_causes small) es) h.0.known ∙ ap (λ xs. entry_causes full e ++ xs) (causes_same es h.1)

  with_same : (before : Scope) (j : JoinTree) → Sees small full (joined_entry j) → with_join small before j ≡ with_join full before j
  with_same before j h = ap (λ x. before ++ (x ∷ [])) (shape_same (joined_entry j) h)

  -- ---- along the joins of a chain

  joins_meant_same : (before : Scope) (number : ℕ) (js : List JoinTree) → SeesAll small full (map joined_entry js) → joins_meant small before number js ≡ joins_meant full before number js
  joins_meant_same before number [] h = refl
  joins_meant_same before number (j ∷ js) h =
      ap (λ s. join_meant s number (length (entry_columns small (joined_entry j))) j ∷ joins_meant small s (suc number) js) (with_same before j h.0)
      ∙ ap (λ (cs : List Column). join_meant (with_join full before j) number (length cs) j ∷ joins_meant small (with_join full before j) (suc number) js) h.0.columns
      ∙ ap (λ xs. join_meant (with_join full before j) number (length (entry_columns full (joined_entry j))) j ∷ xs) (joins_meant_same (with_join full before j) (suc number) js h.1)

  joins_names_same : (before : Scope) (js : List JoinTree) → SeesAll small full (map joined_entry js) → joins_name_causes small before js ≡ joins_name_causes full before js
  joins_names_same before [] h = refl
  joins_names_same before (j ∷ js) h =
      ap (λ s. on_name_causes s j ++ joins_name_causes small s js) (with_same before j h.0)
      ∙ ap (λ xs. on_name_causes (with_join full before j) j ++ xs) (joins_names_same (with_join full before j) js h.1)

  joins_types_same : (before : Scope) (js : List JoinTree) → SeesAll small full (map joined_entry js) → joins_type_causes small before js ≡ joins_type_causes full before js
  joins_types_same before [] h = refl
  joins_types_same before (j ∷ js) h =
      ap (λ s. on_type_causes s j ++ joins_type_causes small s js) (with_same before j h.0)
      ∙ ap (λ xs. on_type_causes (with_join full before j) j ++ xs) (joins_types_same (with_join full before j) js h.1)

  -- ---- along the chains

  chain_form_same : (number : ℕ) (c : ChainTree) → SeesAll small full (chain_entries c) → chain_meant small number c ≡ chain_meant full number c
  chain_form_same number c h =
      ap (λ s. let f : ChainForm = record { first = number; joins = joins_meant small (s ∷ []) (suc number) c.joins } in f) (shape_same c.first h.0)
      ∙ ap (λ js. let f : ChainForm = record { first = number; joins = js } in f) (joins_meant_same (entry_shape full c.first ∷ []) (suc number) c.joins h.1)

  chains_meant_same : (number : ℕ) (cs : List ChainTree) → SeesAll small full (entries_of cs) → chains_meant small number cs ≡ chains_meant full number cs
  chains_meant_same number [] h = refl
  chains_meant_same number (c ∷ cs) h =
      ap (λ x. x ∷ chains_meant small (number + length (chain_entries c)) cs) (chain_form_same number c (sees_left (chain_entries c) (entries_of cs) h))
      ∙ ap (λ xs. chain_meant full number c ∷ xs) (chains_meant_same (number + length (chain_entries c)) cs (sees_right (chain_entries c) (entries_of cs) h))

  chain_names_same : (cs : List ChainTree) → SeesAll small full (entries_of cs) → flat_map (chain_name_causes small) cs ≡ flat_map (chain_name_causes full) cs
  chain_names_same [] h = refl
  chain_names_same (c ∷ cs) h =
      let here = sees_left (chain_entries c) (entries_of cs) h in
      ap (λ s. joins_name_causes small (s ∷ []) c.joins ++ flat_map (chain_name_causes small) cs) (shape_same c.first here.0)
      ∙ ap (λ xs. xs ++ flat_map (chain_name_causes small) cs) (joins_names_same (entry_shape full c.first ∷ []) c.joins here.1)
      ∙ ap (λ xs. chain_name_causes full c ++ xs) (chain_names_same cs (sees_right (chain_entries c) (entries_of cs) h))

  chain_types_same : (cs : List ChainTree) → SeesAll small full (entries_of cs) → flat_map (chain_type_causes small) cs ≡ flat_map (chain_type_causes full) cs
  chain_types_same [] h = refl
  chain_types_same (c ∷ cs) h =
      let here = sees_left (chain_entries c) (entries_of cs) h in
      ap (λ s. joins_type_causes small (s ∷ []) c.joins ++ flat_map (chain_type_causes small) cs) (shape_same c.first here.0)
      ∙ ap (λ xs. xs ++ flat_map (chain_type_causes small) cs) (joins_types_same (entry_shape full c.first ∷ []) c.joins here.1)
      ∙ ap (λ xs. chain_type_causes full c ++ xs) (chain_types_same cs (sees_right (chain_entries c) (entries_of cs) h))

  -- ---- of a core

  core_scope_same : (c : CoreTree) → SeesAll small full (entries_of c.from) → from_scope small c.from ≡ from_scope full c.from
  core_scope_same c h = scope_same (entries_of c.from) h

  outputs_same : (c : CoreTree) → SeesAll small full (entries_of c.from) → core_outputs small c ≡ core_outputs full c
  outputs_same c h = ap (λ s. outputs_of s c.items) (core_scope_same c h)

  -- its form, from what is in view and the chains
  abbrev core_over : Scope → List ChainForm → Sorting → CoreTree → CoreForm
  core_over s chains sorting c =
      let items = output_values (outputs_of s c.items) in
      let keys = keys_sorting sorting items in
      record {
        from = chains;
        conditions = conditions_of s c.condition;
        group = group_meant s c (keys ++ items);
        items = items;
        distinct = c.distinct;
        keys = keys;
      }

  core_form_same : (sorting : Sorting) (number : ℕ) (c : CoreTree) → SeesAll small full (entries_of c.from) → core_meant small sorting number c ≡ core_meant full sorting number c
  core_form_same sorting number c h =
      ap (λ s. core_over s (chains_meant small number c.from) sorting c) (core_scope_same c h)
      ∙ ap (λ cs. core_over (from_scope full c.from) cs sorting c) (chains_meant_same number c.from h)

  abbrev asked_over : Scope → List Cause → CoreTree → List Cause
  asked_over s chains c =
      chains ++ (flat_map (item_name_causes s) c.items ++ (condition_name_causes s c.condition
      ++ (flat_map (group_name_causes s) c.groups ++ condition_name_causes s c.having)))

  core_names_same : (c : CoreTree) → SeesAll small full (entries_of c.from) → core_asked_causes small c ≡ core_asked_causes full c
  core_names_same c h =
      ap (λ s. asked_over s (flat_map (chain_name_causes small) c.from) c) (core_scope_same c h)
      ∙ ap (λ cs. asked_over (from_scope full c.from) cs c) (chain_names_same c.from h)

  abbrev written_over : Scope → List Cause → CoreTree → List Cause
  written_over s chains c = chains ++ (flat_map (item_type_causes s) c.items ++ (condition_type_causes s c.condition ++ condition_type_causes s c.having))

  core_written_same : (c : CoreTree) → SeesAll small full (entries_of c.from) → core_written_causes small c ≡ core_written_causes full c
  core_written_same c h =
      ap (λ s. written_over s (flat_map (chain_type_causes small) c.from) c) (core_scope_same c h)
      ∙ ap (λ cs. written_over (from_scope full c.from) cs c) (chain_types_same c.from h)

  core_types_same : (c : CoreTree) → SeesAll small full (entries_of c.from) → core_types small c ≡ core_types full c
  core_types_same c h = ap (λ s. map (tree_type (column_kinds (columns_of s))) (output_values (outputs_of s c.items))) (core_scope_same c h)

  -- ---- along the cores

  abbrev entries_in : List CoreTree → List EntryTree
  entries_in = flat_map (λ (c : CoreTree). entries_of c.from)

  cores_form_same : (sorting : Sorting) (number : ℕ) (cs : List CoreTree) → SeesAll small full (entries_in cs) → cores_meant small sorting number cs ≡ cores_meant full sorting number cs
  cores_form_same sorting number [] h = refl
  cores_form_same sorting number (c ∷ cs) h =
      let next = number + length (entries_of c.from) in
      ap (λ x. x ∷ cores_meant small sorting next cs) (core_form_same sorting number c (sees_left (entries_of c.from) (entries_in cs) h))
      ∙ ap (λ xs. core_meant full sorting number c ∷ xs) (cores_form_same sorting next cs (sees_right (entries_of c.from) (entries_in cs) h))

  cores_names_same : (cs : List CoreTree) → SeesAll small full (entries_in cs) → flat_map (core_asked_causes small) cs ≡ flat_map (core_asked_causes full) cs
  cores_names_same [] h = refl
  cores_names_same (c ∷ cs) h =
      ap (λ xs. xs ++ flat_map (core_asked_causes small) cs) (core_names_same c (sees_left (entries_of c.from) (entries_in cs) h))
      ∙ ap (λ xs. core_asked_causes full c ++ xs) (cores_names_same cs (sees_right (entries_of c.from) (entries_in cs) h))

  cores_written_same : (cs : List CoreTree) → SeesAll small full (entries_in cs) → flat_map (core_written_causes small) cs ≡ flat_map (core_written_causes full) cs
  cores_written_same [] h = refl
  cores_written_same (c ∷ cs) h =
      ap (λ xs. xs ++ flat_map (core_written_causes small) cs) (core_written_same c (sees_left (entries_of c.from) (entries_in cs) h))
      ∙ ap (λ xs. core_written_causes full c ++ xs) (cores_written_same cs (sees_right (entries_of c.from) (entries_in cs) h))

  cores_types_same : (cs : List CoreTree) → SeesAll small full (entries_in cs) → map (core_types small) cs ≡ map (core_types full) cs
  cores_types_same [] h = refl
  cores_types_same (c ∷ cs) h =
      ap (λ x. x ∷ map (core_types small) cs) (core_types_same c (sees_left (entries_of c.from) (entries_in cs) h))
      ∙ ap (λ xs. core_types full c ∷ xs) (cores_types_same cs (sees_right (entries_of c.from) (entries_in cs) h))

  -- ---- the whole

  first_sees : (q : SelectTree) → SeesAll small full (query_entries q) → SeesAll small full (entries_of q.core.from)
  first_sees q h = sees_left (entries_of q.core.from) (entries_in q.others) h

  sorting_same : (q : SelectTree) → SeesAll small full (query_entries q) → sorting_of small q ≡ sorting_of full q
  sorting_same q h = ap (λ s. sorting_in s (outputs_of s q.core.items) q) (core_scope_same q.core (first_sees q h))

  abbrev form_over : List CoreForm → SelectTree → Form
  form_over cores q = record { cores = cores; directions = map key_direction q.keys; offset = unwrap_or q.offset 0; limit = limit_of q.limit }

  pub form_same : (q : SelectTree) → SeesAll small full (query_entries q) → (meant_in small q).form ≡ (meant_in full q).form
  form_same q h =
      ap (λ sorting. form_over (cores_meant small sorting 0 (cores_of q)) q) (sorting_same q h)
      ∙ ap (λ cores. form_over cores q) (cores_form_same (sorting_of full q) 0 (cores_of q) h)

  pub names_same : (q : SelectTree) → SeesAll small full (query_entries q) → (meant_in small q).names ≡ (meant_in full q).names
  names_same q h = ap (map (λ (o : Output). o.name)) (outputs_same q.core (first_sees q h))

  order_names_same : (q : SelectTree) → SeesAll small full (query_entries q) → order_name_causes small q ≡ order_name_causes full q
  order_names_same q h = ap (λ s. order_causes_in s (outputs_of s q.core.items) q) (core_scope_same q.core (first_sees q h))

  asked_same : (q : SelectTree) → SeesAll small full (query_entries q) → asked_causes small q ≡ asked_causes full q
  asked_same q h = ap (λ xs. xs ++ order_name_causes small q) (cores_names_same (cores_of q) h) ∙ ap (λ xs. flat_map (core_asked_causes full) (cores_of q) ++ xs) (order_names_same q h)

  pub name_causes_same : (q : SelectTree) → SeesAll small full (query_entries q) → select_name_causes small q ≡ select_name_causes full q
  name_causes_same q h =
      ap (λ xs. once_known (xs ++ flat_map core_alias_causes (cores_of q)) (asked_causes small q)) (causes_same (query_entries q) h)
      ∙ ap (λ xs. once_known (entered_causes full q) xs) (asked_same q h)

  order_types_same : (q : SelectTree) → SeesAll small full (query_entries q) → order_type_causes small q ≡ order_type_causes full q
  order_types_same q h = ap (λ s. flat_map (key_type_causes s (outputs_of s q.core.items)) q.keys) (core_scope_same q.core (first_sees q h))

  written_same : (q : SelectTree) → SeesAll small full (query_entries q) → written_type_causes small q ≡ written_type_causes full q
  written_same q h = ap (λ xs. xs ++ order_type_causes small q) (cores_written_same (cores_of q) h) ∙ ap (λ xs. flat_map (core_written_causes full) (cores_of q) ++ xs) (order_types_same q h)

  pub answer_same : (q : SelectTree) → SeesAll small full (query_entries q) → answer_types small q ≡ answer_types full q
  answer_same q h = cores_types_same (cores_of q) h

  output_causes_same : (q : SelectTree) → SeesAll small full (query_entries q) → output_type_causes small q ≡ output_type_causes full q
  output_causes_same q h =
      ap (λ outs. union_causes (length outs) (answer_types small q)) (outputs_same q.core (first_sees q h)) ∙ ap (union_causes (length (core_outputs full q.core))) (answer_same q h)

  pub type_causes_same : (q : SelectTree) → SeesAll small full (query_entries q) → select_type_causes small q ≡ select_type_causes full q
  type_causes_same q h =
      ap (λ xs. xs ++ (form_causes (meant_in small q).form ++ output_type_causes small q)) (written_same q h)
      ∙ ap (λ f. written_type_causes full q ++ (form_causes f ++ output_type_causes small q)) (form_same q h)
      ∙ ap (λ xs. written_type_causes full q ++ (form_causes (meant_in full q).form ++ xs)) (output_causes_same q h)
