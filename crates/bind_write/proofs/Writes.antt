-- Writes over the tables of a catalogue.
use Rattle.std.proofs.Common.{◌≡◌, ◌⊎◌, inl, inr, List, [], ◌∷◌, ◌++◌, map, slice_get, Option, Some, Contains, Result, Ok, Err, IfOk, OnOk, IfErr, refl, sym, ap, append-nil, ◌∙◌, arith}
use Rattle.std.proofs.lemmas.List.Elements.{Contains-append_left, Contains-append_right}
use Rattle.med_value.specs.Column.{column_of}
use Rattle.med_value.specs.declared.cause.Cause.{Cause}
use Rattle.med_value.specs.declared.cause.Cause.TheVariants.{OutOfMemory}
use Rattle.med_syntax.specs.Prelude.{Name, ExprTree, EntryTree, DeleteTree, WriteTree, delete}
use Rattle.bind_names.specs.Prelude.{once_known, TableShape, Scope, scope_of, visible, TellsCause}
use Rattle.bind_names.specs.declared.scope.Visible.{Visible}
use Rattle.med_binder.specs.Prelude.{TellsInTurn, target_right_causes, Attached, shapes}
use Rattle.med_catalog.specs.Objects.{Objects}
use Rattle.med_write.specs.Form.{form_of}
use Rattle.bind_write.specs.declared.target.Target.{Target}
use Rattle.bind_write.specs.declared.write_values.BoundValues.{BoundValues}
use Rattle.bind_write.specs.declared.bound.TableWrite.{TableWrite}
use Rattle.bind_write.specs.Meaning.{target_of, columns_in, written_column, write_meant, scope_in}
use Rattle.bind_write.specs.Naming.{target_causes, names_of, WriteNames}
use Rattle.bind_write.specs.Typing.{asked_types, types_of, WriteTypes}
use Rattle.bind_write.specs.Binding.{IsQueryOf, IsBoundWrite, IsBindable, IsMeantWrite, NotBound}
use Rattle.bind_write.specs.Asking.{IsTarget, AreBound, value_names, view_of}
use Rattle.bind_write.specs.Steps.{BindsWrite}
use Rattle.bind_write.proofs.Lists.{none_in, of_two, in_turn_by}

once_left : (xs ys : List Cause) (c : Cause) → Contains xs c → Contains (once_known xs ys) c
once_left [] ys c h = absurd (let within = h.1 in omega arith)
once_left (x ∷ xs) ys c h = h

-- a cause of the table is one of the write
pub target_told : (known all asked rights more ts : List Cause) (c : Cause) → ((d : Cause) → Contains known d → Contains all d) → TellsCause (known ++ rights) c → TellsInTurn (once_known all asked ++ (rights ++ more)) ts c
target_told known all asked rights more ts c f t = record { told = by t.told }
  where
    part : Contains known c ⊎ Contains rights c → Contains (once_known all asked ++ (rights ++ more)) c
    part (inl h) = Contains-append_left (once_known all asked) (rights ++ more) c (once_left all asked c (f c h))
    part (inr h) = Contains-append_right (once_known all asked) (rights ++ more) c (Contains-append_left rights more c h)

    by : (c ≡ OutOfMemory) ⊎ Contains (known ++ rights) c
        → (c ≡ OutOfMemory) ⊎ (Contains (once_known all asked ++ (rights ++ more)) c ⊎ ((once_known all asked ++ (rights ++ more) ≡ []) × Contains ts c))
    by (inl e) = inl e
    by (inr h) = inr (inl (part (of_two known rights c h)))

-- once the table and the list of columns are known and the rights are there, the names of the write are those of its expressions
pub names_left : (known others names rights : List Cause) → known ≡ [] → others ≡ [] → rights ≡ [] → names ≡ once_known known (others ++ names) ++ (rights ++ [])
names_left known others names rights k l r = rw (k, l, r) (sym (append-nil names))

-- ---- expressions over the table

-- what the entry brings into view is what WHERE and SET see
pub scope_same : (o : Objects) (bound : List Attached) (user : Name) (e : EntryTree) (t : Target) (v : Visible) → IsTarget o bound user e.table t → visible v ≡ view_of e (map column_of t.columns.now) → scope_of (v ∷ []) ≡ scope_in (shapes o) e
scope_same o bound user e t v is h = ap (λ (x : TableShape). x ∷ []) (h ∙ ap (view_of e) is.columns)

pub told_over : (s seen : Scope) (es given : List ExprTree) (w : Option ExprTree) (c : Cause) → seen ≡ s → given ≡ es → TellsInTurn (value_names seen given w) (asked_types seen given w) c → TellsInTurn (value_names s es w) (asked_types s es w) c
told_over s seen es given w c p q h = rw (sym p, sym q) h

pub bound_over : (s seen : Scope) (es given : List ExprTree) (w : Option ExprTree) (v : BoundValues) → seen ≡ s → given ≡ es → AreBound seen given w v → AreBound s es w v
bound_over s seen es given w v p q h = rw (sym p, sym q) h

pub deleted_told : (o : Objects) (bound : List Attached) (user : Name) (d : DeleteTree) (t : Target) (c : Cause) → IsTarget o bound user d.entry.table t
    → TellsInTurn (value_names (scope_in (shapes o) d.entry) [] d.condition) (types_of o (delete d)) c → TellsInTurn (names_of o user (delete d)) (types_of o (delete d)) c
deleted_told o bound user d t c is h = in_turn_by (value_names (scope_in (shapes o) d.entry) [] d.condition) (names_of o user (delete d)) (types_of o (delete d)) (types_of o (delete d)) c
    (names_left (target_causes (shapes o) d.entry.table) [] (value_names (scope_in (shapes o) d.entry) [] d.condition) (target_right_causes o user d.entry.table) is.known refl is.rights) (λ x. x) h

pub write_is : (o : Objects) (bound : List Attached) (user : Name) (w : WriteTree) (t : Target) (r : TableWrite) → IsTarget o bound user (target_of w) t
    → r.place ≡ t.place → r.source ≡ t.source → r.table ≡ t.table → r.write.columns.items ≡ map written_column (columns_in (shapes o) (target_of w))
    → form_of r.write.rows ≡ write_meant (shapes o) w → IsQueryOf o bound w r.query → names_of o user w ≡ [] → types_of o w ≡ [] → IsBoundWrite o bound user w r
write_is o bound user w t r is place source table columns form query names types = record {
  meant = record {
    place = is.place ∙ ap Some (sym place);
    there = record {
      at = is.there.at;
      there = ap (slice_get bound) place ∙ is.there.there;
      source = source ∙ is.there.source;
      number = ap (λ n. n.number) table ∙ is.there.number;
    };
    columns = columns;
    form = form;
    query = query;
  };
  names = names;
  types = types;
}

-- ---- what is answered

pub answers_bindable : (o : Objects) (bound : List Attached) (user : Name) (w : WriteTree) (r : Result TableWrite Cause) → BindsWrite o bound user w r → OnOk r (IsBindable o user w)
answers_bindable o bound user w (Ok t) h = record { names = λ c i. none_in (names_of o user w) c h.names i; types = λ c i. none_in (types_of o w) c h.types i }
answers_bindable o bound user w (Err c) h = tt

pub answers_meant : (o : Objects) (bound : List Attached) (user : Name) (w : WriteTree) (r : Result TableWrite Cause) → BindsWrite o bound user w r → IfOk r (λ t. IsMeantWrite o bound w t)
answers_meant o bound user w (Ok t) h = h.meant
answers_meant o bound user w (Err c) h = tt

pub answers_refused : (o : Objects) (bound : List Attached) (user : Name) (w : WriteTree) (r : Result TableWrite Cause) → BindsWrite o bound user w r → IfErr r (λ c. NotBound o user w c)
answers_refused o bound user w (Ok t) h = tt
answers_refused o bound user w (Err c) h = by h.told
  where
    by : (c ≡ OutOfMemory) ⊎ (Contains (names_of o user w) c ⊎ ((names_of o user w ≡ []) × Contains (types_of o w) c)) → NotBound o user w c
    by (inl e) = inl e
    by (inr (inl i)) = inr (inl i)
    by (inr (inr (none, i))) = inr (inr (i, λ d j. none_in (names_of o user w) d none j))

pub answers_memory : (o : Objects) (bound : List Attached) (user : Name) (w : WriteTree) (r : Result TableWrite Cause) → BindsWrite o bound user w r
    → ((c : Cause) → WriteNames o user w c → ⊥) → ((c : Cause) → WriteTypes o w c → ⊥) → IfErr r (λ c. c ≡ OutOfMemory)
answers_memory o bound user w (Ok t) h names types = tt
answers_memory o bound user w (Err c) h names types = by h.told
  where
    by : (c ≡ OutOfMemory) ⊎ (Contains (names_of o user w) c ⊎ ((names_of o user w ≡ []) × Contains (types_of o w) c)) → c ≡ OutOfMemory
    by (inl e) = e
    by (inr (inl i)) = absurd (names c i)
    by (inr (inr (none, i))) = absurd (types c i)
