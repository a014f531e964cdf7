-- The causes of order keys by their types do not depend on the outputs.
use Rattle.std.proofs.Common.{◌≡◌, Bool, true, false, List, [], ◌∷◌, ◌++◌, Some, None, flat_map, if◌then◌else◌, refl, sym, ap, ◌∙◌}
use Rattle.std.specs.List.{list_any}
use Rattle.med_syntax.specs.Prelude.{Name, ExprTree, num, negative, text, truth, null, column, call_all, call, paren, minus, binary, between, among, like, compare, tested, negation, chain, KeyTree, CoreTree}
use Rattle.med_value.specs.declared.cause.Cause.{Cause}
use Rattle.bind_names.specs.Prelude.{TableShape, Scope, from_scope, Output, output_name, expression, is_named, sort_key}
use Rattle.bind_types.specs.Typing.{type_causes, chain_type_causes, sort_key_type_causes, key_type_causes, core_written_causes}
use Rattle.bind_types.specs.Kinds.{written_key_causes, asked_type_causes}

name_types : (s : Scope) (n : Name) (b : Bool) → sort_key_type_causes s (if b then output_name n else expression (column None n)) ≡ []
name_types s n true = refl
name_types s n false = refl

key_types : (s : Scope) (outs : List Output) (e : ExprTree) → sort_key_type_causes s (sort_key outs e) ≡ type_causes s e
key_types s outs (num n) = refl
key_types s outs (negative n) = refl
key_types s outs (text x) = refl
key_types s outs (truth b) = refl
key_types s outs null = refl
key_types s outs (column None n) = name_types s n (list_any (is_named n) outs)
key_types s outs (column (Some q) n) = refl
key_types s outs (call_all f) = refl
key_types s outs (call f es) = refl
key_types s outs (paren e) = key_types s outs e
key_types s outs (minus e) = refl
key_types s outs (binary op a b) = refl
key_types s outs (between neg e low high) = refl
key_types s outs (among neg e first others) = refl
key_types s outs (like neg e x) = refl
key_types s outs (compare op a b) = refl
key_types s outs (tested neg e t) = refl
key_types s outs (negation e) = refl
key_types s outs (chain joint first others) = refl

pub keys_types : (s : Scope) (outs : List Output) (ks : List KeyTree) → flat_map (key_type_causes s outs) ks ≡ flat_map (written_key_causes s) ks
keys_types s outs [] = refl
keys_types s outs (k ∷ ks) = rw (key_types s outs k.key, keys_types s outs ks) refl

-- where no ON is refused, what is left are the causes of what is asked of the entries
pub written_is : (tables : List TableShape) (c : CoreTree) → flat_map (chain_type_causes tables) c.from ≡ [] → asked_type_causes (from_scope tables c.from) c ≡ core_written_causes tables c
written_is tables c none = sym (ap (λ (xs : List Cause). xs ++ asked_type_causes (from_scope tables c.from) c) none)
