use Rattle.std.proofs.Common.{◌≡◌, ◌++◌, ◌∷◌, map, take, flat_map, string_bytes}
use Rattle.med_value.specs.Text.{escaped_text}
use Rattle.med_statements.proofs.replies.append_names.Given as goal

abbrev pub invariant-loop-name : goal.invariant-loop-name
invariant-loop-name l = l.text.items ≡ l.fn.text.items ++ flat_map (λ name. 9 ∷ escaped_text name) (map string_bytes (take l.name-index l.names))
