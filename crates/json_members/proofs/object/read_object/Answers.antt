use Rattle.std.proofs.Common.{◌≡◌, [], ◌∷◌, Some, None, true, false, sym, ap, ◌∙◌, arith}
use Rattle.json.specs.Lex.{tokens}
use Rattle.json.specs.Json.{parse_map, value}
use Rattle.json.specs.Reads.{token_of}
use Rattle.serde_json.specs.Data.{object}
use Rattle.serde_json.specs.Read.{of_json, converted}
use Rattle.json_members.specs.Seen.{is_object, is_brace}
use Rattle.json_members.proofs.Walks.{whole, whole_read, whole_and_more, whole_refused, empty_whole, no_brace, brace_value, some_left}
use Rattle.json_members.proofs.Walks.{none_left}
use Rattle.json_members.proofs.object.read_object.Goals as goal

pub returns-in_default-next-clause-err : goal.returns-in_default-next-clause-err
returns-in_default-next-clause-err g c =
    let none : tokens c.args.text.now ≡ [] = grind arith in
    λ same. ap (λ ts. is_object (whole (value 127 ts))) none ∙ empty_whole 127

pub returns-then-not-is_brace-clause-err : goal.returns-then-not-is_brace-clause-err
returns-then-not-is_brace-clause-err g c =
    let first : tokens c.args.text.now ≡ token_of c.in-Some.token ∷ c.next.new.self = sym c.in-Ok.ensures.ok ∙ c.in-Some.ensures.value in
    let other : is_brace (token_of c.in-Some.token) ≡ false = grind arith in
    λ same. ap (λ ts. is_object (whole (value 127 ts))) first ∙ no_brace 127 _ c.next.new.self other

pub returns-in-Err-clause-err : goal.returns-in-Err-clause-err
returns-in-Err-clause-err g c =
    let first : tokens c.args.text.now ≡ token_of c.in-Some.token ∷ c.next.new.self = sym c.in-Ok.ensures.ok ∙ c.in-Some.ensures.value in
    let brace : is_brace (token_of c.in-Some.token) ≡ true = grind arith in
    let refused : converted of_json (value 127 (tokens c.args.text.now)) ≡ None =
    ap (λ ts. converted of_json (value 127 ts)) first ∙ brace_value _ c.next.new.self brace ∙ ap (parse_map object) c.in-Err.ensures.err in
    λ same. ap is_object (whole_refused (value 127 (tokens c.args.text.now)) refused)

pub returns-then-is_some-clause-err : goal.returns-then-is_some-clause-err
returns-then-is_some-clause-err g c =
    let first : tokens c.args.text.now ≡ token_of c.in-Some.token ∷ c.next.new.self = sym c.in-Ok.ensures.ok ∙ c.in-Some.ensures.value in
    let brace : is_brace (token_of c.in-Some.token) ≡ true = grind arith in
    let got = c.in-Ok-take_members.ensures.ok in
    let rest = c.take_members.new.reader in
    let more = some_left c.next-2.result ((rest ≡ []) × (c.next-2.new.self ≡ [])) (λ t. rest
    ≡ token_of t ∷ c.next-2.new.self) c.next-2.ensures.value (sym c.if-is_some.ensures) in
    let all : converted of_json (value 127 (tokens c.args.text.now)) ≡ Some (object got.0, token_of more.0 ∷ c.next-2.new.self) =
    ap (λ ts. converted of_json (value 127 ts)) first ∙ brace_value _ c.next.new.self brace ∙ ap (parse_map object) got.1
    ∙ ap (λ r. Some (object got.0, r)) more.1 in
    λ same. ap is_object (whole_and_more (value 127 (tokens c.args.text.now)) (object got.0) (token_of more.0) c.next-2.new.self all)

pub returns-clause-ok : goal.returns-clause-ok
returns-clause-ok g c =
    let first : tokens c.args.text.now ≡ token_of c.in-Some.token ∷ c.next.new.self = sym c.in-Ok.ensures.ok ∙ c.in-Some.ensures.value in
    let brace : is_brace (token_of c.in-Some.token) ≡ true = grind arith in
    let got = c.in-Ok-take_members.ensures.ok in
    let rest = c.take_members.new.reader in
    let over = none_left c.next-2.result ((rest ≡ []) × (c.next-2.new.self ≡ [])) (λ t. rest
    ≡ token_of t ∷ c.next-2.new.self) c.next-2.ensures.value (sym c.if-is_some.ensures) in
    let all : converted of_json (value 127 (tokens c.args.text.now)) ≡ Some (object got.0, []) =
    ap (λ ts. converted of_json (value 127 ts)) first ∙ brace_value _ c.next.new.self brace ∙ ap (parse_map object) got.1
    ∙ ap (λ r. Some (object got.0, r)) over.0 in
    (got.0, whole_read (value 127 (tokens c.args.text.now)) (object got.0) all, got.2)
