use Rattle.std.proofs.Common.{◌≡◌, ◌-◌, ◌<◌, [], ◌∷◌, length, Some, None, sym, ap, ap₂, ◌∙◌, arith}
use Rattle.json.specs.Token.{Token}
use Rattle.json.specs.Json.{parse_map, after_end_array, read_key, items, members, value}
use Rattle.json.specs.Reads.{token_of}
use Rattle.json.proofs.Grammar.{value_is, value-begin_array, value-begin_object, read_key-shorter}
use Rattle.serde_json.specs.Data.{null, boolean, number, string, array, object, no_items, item, no_members, put}
use Rattle.serde_json.specs.Read.{number_of, of_json, of_items, converted}
use Rattle.json_members.specs.Seen.{of_number}
use Rattle.json_members.proofs.Walks.{converted-array, converted-object, item_read, item_refused, items_over, member_read, member_refused}
use Rattle.json_members.proofs.Walks.{key_refused, members_over, twice_mapped, unmapped, number_is, number_none, whichever}
use Rattle.json_members.proofs.walk.+take.Goals as goal

pub pass_items-items-init : goal.pass_items-items-init
pass_items-items-init t c =
    let all = converted of_items (items (value c.args.depth) (length c.args.reader.now) c.args.reader.now) in
    (length c.args.reader.now, (λ a. a), omega arith, unmapped all, omega arith)

pub pass_items-items-preserved : goal.pass_items-items-preserved
pass_items-items-preserved t c =
    let p = value c.args.depth in
    let l = c.items in
    let n = l.invariant.0 in
    let f = l.invariant.1 in
    let going : (after_end_array l.reader ≡ None) × (c.take_end_array.new.self ≡ l.reader) = grind arith in
    let done = c.in_ok-item.ensures in
    let d = done.ok.0 in
    let r = c.take_value.new.reader in
    let less : length r < length l.reader = rw (← going.1) done.shorter in
    let turn = item_read p n l.reader r d (omega (arith, l.invariant.2)) going.0 (rw (← going.1) done.ok.1) in (
      n - 1,
      (λ a. f (item d a)),
      omega (arith, l.invariant.2),
      l.invariant.3 ∙ ap (parse_map f) turn ∙ twice_mapped f (item d) _,
      omega (arith, l.invariant.4),
    )

pub pass_items-returns-in_err-item-clause-err : goal.pass_items-returns-in_err-item-clause-err
pass_items-returns-in_err-item-clause-err t c =
    let p = value c.args.depth in
    let l = c.items in
    let n = l.invariant.0 in
    let going : (after_end_array l.reader ≡ None) × (c.take_end_array.new.self ≡ l.reader) = grind arith in
    whichever _ _ (l.invariant.3
    ∙ ap (parse_map l.invariant.1) (item_refused p n l.reader going.0 (rw (← going.1) c.in_err-item.ensures.err)))

pub pass_items-returns-clause-ok : goal.pass_items-returns-clause-ok
pass_items-returns-clause-ok t c =
    let p = value c.args.depth in
    let l = c.items in
    let n = l.invariant.0 in
    let r = c.take_end_array.new.self in
    (l.invariant.1 no_items, l.invariant.3 ∙ ap (parse_map l.invariant.1) (items_over p n l.reader r l.invariant.2 (grind arith)))

pub pass_members-members-init : goal.pass_members-members-init
pass_members-members-init t c = (length c.args.reader.now, no_members, omega arith, (cc), omega arith)

pub pass_members-members-preserved : goal.pass_members-members-preserved
pass_members-members-preserved t c =
    let p = value c.args.depth in
    let l = c.members in
    let n = l.invariant.0 in
    let old = l.invariant.1 in
    let k = c.in-Some._name.now in
    let s = c.next_key.new.self in
    let named : read_key l.reader ≡ Some (Some k, s) = grind arith in
    let done = c.in_ok-member.ensures in
    let d = done.ok.0 in
    let r = c.take_value.new.reader in
    let less = read_key-shorter l.reader (Some k) s named in
    let lesser = done.shorter in (
      n - 1,
      put k d old,
      omega (arith, l.invariant.2),
      l.invariant.3 ∙ member_read p old n k l.reader s r d (omega (arith, l.invariant.2)) named done.ok.1,
      omega (arith, l.invariant.4),
    )

pub pass_members-returns-in_err-member-clause-err : goal.pass_members-returns-in_err-member-clause-err
pass_members-returns-in_err-member-clause-err t c =
    let p = value c.args.depth in
    let l = c.members in
    let n = l.invariant.0 in
    let k = c.in-Some._name.now in
    let s = c.next_key.new.self in
    let named : read_key l.reader ≡ Some (Some k, s) = grind arith in
    whichever _ _ (l.invariant.3 ∙ member_refused p l.invariant.1 n k l.reader s named c.in_err-member.ensures.err)

pub pass_members-returns-clause-ok : goal.pass_members-returns-clause-ok
pass_members-returns-clause-ok t c =
    let p = value c.args.depth in
    let l = c.members in
    let n = l.invariant.0 in
    (l.invariant.1, l.invariant.3 ∙ members_over p l.invariant.1 n l.reader c.next_key.new.self l.invariant.2 (grind arith))

pub pass_members-returns-in_err-_name-clause-err : goal.pass_members-returns-in_err-_name-clause-err
pass_members-returns-in_err-_name-clause-err t c =
    let p = value c.args.depth in
    let l = c.members in
    whichever _ _ (l.invariant.3 ∙ key_refused p l.invariant.1 l.invariant.0 l.reader c.in_err-_name.ensures.value)

pub take_value-returns-in_err-token-clause-err : goal.take_value-returns-in_err-token-clause-err
take_value-returns-in_err-token-clause-err t c =
    let empty : c.args.reader.now ≡ [] = grind arith in
    whichever _ _ (ap (converted of_json) (ap (value c.args.depth) empty ∙ value_is c.args.depth []))

pub take_value-returns-then-depth-eq0-clause-err : goal.take_value-returns-then-depth-eq0-clause-err
unfolding value
take_value-returns-then-depth-eq0-clause-err t c =
    let first : c.args.reader.now ≡ token_of c.in_ok-token.token ∷ c.next.new.self = grind arith in
    let none : c.args.depth ≡ 0 = omega arith in
    ap (converted of_json) (ap₂ value none (first ∙ ap (λ k. token_of k ∷ c.next.new.self) c.in-BeginArray.is))

pub take_value-returns-then-depth-eq0-2-clause-err : goal.take_value-returns-then-depth-eq0-2-clause-err
unfolding value
take_value-returns-then-depth-eq0-2-clause-err t c =
    let first : c.args.reader.now ≡ token_of c.in_ok-token.token ∷ c.next.new.self = grind arith in
    let none : c.args.depth ≡ 0 = omega arith in
    ap (converted of_json) (ap₂ value none (first ∙ ap (λ k. token_of k ∷ c.next.new.self) c.in-BeginObject.is))

pub take_value-returns-in_err-pass_items-in-BeginArray-clause-err : goal.take_value-returns-in_err-pass_items-in-BeginArray-clause-err
take_value-returns-in_err-pass_items-in-BeginArray-clause-err t c =
    let first : c.args.reader.now ≡ token_of c.in_ok-token.token ∷ c.next.new.self = grind arith in
    let opened = ap (converted of_json) (ap (value c.args.depth) (first ∙ ap (λ k. token_of k ∷ c.next.new.self) c.in-BeginArray.is)
    ∙ value-begin_array c.args.depth c.next.new.self (omega arith))
    ∙ converted-array (items (value (c.args.depth - 1)) (length c.next.new.self) c.next.new.self) in
    whichever _ _ (opened ∙ ap (parse_map array) c.in_err-pass_items-in-BeginArray.ensures.err)

pub take_value-returns-in_err-pass_members-in-BeginObject-clause-err : goal.take_value-returns-in_err-pass_members-in-BeginObject-clause-err
take_value-returns-in_err-pass_members-in-BeginObject-clause-err t c =
    let first : c.args.reader.now ≡ token_of c.in_ok-token.token ∷ c.next.new.self = grind arith in
    let opened = ap (converted of_json) (ap (value c.args.depth) (first ∙ ap (λ k. token_of k ∷ c.next.new.self) c.in-BeginObject.is)
    ∙ value-begin_object c.args.depth c.next.new.self (omega arith))
    ∙ converted-object (members (value (c.args.depth - 1)) (length c.next.new.self) c.next.new.self) in
    whichever _ _ (opened ∙ ap (parse_map object) c.in_err-pass_members-in-BeginObject.ensures.err)

pub take_value-returns-in-String-clause-ok : goal.take_value-returns-in-String-clause-ok
take_value-returns-in-String-clause-ok t c =
    let first : c.args.reader.now ≡ token_of c.in_ok-token.token ∷ c.next.new.self = grind arith in
    let is : c.args.reader.now ≡ Token.string c.in-String.text.now ∷ c.next.new.self = grind (arith, first) in
    (string c.in-String.text.now, ap (converted of_json) (ap (value c.args.depth) is ∙ value_is c.args.depth _), (cc))

pub take_value-returns-in-Bool-clause-ok : goal.take_value-returns-in-Bool-clause-ok
take_value-returns-in-Bool-clause-ok t c =
    let first : c.args.reader.now ≡ token_of c.in_ok-token.token ∷ c.next.new.self = grind arith in
    let is : c.args.reader.now ≡ Token.boolean c.in-Bool.truth ∷ c.next.new.self = grind (arith, first) in
    (boolean c.in-Bool.truth, ap (converted of_json) (ap (value c.args.depth) is ∙ value_is c.args.depth _), (cc))

pub take_value-returns-in-Null-clause-ok : goal.take_value-returns-in-Null-clause-ok
take_value-returns-in-Null-clause-ok t c =
    let first : c.args.reader.now ≡ token_of c.in_ok-token.token ∷ c.next.new.self = grind arith in
    let is : c.args.reader.now ≡ Token.null ∷ c.next.new.self = grind (arith, first) in
    (null, ap (converted of_json) (ap (value c.args.depth) is ∙ value_is c.args.depth _), (cc))

pub take_value-returns-in-Some-clause-ok : goal.take_value-returns-in-Some-clause-ok
take_value-returns-in-Some-clause-ok t c =
    let first : c.args.reader.now ≡ token_of c.in_ok-token.token ∷ c.next.new.self = grind arith in
    let is : c.args.reader.now ≡ Token.number c.in-Number.text.now ∷ c.next.new.self = grind (arith, first) in
    let known = number_is (number_of c.in-Number.text.now) c.in-Some.number c.next.new.self c.in-Some.ensures in (
      number known.0,
      ap (converted of_json) (ap (value c.args.depth) is ∙ value_is c.args.depth _) ∙ known.1,
      c.number_scalar.ensures ∙ sym (ap of_number known.2),
    )

pub take_value-returns-in-None-clause-err : goal.take_value-returns-in-None-clause-err
take_value-returns-in-None-clause-err t c =
    let first : c.args.reader.now ≡ token_of c.in_ok-token.token ∷ c.next.new.self = grind arith in
    let is : c.args.reader.now ≡ Token.number c.in-Number.text.now ∷ c.next.new.self = grind (arith, first) in
    ap (converted of_json) (ap (value c.args.depth) is ∙ value_is c.args.depth _) ∙ number_none _ c.next.new.self c.in-None.ensures

pub take_value-returns-in-EndObject-clause-err : goal.take_value-returns-in-EndObject-clause-err
take_value-returns-in-EndObject-clause-err t c =
    let first : c.args.reader.now ≡ token_of c.in_ok-token.token ∷ c.next.new.self = grind arith in
    let none : value c.args.depth c.args.reader.now ≡ None = rw (value_is c.args.depth c.args.reader.now, first) (grind arith) in
    ap (converted of_json) none

pub take_value-returns-in_ok-pass_items-in-BeginArray-clause-ok : goal.take_value-returns-in_ok-pass_items-in-BeginArray-clause-ok
take_value-returns-in_ok-pass_items-in-BeginArray-clause-ok t c =
    let first : c.args.reader.now ≡ token_of c.in_ok-token.token ∷ c.next.new.self = grind arith in
    let opened = ap (converted of_json) (ap (value c.args.depth) (first ∙ ap (λ k. token_of k ∷ c.next.new.self) c.in-BeginArray.is)
    ∙ value-begin_array c.args.depth c.next.new.self (omega arith))
    ∙ converted-array (items (value (c.args.depth - 1)) (length c.next.new.self) c.next.new.self) in
    let found = c.in_ok-pass_items-in-BeginArray.ensures.ok in
    (array found.0, opened ∙ ap (parse_map array) found.1, (cc))

pub take_value-returns-in_ok-pass_members-in-BeginObject-clause-ok : goal.take_value-returns-in_ok-pass_members-in-BeginObject-clause-ok
take_value-returns-in_ok-pass_members-in-BeginObject-clause-ok t c =
    let first : c.args.reader.now ≡ token_of c.in_ok-token.token ∷ c.next.new.self = grind arith in
    let opened = ap (converted of_json) (ap (value c.args.depth) (first ∙ ap (λ k. token_of k ∷ c.next.new.self) c.in-BeginObject.is)
    ∙ value-begin_object c.args.depth c.next.new.self (omega arith))
    ∙ converted-object (members (value (c.args.depth - 1)) (length c.next.new.self) c.next.new.self) in
    let found = c.in_ok-pass_members-in-BeginObject.ensures.ok in
    (object found.0, opened ∙ ap (parse_map object) found.1, (cc))
