use Rattle.std.proofs.Common.{◌≡◌, ◌-◌, length, Some, ◌∙◌, arith}
use Rattle.json.specs.Json.{read_key, value}
use Rattle.json.proofs.Grammar.{read_key-shorter}
use Rattle.serde_json.specs.Data.{no_members, put}
use Rattle.json_members.proofs.Walks.{member_read, member_refused, key_refused, members_over, whichever}
use Rattle.json_members.proofs.object.take_members.Goals as goal

pub members-init : goal.members-init
members-init g c = (length c.args.reader.now, no_members, omega arith, (cc), c.requires)

pub members-preserved : goal.members-preserved
members-preserved g c =
    let p = value c.args.depth in
    let l = c.members in
    let n = l.invariant.0 in
    let old = l.invariant.1 in
    let name = c.in-Some.name.now in
    let s = c.next_key.new.self in
    let named : read_key l.reader ≡ Some (Some name, s) = grind arith in
    let done = c.in_ok-member.ensures in
    let d = done.ok.0 in
    let r = c.take_value.new.reader in
    let less = read_key-shorter l.reader (Some name) s named in
    let lesser = done.shorter in (
      n - 1,
      put name d old,
      omega (arith, l.invariant.2),
      l.invariant.3 ∙ member_read p old n name l.reader s r d (omega (arith, l.invariant.2)) named done.ok.1,
      c.note.ensures c.args.notes.now old d done.ok.2 l.invariant.4,
    )

pub returns-in_err-name-clause-err : goal.returns-in_err-name-clause-err
returns-in_err-name-clause-err g c =
    let l = c.members in
    whichever _ _ (l.invariant.3 ∙ key_refused (value c.args.depth) l.invariant.1 l.invariant.0 l.reader c.in_err-name.ensures.value)

pub returns-in_err-member-clause-err : goal.returns-in_err-member-clause-err
returns-in_err-member-clause-err g c =
    let l = c.members in
    let k = c.in-Some.name.now in
    let s = c.next_key.new.self in
    let named : read_key l.reader ≡ Some (Some k, s) = grind arith in
    whichever _ _ (l.invariant.3
    ∙ member_refused (value c.args.depth) l.invariant.1 l.invariant.0 k l.reader s named c.in_err-member.ensures.err)

pub returns-clause-ok : goal.returns-clause-ok
returns-clause-ok g c =
    let l = c.members in (
      l.invariant.1,
      l.invariant.3
          ∙ members_over (value c.args.depth) l.invariant.1 l.invariant.0 l.reader c.next_key.new.self l.invariant.2 (grind arith),
      l.invariant.4,
    )
