use Rattle.std.proofs.Common.{◌≡◌, ℕ, List, None, false, sym, subst, rules}
use Rattle.std.proofs.lemmas.Result.{IfOk-weaker}
use Rattle.list_wrapper.specs.declared.scans.Walk.{Walk}
use Rattle.list_wrapper.specs.declared.scans.Walk.TheVariants.{InTurn, Within, ByIndex, ByKeys}
use Rattle.list_wrapper.specs.Scans.{NextIs, numbered, spec_is, params_of, left_in_turn, left_by_keys, NextOf, is_spent}
use Rattle.list_wrapper.proofs.Rows.{enough}
use Rattle.list_wrapper.proofs.scans.next_row.Goals as goal

pub returns-in-InTurn-clause-next : goal.returns-in-InTurn-clause-next
returns-in-InTurn-clause-next c =
    let s = c.args.scan.now in
    let rows = numbered 0 c.args.rows.now.items in
    let goes : s.walk ≡ InTurn = search rules in
    let more : is_spent s.more ≡ false = search rules in
    IfOk-weaker c.next_in_turn.result _ _
    (λ next h. subst (λ (w : Walk). NextIs (spec_is s) (params_of s) rows w s.at s.more next) (sym goes)
    (enough (spec_is s) (left_in_turn (spec_is s) (params_of s) rows) s.at s.more next more h))
    c.next_in_turn.ensures.next

pub returns-in-ByIndex-clause-next : goal.returns-in-ByIndex-clause-next
returns-in-ByIndex-clause-next c =
    let s = c.args.scan.now in
    let rows = numbered 0 c.args.rows.now.items in
    let goes : s.walk ≡ ByIndex c.in-ByIndex.field-0 = search rules in
    let more : is_spent s.more ≡ false = search rules in
    IfOk-weaker c.next_in_turn-in-ByIndex.result _ _
    (λ next h. subst (λ (w : Walk). NextIs (spec_is s) (params_of s) rows w s.at s.more next) (sym goes)
    (enough (spec_is s) (left_in_turn (spec_is s) (params_of s) rows) s.at s.more next more h))
    c.next_in_turn-in-ByIndex.ensures.next

pub returns-in-ByKeys-clause-next : goal.returns-in-ByKeys-clause-next
returns-in-ByKeys-clause-next c =
    let s = c.args.scan.now in
    let rows = numbered 0 c.args.rows.now.items in
    let goes : s.walk ≡ ByKeys c.in-ByKeys.places = search rules in
    let more : is_spent s.more ≡ false = search rules in
    IfOk-weaker c.next_by_keys.result _ _
    (λ next h. subst (λ (w : Walk). NextIs (spec_is s) (params_of s) rows w s.at s.more next) (sym goes)
    (enough (spec_is s) (left_by_keys c.in-ByKeys.places.items rows) s.at s.more next more (subst (λ (l : List ℕ). NextOf (spec_is s) (left_by_keys l rows) s.at None next) c.deref.ensures.value h)))
    c.next_by_keys.ensures

pub next_within-requires : goal.next_within-requires
next_within-requires c =
    let goes : c.args.scan.now.walk ≡ Within c.in-Within.span = search rules in
    c.requires.2 c.in-Within.span goes

pub returns-in-Within-clause-next : goal.returns-in-Within-clause-next
returns-in-Within-clause-next c =
    let s = c.args.scan.now in
    let rows = numbered 0 c.args.rows.now.items in
    let goes : s.walk ≡ Within c.in-Within.span = search rules in
    let more : is_spent s.more ≡ false = search rules in
    IfOk-weaker c.next_within.result _ _
    (λ next h. subst (λ (w : Walk). NextIs (spec_is s) (params_of s) rows w s.at s.more next) (sym goes)
    (enough (spec_is s) (left_in_turn (spec_is s) (params_of s) rows) s.at s.more next more h))
    c.next_within.ensures
