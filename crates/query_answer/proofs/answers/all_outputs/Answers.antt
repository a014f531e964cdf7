use Rattle.std.proofs.Common.{◌≡◌, ◌∷◌, arith, length, map, subst}
use Rattle.query_answer.specs.Staging.{output_of}
use Rattle.query_answer.proofs.Groups.{nothing_more}
use Rattle.query_answer.proofs.Unions.{Taken, one_taken, one_shown, all_give, all_are_small}
use Rattle.query_answer.proofs.answers.all_outputs.Goals as goal

pub returns-in-Err-clause-told : goal.returns-in-Err-clause-told
returns-in-Err-clause-told c = λ db cores are.
    let rest : c.loop-one.coming.rest.items ≡ c.in-Some.one ∷ c.next.new.self.rest.items = c.in-Some.ensures.items in
    one_shown c.args.select.now db cores c.in-Some.one c.next.new.self.rest.items (map output_of c.loop-one.all.items) c.in-Err.fault
    (subst (λ l. Taken c.args.select.now db cores l (map output_of c.loop-one.all.items)) rest (c.loop-one.invariant db cores are)) (c.in-Err.ensures.told db)

pub loop-one-preserved : goal.loop-one-preserved
loop-one-preserved c = λ db cores are.
    let rest : c.loop-one.coming.rest.items ≡ c.in-Some.one ∷ c.next.new.self.rest.items = c.in-Some.ensures.items in
    one_taken c.args.select.now db cores c.in-Some.one c.next.new.self.rest.items c.loop-one.all.items c.in-Ok-joined_outputs.joined.items c.in-Ok.more.items c.in-Ok-joined_outputs.ensures
    (subst (λ l. Taken c.args.select.now db cores l (map output_of c.loop-one.all.items)) rest (c.loop-one.invariant db cores are)) (c.in-Ok.ensures.gives db) (c.in-Ok.ensures.small db)

pub returns-clause-gives : goal.returns-clause-gives
returns-clause-gives c = λ db cores are.
    let none : length c.loop-one.coming.rest.items ≡ 0 = omega (arith, c.in_default.ensures.cases.0) in
    all_give c.args.select.now db cores c.loop-one.coming.rest.items (map output_of c.loop-one.all.items) (nothing_more c.loop-one.coming.rest.items none) (c.loop-one.invariant db cores are)

pub returns-clause-small : goal.returns-clause-small
returns-clause-small c = λ db cores are.
    let none : length c.loop-one.coming.rest.items ≡ 0 = omega (arith, c.in_default.ensures.cases.0) in
    all_are_small c.args.select.now db cores c.loop-one.coming.rest.items (map output_of c.loop-one.all.items) (nothing_more c.loop-one.coming.rest.items none) (c.loop-one.invariant db cores are)
