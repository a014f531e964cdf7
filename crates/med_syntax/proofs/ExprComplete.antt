-- What is spelled so is read so.
use Rattle.std.proofs.Common.{◌≡◌, ℕ, zero, suc, ◌+◌, ◌≤◌, ◌<◌, inl, inr, Bool, true, false, List, [], ◌∷◌, ◌++◌, length, refl, sym, ◌∙◌, arith, append_assoc, append-nil}
use Rattle.std.specs.Prelude.{Ok, Err, Some, None}
use Rattle.med_value.specs.declared.operators.Operation.{Operation}
use Rattle.med_value.specs.declared.operators.Operation.TheVariants.{Add, Subtract, Multiply, Divide, Remainder}
use Rattle.med_value.specs.declared.order.Comparison.{Comparison}
use Rattle.med_syntax.specs.declared.expr.Joint.TheVariants.{Or, And}
use Rattle.med_syntax.specs.Terminal.{Terminal}
use Rattle.med_syntax.specs.Terminal as t
use Rattle.med_syntax.specs.declared.refusal.Refusal.TheVariants.{TooHigh}
use Rattle.med_syntax.specs.Tree.{Name}
use Rattle.med_value.specs.declared.operators.Status.{Status}
use Rattle.med_value.specs.declared.operators.Status.TheVariants as statuses
use Rattle.med_syntax.specs.ExprTree.{ExprTree, ExprTrees, num, negative, text, truth, null, column, call_all, call, paren, minus, binary, between, among, like, compare, tested, negation, chain, none, more, perhaps_not, status_terminal, binary_level, height, highest, level, Fits, AllFit, is_num, spelling, parts_spelling, spellings, IsExpr}
use Rattle.med_syntax.specs.ExprReading.{Parser, ◌>>=◌, within, Below, additive, multiplicative, is_comma, others_after, parts_after, call_after, named_after, primary_of, after_minus, signed_of, product_of, sum_of, list_after, bounds_after, range_after, range_of, compare_after, compare_of, is_after, is_of, negated_of, conjunction_of, whole_of, below, all_of}
use Rattle.med_syntax.proofs.ExprChains.{within_low, within_high, low_or_high, reach_of, reach, Takes, Completes, Ops, binary_high, binary_low, joint_low, left_takes, all_low, all_high, Marks, reach_others, others_take, chain_takes}

-- ---- the levels below

column_stops : (b : Below) (n : Name) (rest : List Terminal) → reach rest ≤ 9 → named_after b n rest ≡ Ok (column None n, rest)
column_stops b n (t.Dot ∷ rest) h = absurd (omega arith)
column_stops b n (t.LeftParen ∷ rest) h = absurd (omega arith)
column_stops b n rest h = refl

-- no expression begins with `*` or a closing parenthesis
call_skips : (b : Below) (f : Name) (e : ExprTree) (rest : List Terminal) → call_after b f (spelling e ++ rest) ≡ parts_after b f (spelling e ++ rest)
call_skips b f (num m) rest = refl
call_skips b f (negative m) rest = refl
call_skips b f (text x) rest = refl
call_skips b f (truth v) rest = refl
call_skips b f null rest = refl
call_skips b f (column None n) rest = refl
call_skips b f (column (Some q) n) rest = refl
call_skips b f (call_all n) rest = refl
call_skips b f (call n parts) rest = refl
call_skips b f (paren e) rest = refl
call_skips b f (minus e) rest = refl
call_skips b f (binary op x y) rest = rw (append_assoc (spelling x) (t.Binary op ∷ spelling y) rest) (call_skips b f x (t.Binary op ∷ (spelling y ++ rest)))
call_skips b f (between neg e low high) rest =
    let after : List Terminal = perhaps_not neg ++ t.Between ∷ (spelling low ++ t.Joined And ∷ spelling high) in
    rw (append_assoc (spelling e) after rest) (call_skips b f e (after ++ rest))
call_skips b f (among neg e first others) rest =
    let after : List Terminal = perhaps_not neg ++ t.In ∷ t.LeftParen ∷ (spelling first ++ (spellings t.Comma others ++ t.RightParen ∷ [])) in
    rw (append_assoc (spelling e) after rest) (call_skips b f e (after ++ rest))
call_skips b f (like neg e x) rest =
    let after : List Terminal = perhaps_not neg ++ t.Like ∷ t.Text x ∷ [] in
    rw (append_assoc (spelling e) after rest) (call_skips b f e (after ++ rest))
call_skips b f (compare op x y) rest = rw (append_assoc (spelling x) (t.Compare op ∷ spelling y) rest) (call_skips b f x (t.Compare op ∷ (spelling y ++ rest)))
call_skips b f (tested neg e s) rest =
    let after : List Terminal = t.Is ∷ (perhaps_not neg ++ status_terminal s ∷ []) in
    rw (append_assoc (spelling e) after rest) (call_skips b f e (after ++ rest))
call_skips b f (negation e) rest = refl
call_skips b f (chain j first others) rest = rw (append_assoc (spelling first) (spellings (t.Joined j) others) rest) (call_skips b f first (spellings (t.Joined j) others ++ rest))

comma_stops : (item : Parser) (k : ℕ) (rest : List Terminal) → others_after is_comma item k (t.RightParen ∷ rest) ≡ Ok (none, t.RightParen ∷ rest)
comma_stops item zero rest = refl
comma_stops item (suc k) rest = refl

parts_take : (b : Below) (r : ℕ) → Completes b r → (n : Name) (first : ExprTree) (others : ExprTrees) (rest : List Terminal) → Fits (call n (more first others)) →
    parts_after b n (spelling first ++ (spellings t.Comma others ++ t.RightParen ∷ rest)) ≡ within (suc r) (call n (more first others)) rest
parts_take b r c n first others rest f =
    let whole : ExprTree = call n (more first others) in
    let m : Marks is_comma t.Comma 0 (t.RightParen ∷ rest) = record { is = refl; reaches = omega arith; rest_reaches = omega arith; stops = λ i k. comma_stops i k rest } in
    let after : List Terminal = spellings t.Comma others ++ t.RightParen ∷ rest in
    rw (c.whole first after f.0 (omega arith) (reach_others t.Comma 0 others (t.RightParen ∷ rest) (omega arith) (omega arith))) (elim (low_or_high (height first) r) [
      | inr g ↦ (let g2 : suc r < height whole = omega arith in rw (within_high r first after g, within_high (suc r) whole rest g2) refl)
      | inl g ↦ rw (within_low r first after g) (rw (others_take is_comma b.whole r 0 t.Comma (t.RightParen ∷ rest) m c.whole others (length after) f.2 (omega arith))
          (elim (low_or_high (highest others) r) [
            | inr g3 ↦ (let g2 : suc r < height whole = omega arith in rw (all_high r others (t.RightParen ∷ rest) g3, within_high (suc r) whole rest g2) refl)
            | inl g3 ↦ (let g2 : height whole ≤ suc r = omega arith in rw (all_low r others (t.RightParen ∷ rest) g3, within_low (suc r) whole rest g2) refl)
          ]))
    ])

call_takes : (b : Below) (r : ℕ) → Completes b r → (n : Name) (parts : ExprTrees) (rest : List Terminal) → AllFit 0 parts → call_after b n (parts_spelling parts ++ rest) ≡ within (suc r) (call n parts) rest
call_takes b r c n none rest f = sym (within_low (suc r) (call n none) rest (omega arith))
call_takes b r c n (more first others) rest f =
    let same : parts_spelling (more first others) ++ rest ≡ spelling first ++ (spellings t.Comma others ++ t.RightParen ∷ rest) = simp append_assoc in
    rw same (call_skips b n first (spellings t.Comma others ++ t.RightParen ∷ rest) ∙ parts_take b r c n first others rest f)

primary_takes : (b : Below) (r : ℕ) → Completes b r → Takes 9 (primary_of b) (suc r)
primary_takes b r c (num m) rest f l h = sym (within_low (suc r) (num m) rest (omega arith))
primary_takes b r c (text x) rest f l h = sym (within_low (suc r) (text x) rest (omega arith))
primary_takes b r c (truth v) rest f l h = sym (within_low (suc r) (truth v) rest (omega arith))
primary_takes b r c null rest f l h = sym (within_low (suc r) null rest (omega arith))
primary_takes b r c (column None n) rest f l h = column_stops b n rest h ∙ sym (within_low (suc r) (column None n) rest (omega arith))
primary_takes b r c (column (Some q) n) rest f l h = sym (within_low (suc r) (column (Some q) n) rest (omega arith))
primary_takes b r c (call_all n) rest f l h = sym (within_low (suc r) (call_all n) rest (omega arith))
primary_takes b r c (call n parts) rest f l h = call_takes b r c n parts rest f
primary_takes b r c (paren e) rest f l h =
    rw (append_assoc (spelling e) (t.RightParen ∷ []) rest) (rw (c.whole e (t.RightParen ∷ rest) f (omega arith) (omega arith)) (elim (low_or_high (height e) r) [
      | inr g ↦ (let g2 : suc r < height (paren e) = omega arith in rw (within_high r e (t.RightParen ∷ rest) g, within_high (suc r) (paren e) rest g2) refl)
      | inl g ↦ (let g2 : height (paren e) ≤ suc r = omega arith in rw (within_low r e (t.RightParen ∷ rest) g, within_low (suc r) (paren e) rest g2) refl)
    ]))
primary_takes b r c (binary op x y) rest f l h = absurd (omega (arith, binary_low op))
primary_takes b r c (chain j first others) rest f l h = absurd (omega (arith, joint_low j))
primary_takes b r c e rest f l h = absurd (omega arith)

minus_skips : (b : Below) (e : ExprTree) (rest : List Terminal) → 8 ≤ level e → is_num e ≡ false → after_minus b (spelling e ++ rest) ≡ (b.signed (spelling e ++ rest) >>= λ x. Ok (minus x.0, x.1))
minus_skips b (num m) rest l n = absurd (cc)
minus_skips b (text x) rest l n = refl
minus_skips b (truth v) rest l n = refl
minus_skips b null rest l n = refl
minus_skips b (column None m) rest l n = refl
minus_skips b (column (Some q) m) rest l n = refl
minus_skips b (call_all f) rest l n = refl
minus_skips b (call f parts) rest l n = refl
minus_skips b (paren e) rest l n = refl
minus_skips b (negative m) rest l n = refl
minus_skips b (minus e) rest l n = refl
minus_skips b (binary op x y) rest l n = absurd (omega (arith, binary_low op))
minus_skips b (chain j first others) rest l n = absurd (omega (arith, joint_low j))
minus_skips b e rest l n = absurd (omega arith)

signed_takes : (b : Below) (r : ℕ) → Completes b r → Takes 8 (signed_of b) (suc r)
signed_takes b r c (num m) rest f l h = primary_takes b r c (num m) rest f (omega arith) (omega arith)
signed_takes b r c (text x) rest f l h = primary_takes b r c (text x) rest f (omega arith) (omega arith)
signed_takes b r c (truth v) rest f l h = primary_takes b r c (truth v) rest f (omega arith) (omega arith)
signed_takes b r c null rest f l h = primary_takes b r c null rest f (omega arith) (omega arith)
signed_takes b r c (column None n) rest f l h = primary_takes b r c (column None n) rest f (omega arith) (omega arith)
signed_takes b r c (column (Some q) n) rest f l h = primary_takes b r c (column (Some q) n) rest f (omega arith) (omega arith)
signed_takes b r c (call_all n) rest f l h = primary_takes b r c (call_all n) rest f (omega arith) (omega arith)
signed_takes b r c (call n parts) rest f l h = primary_takes b r c (call n parts) rest f (omega arith) (omega arith)
signed_takes b r c (paren e) rest f l h = primary_takes b r c (paren e) rest f (omega arith) (omega arith)
signed_takes b r c (negative m) rest f l h = sym (within_low (suc r) (negative m) rest (omega arith))
signed_takes b r c (minus e) rest f l h =
    rw (minus_skips b e rest f.1 f.2) (rw (c.signed e rest f.0 f.1 h) (elim (low_or_high (height e) r) [
      | inr g ↦ (let g2 : suc r < height (minus e) = omega arith in rw (within_high r e rest g, within_high (suc r) (minus e) rest g2) refl)
      | inl g ↦ (let g2 : height (minus e) ≤ suc r = omega arith in rw (within_low r e rest g, within_low (suc r) (minus e) rest g2) refl)
    ]))
signed_takes b r c (binary op x y) rest f l h = absurd (omega (arith, binary_low op))
signed_takes b r c (chain j first others) rest f l h = absurd (omega (arith, joint_low j))
signed_takes b r c e rest f l h = absurd (omega arith)

products_take : (op : Operation) → binary_level op ≡ 7 → multiplicative (t.Binary op) ≡ Some op
products_take Multiply h = refl
products_take Divide h = refl
products_take Remainder h = refl
products_take Add h = absurd (omega arith)
products_take Subtract h = absurd (omega arith)

products_stop : (u : Terminal) → reach_of u ≤ 7 → multiplicative u ≡ None
products_stop (t.Binary Multiply) h = absurd (omega arith)
products_stop (t.Binary Divide) h = absurd (omega arith)
products_stop (t.Binary Remainder) h = absurd (omega arith)
products_stop u h = refl

sums_take : (op : Operation) → binary_level op ≡ 6 → additive (t.Binary op) ≡ Some op
sums_take Add h = refl
sums_take Subtract h = refl
sums_take op h = absurd (omega arith)

sums_stop : (u : Terminal) → reach_of u ≤ 6 → additive u ≡ None
sums_stop (t.Binary Add) h = absurd (omega arith)
sums_stop (t.Binary Subtract) h = absurd (omega arith)
sums_stop u h = refl

products : Ops multiplicative 7
products = record { takes = products_take; stops = products_stop; low = omega arith; high = omega arith }

sums : Ops additive 6
sums = record { takes = sums_take; stops = sums_stop; low = omega arith; high = omega arith }

product_takes : (b : Below) (r : ℕ) → Completes b r → Takes 7 (product_of b (suc r)) (suc r)
product_takes b r c = left_takes multiplicative (signed_of b) (suc r) 7 products (signed_takes b r c)

sum_takes : (b : Below) (r : ℕ) → Completes b r → Takes 6 (sum_of b (suc r)) (suc r)
sum_takes b r c = left_takes additive (product_of b (suc r)) (suc r) 6 sums (product_takes b r c)

-- ---- BETWEEN, IN, LIKE

range_stops : (b : Below) (room : ℕ) (e : ExprTree) (rest : List Terminal) → reach rest ≤ 5 → range_after b room e rest ≡ Ok (e, rest)
range_stops b room e (t.Not ∷ rest) h = absurd (omega arith)
range_stops b room e (t.Between ∷ rest) h = absurd (omega arith)
range_stops b room e (t.In ∷ rest) h = absurd (omega arith)
range_stops b room e (t.Like ∷ rest) h = absurd (omega arith)
range_stops b room e rest h = refl

range_base : (b : Below) (r : ℕ) → Completes b r → (e : ExprTree) (rest : List Terminal) → Fits e → 6 ≤ level e → reach rest ≤ 5 → range_of b (suc r) (spelling e ++ rest) ≡ within (suc r) e rest
unfolding range_of
range_base b r c e rest f l h =
    rw (sum_takes b r c e rest f l (omega arith)) (elim (low_or_high (height e) (suc r)) [
      | inr g ↦ rw (within_high (suc r) e rest g) refl
      | inl g ↦ rw (within_low (suc r) e rest g) (range_stops b (suc r) e rest h)
    ])

-- behind an operand of a test
test_reaches : (neg : Bool) (u : Terminal) (ts : List Terminal) → reach_of u ≤ 6 → reach (perhaps_not neg ++ u ∷ ts) ≤ 6
test_reaches true u ts h = omega arith
test_reaches false u ts h = h

-- the test that reads what follows its operand
range_test : (b : Below) (r : ℕ) → Completes b r → (e whole : ExprTree) (after rest : List Terminal) → Fits e → 6 ≤ level e → reach after ≤ 6 → height e < height whole →
    (height e ≤ suc r → range_after b (suc r) e after ≡ within (suc r) whole rest) → range_of b (suc r) (spelling e ++ after) ≡ within (suc r) whole rest
unfolding range_of
range_test b r c e whole after rest f l h higher reads =
    rw (sum_takes b r c e after f l h) (elim (low_or_high (height e) (suc r)) [
      | inr g ↦ (let g2 : suc r < height whole = omega arith in rw (within_high (suc r) e after g, within_high (suc r) whole rest g2) refl)
      | inl g ↦ rw (within_low (suc r) e after g) (reads g)
    ])

list_takes : (b : Below) (r : ℕ) → Completes b r → (neg : Bool) (e first : ExprTree) (others : ExprTrees) (rest : List Terminal) → Fits (among neg e first others) → height e ≤ suc r →
    list_after b (suc r) neg e (spelling first ++ (spellings t.Comma others ++ t.RightParen ∷ rest)) ≡ within (suc r) (among neg e first others) rest
list_takes b r c neg e first others rest f low =
    let m : Marks is_comma t.Comma 0 (t.RightParen ∷ rest) = record { is = refl; reaches = omega arith; rest_reaches = omega arith; stops = λ i k. comma_stops i k rest } in
    let after : List Terminal = spellings t.Comma others ++ t.RightParen ∷ rest in
    rw (c.whole first after f.2 (omega arith) (reach_others t.Comma 0 others (t.RightParen ∷ rest) (omega arith) (omega arith))) (elim (low_or_high (height first) r) [
      | inr g ↦ (let g2 : suc r < height (among neg e first others) = omega arith in rw (within_high r first after g, within_high (suc r) (among neg e first others) rest g2) refl)
      | inl g ↦ rw (within_low r first after g) (rw (others_take is_comma b.whole r 0 t.Comma (t.RightParen ∷ rest) m c.whole others (length after) f.3 (omega arith))
          (elim (low_or_high (highest others) r) [
            | inr g3 ↦ (let g2 : suc r < height (among neg e first others) = omega arith in rw (all_high r others (t.RightParen ∷ rest) g3, within_high (suc r) (among neg e first others) rest g2) refl)
            | inl g3 ↦ rw (all_low r others (t.RightParen ∷ rest) g3) refl
          ]))
    ])

in_after : (b : Below) (room : ℕ) (neg : Bool) (e : ExprTree) (ts : List Terminal) → range_after b room e (perhaps_not neg ++ t.In ∷ t.LeftParen ∷ ts) ≡ list_after b room neg e ts
in_after b room true e ts = refl
in_after b room false e ts = refl

range_among : (b : Below) (r : ℕ) → Completes b r → (neg : Bool) (e first : ExprTree) (others : ExprTrees) (rest : List Terminal) → Fits (among neg e first others) → range_of b (suc r) (spelling (among neg e first others) ++ rest) ≡ within (suc r) (among neg e first others) rest
range_among b r c neg e first others rest f =
    let items : List Terminal = spelling first ++ (spellings t.Comma others ++ t.RightParen ∷ rest) in
    let after : List Terminal = perhaps_not neg ++ (t.In ∷ t.LeftParen ∷ items) in
    let same : spelling (among neg e first others) ++ rest ≡ spelling e ++ after = simp append_assoc in
    rw same (range_test b r c e (among neg e first others) after rest f.0 f.1 (test_reaches neg t.In (t.LeftParen ∷ items) (omega arith)) (omega arith)
    (λ g. in_after b (suc r) neg e items ∙ list_takes b r c neg e first others rest f g))

bounds_take : (b : Below) (r : ℕ) → Completes b r → (neg : Bool) (e low high : ExprTree) (rest : List Terminal) → Fits (between neg e low high) → reach rest ≤ 5 → height e ≤ suc r →
    bounds_after b (suc r) neg e (spelling low ++ (t.Joined And ∷ (spelling high ++ rest))) ≡ within (suc r) (between neg e low high) rest
bounds_take b r c neg e low high rest f h g0 =
    let whole : ExprTree = between neg e low high in
    let after : List Terminal = t.Joined And ∷ (spelling high ++ rest) in
    rw (sum_takes b r c low after f.2 f.3 (omega arith)) (elim (low_or_high (height low) (suc r)) [
      | inr g ↦ (let g2 : suc r < height whole = omega arith in rw (within_high (suc r) low after g, within_high (suc r) whole rest g2) refl)
      | inl g ↦ rw (within_low (suc r) low after g) (rw (sum_takes b r c high rest f.4 f.5 (omega arith)) (elim (low_or_high (height high) (suc r)) [
        | inr g3 ↦ (let g2 : suc r < height whole = omega arith in rw (within_high (suc r) high rest g3, within_high (suc r) whole rest g2) refl)
        | inl g3 ↦ rw (within_low (suc r) high rest g3) refl
      ]))
    ])

between_after : (b : Below) (room : ℕ) (neg : Bool) (e : ExprTree) (ts : List Terminal) → range_after b room e (perhaps_not neg ++ t.Between ∷ ts) ≡ bounds_after b room neg e ts
between_after b room true e ts = refl
between_after b room false e ts = refl

range_between : (b : Below) (r : ℕ) → Completes b r → (neg : Bool) (e low high : ExprTree) (rest : List Terminal) → Fits (between neg e low high) → reach rest ≤ 5 → range_of b (suc r) (spelling (between neg e low high) ++ rest) ≡ within (suc r) (between neg e low high) rest
range_between b r c neg e low high rest f h =
    let bounds : List Terminal = spelling low ++ (t.Joined And ∷ (spelling high ++ rest)) in
    let after : List Terminal = perhaps_not neg ++ (t.Between ∷ bounds) in
    let same : spelling (between neg e low high) ++ rest ≡ spelling e ++ after = simp append_assoc in
    rw same (range_test b r c e (between neg e low high) after rest f.0 f.1 (test_reaches neg t.Between bounds (omega arith)) (omega arith)
    (λ g. between_after b (suc r) neg e bounds ∙ bounds_take b r c neg e low high rest f h g))

like_after : (b : Below) (room : ℕ) (neg : Bool) (e : ExprTree) (x : List ℕ) (ts : List Terminal) → range_after b room e (perhaps_not neg ++ t.Like ∷ t.Text x ∷ ts) ≡ within room (like neg e x) ts
like_after b room true e x ts = refl
like_after b room false e x ts = refl

range_like : (b : Below) (r : ℕ) → Completes b r → (neg : Bool) (e : ExprTree) (x : List ℕ) (rest : List Terminal) → Fits (like neg e x) → range_of b (suc r) (spelling (like neg e x) ++ rest) ≡ within (suc r) (like neg e x) rest
range_like b r c neg e x rest f =
    let after : List Terminal = perhaps_not neg ++ (t.Like ∷ t.Text x ∷ rest) in
    let same : spelling (like neg e x) ++ rest ≡ spelling e ++ after = simp append_assoc in
    rw same (range_test b r c e (like neg e x) after rest f.0 f.1 (test_reaches neg t.Like (t.Text x ∷ rest) (omega arith)) (omega arith) (λ g. like_after b (suc r) neg e x rest))

range_takes : (b : Below) (r : ℕ) → Completes b r → Takes 5 (range_of b (suc r)) (suc r)
range_takes b r c (among neg e first others) rest f l h = range_among b r c neg e first others rest f
range_takes b r c (between neg e low high) rest f l h = range_between b r c neg e low high rest f h
range_takes b r c (like neg e x) rest f l h = range_like b r c neg e x rest f
range_takes b r c (binary op x y) rest f l h = range_base b r c (binary op x y) rest f (binary_high op) h
range_takes b r c (chain j first others) rest f l h = absurd (omega (arith, joint_low j))
range_takes b r c e rest f l h = range_base b r c e rest f (omega arith) h

-- ---- comparisons

compare_stops : (b : Below) (room : ℕ) (e : ExprTree) (rest : List Terminal) → reach rest ≤ 4 → compare_after b room e rest ≡ Ok (e, rest)
compare_stops b room e (t.Compare op ∷ rest) h = absurd (omega arith)
compare_stops b room e rest h = refl

compare_base : (b : Below) (r : ℕ) → Completes b r → (e : ExprTree) (rest : List Terminal) → Fits e → 5 ≤ level e → reach rest ≤ 4 → compare_of b (suc r) (spelling e ++ rest) ≡ within (suc r) e rest
unfolding compare_of
compare_base b r c e rest f l h =
    rw (range_takes b r c e rest f l (omega arith)) (elim (low_or_high (height e) (suc r)) [
      | inr g ↦ rw (within_high (suc r) e rest g) refl
      | inl g ↦ rw (within_low (suc r) e rest g) (compare_stops b (suc r) e rest h)
    ])

compare_self : (b : Below) (r : ℕ) → Completes b r → (op : Comparison) (x y : ExprTree) (rest : List Terminal) → Fits (compare op x y) → reach rest ≤ 4 → compare_of b (suc r) (spelling (compare op x y) ++ rest) ≡ within (suc r) (compare op x y) rest
unfolding compare_of
compare_self b r c op x y rest f h =
    let after : List Terminal = t.Compare op ∷ (spelling y ++ rest) in
    rw (append_assoc (spelling x) (t.Compare op ∷ spelling y) rest) (rw (range_takes b r c x after f.0 f.2 (omega arith)) (elim (low_or_high (height x) (suc r)) [
      | inr g ↦ (let g2 : suc r < height (compare op x y) = omega arith in rw (within_high (suc r) x after g, within_high (suc r) (compare op x y) rest g2) refl)
      | inl g ↦ rw (within_low (suc r) x after g) (rw (range_takes b r c y rest f.1 f.3 (omega arith)) (elim (low_or_high (height y) (suc r)) [
        | inr g3 ↦ (let g2 : suc r < height (compare op x y) = omega arith in rw (within_high (suc r) y rest g3, within_high (suc r) (compare op x y) rest g2) refl)
        | inl g3 ↦ rw (within_low (suc r) y rest g3) refl
      ]))
    ]))

compare_takes : (b : Below) (r : ℕ) → Completes b r → Takes 4 (compare_of b (suc r)) (suc r)
compare_takes b r c (compare op x y) rest f l h = compare_self b r c op x y rest f h
compare_takes b r c (binary op x y) rest f l h = compare_base b r c (binary op x y) rest f (omega (arith, binary_high op)) h
compare_takes b r c (chain j first others) rest f l h = absurd (omega (arith, joint_low j))
compare_takes b r c e rest f l h = compare_base b r c e rest f (omega arith) h

-- ---- IS

is_stops : (room : ℕ) (e : ExprTree) (rest : List Terminal) → reach rest ≤ 3 → is_after room e rest ≡ Ok (e, rest)
is_stops room e (t.Is ∷ rest) h = absurd (omega arith)
is_stops room e rest h = refl

status_reads : (room : ℕ) (neg : Bool) (e : ExprTree) (s : Status) (rest : List Terminal) → is_after room e (t.Is ∷ (perhaps_not neg ++ status_terminal s ∷ rest)) ≡ within room (tested neg e s) rest
status_reads room true e statuses.Null rest = refl
status_reads room true e statuses.True rest = refl
status_reads room true e statuses.False rest = refl
status_reads room true e statuses.Unknown rest = refl
status_reads room false e statuses.Null rest = refl
status_reads room false e statuses.True rest = refl
status_reads room false e statuses.False rest = refl
status_reads room false e statuses.Unknown rest = refl

is_base : (b : Below) (r : ℕ) → Completes b r → (e : ExprTree) (rest : List Terminal) → Fits e → 4 ≤ level e → reach rest ≤ 3 → is_of b (suc r) (spelling e ++ rest) ≡ within (suc r) e rest
unfolding is_of
is_base b r c e rest f l h =
    rw (compare_takes b r c e rest f l (omega arith)) (elim (low_or_high (height e) (suc r)) [
      | inr g ↦ rw (within_high (suc r) e rest g) refl
      | inl g ↦ rw (within_low (suc r) e rest g) (is_stops (suc r) e rest h)
    ])

is_self : (b : Below) (r : ℕ) → Completes b r → (neg : Bool) (e : ExprTree) (s : Status) (rest : List Terminal) → Fits (tested neg e s) → is_of b (suc r) (spelling (tested neg e s) ++ rest) ≡ within (suc r) (tested neg e s) rest
unfolding is_of
is_self b r c neg e s rest f =
    let after : List Terminal = t.Is ∷ (perhaps_not neg ++ status_terminal s ∷ rest) in
    let same : spelling (tested neg e s) ++ rest ≡ spelling e ++ after = simp append_assoc in
    rw same (rw (compare_takes b r c e after f.0 f.1 (omega arith)) (elim (low_or_high (height e) (suc r)) [
      | inr g ↦ (let g2 : suc r < height (tested neg e s) = omega arith in rw (within_high (suc r) e after g, within_high (suc r) (tested neg e s) rest g2) refl)
      | inl g ↦ rw (within_low (suc r) e after g) (status_reads (suc r) neg e s rest)
    ]))

is_takes : (b : Below) (r : ℕ) → Completes b r → Takes 3 (is_of b (suc r)) (suc r)
is_takes b r c (tested neg e s) rest f l h = is_self b r c neg e s rest f
is_takes b r c (binary op x y) rest f l h = is_base b r c (binary op x y) rest f (omega (arith, binary_high op)) h
is_takes b r c (chain j first others) rest f l h = absurd (omega (arith, joint_low j))
is_takes b r c e rest f l h = is_base b r c e rest f (omega arith) h

-- ---- NOT

-- what binds more tightly than NOT does not begin with it
negated_skips : (b : Below) (room : ℕ) (e : ExprTree) (rest : List Terminal) → Fits e → 3 ≤ level e → negated_of b room (spelling e ++ rest) ≡ is_of b room (spelling e ++ rest)
negated_skips b room (num m) rest f l = refl
negated_skips b room (text x) rest f l = refl
negated_skips b room (truth v) rest f l = refl
negated_skips b room null rest f l = refl
negated_skips b room (column None n) rest f l = refl
negated_skips b room (column (Some q) n) rest f l = refl
negated_skips b room (call_all n) rest f l = refl
negated_skips b room (call n parts) rest f l = refl
negated_skips b room (paren e) rest f l = refl
negated_skips b room (negative m) rest f l = refl
negated_skips b room (minus e) rest f l = refl
negated_skips b room (binary op x y) rest f l =
    rw (append_assoc (spelling x) (t.Binary op ∷ spelling y) rest) (negated_skips b room x (t.Binary op ∷ (spelling y ++ rest)) f.0 (omega (arith, binary_high op, f.2)))
negated_skips b room (compare op x y) rest f l =
    rw (append_assoc (spelling x) (t.Compare op ∷ spelling y) rest) (negated_skips b room x (t.Compare op ∷ (spelling y ++ rest)) f.0 (omega (arith, f.2)))
negated_skips b room (between neg e low high) rest f l =
    let after : List Terminal = perhaps_not neg ++ t.Between ∷ (spelling low ++ t.Joined And ∷ spelling high) in
    rw (append_assoc (spelling e) after rest) (negated_skips b room e (after ++ rest) f.0 (omega (arith, f.1)))
negated_skips b room (among neg e first others) rest f l =
    let after : List Terminal = perhaps_not neg ++ t.In ∷ t.LeftParen ∷ (spelling first ++ (spellings t.Comma others ++ t.RightParen ∷ [])) in
    rw (append_assoc (spelling e) after rest) (negated_skips b room e (after ++ rest) f.0 (omega (arith, f.1)))
negated_skips b room (like neg e x) rest f l =
    let after : List Terminal = perhaps_not neg ++ t.Like ∷ t.Text x ∷ [] in
    rw (append_assoc (spelling e) after rest) (negated_skips b room e (after ++ rest) f.0 (omega (arith, f.1)))
negated_skips b room (tested neg e s) rest f l =
    let after : List Terminal = t.Is ∷ (perhaps_not neg ++ status_terminal s ∷ []) in
    rw (append_assoc (spelling e) after rest) (negated_skips b room e (after ++ rest) f.0 (omega (arith, f.1)))
negated_skips b room (negation e) rest f l = absurd (omega arith)
negated_skips b room (chain j first others) rest f l = absurd (omega (arith, joint_low j))

negated_base : (b : Below) (r : ℕ) → Completes b r → (e : ExprTree) (rest : List Terminal) → Fits e → 3 ≤ level e → reach rest ≤ 2 → negated_of b (suc r) (spelling e ++ rest) ≡ within (suc r) e rest
negated_base b r c e rest f l h = negated_skips b (suc r) e rest f l ∙ is_takes b r c e rest f l (omega arith)

negated_takes : (b : Below) (r : ℕ) → Completes b r → Takes 2 (negated_of b (suc r)) (suc r)
negated_takes b r c (negation e) rest f l h =
    rw (c.negated e rest f.0 f.1 h) (elim (low_or_high (height e) r) [
      | inr g ↦ (let g2 : suc r < height (negation e) = omega arith in rw (within_high r e rest g, within_high (suc r) (negation e) rest g2) refl)
      | inl g ↦ (let g2 : height (negation e) ≤ suc r = omega arith in rw (within_low r e rest g, within_low (suc r) (negation e) rest g2) refl)
    ])
negated_takes b r c (binary op x y) rest f l h = negated_base b r c (binary op x y) rest f (omega (arith, binary_high op)) h
negated_takes b r c (chain j first others) rest f l h = absurd (omega (arith, joint_low j))
negated_takes b r c e rest f l h = negated_base b r c e rest f (omega arith) h

conjunction_takes : (b : Below) (r : ℕ) → Completes b r → Takes 1 (conjunction_of b (suc r)) (suc r)
conjunction_takes b r c = chain_takes And (negated_of b (suc r)) (suc r) (negated_takes b r c)

whole_takes : (b : Below) (r : ℕ) → Completes b r → Takes 0 (whole_of b (suc r)) (suc r)
whole_takes b r c = chain_takes Or (conjunction_of b (suc r)) (suc r) (conjunction_takes b r c)

some_height : (e : ExprTree) → 0 < height e
some_height (num m) = omega arith
some_height e = omega arith

pub completes : (r : ℕ) → Completes (below r) r
unfolding below
completes zero = record {
  whole = λ e rest f l h. sym (within_high 0 e rest (some_height e));
  negated = λ e rest f l h. sym (within_high 0 e rest (some_height e));
  signed = λ e rest f l h. sym (within_high 0 e rest (some_height e));
}
completes (suc r) = record {
  whole = whole_takes (below r) r (completes r);
  negated = negated_takes (below r) r (completes r);
  signed = signed_takes (below r) r (completes r);
}

-- ---- whole texts

pub reads_all : (room : ℕ) (tokens : List Terminal) (e : ExprTree) → IsExpr tokens e → height e ≤ room → all_of room tokens ≡ Ok e
unfolding all_of
reads_all room tokens e x low =
    rw (x.spelled, ← append-nil (spelling e)) (rw ((completes room).whole e [] x.fits (omega arith) (omega arith), within_low room e [] low) refl)

pub refuses_high : (room : ℕ) (tokens : List Terminal) (e : ExprTree) → IsExpr tokens e → room < height e → all_of room tokens ≡ Err TooHigh
unfolding all_of
refuses_high room tokens e x high =
    rw (x.spelled, ← append-nil (spelling e)) (rw ((completes room).whole e [] x.fits (omega arith) (omega arith), within_high room e [] high) refl)

pub one_tree : (tokens : List Terminal) (d e : ExprTree) → IsExpr tokens d → IsExpr tokens e → d ≡ e
one_tree tokens d e x y =
    let room : ℕ = height d + height e in
    let p : all_of room tokens ≡ Ok d = reads_all room tokens d x (omega arith) in
    let q : all_of room tokens ≡ Ok e = reads_all room tokens e y (omega arith) in
    cc
