-- What is read is spelled so.
use Rattle.std.proofs.Common.{◌≡◌, ℕ, zero, suc, ◌≤◌, inl, inr, Bool, true, false, cond, List, [], ◌∷◌, ◌++◌, length, refl, sym, ◌∙◌, ap, subst, arith, append_assoc, append-nil}
use Rattle.std.specs.Prelude.{Result, Ok, Err, Option, Some, None}
use Rattle.std.proofs.lemmas.Bool.Decides.{leb_tells}
use Rattle.med_value.specs.declared.operators.Operation.{Operation}
use Rattle.med_value.specs.declared.operators.Operation.TheVariants.{Add, Subtract, Multiply, Divide, Remainder}
use Rattle.med_syntax.specs.declared.expr.Joint.{Joint}
use Rattle.med_syntax.specs.declared.expr.Joint.TheVariants.{Or, And}
use Rattle.med_syntax.specs.Terminal.{Terminal}
use Rattle.med_syntax.specs.Terminal as t
use Rattle.med_syntax.specs.declared.refusal.Refusal.{Refusal}
use Rattle.med_syntax.specs.declared.refusal.Refusal.TheVariants.{Syntax, TooHigh}
use Rattle.med_syntax.specs.Tree.{Name}
use Rattle.med_value.specs.declared.operators.Status.{Status}
use Rattle.med_value.specs.declared.operators.Status.TheVariants as statuses
use Rattle.med_syntax.specs.ExprTree.{ExprTree, ExprTrees, num, negative, text, truth, null, column, call_all, call, paren, minus, binary, between, among, like, compare, tested, negation, chain, none, more, perhaps_not, status_terminal, binary_level, joint_level, height, highest, level, Fits, AllFit, is_num, spelling, spellings, IsExpr}
use Rattle.med_syntax.specs.ExprReading.{Read, Reads, Parser, ◌>>=◌, within, Below, choose, additive, multiplicative, is_comma, is_joint, status_of, left_more, left_of, others_after, chained, chain_of, closed, column_after, closed_call_all, closed_call, parts_after, call_after, named_after, primary_of, after_minus, signed_of, product_of, sum_of, closed_in, list_after, high_after, bounds_after, test_after, range_after, range_of, compare_after, compare_of, status_after, is_after, is_of, negated_of, conjunction_of, whole_of, below, ended, all_of}

pub bind_ok : {A B : Type 0} (r : Result A Refusal) (f : A → Result B Refusal) (y : B) → (r >>= f) ≡ Ok y → (x : A) × (r ≡ Ok x) × (f x ≡ Ok y)
bind_ok (Ok x) f y h = (x, refl, h)
bind_ok (Err e) f y h = absurd (cc)

pub ok_same : {A : Type 0} (x y : A) → ◌≡◌ {A = Result A Refusal} (Ok x) (Ok y) → x ≡ y
ok_same x y h = cc

pub record FoundExpr (n room : ℕ) (ts : List Terminal) (e : ExprTree) (rest : List Terminal) : Type 0 where
  pub fits : Fits e
  pub high : n ≤ level e
  pub low : height e ≤ room
  pub spelled : ts ≡ spelling e ++ rest

abbrev pub Sound : ℕ → Parser → ℕ → Type 0
Sound n item room = (ts : List Terminal) (e : ExprTree) (rest : List Terminal) → item ts ≡ Ok (e, rest) → FoundExpr n room ts e rest

pub record Sounds (b : Below) (room : ℕ) : Type 0 where
  pub whole : Sound 0 b.whole room
  pub negated : Sound 2 b.negated room
  pub signed : Sound 8 b.signed room

-- a pair that is returned is this expr_tree and these tokens
returned : (n room : ℕ) (ts : List Terminal) (d e : ExprTree) (us rest : List Terminal) → ◌≡◌ {A = Read} (Ok (d, us)) (Ok (e, rest)) → FoundExpr n room ts d us → FoundExpr n room ts e rest
returned n room ts d e us rest h f =
    let p : (d, us) ≡ (e, rest) = ok_same (d, us) (e, rest) h in
    subst (λ (x : ExprTree × List Terminal). FoundExpr n room ts x.0 x.1) p f

within_ok : (n room : ℕ) (ts : List Terminal) (d e : ExprTree) (us rest : List Terminal) → within room d us ≡ Ok (e, rest) → (height d ≤ room → FoundExpr n room ts d us) → FoundExpr n room ts e rest
within_ok n room ts d e us rest h f =
    elim (leb_tells (height d) room) [
      | inl g ↦ returned n room ts d e us rest (sym (rw g.0 refl) ∙ h) (f g.1)
      | inr g ↦ absurd (let bad : ◌≡◌ {A = Read} (Err TooHigh) (Ok (e, rest)) = sym (rw g.0 refl) ∙ h in cc)
    ]

-- ---- joined texts

glued : (all before after ts rest : List Terminal) (u mark : Terminal) → all ≡ before ++ u ∷ ts → u ≡ mark → ts ≡ after ++ rest → all ≡ (before ++ mark ∷ after) ++ rest
glued all before after ts rest u mark p q r = let e = append_assoc before (mark ∷ after) rest in cc

listed : (ts us rest first others : List Terminal) (u mark : Terminal) → u ≡ mark → ts ≡ first ++ us → us ≡ others ++ rest → u ∷ ts ≡ mark ∷ (first ++ others) ++ rest
listed ts us rest first others u mark p q r = let e = append_assoc first others rest in cc

-- ---- chains to the left

pub record OpsAt (op_of : Terminal → Option Operation) (n : ℕ) : Type 0 where
  pub is : (u : Terminal) (op : Operation) → op_of u ≡ Some op → (u ≡ t.Binary op) × (binary_level op ≡ n)

left_more_sound : (op_of : Terminal → Option Operation) (item : Parser) (room n k : ℕ) → OpsAt op_of n → Sound (suc n) item room → (all : List Terminal) (acc : ExprTree) (ts : List Terminal) (e : ExprTree) (rest : List Terminal) → FoundExpr n room all acc ts → left_more op_of item room k acc ts ≡ Ok (e, rest) → FoundExpr n room all e rest
left_more_sound op_of item room n zero o sound all acc ts e rest f h = returned n room all acc e ts rest h f
left_more_sound op_of item room n (suc k) o sound all acc [] e rest f h = returned n room all acc e [] rest h f
left_more_sound op_of item room n (suc k) o sound all acc (u ∷ ts) e rest f h =
    let after : Operation → Read = λ op. item ts >>= λ x. within room (binary op acc x.0) x.1 >>= λ y. left_more op_of item room k y.0 y.1 in
    let go : (found : Option Operation) → op_of u ≡ found → choose found (Ok (acc, u ∷ ts)) after ≡ Ok (e, rest) → FoundExpr n room all e rest = elim [
      | None ↦ (λ is g. returned n room all acc e (u ∷ ts) rest g f)
      | Some op ↦ (λ is g.
          let x = bind_ok (item ts) (λ x. within room (binary op acc x.0) x.1 >>= λ y. left_more op_of item room k y.0 y.1) (e, rest) g in
          let y = bind_ok (within room (binary op acc x.0.0) x.0.1) (λ y. left_more op_of item room k y.0 y.1) (e, rest) x.2 in
          let b : FoundExpr (suc n) room ts x.0.0 x.0.1 = sound ts x.0.0 x.0.1 x.1 in
          let whole : FoundExpr n room all y.0.0 y.0.1 = within_ok n room all (binary op acc x.0.0) y.0.0 x.0.1 y.0.1 y.1 (λ low. record {
            fits = (f.fits, b.fits, omega (arith, (o.is u op is).1, f.high), omega (arith, (o.is u op is).1, b.high));
            high = omega (arith, (o.is u op is).1);
            low = low;
            spelled = glued all (spelling acc) (spelling x.0.0) ts x.0.1 u (t.Binary op) f.spelled (o.is u op is).0 b.spelled;
          }) in
          left_more_sound op_of item room n k o sound all y.0.0 y.0.1 e rest whole y.2)
    ]
    in go (op_of u) refl h

left_sound : (op_of : Terminal → Option Operation) (item : Parser) (room n : ℕ) → OpsAt op_of n → Sound (suc n) item room → Sound n (left_of op_of item room) room
unfolding left_of
left_sound op_of item room n o sound ts e rest h =
    let x = bind_ok (item ts) (λ x. left_more op_of item room (length x.1) x.0 x.1) (e, rest) h in
    let f : FoundExpr (suc n) room ts x.0.0 x.0.1 = sound ts x.0.0 x.0.1 x.1 in
    left_more_sound op_of item room n (length x.0.1) o sound ts x.0.0 x.0.1 e rest (record { fits = f.fits; high = omega (arith, f.high); low = f.low; spelled = f.spelled }) x.2

-- ---- lists behind marks

pub record FoundAll (n room : ℕ) (mark : Terminal) (ts : List Terminal) (es : ExprTrees) (rest : List Terminal) : Type 0 where
  pub fits : AllFit n es
  pub low : highest es ≤ room
  pub spelled : ts ≡ spellings mark es ++ rest

returned_all : (n room : ℕ) (mark : Terminal) (ts : List Terminal) (ds es : ExprTrees) (us rest : List Terminal) → ◌≡◌ {A = Reads} (Ok (ds, us)) (Ok (es, rest)) → FoundAll n room mark ts ds us → FoundAll n room mark ts es rest
returned_all n room mark ts ds es us rest h f =
    let p : (ds, us) ≡ (es, rest) = ok_same (ds, us) (es, rest) h in
    subst (λ (x : ExprTrees × List Terminal). FoundAll n room mark ts x.0 x.1) p f

pub others_sound : (is_mark : Terminal → Bool) (mark : Terminal) (item : Parser) (room n k : ℕ) → ((u : Terminal) → is_mark u ≡ true → u ≡ mark) → Sound n item room → (ts : List Terminal) (es : ExprTrees) (rest : List Terminal) → others_after is_mark item k ts ≡ Ok (es, rest) → FoundAll n room mark ts es rest
others_sound is_mark mark item room n zero m sound ts es rest h = returned_all n room mark ts none es ts rest h (record { fits = tt; low = omega arith; spelled = refl })
others_sound is_mark mark item room n (suc k) m sound [] es rest h = returned_all n room mark [] none es [] rest h (record { fits = tt; low = omega arith; spelled = refl })
others_sound is_mark mark item room n (suc k) m sound (u ∷ ts) es rest h =
    let after : Reads = item ts >>= λ x. others_after is_mark item k x.1 >>= λ y. Ok (more x.0 y.0, y.1) in
    let go : (found : Bool) → is_mark u ≡ found → cond found after (Ok (none, u ∷ ts)) ≡ Ok (es, rest) → FoundAll n room mark (u ∷ ts) es rest = elim [
      | false ↦ (λ is g. returned_all n room mark (u ∷ ts) none es (u ∷ ts) rest g (record { fits = tt; low = omega arith; spelled = refl }))
      | true ↦ (λ is g.
          let x = bind_ok (item ts) (λ x. others_after is_mark item k x.1 >>= λ y. Ok (more x.0 y.0, y.1)) (es, rest) g in
          let y = bind_ok (others_after is_mark item k x.0.1) (λ y. Ok (more x.0.0 y.0, y.1)) (es, rest) x.2 in
          let b : FoundExpr n room ts x.0.0 x.0.1 = sound ts x.0.0 x.0.1 x.1 in
          let bs : FoundAll n room mark x.0.1 y.0.0 y.0.1 = others_sound is_mark mark item room n k m sound x.0.1 y.0.0 y.0.1 y.1 in
          returned_all n room mark (u ∷ ts) (more x.0.0 y.0.0) es y.0.1 rest y.2 (record {
            fits = (b.fits, b.high, bs.fits);
            low = omega (arith, b.low, bs.low);
            spelled = listed ts x.0.1 y.0.1 (spelling x.0.0) (spellings mark y.0.0) u mark (m u is) b.spelled bs.spelled;
          }))
    ]
    in go (is_mark u) refl h

-- ---- AND and OR

is_joint_true : (j : Joint) (u : Terminal) → is_joint j u ≡ true → u ≡ t.Joined j
is_joint_true Or (t.Joined Or) h = refl
is_joint_true And (t.Joined And) h = refl
is_joint_true Or u h = cc
is_joint_true And u h = cc

chained_sound : (j : Joint) (room : ℕ) (ts us : List Terminal) (first : ExprTree) (others : ExprTrees) (vs : List Terminal) (e : ExprTree) (rest : List Terminal) → FoundExpr (suc (joint_level j)) room ts first us → FoundAll (suc (joint_level j)) room (t.Joined j) us others vs → chained j room first others vs ≡ Ok (e, rest) → FoundExpr (joint_level j) room ts e rest
chained_sound j room ts us first none vs e rest f g h =
    returned (joint_level j) room ts first e vs rest h (record { fits = f.fits; high = omega (arith, f.high); low = f.low; spelled = f.spelled ∙ ap (λ x. spelling first ++ x) g.spelled })
chained_sound j room ts us first (more d ds) vs e rest f g h =
    within_ok (joint_level j) room ts (chain j first (more d ds)) e vs rest h (λ low. record {
      fits = (f.fits, f.high, g.fits, tt);
      high = omega arith;
      low = low;
      spelled = f.spelled ∙ ap (λ x. spelling first ++ x) g.spelled ∙ sym (append_assoc (spelling first) (spellings (t.Joined j) (more d ds)) vs);
    })

pub chain_sound : (j : Joint) (item : Parser) (room : ℕ) → Sound (suc (joint_level j)) item room → Sound (joint_level j) (chain_of j item room) room
unfolding chain_of
chain_sound j item room sound ts e rest h =
    let x = bind_ok (item ts) (λ x. others_after (is_joint j) item (length x.1) x.1 >>= λ y. chained j room x.0 y.0 y.1) (e, rest) h in
    let y = bind_ok (others_after (is_joint j) item (length x.0.1) x.0.1) (λ y. chained j room x.0.0 y.0 y.1) (e, rest) x.2 in
    chained_sound j room ts x.0.1 x.0.0 y.0.0 y.0.1 e rest (sound ts x.0.0 x.0.1 x.1)
    (others_sound (is_joint j) (t.Joined j) item room (suc (joint_level j)) (length x.0.1) (is_joint_true j) sound x.0.1 y.0.0 y.0.1 y.1) y.2

-- ---- the levels below

closed_sound : (r : ℕ) (ts us : List Terminal) (d e : ExprTree) (rest : List Terminal) → FoundExpr 0 r ts d us → closed d us ≡ Ok (e, rest) → FoundExpr 9 (suc r) (t.LeftParen ∷ ts) e rest
closed_sound r ts (t.RightParen ∷ us) d e rest f h =
    returned 9 (suc r) (t.LeftParen ∷ ts) (paren d) e us rest h (record {
      fits = f.fits;
      high = omega arith;
      low = omega (arith, f.low);
      spelled = ap (λ x. t.LeftParen ∷ x) (f.spelled ∙ sym (append_assoc (spelling d) (t.RightParen ∷ []) us));
    })
closed_sound r ts us d e rest f h = absurd (cc)

column_sound : (r : ℕ) (n : Name) (ts : List Terminal) (e : ExprTree) (rest : List Terminal) → column_after n ts ≡ Ok (e, rest) → FoundExpr 9 (suc r) (t.Name n ∷ ts) e rest
column_sound r n (t.Dot ∷ t.Name m ∷ ts) e rest h = returned 9 (suc r) (t.Name n ∷ t.Dot ∷ t.Name m ∷ ts) (column (Some n) m) e ts rest h (record { fits = tt; high = omega arith; low = omega arith; spelled = refl })
column_sound r n (t.Dot ∷ ts) e rest h = absurd (cc)
column_sound r n ts e rest h = returned 9 (suc r) (t.Name n ∷ ts) (column None n) e ts rest h (record { fits = tt; high = omega arith; low = omega arith; spelled = refl })

call_all_sound : (r : ℕ) (n : Name) (ts : List Terminal) (e : ExprTree) (rest : List Terminal) → closed_call_all n ts ≡ Ok (e, rest) → FoundExpr 9 (suc r) (t.Name n ∷ t.LeftParen ∷ t.Binary Multiply ∷ ts) e rest
call_all_sound r n (t.RightParen ∷ ts) e rest h = returned 9 (suc r) (t.Name n ∷ t.LeftParen ∷ t.Binary Multiply ∷ t.RightParen ∷ ts) (call_all n) e ts rest h (record { fits = tt; high = omega arith; low = omega arith; spelled = refl })
call_all_sound r n ts e rest h = absurd (cc)

-- `n ( first others )`, as it was read
call_spelled : (us vs ws rest : List Terminal) (n : Name) (first : ExprTree) (others : ExprTrees) → us ≡ spelling first ++ vs → vs ≡ spellings t.Comma others ++ ws → ws ≡ t.RightParen ∷ rest → t.Name n ∷ t.LeftParen ∷ us ≡ spelling (call n (more first others)) ++ rest
call_spelled us vs ws rest n first others p q i =
    let same : spelling (call n (more first others)) ++ rest ≡ t.Name n ∷ t.LeftParen ∷ (spelling first ++ (spellings t.Comma others ++ t.RightParen ∷ rest)) = simp append_assoc in
    cc

closed_call_sound : (r : ℕ) (us vs : List Terminal) (n : Name) (first : ExprTree) (others : ExprTrees) (ws : List Terminal) (e : ExprTree) (rest : List Terminal) → FoundExpr 0 r us first vs → FoundAll 0 r t.Comma vs others ws → closed_call n first others ws ≡ Ok (e, rest) → FoundExpr 9 (suc r) (t.Name n ∷ t.LeftParen ∷ us) e rest
closed_call_sound r us vs n first others (t.RightParen ∷ ws) e rest f g h =
    returned 9 (suc r) (t.Name n ∷ t.LeftParen ∷ us) (call n (more first others)) e ws rest h (record {
      fits = (f.fits, f.high, g.fits);
      high = omega arith;
      low = omega (arith, f.low, g.low);
      spelled = call_spelled us vs (t.RightParen ∷ ws) ws n first others f.spelled g.spelled refl;
    })
closed_call_sound r us vs n first others ws e rest f g h = absurd (cc)

pub is_comma_true : (u : Terminal) → is_comma u ≡ true → u ≡ t.Comma
is_comma_true t.Comma h = refl
is_comma_true u h = cc

parts_sound : (b : Below) (r : ℕ) → Sounds b r → (n : Name) (us : List Terminal) (e : ExprTree) (rest : List Terminal) → parts_after b n us ≡ Ok (e, rest) → FoundExpr 9 (suc r) (t.Name n ∷ t.LeftParen ∷ us) e rest
parts_sound b r s n us e rest h =
    let x = bind_ok (b.whole us) (λ x. others_after is_comma b.whole (length x.1) x.1 >>= λ y. closed_call n x.0 y.0 y.1) (e, rest) h in
    let y = bind_ok (others_after is_comma b.whole (length x.0.1) x.0.1) (λ y. closed_call n x.0.0 y.0 y.1) (e, rest) x.2 in
    closed_call_sound r us x.0.1 n x.0.0 y.0.0 y.0.1 e rest (s.whole us x.0.0 x.0.1 x.1)
    (others_sound is_comma t.Comma b.whole r 0 (length x.0.1) is_comma_true s.whole x.0.1 y.0.0 y.0.1 y.1) y.2

call_sound : (b : Below) (r : ℕ) → Sounds b r → (n : Name) (ts : List Terminal) (e : ExprTree) (rest : List Terminal) → call_after b n ts ≡ Ok (e, rest) → FoundExpr 9 (suc r) (t.Name n ∷ t.LeftParen ∷ ts) e rest
call_sound b r s n (t.Binary Multiply ∷ ts) e rest h = call_all_sound r n ts e rest h
call_sound b r s n (t.RightParen ∷ ts) e rest h = returned 9 (suc r) (t.Name n ∷ t.LeftParen ∷ t.RightParen ∷ ts) (call n none) e ts rest h (record { fits = tt; high = omega arith; low = omega arith; spelled = refl })
call_sound b r s n ts e rest h = parts_sound b r s n ts e rest h

named_sound : (b : Below) (r : ℕ) → Sounds b r → (n : Name) (ts : List Terminal) (e : ExprTree) (rest : List Terminal) → named_after b n ts ≡ Ok (e, rest) → FoundExpr 9 (suc r) (t.Name n ∷ ts) e rest
named_sound b r s n (t.LeftParen ∷ ts) e rest h = call_sound b r s n ts e rest h
named_sound b r s n ts e rest h = column_sound r n ts e rest h

primary_sound : (b : Below) (r : ℕ) → Sounds b r → Sound 9 (primary_of b) (suc r)
primary_sound b r s (t.Num n ∷ ts) e rest h = returned 9 (suc r) (t.Num n ∷ ts) (num n) e ts rest h (record { fits = tt; high = omega arith; low = omega arith; spelled = refl })
primary_sound b r s (t.Text x ∷ ts) e rest h = returned 9 (suc r) (t.Text x ∷ ts) (text x) e ts rest h (record { fits = tt; high = omega arith; low = omega arith; spelled = refl })
primary_sound b r s (t.Truth v ∷ ts) e rest h = returned 9 (suc r) (t.Truth v ∷ ts) (truth v) e ts rest h (record { fits = tt; high = omega arith; low = omega arith; spelled = refl })
primary_sound b r s (t.Null ∷ ts) e rest h = returned 9 (suc r) (t.Null ∷ ts) null e ts rest h (record { fits = tt; high = omega arith; low = omega arith; spelled = refl })
primary_sound b r s (t.Name n ∷ ts) e rest h = named_sound b r s n ts e rest h
primary_sound b r s (t.LeftParen ∷ ts) e rest h =
    let x = bind_ok (b.whole ts) (λ x. closed x.0 x.1) (e, rest) h in
    closed_sound r ts x.0.1 x.0.0 e rest (s.whole ts x.0.0 x.0.1 x.1) x.2
primary_sound b r s ts e rest h = absurd (cc)

-- what is read as a signed expression and does not begin with a number is none
begins_num : List Terminal → Bool
begins_num (t.Num n ∷ ts) = true
begins_num ts = false

not_num : (e : ExprTree) (ts rest : List Terminal) → ts ≡ spelling e ++ rest → begins_num ts ≡ false → is_num e ≡ false
unfolding begins_num
not_num (num n) ts rest p h = absurd (let q : begins_num ts ≡ true = ap begins_num p in cc)
not_num e ts rest p h = refl

minus_signed : (b : Below) (r : ℕ) → Sounds b r → (ts : List Terminal) (e : ExprTree) (rest : List Terminal) → begins_num ts ≡ false → ◌>>=◌ {B = ExprTree × List Terminal} (b.signed ts) (λ x. Ok (minus x.0, x.1)) ≡ Ok (e, rest) → FoundExpr 8 (suc r) (t.Binary Subtract ∷ ts) e rest
minus_signed b r s ts e rest n h =
    let x = bind_ok (b.signed ts) (λ x. Ok (minus x.0, x.1)) (e, rest) h in
    let f : FoundExpr 8 r ts x.0.0 x.0.1 = s.signed ts x.0.0 x.0.1 x.1 in
    returned 8 (suc r) (t.Binary Subtract ∷ ts) (minus x.0.0) e x.0.1 rest x.2 (record {
      fits = (f.fits, f.high, not_num x.0.0 ts x.0.1 f.spelled n);
      high = omega arith;
      low = omega (arith, f.low);
      spelled = ap (λ y. t.Binary Subtract ∷ y) f.spelled;
    })

minus_sound : (b : Below) (r : ℕ) → Sounds b r → (ts : List Terminal) (e : ExprTree) (rest : List Terminal) → after_minus b ts ≡ Ok (e, rest) → FoundExpr 8 (suc r) (t.Binary Subtract ∷ ts) e rest
unfolding begins_num
minus_sound b r s (t.Num n ∷ ts) e rest h = returned 8 (suc r) (t.Binary Subtract ∷ t.Num n ∷ ts) (negative n) e ts rest h (record { fits = tt; high = omega arith; low = omega arith; spelled = refl })
minus_sound b r s ts e rest h = minus_signed b r s ts e rest refl h

raised : (m n room : ℕ) (ts : List Terminal) (e : ExprTree) (rest : List Terminal) → m ≤ n → FoundExpr n room ts e rest → FoundExpr m room ts e rest
raised m n room ts e rest h f = record { fits = f.fits; high = omega (arith, f.high); low = f.low; spelled = f.spelled }

pub signed_sound : (b : Below) (r : ℕ) → Sounds b r → Sound 8 (signed_of b) (suc r)
signed_sound b r s (t.Binary Subtract ∷ ts) e rest h = minus_sound b r s ts e rest h
signed_sound b r s ts e rest h = raised 8 9 (suc r) ts e rest (omega arith) (primary_sound b r s ts e rest h)

products_is : (u : Terminal) (op : Operation) → multiplicative u ≡ Some op → (u ≡ t.Binary op) × (binary_level op ≡ 7)
products_is (t.Binary Multiply) op h = let p : Multiply ≡ op = cc in (ap t.Binary p, sym (ap binary_level p))
products_is (t.Binary Divide) op h = let p : Divide ≡ op = cc in (ap t.Binary p, sym (ap binary_level p))
products_is (t.Binary Remainder) op h = let p : Remainder ≡ op = cc in (ap t.Binary p, sym (ap binary_level p))
products_is u op h = absurd (cc)

sums_is : (u : Terminal) (op : Operation) → additive u ≡ Some op → (u ≡ t.Binary op) × (binary_level op ≡ 6)
sums_is (t.Binary Add) op h = let p : Add ≡ op = cc in (ap t.Binary p, sym (ap binary_level p))
sums_is (t.Binary Subtract) op h = let p : Subtract ≡ op = cc in (ap t.Binary p, sym (ap binary_level p))
sums_is u op h = absurd (cc)

products_at : OpsAt multiplicative 7
products_at = record { is = products_is }

sums_at : OpsAt additive 6
sums_at = record { is = sums_is }

pub product_sound : (b : Below) (r : ℕ) → Sounds b r → Sound 7 (product_of b (suc r)) (suc r)
product_sound b r s = left_sound multiplicative (signed_of b) (suc r) 7 products_at (signed_sound b r s)

pub sum_sound : (b : Below) (r : ℕ) → Sounds b r → Sound 6 (sum_of b (suc r)) (suc r)
sum_sound b r s = left_sound additive (product_of b (suc r)) (suc r) 6 sums_at (product_sound b r s)

-- ---- BETWEEN, IN, LIKE

-- `e [NOT] IN ( first others )`, as it was read
among_spelled : (ts vs us ws rest : List Terminal) (neg : Bool) (e first : ExprTree) (others : ExprTrees) → ts ≡ spelling e ++ (perhaps_not neg ++ t.In ∷ t.LeftParen ∷ us) → us ≡ spelling first ++ vs → vs ≡ spellings t.Comma others ++ ws → ws ≡ t.RightParen ∷ rest → ts ≡ spelling (among neg e first others) ++ rest
among_spelled ts vs us ws rest neg e first others p q i j =
    let same : spelling (among neg e first others) ++ rest ≡ spelling e ++ (perhaps_not neg ++ t.In ∷ t.LeftParen ∷ (spelling first ++ (spellings t.Comma others ++ t.RightParen ∷ rest))) = simp append_assoc in
    cc

closed_in_sound : (r : ℕ) (ts us vs : List Terminal) (neg : Bool) (d first : ExprTree) (others : ExprTrees) (ws : List Terminal) (e : ExprTree) (rest : List Terminal) → FoundExpr 6 (suc r) ts d (perhaps_not neg ++ t.In ∷ t.LeftParen ∷ us) → FoundExpr 0 r us first vs → FoundAll 0 r t.Comma vs others ws →
    closed_in (suc r) neg d first others ws ≡ Ok (e, rest) → FoundExpr 5 (suc r) ts e rest
closed_in_sound r ts us vs neg d first others (t.RightParen ∷ ws) e rest f g k h =
    within_ok 5 (suc r) ts (among neg d first others) e ws rest h (λ low. record {
      fits = (f.fits, f.high, g.fits, k.fits);
      high = omega arith;
      low = low;
      spelled = among_spelled ts vs us (t.RightParen ∷ ws) ws neg d first others f.spelled g.spelled k.spelled refl;
    })
closed_in_sound r ts us vs neg d first others ws e rest f g k h = absurd (cc)

list_sound : (b : Below) (r : ℕ) → Sounds b r → (ts us : List Terminal) (neg : Bool) (d e : ExprTree) (rest : List Terminal) → FoundExpr 6 (suc r) ts d (perhaps_not neg ++ t.In ∷ t.LeftParen ∷ us) → list_after b (suc r) neg d us ≡ Ok (e, rest) → FoundExpr 5 (suc r) ts e rest
list_sound b r s ts us neg d e rest f h =
    let x = bind_ok (b.whole us) (λ x. others_after is_comma b.whole (length x.1) x.1 >>= λ y. closed_in (suc r) neg d x.0 y.0 y.1) (e, rest) h in
    let y = bind_ok (others_after is_comma b.whole (length x.0.1) x.0.1) (λ y. closed_in (suc r) neg d x.0.0 y.0 y.1) (e, rest) x.2 in
    closed_in_sound r ts us x.0.1 neg d x.0.0 y.0.0 y.0.1 e rest f (s.whole us x.0.0 x.0.1 x.1)
    (others_sound is_comma t.Comma b.whole r 0 (length x.0.1) is_comma_true s.whole x.0.1 y.0.0 y.0.1 y.1) y.2

-- `e [NOT] BETWEEN low AND high`, as it was read
between_spelled : (ts us ws rest : List Terminal) (neg : Bool) (e low high : ExprTree) → ts ≡ spelling e ++ (perhaps_not neg ++ t.Between ∷ us) → us ≡ spelling low ++ (t.Joined And ∷ ws) → ws ≡ spelling high ++ rest → ts ≡ spelling (between neg e low high) ++ rest
between_spelled ts us ws rest neg e low high p q i =
    let same : spelling (between neg e low high) ++ rest ≡ spelling e ++ (perhaps_not neg ++ t.Between ∷ (spelling low ++ (t.Joined And ∷ (spelling high ++ rest)))) = simp append_assoc in
    cc

high_sound : (b : Below) (r : ℕ) → Sounds b r → (ts us : List Terminal) (neg : Bool) (d low : ExprTree) (vs : List Terminal) (e : ExprTree) (rest : List Terminal) → FoundExpr 6 (suc r) ts d (perhaps_not neg ++ t.Between ∷ us) → FoundExpr 6 (suc r) us low vs → high_after b (suc r) neg d low vs ≡ Ok (e, rest) → FoundExpr 5 (suc r) ts e rest
high_sound b r s ts us neg d low (t.Joined And ∷ ws) e rest f g h =
    let x = bind_ok (sum_of b (suc r) ws) (λ x. within (suc r) (between neg d low x.0) x.1) (e, rest) h in
    let k : FoundExpr 6 (suc r) ws x.0.0 x.0.1 = sum_sound b r s ws x.0.0 x.0.1 x.1 in
    within_ok 5 (suc r) ts (between neg d low x.0.0) e x.0.1 rest x.2 (λ l. record {
      fits = (f.fits, f.high, g.fits, g.high, k.fits, k.high);
      high = omega arith;
      low = l;
      spelled = between_spelled ts us ws x.0.1 neg d low x.0.0 f.spelled g.spelled k.spelled;
    })
high_sound b r s ts us neg d low vs e rest f g h = absurd (cc)

bounds_sound : (b : Below) (r : ℕ) → Sounds b r → (ts us : List Terminal) (neg : Bool) (d e : ExprTree) (rest : List Terminal) → FoundExpr 6 (suc r) ts d (perhaps_not neg ++ t.Between ∷ us) → bounds_after b (suc r) neg d us ≡ Ok (e, rest) → FoundExpr 5 (suc r) ts e rest
bounds_sound b r s ts us neg d e rest f h =
    let x = bind_ok (sum_of b (suc r) us) (λ x. high_after b (suc r) neg d x.0 x.1) (e, rest) h in
    high_sound b r s ts us neg d x.0.0 x.0.1 e rest f (sum_sound b r s us x.0.0 x.0.1 x.1) x.2

like_spelled : (ts rest : List Terminal) (neg : Bool) (e : ExprTree) (x : List ℕ) → ts ≡ spelling e ++ (perhaps_not neg ++ t.Like ∷ t.Text x ∷ rest) → ts ≡ spelling (like neg e x) ++ rest
like_spelled ts rest neg e x p =
    let same : spelling (like neg e x) ++ rest ≡ spelling e ++ (perhaps_not neg ++ t.Like ∷ t.Text x ∷ rest) = simp append_assoc in
    cc

test_sound : (b : Below) (r : ℕ) → Sounds b r → (ts us : List Terminal) (neg : Bool) (d e : ExprTree) (rest : List Terminal) → FoundExpr 6 (suc r) ts d (perhaps_not neg ++ us) → test_after b (suc r) neg d us ≡ Ok (e, rest) → FoundExpr 5 (suc r) ts e rest
test_sound b r s ts (t.Between ∷ us) neg d e rest f h = bounds_sound b r s ts us neg d e rest f h
test_sound b r s ts (t.In ∷ t.LeftParen ∷ us) neg d e rest f h = list_sound b r s ts us neg d e rest f h
test_sound b r s ts (t.Like ∷ t.Text x ∷ us) neg d e rest f h =
    within_ok 5 (suc r) ts (like neg d x) e us rest h (λ low. record { fits = (f.fits, f.high); high = omega arith; low = low; spelled = like_spelled ts us neg d x f.spelled })
test_sound b r s ts us neg d e rest f h = absurd (cc)

tests_sound : (b : Below) (r : ℕ) → Sounds b r → (ts us : List Terminal) (d e : ExprTree) (rest : List Terminal) → FoundExpr 6 (suc r) ts d us → range_after b (suc r) d us ≡ Ok (e, rest) → FoundExpr 5 (suc r) ts e rest
tests_sound b r s ts (t.Not ∷ us) d e rest f h = test_sound b r s ts us true d e rest f h
tests_sound b r s ts (t.Between ∷ us) d e rest f h = test_sound b r s ts (t.Between ∷ us) false d e rest f h
tests_sound b r s ts (t.In ∷ us) d e rest f h = test_sound b r s ts (t.In ∷ us) false d e rest f h
tests_sound b r s ts (t.Like ∷ us) d e rest f h = test_sound b r s ts (t.Like ∷ us) false d e rest f h
tests_sound b r s ts us d e rest f h = returned 5 (suc r) ts d e us rest h (raised 5 6 (suc r) ts d us (omega arith) f)

pub range_sound : (b : Below) (r : ℕ) → Sounds b r → Sound 5 (range_of b (suc r)) (suc r)
unfolding range_of
range_sound b r s ts e rest h =
    let x = bind_ok (sum_of b (suc r) ts) (λ x. range_after b (suc r) x.0 x.1) (e, rest) h in
    tests_sound b r s ts x.0.1 x.0.0 e rest (sum_sound b r s ts x.0.0 x.0.1 x.1) x.2

-- ---- comparisons

compared : (b : Below) (r : ℕ) → Sounds b r → (ts us : List Terminal) (d e : ExprTree) (rest : List Terminal) → FoundExpr 5 (suc r) ts d us → compare_after b (suc r) d us ≡ Ok (e, rest) → FoundExpr 4 (suc r) ts e rest
compared b r s ts (t.Compare op ∷ us) d e rest f h =
    let x = bind_ok (range_of b (suc r) us) (λ x. within (suc r) (compare op d x.0) x.1) (e, rest) h in
    let g : FoundExpr 5 (suc r) us x.0.0 x.0.1 = range_sound b r s us x.0.0 x.0.1 x.1 in
    within_ok 4 (suc r) ts (compare op d x.0.0) e x.0.1 rest x.2 (λ low. record {
      fits = (f.fits, g.fits, f.high, g.high);
      high = omega arith;
      low = low;
      spelled = glued ts (spelling d) (spelling x.0.0) us x.0.1 (t.Compare op) (t.Compare op) f.spelled refl g.spelled;
    })
compared b r s ts us d e rest f h = returned 4 (suc r) ts d e us rest h (raised 4 5 (suc r) ts d us (omega arith) f)

compare_sound : (b : Below) (r : ℕ) → Sounds b r → Sound 4 (compare_of b (suc r)) (suc r)
unfolding compare_of
compare_sound b r s ts e rest h =
    let x = bind_ok (range_of b (suc r) ts) (λ x. compare_after b (suc r) x.0 x.1) (e, rest) h in
    compared b r s ts x.0.1 x.0.0 e rest (range_sound b r s ts x.0.0 x.0.1 x.1) x.2

-- ---- IS

status_is : (u : Terminal) (s : Status) → status_of u ≡ Some s → u ≡ status_terminal s
status_is t.Null s h = let p : statuses.Null ≡ s = cc in ap status_terminal p
status_is (t.Truth true) s h = let p : statuses.True ≡ s = cc in ap status_terminal p
status_is (t.Truth false) s h = let p : statuses.False ≡ s = cc in ap status_terminal p
status_is t.Unknown s h = let p : statuses.Unknown ≡ s = cc in ap status_terminal p
status_is u s h = absurd (cc)

tested_spelled : (ts rest : List Terminal) (neg : Bool) (e : ExprTree) (u : Terminal) (s : Status) → ts ≡ spelling e ++ (t.Is ∷ (perhaps_not neg ++ u ∷ rest)) → u ≡ status_terminal s → ts ≡ spelling (tested neg e s) ++ rest
tested_spelled ts rest neg e u s p q =
    let same : spelling (tested neg e s) ++ rest ≡ spelling e ++ (t.Is ∷ (perhaps_not neg ++ status_terminal s ∷ rest)) = simp append_assoc in
    cc

status_sound : (r : ℕ) (ts us : List Terminal) (neg : Bool) (d e : ExprTree) (rest : List Terminal) → FoundExpr 4 (suc r) ts d (t.Is ∷ (perhaps_not neg ++ us)) → status_after (suc r) neg d us ≡ Ok (e, rest) → FoundExpr 3 (suc r) ts e rest
status_sound r ts [] neg d e rest f h = absurd (cc)
status_sound r ts (u ∷ us) neg d e rest f h =
    let after : Status → Read = λ s. within (suc r) (tested neg d s) us in
    let go : (found : Option Status) → status_of u ≡ found → choose found (Err Syntax) after ≡ Ok (e, rest) → FoundExpr 3 (suc r) ts e rest = elim [
      | None ↦ (λ is g. absurd (cc))
      | Some s ↦ (λ is g. within_ok 3 (suc r) ts (tested neg d s) e us rest g (λ low. record { fits = (f.fits, f.high); high = omega arith; low = low; spelled = tested_spelled ts us neg d u s f.spelled (status_is u s is) }))
    ]
    in go (status_of u) refl h

is_behind : (r : ℕ) (ts us : List Terminal) (d e : ExprTree) (rest : List Terminal) → FoundExpr 4 (suc r) ts d us → is_after (suc r) d us ≡ Ok (e, rest) → FoundExpr 3 (suc r) ts e rest
is_behind r ts (t.Is ∷ t.Not ∷ us) d e rest f h = status_sound r ts us true d e rest f h
is_behind r ts (t.Is ∷ us) d e rest f h = status_sound r ts us false d e rest f h
is_behind r ts us d e rest f h = returned 3 (suc r) ts d e us rest h (raised 3 4 (suc r) ts d us (omega arith) f)

is_sound : (b : Below) (r : ℕ) → Sounds b r → Sound 3 (is_of b (suc r)) (suc r)
unfolding is_of
is_sound b r s ts e rest h =
    let x = bind_ok (compare_of b (suc r) ts) (λ x. is_after (suc r) x.0 x.1) (e, rest) h in
    is_behind r ts x.0.1 x.0.0 e rest (compare_sound b r s ts x.0.0 x.0.1 x.1) x.2

-- ---- NOT

pub negated_sound : (b : Below) (r : ℕ) → Sounds b r → Sound 2 (negated_of b (suc r)) (suc r)
negated_sound b r s (t.Not ∷ ts) e rest h =
    let x = bind_ok {B = ExprTree × List Terminal} (b.negated ts) (λ x. Ok (negation x.0, x.1)) (e, rest) h in
    let f : FoundExpr 2 r ts x.0.0 x.0.1 = s.negated ts x.0.0 x.0.1 x.1 in
    returned 2 (suc r) (t.Not ∷ ts) (negation x.0.0) e x.0.1 rest x.2 (record {
      fits = (f.fits, f.high);
      high = omega arith;
      low = omega (arith, f.low);
      spelled = ap (λ y. t.Not ∷ y) f.spelled;
    })
negated_sound b r s ts e rest h = raised 2 3 (suc r) ts e rest (omega arith) (is_sound b r s ts e rest h)

pub whole_sound : (b : Below) (r : ℕ) → Sounds b r → Sound 0 (whole_of b (suc r)) (suc r)
whole_sound b r s = chain_sound Or (conjunction_of b (suc r)) (suc r) (chain_sound And (negated_of b (suc r)) (suc r) (negated_sound b r s))

nothing_read : (n : ℕ) (item : Parser) → ((ts : List Terminal) → item ts ≡ Err TooHigh) → Sound n item 0
nothing_read n item none_read ts e rest h = absurd (let p : item ts ≡ Err TooHigh = none_read ts in cc)

pub sounds : (r : ℕ) → Sounds (below r) r
unfolding below
sounds zero = record {
  whole = nothing_read 0 (λ _. Err TooHigh) (λ ts. refl);
  negated = nothing_read 2 (λ _. Err TooHigh) (λ ts. refl);
  signed = nothing_read 8 (λ _. Err TooHigh) (λ ts. refl);
}
sounds (suc r) = record { whole = whole_sound (below r) r (sounds r); negated = negated_sound (below r) r (sounds r); signed = signed_sound (below r) r (sounds r) }

-- ---- whole texts

ended_ok : (d e : ExprTree) (us : List Terminal) → ended d us ≡ Ok e → (d ≡ e) × (us ≡ [])
ended_ok d e [] h = (ok_same d e h, refl)
ended_ok d e (u ∷ us) h = absurd (cc)

all_spelled : (room : ℕ) (ts us : List Terminal) (d e : ExprTree) → FoundExpr 0 room ts d us → d ≡ e → us ≡ [] → IsExpr ts e × (height e ≤ room)
all_spelled room ts us d e f p q =
    let g : FoundExpr 0 room ts e us = subst (λ x. FoundExpr 0 room ts x us) p f in
    let n = append-nil (spelling e) in
    let same : ts ≡ spelling e ++ us = g.spelled in
    (record { fits = g.fits; spelled = cc }, g.low)

pub all_sound : (room : ℕ) (ts : List Terminal) (e : ExprTree) → all_of room ts ≡ Ok e → IsExpr ts e × (height e ≤ room)
unfolding all_of
all_sound room ts e h =
    let x = bind_ok ((below room).whole ts) (λ x. ended x.0 x.1) e h in
    let y = ended_ok x.0.0 e x.0.1 x.2 in
    all_spelled room ts x.0.1 x.0.0 e ((sounds room).whole ts x.0.0 x.0.1 x.1) y.0 y.1
