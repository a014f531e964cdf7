-- Chains of operators, and lists behind marks, are read as they are spelled.
use Rattle.std.proofs.Common.{◌≡◌, ℕ, zero, suc, ◌≤◌, ◌<◌, ◌⊎◌, inl, inr, Bool, true, cond, List, [], ◌∷◌, ◌++◌, length, refl, sym, ◌∙◌, ap, arith, append_assoc, length-append}
use Rattle.std.specs.Prelude.{nat_le, Ok, Err, Option, Some, None}
use Rattle.std.proofs.lemmas.Bool.{le-leb, lt-leb}
use Rattle.std.proofs.lemmas.Bool.Decides.{leb_tells}
use Rattle.med_value.specs.declared.operators.Operation.{Operation}
use Rattle.med_value.specs.declared.operators.Operation.TheVariants.{Add, Subtract, Multiply, Divide, Remainder}
use Rattle.med_syntax.specs.declared.expr.Joint.{Joint}
use Rattle.med_syntax.specs.declared.expr.Joint.TheVariants.{Or, And}
use Rattle.med_syntax.specs.Terminal.{Terminal}
use Rattle.med_syntax.specs.Terminal as t
use Rattle.med_syntax.specs.declared.refusal.Refusal.TheVariants.{TooHigh}
use Rattle.med_syntax.specs.ExprTree.{ExprTree, ExprTrees, binary, chain, none, more, binary_level, joint_level, height, highest, level, Fits, AllFit, spelling, spellings}
use Rattle.med_syntax.specs.ExprReading.{Reads, Parser, ◌>>=◌, within, Below, is_joint, left_more, left_of, others_after, chain_of}

-- ---- heights

pub within_low : (room : ℕ) (e : ExprTree) (ts : List Terminal) → height e ≤ room → within room e ts ≡ Ok (e, ts)
within_low room e ts h = rw (le-leb (height e) room h) refl

pub within_high : (room : ℕ) (e : ExprTree) (ts : List Terminal) → room < height e → within room e ts ≡ Err TooHigh
within_high room e ts h = rw (lt-leb (height e) room h) refl

pub low_or_high : (a b : ℕ) → (a ≤ b) ⊎ (b < a)
low_or_high a b = elim (leb_tells a b) [ inl h ↦ inl h.1 | inr h ↦ inr h.1 ]

-- ---- what goes on

abbrev pub reach_of : Terminal → ℕ
reach_of (t.Joined Or) = 1
reach_of (t.Joined And) = 2
reach_of t.Is = 4
reach_of (t.Compare op) = 5
reach_of t.Not = 6
reach_of t.Between = 6
reach_of t.In = 6
reach_of t.Like = 6
reach_of (t.Binary Add) = 7
reach_of (t.Binary Subtract) = 7
reach_of (t.Binary Multiply) = 8
reach_of (t.Binary Divide) = 8
reach_of (t.Binary Remainder) = 8
reach_of t.Dot = 10
reach_of t.LeftParen = 10
reach_of _ = 0

abbrev pub reach : List Terminal → ℕ
reach [] = 0
reach (u ∷ ts) = reach_of u

reach_binary : (op : Operation) → reach_of (t.Binary op) ≡ suc (binary_level op)
reach_binary Add = refl
reach_binary Subtract = refl
reach_binary Multiply = refl
reach_binary Divide = refl
reach_binary Remainder = refl

reach_joint : (j : Joint) → reach_of (t.Joined j) ≡ suc (joint_level j)
reach_joint Or = refl
reach_joint And = refl

abbrev pub Takes : ℕ → Parser → ℕ → Type 0
Takes n item room = (e : ExprTree) (rest : List Terminal) → Fits e → n ≤ level e → reach rest ≤ n → item (spelling e ++ rest) ≡ within room e rest

pub record Completes (b : Below) (room : ℕ) : Type 0 where
  pub whole : Takes 0 b.whole room
  pub negated : Takes 2 b.negated room
  pub signed : Takes 8 b.signed room

-- ---- chains to the left

pub record Ops (op_of : Terminal → Option Operation) (n : ℕ) : Type 0 where
  pub takes : (op : Operation) → binary_level op ≡ n → op_of (t.Binary op) ≡ Some op
  pub stops : (u : Terminal) → reach_of u ≤ n → op_of u ≡ None
  pub low : 6 ≤ n
  pub high : n ≤ 7

left_done : (op_of : Terminal → Option Operation) (item : Parser) (room n k : ℕ) → Ops op_of n → (e : ExprTree) (rest : List Terminal) → reach rest ≤ n → left_more op_of item room k e rest ≡ Ok (e, rest)
left_done op_of item room n zero o e rest h = refl
left_done op_of item room n (suc k) o e [] h = refl
left_done op_of item room n (suc k) o e (u ∷ ts) h = rw (o.stops u h) refl

-- the loop that goes on after e
abbrev pub Continues : (Terminal → Option Operation) → Parser → ℕ → ExprTree → List Terminal → Type 0
Continues op_of item room e rest =
    (k : ℕ) × (length rest ≤ k) × (left_of op_of item room (spelling e ++ rest) ≡ (within room e rest >>= λ x. left_more op_of item room k x.0 x.1))

left_base : (op_of : Terminal → Option Operation) (item : Parser) (room n : ℕ) → Takes (suc n) item room → (e : ExprTree) (rest : List Terminal) → Fits e → suc n ≤ level e → reach rest ≤ suc n → Continues op_of item room e rest
unfolding left_of
left_base op_of item room n takes e rest f l r = (
  length rest,
  omega arith,
  rw (takes e rest f l r) (elim (low_or_high (height e) room) [ inl h ↦ rw (within_low room e rest h) refl | inr h ↦ rw (within_high room e rest h) refl ]),
)

left_step : (op_of : Terminal → Option Operation) (item : Parser) (room n k : ℕ) → Ops op_of n → Takes (suc n) item room → (op : Operation) (a b : ExprTree) (rest : List Terminal) → binary_level op ≡ n → Fits b → suc n ≤ level b → reach rest ≤ suc n →
    (within room a (t.Binary op ∷ (spelling b ++ rest)) >>= λ x. left_more op_of item room (suc k) x.0 x.1) ≡ (within room (binary op a b) rest >>= λ x. left_more op_of item room k x.0 x.1)
left_step op_of item room n k o takes op a b rest is f l r =
    elim (low_or_high (height a) room) [
      | inr h ↦ (let h2 : room < height (binary op a b) = omega arith in rw (within_high room a (t.Binary op ∷ (spelling b ++ rest)) h, within_high room (binary op a b) rest h2) refl)
      | inl h ↦ rw (within_low room a (t.Binary op ∷ (spelling b ++ rest)) h) (rw (o.takes op is) (rw (takes b rest f l r) (
          elim (low_or_high (height b) room) [
            | inr h3 ↦ (let h2 : room < height (binary op a b) = omega arith in rw (within_high room b rest h3, within_high room (binary op a b) rest h2) refl)
            | inl h3 ↦ rw (within_low room b rest h3) refl
          ])))
    ]

left_binary : (op_of : Terminal → Option Operation) (item : Parser) (room n : ℕ) → Ops op_of n → Takes (suc n) item room → (op : Operation) (a b : ExprTree) (rest : List Terminal) → binary_level op ≡ n → Fits (binary op a b) → reach rest ≤ suc n →
    Continues op_of item room a (t.Binary op ∷ (spelling b ++ rest)) → Continues op_of item room (binary op a b) rest
left_binary op_of item room n o takes op a b rest is f r (zero, enough, reads) = absurd (omega arith)
left_binary op_of item room n o takes op a b rest is f r (suc k, enough, reads) = (
  k,
  omega (arith, length-append (spelling b) rest),
  rw (append_assoc (spelling a) (t.Binary op ∷ spelling b) rest) (reads ∙ left_step op_of item room n k o takes op a b rest is f.1 (omega (arith, f.3)) r),
)

pub binary_high : (op : Operation) → 6 ≤ binary_level op
binary_high Add = omega arith
binary_high Subtract = omega arith
binary_high Multiply = omega arith
binary_high Divide = omega arith
binary_high Remainder = omega arith

pub binary_low : (op : Operation) → binary_level op ≤ 7
binary_low Add = omega arith
binary_low Subtract = omega arith
binary_low Multiply = omega arith
binary_low Divide = omega arith
binary_low Remainder = omega arith

pub joint_low : (j : Joint) → joint_level j < 2
joint_low Or = omega arith
joint_low And = omega arith

level_cases : (op : Operation) (n : ℕ) → n ≤ binary_level op → (binary_level op ≡ n) ⊎ (suc n ≤ binary_level op)
level_cases op n h = elim (low_or_high (binary_level op) n) [ inl g ↦ inl (omega arith) | inr g ↦ inr (omega arith) ]

left_reads : (op_of : Terminal → Option Operation) (item : Parser) (room n : ℕ) → Ops op_of n → Takes (suc n) item room → (e : ExprTree) (rest : List Terminal) → Fits e → n ≤ level e → reach rest ≤ suc n → Continues op_of item room e rest
left_reads op_of item room n o takes (binary op a b) rest f l r =
    elim (level_cases op n l) [
      | inr up ↦ left_base op_of item room n takes (binary op a b) rest f up r
      | inl is ↦ left_binary op_of item room n o takes op a b rest is f r
          (left_reads op_of item room n o takes a (t.Binary op ∷ (spelling b ++ rest)) f.0 (omega (arith, f.2)) (omega (arith, reach_binary op)))
    ]
left_reads op_of item room n o takes (chain j first others) rest f l r = left_base op_of item room n takes (chain j first others) rest f (omega (arith, o.low, joint_low j)) r
left_reads op_of item room n o takes e rest f l r = left_base op_of item room n takes e rest f (omega (arith, o.high, o.low)) r

pub left_takes : (op_of : Terminal → Option Operation) (item : Parser) (room n : ℕ) → Ops op_of n → Takes (suc n) item room → Takes n (left_of op_of item room) room
left_takes op_of item room n o takes e rest f l r =
    let go : Continues op_of item room e rest = left_reads op_of item room n o takes e rest f l (omega arith) in
    rw (go.2) (elim (low_or_high (height e) room) [
      | inr h ↦ rw (within_high room e rest h) refl
      | inl h ↦ rw (within_low room e rest h) (left_done op_of item room n go.0 o e rest r)
    ])

-- ---- lists behind marks

abbrev pub all_within : ℕ → ExprTrees → List Terminal → Reads
all_within room es ts = cond (nat_le (highest es) room) (Ok (es, ts)) (Err TooHigh)

pub all_low : (room : ℕ) (es : ExprTrees) (ts : List Terminal) → highest es ≤ room → all_within room es ts ≡ Ok (es, ts)
all_low room es ts h = rw (le-leb (highest es) room h) refl

pub all_high : (room : ℕ) (es : ExprTrees) (ts : List Terminal) → room < highest es → all_within room es ts ≡ Err TooHigh
all_high room es ts h = rw (lt-leb (highest es) room h) refl

pub record Marks (is_mark : Terminal → Bool) (mark : Terminal) (n : ℕ) (rest : List Terminal) : Type 0 where
  pub is : is_mark mark ≡ true
  pub reaches : reach_of mark ≤ n
  pub rest_reaches : reach rest ≤ n
  pub stops : (item : Parser) (k : ℕ) → others_after is_mark item k rest ≡ Ok (none, rest)

pub reach_others : (mark : Terminal) (n : ℕ) (es : ExprTrees) (rest : List Terminal) → reach_of mark ≤ n → reach rest ≤ n → reach (spellings mark es ++ rest) ≤ n
reach_others mark n none rest h r = r
reach_others mark n (more e es) rest h r = h

others_step : (is_mark : Terminal → Bool) (item : Parser) (room n k : ℕ) (mark : Terminal) (rest : List Terminal) → Marks is_mark mark n rest → Takes n item room → (e : ExprTree) (es : ExprTrees) → Fits e → n ≤ level e →
    others_after is_mark item k (spellings mark es ++ rest) ≡ all_within room es rest →
    others_after is_mark item (suc k) (mark ∷ (spelling e ++ (spellings mark es ++ rest))) ≡ all_within room (more e es) rest
others_step is_mark item room n k mark rest m takes e es f l ih =
    let r : reach (spellings mark es ++ rest) ≤ n = reach_others mark n es rest m.reaches m.rest_reaches in
    rw m.is (rw (takes e (spellings mark es ++ rest) f l r) (elim (low_or_high (height e) room) [
      | inr h ↦ (let h2 : room < highest (more e es) = omega arith in rw (within_high room e (spellings mark es ++ rest) h, all_high room (more e es) rest h2) refl)
      | inl h ↦ rw (within_low room e (spellings mark es ++ rest) h) (rw ih (elim (low_or_high (highest es) room) [
        | inr h3 ↦ (let h2 : room < highest (more e es) = omega arith in rw (all_high room es rest h3, all_high room (more e es) rest h2) refl)
        | inl h3 ↦ (let h2 : highest (more e es) ≤ room = omega arith in rw (all_low room es rest h3, all_low room (more e es) rest h2) refl)
      ]))
    ]))

pub others_take : (is_mark : Terminal → Bool) (item : Parser) (room n : ℕ) (mark : Terminal) (rest : List Terminal) → Marks is_mark mark n rest → Takes n item room → (es : ExprTrees) (k : ℕ) → AllFit n es → length (spellings mark es ++ rest) ≤ k →
    others_after is_mark item k (spellings mark es ++ rest) ≡ all_within room es rest
others_take is_mark item room n mark rest m takes none k f h = m.stops item k ∙ sym (all_low room none rest (omega arith))
others_take is_mark item room n mark rest m takes (more e es) zero f h = absurd (omega arith)
others_take is_mark item room n mark rest m takes (more e es) (suc k) f h =
    rw (append_assoc (spelling e) (spellings mark es) rest)
    (others_step is_mark item room n k mark rest m takes e es f.0 f.1
    (others_take is_mark item room n mark rest m takes es k f.2 (omega (arith, length-append (spelling e) (spellings mark es ++ rest), ap length (append_assoc (spelling e) (spellings mark es) rest)))))

-- ---- AND and OR

joint_stops : (j : Joint) (item : Parser) (k : ℕ) (rest : List Terminal) → reach rest ≤ joint_level j → others_after (is_joint j) item k rest ≡ Ok (none, rest)
joint_stops j item zero rest h = refl
joint_stops j item (suc k) [] h = refl
joint_stops Or item (suc k) (t.Joined Or ∷ ts) h = absurd (omega arith)
joint_stops And item (suc k) (t.Joined And ∷ ts) h = absurd (omega arith)
joint_stops Or item (suc k) (u ∷ ts) h = refl
joint_stops And item (suc k) (u ∷ ts) h = refl

is_joint_self : (j : Joint) → is_joint j (t.Joined j) ≡ true
is_joint_self Or = refl
is_joint_self And = refl

chain_base : (j : Joint) (item : Parser) (room : ℕ) → Takes (suc (joint_level j)) item room → (e : ExprTree) (rest : List Terminal) → Fits e → suc (joint_level j) ≤ level e → reach rest ≤ joint_level j → chain_of j item room (spelling e ++ rest) ≡ within room e rest
unfolding chain_of
chain_base j item room takes e rest f l r =
    rw (takes e rest f l (omega arith)) (elim (low_or_high (height e) room) [
      | inr h ↦ rw (within_high room e rest h) refl
      | inl h ↦ rw (within_low room e rest h) (rw (joint_stops j item (length rest) rest r) refl)
    ])

chain_self : (j : Joint) (item : Parser) (room : ℕ) → Takes (suc (joint_level j)) item room → (first : ExprTree) (others : ExprTrees) (rest : List Terminal) → Fits (chain j first others) → reach rest ≤ joint_level j → chain_of j item room (spelling (chain j first others) ++ rest) ≡ within room (chain j first others) rest
unfolding chain_of
chain_self j item room takes first none rest f r = absurd f.3
chain_self j item room takes first (more e es) rest f r =
    let m : Marks (is_joint j) (t.Joined j) (suc (joint_level j)) rest = record { is = is_joint_self j; reaches = omega (arith, reach_joint j); rest_reaches = omega arith; stops = λ i k. joint_stops j i k rest r } in
    let after : List Terminal = spellings (t.Joined j) (more e es) ++ rest in
    let r2 : reach after ≤ suc (joint_level j) = omega (arith, reach_joint j) in
    rw (append_assoc (spelling first) (spellings (t.Joined j) (more e es)) rest)
    (rw (takes first after f.0 f.1 r2) (elim (low_or_high (height first) room) [
      | inr h ↦ (let h2 : room < height (chain j first (more e es)) = omega arith in rw (within_high room first after h, within_high room (chain j first (more e es)) rest h2) refl)
      | inl h ↦ rw (within_low room first after h) (rw (others_take (is_joint j) item room (suc (joint_level j)) (t.Joined j) rest m takes (more e es) (length after) f.2 (omega arith))
          (elim (low_or_high (highest (more e es)) room) [
            | inr h3 ↦ (let h2 : room < height (chain j first (more e es)) = omega arith in rw (all_high room (more e es) rest h3, within_high room (chain j first (more e es)) rest h2) refl)
            | inl h3 ↦ rw (all_low room (more e es) rest h3) refl
          ]))
    ]))

pub chain_takes : (j : Joint) (item : Parser) (room : ℕ) → Takes (suc (joint_level j)) item room → Takes (joint_level j) (chain_of j item room) room
chain_takes Or item room takes (chain Or first others) rest f l r = chain_self Or item room takes first others rest f r
chain_takes And item room takes (chain And first others) rest f l r = chain_self And item room takes first others rest f r
chain_takes And item room takes (chain Or first others) rest f l r = absurd (omega arith)
chain_takes Or item room takes (chain And first others) rest f l r = chain_base Or item room takes (chain And first others) rest f (omega arith) r
chain_takes j item room takes (binary op a b) rest f l r = chain_base j item room takes (binary op a b) rest f (omega (arith, joint_low j, binary_high op)) r
chain_takes j item room takes e rest f l r = chain_base j item room takes e rest f (omega (arith, joint_low j)) r
