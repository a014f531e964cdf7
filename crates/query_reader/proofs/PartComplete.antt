-- The parts of a clause that are spelled so are read so.
use Rattle.std.proofs.Common.{◌≡◌, ℕ, zero, suc, ◌≤◌, ◌<◌, inl, inr, Bool, true, false, cond, List, [], ◌∷◌, ◌++◌, length, refl, sym, ◌∙◌, ap, subst, arith, append_assoc, length-append, codes}
use Rattle.std.specs.Prelude.{nat_le, max, Result, Ok, Err, Option, Some, None}
use Rattle.std.specs.Str.{bytes_eq}
use Rattle.std.proofs.lemmas.Bool.{le-leb, lt-leb}
use Rattle.std.proofs.lemmas.Slice.Eq.{bytes_eq-Decides}
use Rattle.med_value.specs.declared.operators.Operation.{Operation}
use Rattle.med_value.specs.declared.operators.Operation.TheVariants.{Add, Subtract, Multiply, Divide, Remainder}
use Rattle.med_syntax.specs.declared.expr.Joint.{Joint}
use Rattle.med_syntax.specs.declared.expr.Joint.TheVariants.{Or, And}
use Rattle.med_syntax.specs.declared.refusal.Refusal.{Refusal}
use Rattle.med_syntax.specs.declared.refusal.Refusal.TheVariants.{TooHigh}
use Rattle.med_syntax.specs.declared.symbols.Separator.TheVariants.{Comma}
use Rattle.med_syntax.specs.Prelude.{Name, Terminal, ExprTree, ExprTrees, num, negative, text, truth, null, column, call_all, call, paren, minus, binary, between, among, like, compare, tested, negation, chain, none, more, perhaps_not, status_terminal, height, Fits, spelling, spellings, IsExpr, behind_of, keywords, SpellsOthers, SpellsList, SpellsLabel, SpellsAlias, SpellsItem, SpellsEntry, SpellsFlag, SpellsPerhaps, SpellsListed, SpellsExpr}
use Rattle.med_syntax.specs.ExprReading.{below}
use Rattle.med_syntax.specs.ExprReading.{◌>>=◌}
use Rattle.med_syntax.specs.Terminal as t
use Rattle.med_syntax.specs.QueryTree.{all, all_of, value, EntryTree, item_height, highest_of, condition_height}
use Rattle.query_reader.specs.QueryReading.{Parser, behind_word, behind_words, flag_of, perhaps_name, label_after, value_item, item_of, others, list_of, alias_after, entry_of, perhaps_of, listed_of}
use Rattle.med_syntax.proofs.QueryLabels.{label_is}
use Rattle.med_syntax.proofs.ExprChains.{low_or_high, reach}
use Rattle.med_syntax.proofs.ExprComplete.{completes}

-- what is found, where its highest expression has room
abbrev pub held : {X : Type 0} → ℕ → ℕ → X → List Terminal → Result (X × List Terminal) Refusal
held room h x ts = cond (nat_le h room) (Ok (x, ts)) (Err TooHigh)

pub held_low : {X : Type 0} (room h : ℕ) (x : X) (ts : List Terminal) → h ≤ room → held room h x ts ≡ Ok (x, ts)
held_low room h x ts l = rw (le-leb h room l) refl

pub held_high : {X : Type 0} (room h : ℕ) (x : X) (ts : List Terminal) → room < h → held room h x ts ≡ Err TooHigh
held_high room h x ts l = rw (lt-leb h room l) refl

-- What is spelled as x and stands before such a rest is read as x, up to the rest, where it has room.
abbrev pub Takes : {X : Type 0} → (X → List Terminal → Type 0) → (List Terminal → Type 0) → (X → ℕ) → ℕ → Parser X → Type 0
Takes {X} Spelling Follows high room item = (x : X) (ts rest : List Terminal) → Spelling x ts → Follows rest → item (ts ++ rest) ≡ held room (high x) x rest

-- one after the other
pub then_held : {X Y Z : Type 0} (room h k : ℕ) (x : X) (y : Y) (z : Z) (middle rest : List Terminal) (p : Parser Y) (make : X → Y → Z) →
    p middle ≡ held room k y rest → make x y ≡ z →
    (held room h x middle >>= λ a. p a.1 >>= λ b. Ok (make a.0 b.0, b.1)) ≡ held room (max h k) z rest
then_held room h k x y z middle rest p make reads is =
    elim (low_or_high h room) [
      | inr g ↦ (let g2 : room < max h k = omega (arith, g) in rw (held_high room h x middle g, held_high room (max h k) z rest g2) refl)
      | inl g ↦ rw (held_low room h x middle g) (rw reads (
          elim (low_or_high k room) [
            | inr l ↦ (let g2 : room < max h k = omega (arith, l) in rw (held_high room k y rest l, held_high room (max h k) z rest g2) refl)
            | inl l ↦ (let g2 : max h k ≤ room = omega (arith, g, l) in rw (held_low room k y rest l, held_low room (max h k) z rest g2) (ap (λ w. Ok (w, rest)) is))
          ]))
    ]

-- what goes on behind a part
pub step_held : {X Z : Type 0} (room h k : ℕ) (x : X) (z : Z) (middle rest : List Terminal) (f : X × List Terminal → Result (Z × List Terminal) Refusal) → f (x, middle) ≡ held room k z rest → (held room h x middle >>= f) ≡ held room (max h k) z rest
step_held room h k x z middle rest f reads =
    elim (low_or_high h room) [
      | inr g ↦ (let g2 : room < max h k = omega (arith, g) in rw (held_high room h x middle g, held_high room (max h k) z rest g2) refl)
      | inl g ↦ rw (held_low room h x middle g) (reads ∙ (
          elim (low_or_high k room) [
            | inr l ↦ (let g2 : room < max h k = omega (arith, l) in held_high room k z rest l ∙ sym (held_high room (max h k) z rest g2))
            | inl l ↦ (let g2 : max h k ≤ room = omega (arith, g, l) in held_low room k z rest l ∙ sym (held_low room (max h k) z rest g2))
          ]))
    ]

-- what goes on behind a part that has no expression
pub step_ok : {X Z : Type 0} (x : X) (middle : List Terminal) (r : Result (X × List Terminal) Refusal) (f : X × List Terminal → Result (Z × List Terminal) Refusal) (w : Result (Z × List Terminal) Refusal) → r ≡ Ok (x, middle) → f (x, middle) ≡ w → (r >>= f) ≡ w
step_ok x middle r f w p q = ap (λ y. y >>= f) p ∙ q

then_ok : {X Y Z : Type 0} (room h : ℕ) (x : X) (y : Y) (z : Z) (middle rest : List Terminal) (p : Parser Y) (make : X → Y → Z) → p middle ≡ Ok (y, rest) → make x y ≡ z →
    (held room h x middle >>= λ a. p a.1 >>= λ b. Ok (make a.0 b.0, b.1)) ≡ held room h z rest
then_ok room h x y z middle rest p make reads is =
    elim (low_or_high h room) [
      | inr g ↦ rw (held_high room h x middle g, held_high room h z rest g) refl
      | inl g ↦ rw (held_low room h x middle g, held_low room h z rest g) (rw reads (ap (λ w. Ok (w, rest)) is))
    ]

-- ---- what stands behind a part

-- nothing, a comma, a semicolon or a keyword: no expression and no name goes on
abbrev pub Parted : List Terminal → Type 0
Parted [] = Unit {0}
Parted (t.Comma ∷ ts) = Unit {0}
Parted (t.Semicolon ∷ ts) = Unit {0}
Parted (t.Reserved w ∷ ts) = Unit {0}
Parted _ = ⊥

-- and none of these words comes first
abbrev pub Clear : List (List ℕ) → List Terminal → Type 0
Clear [] rest = Parted rest
Clear (w ∷ ws) rest = (behind_word w rest ≡ None) × Clear ws rest

-- behind a label or an alias
abbrev pub Stops : List Terminal → Type 0
Stops = Clear (codes "as" ∷ [])

pub parted_reach : (rest : List Terminal) → Parted rest → reach rest ≤ 0
parted_reach [] h = omega arith
parted_reach (t.Comma ∷ ts) h = omega arith
parted_reach (t.Semicolon ∷ ts) h = omega arith
parted_reach (t.Reserved w ∷ ts) h = omega arith
parted_reach (u ∷ ts) h = absurd h

parted_name : (rest : List Terminal) → Parted rest → perhaps_name rest ≡ Ok (None, rest)
parted_name [] h = refl
parted_name (t.Comma ∷ ts) h = refl
parted_name (t.Semicolon ∷ ts) h = refl
parted_name (t.Reserved w ∷ ts) h = refl
parted_name (u ∷ ts) h = absurd h

same_word : (w : List ℕ) (us : List Terminal) → behind_word w (t.Reserved w ∷ us) ≡ Some us
same_word w us = rw ((bytes_eq-Decides w w).1 refl) refl

other_word : (w v : List ℕ) (us : List Terminal) → bytes_eq v w ≡ false → behind_word w (t.Reserved v ∷ us) ≡ None
other_word w v us h = rw h refl

words_behind : (ws : List (List ℕ)) (us : List Terminal) → behind_words ws (keywords ws ++ us) ≡ Some us
words_behind [] us = refl
words_behind (w ∷ ws) us = rw (same_word w (keywords ws ++ us)) (words_behind ws us)

pub first_none : (w : List ℕ) (ws : List (List ℕ)) (us : List Terminal) → behind_word w us ≡ None → behind_words (w ∷ ws) us ≡ None
first_none w ws us h = rw h refl

-- ---- labels and aliases

label_takes : (label : Option Name) (ts rest : List Terminal) → SpellsLabel label ts → Stops rest → label_after (ts ++ rest) ≡ Ok (label, rest)
unfolding label_after
label_takes None ts rest s f = ap (λ us. label_after (us ++ rest)) s ∙ (rw f.0 (parted_name rest f.1))
label_takes (Some n) ts rest (inl s) f = ap (λ us. label_after (us ++ rest)) s
label_takes (Some n) ts rest (inr s) f = ap (λ us. label_after (us ++ rest)) s.1 ∙ (rw (label_is n s.0 s.2) refl)

pub label_reach : (label : Option Name) (ts rest : List Terminal) → SpellsLabel label ts → Stops rest → reach (ts ++ rest) ≤ 0
label_reach None ts rest s f = subst (λ us. reach (us ++ rest) ≤ 0) (sym s) (parted_reach rest f.1)
label_reach (Some n) ts rest (inl s) f = subst (λ us. reach (us ++ rest) ≤ 0) (sym s) (omega arith)
label_reach (Some n) ts rest (inr s) f = subst (λ us. reach (us ++ rest) ≤ 0) (sym s.1) (omega arith)

alias_takes : (alias : Option Name) (ts rest : List Terminal) → SpellsAlias alias ts → Stops rest → alias_after (ts ++ rest) ≡ Ok (alias, rest)
unfolding alias_after
alias_takes None ts rest s f = ap (λ us. alias_after (us ++ rest)) s ∙ (rw f.0 (parted_name rest f.1))
alias_takes (Some n) ts rest (inl s) f = ap (λ us. alias_after (us ++ rest)) s
alias_takes (Some n) ts rest (inr s) f = ap (λ us. alias_after (us ++ rest)) s

-- ---- items

name_skips : (room : ℕ) (n : Name) (rest : List Terminal) → reach rest ≤ 9 → item_of room (t.Name n ∷ rest) ≡ value_item room (t.Name n ∷ rest)
name_skips room n [] h = refl
name_skips room n (t.Dot ∷ us) h = absurd (omega (arith, h))
name_skips room n (u ∷ us) h = refl

binary_reach : (op : Operation) (us : List Terminal) → reach (t.Binary op ∷ us) ≤ 9
binary_reach Add us = omega arith
binary_reach Subtract us = omega arith
binary_reach Multiply us = omega arith
binary_reach Divide us = omega arith
binary_reach Remainder us = omega arith

not_reach : (neg : Bool) (u : Terminal) (us rest : List Terminal) → reach (u ∷ us) ≤ 9 → reach ((perhaps_not neg ++ u ∷ us) ++ rest) ≤ 9
not_reach true u us rest h = omega arith
not_reach false u us rest h = h

joint_reach : (j : Joint) (us : List Terminal) → reach (t.Joined j ∷ us) ≤ 9
joint_reach Or us = omega arith
joint_reach And us = omega arith

joints_reach : (j : Joint) (es : ExprTrees) (rest : List Terminal) → reach rest ≤ 9 → reach (spellings (t.Joined j) es ++ rest) ≤ 9
joints_reach j none rest h = h
joints_reach j (more e es) rest h = joint_reach j ((spelling e ++ spellings (t.Joined j) es) ++ rest)

-- no expression begins as an asterisk does
item_skips : (room : ℕ) (e : ExprTree) (rest : List Terminal) → reach rest ≤ 9 → item_of room (spelling e ++ rest) ≡ value_item room (spelling e ++ rest)
item_skips room (num n) rest h = refl
item_skips room (negative n) rest h = refl
item_skips room (text x) rest h = refl
item_skips room (truth b) rest h = refl
item_skips room null rest h = refl
item_skips room (column None n) rest h = name_skips room n rest h
item_skips room (column (Some q) n) rest h = refl
item_skips room (call_all f) rest h = refl
item_skips room (call f parts) rest h = refl
item_skips room (paren e) rest h = refl
item_skips room (minus e) rest h = refl
item_skips room (binary op a b) rest h = rw (append_assoc (spelling a) (t.Binary op ∷ spelling b) rest) (item_skips room a (t.Binary op ∷ (spelling b ++ rest)) (binary_reach op (spelling b ++ rest)))
item_skips room (between neg e low high) rest h =
    let after : List Terminal = perhaps_not neg ++ t.Between ∷ (spelling low ++ t.Joined And ∷ spelling high) in
    rw (append_assoc (spelling e) after rest) (item_skips room e (after ++ rest) (not_reach neg t.Between (spelling low ++ t.Joined And ∷ spelling high) rest (omega arith)))
item_skips room (among neg e first others) rest h =
    let items : List Terminal = t.LeftParen ∷ (spelling first ++ (spellings t.Comma others ++ t.RightParen ∷ [])) in
    rw (append_assoc (spelling e) (perhaps_not neg ++ t.In ∷ items) rest) (item_skips room e ((perhaps_not neg ++ t.In ∷ items) ++ rest) (not_reach neg t.In items rest (omega arith)))
item_skips room (like neg e x) rest h =
    rw (append_assoc (spelling e) (perhaps_not neg ++ t.Like ∷ t.Text x ∷ []) rest) (item_skips room e ((perhaps_not neg ++ t.Like ∷ t.Text x ∷ []) ++ rest) (not_reach neg t.Like (t.Text x ∷ []) rest (omega arith)))
item_skips room (compare op a b) rest h = rw (append_assoc (spelling a) (t.Compare op ∷ spelling b) rest) (item_skips room a (t.Compare op ∷ (spelling b ++ rest)) (omega arith))
item_skips room (tested neg e s) rest h =
    rw (append_assoc (spelling e) (t.Is ∷ (perhaps_not neg ++ status_terminal s ∷ [])) rest) (item_skips room e (t.Is ∷ ((perhaps_not neg ++ status_terminal s ∷ []) ++ rest)) (omega arith))
item_skips room (negation e) rest h = refl
item_skips room (chain j first others) rest h =
    rw (append_assoc (spelling first) (spellings (t.Joined j) others) rest) (item_skips room first (spellings (t.Joined j) others ++ rest) (joints_reach j others rest h))

value_step : (room : ℕ) (e : ExprTree) (label : Option Name) (middle rest : List Terminal) → Fits e → reach middle ≤ 0 → label_after middle ≡ Ok (label, rest) → value_item room (spelling e ++ middle) ≡ held room (height e) (value e label) rest
unfolding value_item
value_step room e label middle rest f r reads =
    rw ((completes room).whole e middle f (omega arith) r) (then_ok room (height e) e label (value e label) middle rest label_after value reads refl)

value_takes : (room : ℕ) (e : ExprTree) (label : Option Name) (expr behind rest : List Terminal) → IsExpr expr e → SpellsLabel label behind → Stops rest → item_of room ((expr ++ behind) ++ rest) ≡ held room (height e) (value e label) rest
value_takes room e label expr behind rest x s f =
    ap (item_of room) (ap (λ us. (us ++ behind) ++ rest) x.spelled ∙ append_assoc (spelling e) behind rest)
    ∙ item_skips room e (behind ++ rest) (omega (arith, label_reach label behind rest s f))
    ∙ value_step room e label (behind ++ rest) rest x.fits (label_reach label behind rest s f) (label_takes label behind rest s f)

pub item_takes : (room : ℕ) → Takes SpellsItem Stops item_height room (item_of room)
item_takes room all ts rest s f = ap (λ us. item_of room (us ++ rest)) s ∙ sym (held_low room 0 all rest (omega arith))
item_takes room (all_of q) ts rest s f = ap (λ us. item_of room (us ++ rest)) s ∙ sym (held_low room 0 (all_of q) rest (omega arith))
item_takes room (value e label) ts rest s f = ap (λ us. item_of room (us ++ rest)) s.2 ∙ value_takes room e label s.0 s.1 rest s.3 s.4 f

-- ---- lists

others_stop : {X : Type 0} (item : Parser X) (k : ℕ) (rest : List Terminal) → behind_of Comma rest ≡ None → others item k rest ≡ Ok ([], rest)
unfolding others
others_stop item zero rest h = refl
others_stop item (suc k) rest h = rw h refl

pub follows_others : {X : Type 0} (Spelling : X → List Terminal → Type 0) (Follows : List Terminal → Type 0) → ((ts : List Terminal) → Follows (t.Comma ∷ ts)) → (xs : List X) (ts rest : List Terminal) → SpellsOthers Spelling xs ts → Follows rest → Follows (ts ++ rest)
follows_others Spelling Follows comma [] ts rest s f = subst (λ us. Follows (us ++ rest)) (sym s) f
follows_others Spelling Follows comma (x ∷ xs) ts rest s f = subst (λ us. Follows (us ++ rest)) (sym s.2) (comma ((s.0 ++ s.1) ++ rest))

others_step : {X : Type 0} (high : X → ℕ) (room k : ℕ) (item : Parser X) (x : X) (xs : List X) (v w rest : List Terminal) → item v ≡ held room (high x) x w → others item k w ≡ held room (highest_of high xs) xs rest → others item (suc k) (t.Comma ∷ v) ≡ held room (highest_of high (x ∷ xs)) (x ∷ xs) rest
unfolding others
others_step high room k item x xs v w rest p q = rw p (then_held room (high x) (highest_of high xs) x xs (x ∷ xs) w rest (others item k) (λ a b. a ∷ b) q refl)

others_takes : {X : Type 0} (Spelling : X → List Terminal → Type 0) (Follows : List Terminal → Type 0) (high : X → ℕ) (room : ℕ) (item : Parser X) → Takes Spelling Follows high room item → ((ts : List Terminal) → Follows (t.Comma ∷ ts)) →
    (xs : List X) (k : ℕ) (ts rest : List Terminal) → SpellsOthers Spelling xs ts → Follows rest → behind_of Comma rest ≡ None → length (ts ++ rest) ≤ k → others item k (ts ++ rest) ≡ held room (highest_of high xs) xs rest
others_takes Spelling Follows high room item takes comma [] k ts rest s f stop enough = ap (λ us. others item k (us ++ rest)) s ∙ others_stop item k rest stop ∙ sym (held_low room 0 [] rest (omega arith))
others_takes Spelling Follows high room item takes comma (x ∷ xs) k ts rest s f stop enough =
    let is : ts ++ rest ≡ t.Comma ∷ (s.0 ++ (s.1 ++ rest)) = ap (λ us. us ++ rest) s.2 ∙ ap (λ us. t.Comma ∷ us) (append_assoc s.0 s.1 rest) in
    let go : (j : ℕ) → length (ts ++ rest) ≤ j → others item j (ts ++ rest) ≡ held room (highest_of high (x ∷ xs)) (x ∷ xs) rest = elim [
      | zero ↦ (λ l. absurd (omega (arith, ap length is)))
      | suc j ↦ (λ l. ap (others item (suc j)) is
          ∙ others_step high room j item x xs (s.0 ++ (s.1 ++ rest)) (s.1 ++ rest) rest
          (takes x s.0 (s.1 ++ rest) s.3 (follows_others Spelling Follows comma xs s.1 rest s.4 f))
          (others_takes Spelling Follows high room item takes comma xs j s.1 rest s.4 f stop (omega (arith, ap length is, length-append s.0 (s.1 ++ rest)))))
    ]
    in go k enough

list_step : {X : Type 0} (high : X → ℕ) (room : ℕ) (item : Parser X) (x : X) (xs : List X) (v w rest : List Terminal) → item v ≡ held room (high x) x w → others item (length w) w ≡ held room (highest_of high xs) xs rest → list_of item v ≡ held room (highest_of high (x ∷ xs)) (x ∷ xs) rest
unfolding list_of
list_step high room item x xs v w rest p q = rw p (then_held room (high x) (highest_of high xs) x xs (x ∷ xs) w rest (λ ts. others item (length ts) ts) (λ a b. a ∷ b) q refl)

pub list_takes : {X : Type 0} (Spelling : X → List Terminal → Type 0) (Follows : List Terminal → Type 0) (high : X → ℕ) (room : ℕ) (item : Parser X) → Takes Spelling Follows high room item → ((ts : List Terminal) → Follows (t.Comma ∷ ts)) →
    (xs : List X) (ts rest : List Terminal) → SpellsList Spelling xs ts → Follows rest → behind_of Comma rest ≡ None → list_of item (ts ++ rest) ≡ held room (highest_of high xs) xs rest
list_takes Spelling Follows high room item takes comma [] ts rest s f stop = absurd s
list_takes Spelling Follows high room item takes comma (x ∷ xs) ts rest s f stop =
    ap (λ us. list_of item (us ++ rest)) s.2 ∙ ap (list_of item) (append_assoc s.0 s.1 rest)
    ∙ list_step high room item x xs (s.0 ++ (s.1 ++ rest)) (s.1 ++ rest) rest
    (takes x s.0 (s.1 ++ rest) s.3 (follows_others Spelling Follows comma xs s.1 rest s.4 f))
    (others_takes Spelling Follows high room item takes comma xs (length (s.1 ++ rest)) s.1 rest s.4 f stop (omega arith))

-- ---- clauses

entry_step : (e : EntryTree) (middle rest : List Terminal) → alias_after middle ≡ Ok (e.alias, rest) → entry_of (t.Name e.table ∷ middle) ≡ Ok (e, rest)
unfolding entry_of
entry_step e middle rest h = rw h refl

pub entry_takes : (e : EntryTree) (ts rest : List Terminal) → SpellsEntry e ts → Stops rest → entry_of (ts ++ rest) ≡ Ok (e, rest)
entry_takes e ts rest s f = ap (λ us. entry_of (us ++ rest)) s.1 ∙ entry_step e (s.0 ++ rest) rest (alias_takes e.alias s.0 rest s.2 f)

-- ---- parts that may be left out

perhaps_none : {X : Type 0} (words : List (List ℕ)) (item : Parser X) (rest : List Terminal) → behind_words words rest ≡ None → perhaps_of words item rest ≡ Ok (None, rest)
unfolding perhaps_of
perhaps_none words item rest h = rw h refl

perhaps_some : {X : Type 0} (words : List (List ℕ)) (item : Parser X) (room h : ℕ) (x : X) (us rest : List Terminal) → item us ≡ held room h x rest → perhaps_of words item (keywords words ++ us) ≡ held room h (Some x) rest
unfolding perhaps_of
perhaps_some words item room h x us rest p =
    rw (words_behind words us) (rw p (elim (low_or_high h room) [
      | inr g ↦ rw (held_high room h x rest g, held_high room h (Some x) rest g) refl
      | inl g ↦ rw (held_low room h x rest g, held_low room h (Some x) rest g) refl
    ]))

listed_none : {X : Type 0} (words : List (List ℕ)) (item : Parser X) (rest : List Terminal) → behind_words words rest ≡ None → listed_of words item rest ≡ Ok ([], rest)
unfolding listed_of
listed_none words item rest h = rw h refl

listed_some : {X : Type 0} (words : List (List ℕ)) (item : Parser X) (us : List Terminal) → listed_of words item (keywords words ++ us) ≡ list_of item us
unfolding listed_of
listed_some words item us = rw (words_behind words us) refl

pub listed_takes : {X : Type 0} (words : List (List ℕ)) (Spelling : X → List Terminal → Type 0) (Follows : List Terminal → Type 0) (high : X → ℕ) (room : ℕ) (item : Parser X) → Takes Spelling Follows high room item → ((ts : List Terminal) → Follows (t.Comma ∷ ts)) →
    (xs : List X) (ts rest : List Terminal) → SpellsListed words Spelling xs ts → Follows rest → behind_of Comma rest ≡ None → behind_words words rest ≡ None → listed_of words item (ts ++ rest) ≡ held room (highest_of high xs) xs rest
listed_takes words Spelling Follows high room item takes comma [] ts rest s f stop absent = ap (λ us. listed_of words item (us ++ rest)) s ∙ listed_none words item rest absent ∙ sym (held_low room 0 [] rest (omega arith))
listed_takes words Spelling Follows high room item takes comma (x ∷ xs) ts rest s f stop absent =
    ap (λ us. listed_of words item (us ++ rest)) s.1 ∙ ap (listed_of words item) (append_assoc (keywords words) s.0 rest) ∙ listed_some words item (s.0 ++ rest)
    ∙ list_takes Spelling Follows high room item takes comma (x ∷ xs) s.0 rest s.2 f stop

pub condition_takes : (room : ℕ) (words : List (List ℕ)) (condition : Option ExprTree) (ts rest : List Terminal) → SpellsPerhaps words SpellsExpr condition ts → Parted rest → behind_words words rest ≡ None →
    perhaps_of words (below room).whole (ts ++ rest) ≡ held room (condition_height condition) condition rest
condition_takes room words None ts rest s f absent = ap (λ us. perhaps_of words (below room).whole (us ++ rest)) s ∙ perhaps_none words (below room).whole rest absent ∙ sym (held_low room 0 None rest (omega arith))
condition_takes room words (Some e) ts rest s f absent =
    ap (λ us. perhaps_of words (below room).whole (us ++ rest)) (s.1 ∙ ap (λ us. keywords words ++ us) (s.2).spelled) ∙ ap (perhaps_of words (below room).whole) (append_assoc (keywords words) (spelling e) rest)
    ∙ perhaps_some words (below room).whole room (height e) e (spelling e ++ rest) rest ((completes room).whole e rest (s.2).fits (omega arith) (parted_reach rest f))

pub flag_takes : (one other : List ℕ) (b : Bool) (ts rest : List Terminal) → SpellsFlag one other b ts → bytes_eq other one ≡ false → behind_word one rest ≡ None → behind_word other rest ≡ None → flag_of one other (ts ++ rest) ≡ (b, rest)
unfolding flag_of
flag_takes one other true ts rest s differ h k = ap (λ us. flag_of one other (us ++ rest)) s ∙ (rw (same_word one rest) refl)
flag_takes one other false ts rest (inl s) differ h k = ap (λ us. flag_of one other (us ++ rest)) s ∙ (rw (h, k) refl)
flag_takes one other false ts rest (inr s) differ h k = ap (λ us. flag_of one other (us ++ rest)) s ∙ (rw (other_word one other rest differ, same_word other rest) refl)
