-- What is spelled so is read so.
use Rattle.std.proofs.Common.{◌≡◌, ℕ, ◌+◌, ◌≤◌, ◌<◌, inl, inr, true, List, [], ◌∷◌, ◌++◌, refl, sym, ◌∙◌, ap, subst, arith, append_assoc, codes}
use Rattle.std.specs.Prelude.{max, Ok, Err, None}
use Rattle.med_syntax.specs.declared.refusal.Refusal.TheVariants.{TooHigh}
use Rattle.med_syntax.specs.declared.symbols.Separator.TheVariants.{Comma}
use Rattle.med_syntax.specs.Prelude.{Terminal, behind_of, SelectTree, StatementTree, select, key_height, highest_of, core_height, select_height, statement_height, SpellsKey, SpellsLimits, SpellsListed, SpellsSelect, Spells, IsEnd, IsLine}
use Rattle.med_syntax.specs.Terminal as t
use Rattle.query_reader.specs.QueryReading.{key_of, query_of, statement_of, is_end, line_of}
use Rattle.med_syntax.proofs.ExprChains.{low_or_high}
use Rattle.query_reader.proofs.PartComplete.{held, held_low, held_high, Takes, Clear, first_none, listed_takes}
use Rattle.query_reader.proofs.ClauseComplete.{key_words, key_takes, limits_lift, limit_words, limits_take}
use Rattle.query_reader.proofs.CoreComplete.{Behind, core_words, order_words, listed_lift, parted, seq_held, seq_ok, same_height, core_takes, unions_behind, all_unions_take}

-- ---- what stands behind the cores

end_lift : (P : List Terminal → Type 0) (end : List Terminal) → IsEnd end → P [] → P (t.Semicolon ∷ []) → P end
end_lift P end (inl h) p q = subst P (sym h) p
end_lift P end (inr h) p q = subst P (sym h) q

end_clear : (end : List Terminal) → IsEnd end → Clear limit_words end
end_clear end h = end_lift (Clear limit_words) end h (refl, (refl, (refl, (refl, tt)))) (refl, (refl, (refl, (refl, tt))))

behind_keys : (q : SelectTree) (limits end : List Terminal) → SpellsLimits q.limit q.offset limits → IsEnd end → Behind order_words (limits ++ end)
behind_keys q limits end s e =
    let clear : Clear order_words (limits ++ end) = limits_lift (Clear order_words) q.limit q.offset limits end s
    (end_lift (Clear order_words) end e (refl, (refl, (refl, (refl, (refl, (refl, (refl, (refl, (refl, (refl, (refl, (refl, (refl, (refl, tt)))))))))))))) (refl, (refl, (refl, (refl, (refl, (refl, (refl, (refl, (refl, (refl, (refl, (refl, (refl, (refl, tt))))))))))))))) (λ us. (refl, (refl, (refl, (refl, (refl, (refl, (refl, (refl, (refl, (refl, (refl, (refl, (refl, (refl, tt))))))))))))))) (λ us. (refl, (refl, (refl, (refl, (refl, (refl, (refl, (refl, (refl, (refl, (refl, (refl, (refl, (refl, tt))))))))))))))) in
    record {
      clear = clear;
      comma = limits_lift (λ us. behind_of Comma us ≡ None) q.limit q.offset limits end s (end_lift (λ us. behind_of Comma us ≡ None) end e refl refl) (λ us. refl) (λ us. refl);
    }

behind_cores : (q : SelectTree) (keys rest : List Terminal) → SpellsListed (codes "order" ∷ codes "by" ∷ []) SpellsKey q.keys keys → Behind order_words rest → Behind core_words (keys ++ rest)
behind_cores q keys rest s f = listed_lift (Behind core_words) (codes "order") (codes "by" ∷ []) SpellsKey q.keys keys rest s (record { clear = f.clear.1.1.1.1; comma = f.comma }) (λ us. record { clear = (refl, (refl, (refl, (refl, (refl, (refl, (refl, (refl, (refl, (refl, tt)))))))))); comma = refl })

-- ---- statements

query_takes : (room : ℕ) (q : SelectTree) (ts end : List Terminal) → (s : SpellsSelect q ts) → IsEnd end → query_of room (s.core ++ (s.others ++ (s.keys ++ (s.limits ++ end)))) ≡ held room (select_height q) q end
unfolding query_of
query_takes room q ts end s e =
    let f2 = behind_keys q s.limits end s.cut e in
    let f1 = behind_cores q s.keys (s.limits ++ end) s.ordered f2 in
    let f0 = unions_behind q.others s.others (s.keys ++ (s.limits ++ end)) s.united f1 in
    let heights : ℕ = max (core_height q.core) (max (highest_of core_height q.others) (max (highest_of key_height q.keys) 0)) in
    let same : heights ≡ select_height q = omega arith in
    seq_held room (core_height q.core) _ q.core q _ _ _ _ end
    (core_takes room q.core s.core (s.others ++ (s.keys ++ (s.limits ++ end))) s.first f0)
    (seq_held room (highest_of core_height q.others) _ q.others q _ _ _ _ end
    (all_unions_take room q.others s.others (s.keys ++ (s.limits ++ end)) s.united f1)
    (seq_held room (highest_of key_height q.keys) 0 q.keys q _ _ _ _ end
    (listed_takes (codes "order" ∷ codes "by" ∷ []) SpellsKey (Clear key_words) key_height room (key_of room) (key_takes room) (λ ts. (refl, (refl, (refl, tt)))) q.keys s.keys (s.limits ++ end) s.ordered
    (f2.clear.1.0, (f2.clear.1.1.0, (f2.clear.1.1.1.0, parted order_words _ f2.clear))) f2.comma (first_none (codes "order") (codes "by" ∷ []) (s.limits ++ end) f2.clear.0))
    (seq_ok (q.limit, q.offset) _ _ _ _ _ (limits_take q.limit q.offset s.limits end s.cut (end_clear end e)) (sym (held_low room 0 q end (omega arith))))))
    ∙ same_height room heights (select_height q) q end same

statement_step : (room : ℕ) (q : SelectTree) (ts rest : List Terminal) → query_of room ts ≡ held room (select_height q) q rest → statement_of room ts ≡ held room (select_height q) (select q) rest
unfolding statement_of
statement_step room q ts rest h =
    rw h (elim (low_or_high (select_height q) room) [
      | inr g ↦ rw (held_high room (select_height q) q rest g, held_high room (select_height q) (select q) rest g) refl
      | inl g ↦ rw (held_low room (select_height q) q rest g, held_low room (select_height q) (select q) rest g) refl
    ])

apart : (a b c d end : List Terminal) → (a ++ (b ++ (c ++ d))) ++ end ≡ a ++ (b ++ (c ++ (d ++ end)))
apart a b c d end = simp append_assoc

pub statement_takes : (room : ℕ) → Takes Spells IsEnd statement_height room (statement_of room)
statement_takes room (select q) ts rest s f =
    ap (λ us. statement_of room (us ++ rest)) s.is
    ∙ ap (statement_of room) (apart s.core s.others s.keys s.limits rest)
    ∙ statement_step room q _ rest (query_takes room q ts rest s f)

-- ---- lines

end_is : (end : List Terminal) → IsEnd end → is_end end ≡ true
end_is end (inl h) = ap is_end h
end_is end (inr h) = ap is_end h

line_low : (room : ℕ) (s : StatementTree) (ts end : List Terminal) → statement_of room ts ≡ held room (statement_height s) s end → is_end end ≡ true → statement_height s ≤ room → line_of room ts ≡ Ok s
unfolding line_of
line_low room s ts end p q l = rw p (rw (held_low room (statement_height s) s end l) (rw q refl))

line_high : (room : ℕ) (s : StatementTree) (ts end : List Terminal) → statement_of room ts ≡ held room (statement_height s) s end → room < statement_height s → line_of room ts ≡ Err TooHigh
unfolding line_of
line_high room s ts end p l = rw p (rw (held_high room (statement_height s) s end l) refl)

-- what is in the grammar and has room is read
pub reads_line : (room : ℕ) (ts : List Terminal) (s : StatementTree) → IsLine ts s → statement_height s ≤ room → line_of room ts ≡ Ok s
reads_line room ts s x l = ap (line_of room) x.2 ∙ line_low room s (x.0 ++ x.1) x.1 (statement_takes room s x.0 x.1 x.3 x.4) (end_is x.1 x.4) l

-- what is in the grammar and has no room is told to be too high
pub refuses_line : (room : ℕ) (ts : List Terminal) (s : StatementTree) → IsLine ts s → room < statement_height s → line_of room ts ≡ Err TooHigh
refuses_line room ts s x l = ap (line_of room) x.2 ∙ line_high room s (x.0 ++ x.1) x.1 (statement_takes room s x.0 x.1 x.3 x.4) l

pub one_line : (ts : List Terminal) (r s : StatementTree) → IsLine ts r → IsLine ts s → r ≡ s
one_line ts r s x y =
    let room : ℕ = statement_height r + statement_height s in
    let p : line_of room ts ≡ Ok r = reads_line room ts r x (omega arith) in
    let q : line_of room ts ≡ Ok s = reads_line room ts s y (omega arith) in
    cc
