-- What is read so is spelled so.
use Rattle.std.proofs.Common.{◌≡◌, ℕ, ◌≤◌, inl, inr, cond, List, [], ◌∷◌, ◌++◌, refl, subst, arith, codes}
use Rattle.std.specs.Prelude.{Ok, Err}
use Rattle.med_syntax.specs.declared.refusal.Refusal.TheVariants.{Syntax}
use Rattle.med_syntax.specs.Prelude.{Terminal, SelectTree, StatementTree, select, key_height, highest_of, core_height, statement_height, SpellsKey, SpellsListed, SpellsCore, SpellsUnions, Spells, IsEnd, IsLine}
use Rattle.med_syntax.specs.Terminal as t
use Rattle.query_reader.specs.QueryReading.{listed_of, core_of, all_unions_of, key_of, limits_of, query_of, statement_of, is_end, line_of}
use Rattle.med_syntax.proofs.ExprSound.{bind_ok, ok_same}
use Rattle.query_reader.proofs.PartSound.{FoundPart, Sound, found_as, flat, err_ok, listed_sound}
use Rattle.query_reader.proofs.ClauseSound.{key_sound, SpellsCut, limits_sound}
use Rattle.query_reader.proofs.CoreSound.{seq_sound, joined, core_sound, all_unions_sound}

-- ---- statements

-- the parts of a query
record Parts (room : ℕ) (ts : List Terminal) (q : SelectTree) (rest : List Terminal) : Type 0 where
  a : List Terminal
  b : List Terminal
  c : List Terminal
  core : FoundPart SpellsCore core_height room ts q.core a
  others : FoundPart SpellsUnions (highest_of core_height) room a q.others b
  keys : FoundPart (SpellsListed (codes "order" ∷ codes "by" ∷ []) SpellsKey) (highest_of key_height) room b q.keys c
  limits : FoundPart SpellsCut flat 0 c (q.limit, q.offset) rest

query_parts : (room : ℕ) (ts : List Terminal) (q : SelectTree) (rest : List Terminal) → query_of room ts ≡ Ok (q, rest) → Parts room ts q rest
unfolding query_of
query_parts room ts q rest h =
    let c = seq_sound (core_of room) _ ts q rest h in
    let u = seq_sound (all_unions_of room) _ c.1 q rest c.3 in
    let o = seq_sound (listed_of (codes "order" ∷ codes "by" ∷ []) (key_of room)) _ u.1 q rest u.3 in
    let l = seq_sound limits_of _ o.1 q rest o.3 in
    let made : SelectTree = record { core = c.0; others = u.0; keys = o.0; limit = l.0.0; offset = l.0.1 } in
    let same : ◌≡◌ {A = SelectTree × List Terminal} (made, l.1) (q, rest) = ok_same (made, l.1) (q, rest) l.3 in
    subst (λ (p : SelectTree × List Terminal). Parts room ts p.0 p.1) same (record {
      a = c.1;
      b = u.1;
      c = o.1;
      core = core_sound room ts c.0 c.1 c.2;
      others = all_unions_sound room c.1 u.0 u.1 u.2;
      keys = listed_sound (codes "order" ∷ codes "by" ∷ []) SpellsKey key_height room (key_of room) (key_sound room) u.1 o.0 o.1 o.2;
      limits = limits_sound o.1 l.0 l.1 l.2;
    })

found_select : (room : ℕ) (ts rest : List Terminal) (q : SelectTree) → Parts room ts q rest → FoundPart Spells statement_height room ts (select q) rest
found_select room ts rest q k =
    let g1 = joined k.keys.front k.limits.front k.b k.c rest k.keys.is k.limits.is in
    let g0 = joined k.others.front (k.keys.front ++ k.limits.front) k.a k.b rest k.others.is g1 in
    record {
      front = k.core.front ++ (k.others.front ++ (k.keys.front ++ k.limits.front));
      is = joined k.core.front (k.others.front ++ (k.keys.front ++ k.limits.front)) ts k.a rest k.core.is g0;
      spelled = record {
        core = k.core.front;
        others = k.others.front;
        keys = k.keys.front;
        limits = k.limits.front;
        is = refl;
        first = k.core.spelled;
        united = k.others.spelled;
        ordered = k.keys.spelled;
        cut = k.limits.spelled;
      };
      low = omega (arith, k.core.low, k.others.low, k.keys.low);
    }

pub statement_sound : (room : ℕ) → Sound Spells statement_height room (statement_of room)
unfolding statement_of
statement_sound room ts s rest h =
    let x = bind_ok (query_of room ts) (λ x. Ok (select x.0, x.1)) (s, rest) h in
    found_as Spells statement_height room ts (select x.0.0) s x.0.1 rest x.2 (found_select room ts x.0.1 x.0.0 (query_parts room ts x.0.0 x.0.1 x.1))

-- ---- lines

end_sound : (ts : List Terminal) (r s : StatementTree) → cond (is_end ts) (Ok r) (Err Syntax) ≡ Ok s → IsEnd ts × (r ≡ s)
end_sound [] r s h = (inl refl, ok_same r s h)
end_sound (t.Semicolon ∷ []) r s h = (inr refl, ok_same r s h)
end_sound ts r s h = absurd (err_ok Syntax s h)

pub line_sound : (room : ℕ) (ts : List Terminal) (s : StatementTree) → line_of room ts ≡ Ok s → IsLine ts s × (statement_height s ≤ room)
unfolding line_of
line_sound room ts s h =
    let x = bind_ok (statement_of room ts) (λ x. cond (is_end x.1) (Ok x.0) (Err Syntax)) s h in
    let f : FoundPart Spells statement_height room ts x.0.0 x.0.1 = statement_sound room ts x.0.0 x.0.1 x.1 in
    let e = end_sound x.0.1 x.0.0 s x.2 in
    ((f.front, x.0.1, f.is, subst (λ r. Spells r f.front) e.1 f.spelled, e.0), subst (λ r. statement_height r ≤ room) e.1 f.low)
