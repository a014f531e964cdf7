-- Where a line is cut at its first space.
use Rattle.std.proofs.Common.{◌≡◌, ◌≢◌, ℕ, suc, zero, ◌<◌, inl, inr, List, ◌∷◌, ◌++◌, length, get_or, refl, arith, Some, None, Option, Bor}
use Rattle.std.proofs.lemmas.Str.Pattern.{IsSplitOnceResult, split_after, split_parts}
use Rattle.std.specs.Fmt.{decimal}
use Rattle.std.specs.Option.{MatchOption}
use Rattle.session_wire.specs.Frames.{BeginsWithSid}
use Rattle.session_wire.proofs.Digits.{shapes}

no_space : (ds : List ℕ) (n : ℕ) → n < 1000 → ds ≡ decimal n → (i : ℕ) → i < length ds → get_or ds i 0 ≢ 32
no_space ds n small e zero h same = elim (shapes ds n small e) [ inl one ↦ omega arith | inr (inl two) ↦ omega arith | inr (inr three) ↦ omega arith ]
no_space ds n small e (suc zero) h same = elim (shapes ds n small e) [ inl one ↦ omega arith | inr (inl two) ↦ omega arith | inr (inr three) ↦ omega arith ]
no_space ds n small e (suc (suc zero)) h same = elim (shapes ds n small e) [ inl one ↦ omega arith | inr (inl two) ↦ omega arith | inr (inr three) ↦ omega arith ]
no_space ds n small e (suc (suc (suc i))) h same = elim (shapes ds n small e) [ inl one ↦ omega arith | inr (inl two) ↦ omega arith | inr (inr three) ↦ omega arith ]

-- a line that begins with a good number is cut behind that number
cut_behind : (text : List ℕ) (n : ℕ) (after : List ℕ) (r : Option (Bor (List ℕ) × Bor (List ℕ))) → IsSplitOnceResult 32 text r → BeginsWithSid text n after → MatchOption r ⊥ (λ x. (x.0.now ≡ decimal n) × (x.1.now ≡ after))
cut_behind text n after r h b = split_after 32 text (decimal n) after r h (omega arith) b.1 (no_space (decimal n) n (omega arith) refl)

pub none_begins : (text : List ℕ) (r : Option (Bor (List ℕ) × Bor (List ℕ))) → r ≡ None → IsSplitOnceResult 32 text r → (n : ℕ) (after : List ℕ) → BeginsWithSid text n after → ⊥
none_begins text r e h n after b = rw e at (cut_behind text n after r h b)

pub some_begins : (text : List ℕ) (r : Option (Bor (List ℕ) × Bor (List ℕ))) (x : Bor (List ℕ) × Bor (List ℕ)) → r ≡ Some x → IsSplitOnceResult 32 text r → (n : ℕ) (after : List ℕ) → BeginsWithSid text n after → (x.0.now ≡ decimal n) × (x.1.now ≡ after)
some_begins text r x e h n after b = rw e at (cut_behind text n after r h b)

pub some_whole : (text : List ℕ) (r : Option (Bor (List ℕ) × Bor (List ℕ))) (x : Bor (List ℕ) × Bor (List ℕ)) → r ≡ Some x → IsSplitOnceResult 32 text r → text ≡ x.0.now ++ 32 ∷ x.1.now
some_whole text r x e h = (rw e at (split_parts 32 text r h (omega arith))).0
