-- Lemmas on counts, interruptions and what was done to a sink.
use Rattle.std.proofs.Common.{◌≡◌, ◌<◌, length, take, drop, take-append-drop, subst, ◌+◌, ◌^◌, ◌-◌, ℕ, zero, suc, min, List, [], ◌∷◌, Option, Ok, Err, ◌++◌, refl, sym, ap, ◌∙◌, append_assoc, append-nil, arith}
use Rattle.std.specs.Io.KnownBytes.{Appends, Keeps}
use Rattle.std.proofs.KnownBytes.{Appends-trans, Appends-kept}
use Rattle.fed_stream.specs.Known.{Known}
use Rattle.std.proofs.lemmas.List.{take_rest}
use Rattle.fed_stream.specs.Inlets.{Inlet, Reads, counted, interrupted}
use Rattle.fed_stream.specs.Outlets.{Outlet, Does, Writes, Flushes, WritesOnce, WritesFront, FrontWritten}
use Rattle.fed_stream.proofs.Known.{known_then}
use Rattle.fed_stream.specs.declared.source.CallFault.{CallFault}
use Rattle.fed_stream.specs.declared.source.Arrival.{Arrival}
use Rattle.fed_stream.specs.declared.source.Arrival.TheVariants.{Interruption}
use Rattle.fed_stream.specs.declared.source.CallFault.TheVariants as call
use Rattle.fed_stream.specs.declared.source.GivenUp.{GivenUp}
use Rattle.fed_stream.specs.declared.source.GivenUp.TheVariants as given_up

pub counted_more : (n j k : ℕ) → counted (counted n j) k ≡ counted n (k + j)
counted_more n j zero = ap (counted n) (let e : j ≡ zero + j = omega arith in e)
counted_more n j (suc k) = ap (λ m. min (m + 1) (2 ^ 64 - 1)) (counted_more n j k) ∙ ap (counted n) (let e : suc (k + j) ≡ suc k + j = omega arith in e)

-- an interruption behind some is one more of them
pub interrupted_more : (times : ℕ) (more : List Arrival) → interrupted times (Interruption ∷ more) ≡ interrupted (suc times) more
interrupted_more zero more = refl
interrupted_more (suc times) more = ap (λ l. Interruption ∷ l) (interrupted_more times more)

pub does_nothing : (a : Outlet) → Does a a [] 0 0
does_nothing a = record { bytes = sym (append-nil a.bytes); interruptions = refl; faults = refl }

pub does_more : (a b c : Outlet) (bytes others : List ℕ) (j k m n : ℕ) → Does a b bytes j m → Does b c others k n → Does a c (bytes ++ others) (k + j) (n + m)
does_more a b c bytes others j k m n p q = record {
  bytes = q.bytes ∙ ap (λ l. l ++ others) p.bytes ∙ append_assoc a.bytes bytes others;
  interruptions = q.interruptions ∙ ap (λ i. counted i k) p.interruptions ∙ counted_more a.interruptions j k;
  faults = q.faults ∙ ap (λ i. counted i n) p.faults ∙ counted_more a.faults m n;
}

-- ---- reads that were interrupted

-- so far each read was interrupted; so many were granted before, and so many are now
pub record Waits (old new : Inlet) (before after : ℕ) : Type 0 where
  pub times : ℕ
  pub met : old.comes ≡ interrupted times new.comes
  pub count : new.reads ≡ counted old.reads times
  pub granted : before ≡ after + times

pub waits_more : (piece : List ℕ) (first before after : ℕ) → before ≡ after + 1 → (a b c : Inlet) → Waits a b first before → Reads b c (Err call.Interrupted) piece → Waits a c first after
waits_more piece first before after e a b c p q = record {
  times = suc p.times;
  met = p.met ∙ ap (interrupted p.times) q.met ∙ interrupted_more p.times c.comes;
  count = q.count ∙ ap (λ i. counted i 1) p.count;
  granted = omega (arith, e, p.granted);
}

-- ---- calls that were interrupted

-- so far each call was interrupted; so many may be made, and so many of them are left
pub record Tries (old new : Outlet) (most left : ℕ) : Type 0 where
  pub times : ℕ
  pub does : Does old new [] times 0
  pub flushed : new.flushed ≡ old.flushed
  pub all : most ≡ left + times

pub tries_write : (bytes : List ℕ) (most before after : ℕ) → before ≡ after + 1 → (a b c : Outlet) → Tries a b most before → Writes b c (Err call.Interrupted) bytes → Tries a c most after
tries_write bytes most before after e a b c p q =
    record { times = 1 + p.times; does = does_more a b c [] [] p.times 1 0 0 p.does q.does; flushed = q.flushed ∙ p.flushed; all = omega (arith, e, p.all) }

pub tries_flush : {T : Type 0} (most before after : ℕ) → before ≡ after + 1 → (a b c : Outlet) → Tries a b most before → Flushes {T = T} b c (Err call.Interrupted) → Tries a c most after
tries_flush most before after e a b c p q =
    record { times = 1 + p.times; does = does_more a b c [] [] p.times 1 0 0 p.does q.does; flushed = q.flushed ∙ p.flushed; all = omega (arith, e, p.all) }

-- ---- a front that was written

-- it took these bytes, and so many calls were interrupted
pub record Took (old new : Outlet) (front : List ℕ) : Type 0 where
  pub times : ℕ
  pub does : Does old new front times 0
  pub flushed : new.flushed ≡ old.flushed

pub record Front (held holds : Option (List ℕ)) (old new : Option Outlet) (bytes rest : List ℕ) : Type 0 where
  pub front : List ℕ
  pub parts : bytes ≡ front ++ rest
  pub written : Appends held holds front
  pub done : Known old new (λ a b. Took a b front)

took_more : (rest front : List ℕ) (n : ℕ) (a b c : Outlet) → Took a b front → WritesOnce b c (Ok n) rest → Took a c (front ++ take n rest)
took_more rest front n a b c p q =
    record { times = q.times + p.times; does = does_more a b c front (take n rest) p.times q.times 0 0 p.does q.does; flushed = q.flushed ∙ p.flushed }

moves_front : (all done rest : List ℕ) (n : ℕ) → all ≡ done ++ rest → all ≡ (done ++ take n rest) ++ take (length rest - n) (drop n rest)
moves_front all done rest n e =
    e ∙ ap (λ l. done ++ l) (sym (take-append-drop n rest)) ∙ sym (append_assoc done (take n rest) (drop n rest)) ∙ ap (λ l. (done ++ take n rest) ++ l) (sym (take_rest rest n))

pub front_more : (held mid holds : Option (List ℕ)) (old now new : Option Outlet) (bytes rest : List ℕ) (n : ℕ) → Front held mid old now bytes rest → Appends mid holds (take n rest)
    → Known now new (λ b c. WritesOnce b c (Ok n) rest) → Front held holds old new bytes (take (length rest - n) (drop n rest))
front_more held mid holds old now new bytes rest n p appended q = record {
  front = p.front ++ take n rest;
  parts = moves_front bytes p.front rest n p.parts;
  written = Appends-trans held mid holds p.front (take n rest) p.written appended;
  done = known_then old now new _ _ _ (took_more rest p.front n) p.done q;
}

took_fault : {T : Type 0} (f : GivenUp) (rest front : List ℕ) (a b c : Outlet) → Took a b front → WritesOnce b c (Err f) rest → WritesFront {T = T} a c (Err f) front
took_fault given_up.Failed rest front a b c p q = record {
  times = q.times + p.times;
  does = subst (λ l. Does a c l (q.times + p.times) 1) (append-nil front) (does_more a b c front [] p.times q.times 0 1 p.does q.does);
  flushed = q.flushed ∙ p.flushed;
  too_many = λ e. absurd (cc e);
}
took_fault given_up.TooMany rest front a b c p q = record {
  times = q.times + p.times;
  does = subst (λ l. Does a c l (q.times + p.times) 0) (append-nil front) (does_more a b c front [] p.times q.times 0 0 p.does q.does);
  flushed = q.flushed ∙ p.flushed;
  too_many = λ _. (let e : q.times ≡ 4294967295 = q.too_many refl in omega (arith, e));
}

pub front_fault : {T : Type 0} (f : GivenUp) (held mid holds : Option (List ℕ)) (old now new : Option Outlet) (bytes rest : List ℕ) → Front held mid old now bytes rest → Keeps mid holds
    → Known now new (λ b c. WritesOnce b c (Err f) rest) → FrontWritten {T = T} held holds old new (Err f) bytes
front_fault f held mid holds old now new bytes rest p kept q = record {
  front = p.front;
  others = rest;
  parts = p.parts;
  whole = tt;
  written = Appends-kept held mid holds p.front p.written kept;
  done = known_then old now new _ _ _ (took_fault f rest p.front) p.done q;
}

-- ---- the same where it is known

less_one : (n : ℕ) → 0 < n → n ≡ (n - 1) + 1
less_one n some = omega (arith, some)

pub waits_known : (piece : List ℕ) (first before : ℕ) → 0 < before → (f : CallFault) → f ≡ call.Interrupted → (a b c : Option Inlet) → Known a b (λ x y. Waits x y first before)
    → Known b c (λ x y. Reads x y (Err f) piece) → Known a c (λ x y. Waits x y first (before - 1))
waits_known piece first before some f e a b c p q =
    known_then a b c _ _ _ (waits_more piece first before (before - 1) (less_one before some)) p (subst (λ g. Known b c (λ x y. Reads x y (Err g) piece)) e q)

pub tries_write_known : (bytes : List ℕ) (most before : ℕ) → 0 < before → (f : CallFault) → f ≡ call.Interrupted → (a b c : Option Outlet) → Known a b (λ x y. Tries x y most before)
    → Known b c (λ x y. Writes x y (Err f) bytes) → Known a c (λ x y. Tries x y most (before - 1))
tries_write_known bytes most before some f e a b c p q =
    known_then a b c _ _ _ (tries_write bytes most before (before - 1) (less_one before some)) p (subst (λ g. Known b c (λ x y. Writes x y (Err g) bytes)) e q)

pub tries_flush_known : (T : Type 0) (most before : ℕ) → 0 < before → (f : CallFault) → f ≡ call.Interrupted → (a b c : Option Outlet) → Known a b (λ x y. Tries x y most before)
    → Known b c (λ x y. Flushes {T = T} x y (Err f)) → Known a c (λ x y. Tries x y most (before - 1))
tries_flush_known T most before some f e a b c p q =
    known_then a b c _ _ _ (tries_flush {T = T} most before (before - 1) (less_one before some)) p (subst (λ g. Known b c (λ x y. Flushes {T = T} x y (Err g))) e q)
