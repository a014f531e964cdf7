-- The calls that were made so far, and some more.
use Rattle.std.proofs.Common.{◌≡◌, ◌⊎◌, inl, inr, ℕ, zero, suc, ◌+◌, Option, List, [], ◌∷◌, ◌++◌, take, map, Result, Ok, Err, refl, sym, ap, ◌∙◌, subst, append_assoc, arith}
use Rattle.std.specs.Prelude.{⊤}
use Rattle.fed_stream.specs.Inlets.{Inlet, ReadsPiece, counted, interrupted}
use Rattle.fed_stream.specs.Outlets.{Outlet, WritesFront, FlushesAtLast, FrontWritten}
use Rattle.fed_stream.specs.Known.{Known}
use Rattle.fed_stream.proofs.Known.{known_self, known_then, known_map}
use Rattle.fed_stream.proofs.Counts.{counted_more, does_nothing, does_more}
use Rattle.fed_stream.specs.declared.source.Arrival.{Arrival}
use Rattle.fed_stream.specs.declared.source.Arrival.TheVariants.{Byte, Interruption, Fault}
use Rattle.fed_stream.specs.declared.source.GivenUp.{GivenUp}
use Rattle.fed_stream.specs.declared.source.GivenUp.TheVariants as given_up
use Rattle.fed_stream.specs.Calls.{IsClean, ReadsWithin, WritesStream, IsWrittenTo}
use Rattle.fed_stream.specs.declared.stream.Ended.{Ended}
use Rattle.fed_stream.specs.declared.stream.Ended.TheVariants as ended
use Rattle.fed_stream.specs.declared.stream.StreamFault.{StreamFault}
use Rattle.fed_stream.specs.declared.stream.StreamFault.TheVariants as faults

-- ---- writes

pub writes_nothing : {T : Type 0} (x : T) (a : Outlet) → WritesStream a a (Ok x)
writes_nothing x a = record { text = []; interruptions = 0; faults = 0; does = does_nothing a; ends = (refl, λ e. e) }

pub writes_no_room : {T : Type 0} (a : Outlet) → WritesStream {T = T} a a (Err faults.NoRoom)
writes_no_room a = record { text = []; interruptions = 0; faults = 0; does = does_nothing a; ends = (refl, λ e. e) }

-- what was done before and what was done then
ends_more : {S T : Type 0} (a b c : Outlet) (x : S) (r : Result T StreamFault) (i j m n : ℕ) → IsWrittenTo (Ok x) a b i m → IsWrittenTo r b c j n → IsWrittenTo r a c (j + i) (n + m)
ends_more a b c x (Ok y) i j m n p q = (omega (arith, p.0, q.0), λ e. q.1 (p.1 e))
ends_more a b c x (Err faults.Read) i j m n p q = (omega (arith, p.0, q.0), λ e. q.1 (p.1 e))
ends_more a b c x (Err faults.TooLong) i j m n p q = (omega (arith, p.0, q.0), λ e. q.1 (p.1 e))
ends_more a b c x (Err faults.NoRoom) i j m n p q = (omega (arith, p.0, q.0), λ e. q.1 (p.1 e))
ends_more a b c x (Err faults.Write) i j m n p (inl e) = inl (omega (arith, p.0, e))
ends_more a b c x (Err faults.Write) i j m n p (inr e) = inr (omega (arith, p.0, e.0), omega (arith, e.1))

pub writes_more : {S T : Type 0} (x : S) (r : Result T StreamFault) (a b c : Outlet) → WritesStream a b (Ok x) → WritesStream b c r → WritesStream a c r
writes_more x r a b c p q = record {
  text = p.text ++ q.text;
  interruptions = q.interruptions + p.interruptions;
  faults = q.faults + p.faults;
  does = does_more a b c p.text q.text p.interruptions q.interruptions p.faults q.faults p.does q.does;
  ends = ends_more a b c x r p.interruptions q.interruptions p.faults q.faults p.ends q.ends;
}

-- all was written, and then flushed
pub writes_flushed : {S R T : Type 0} (x : S) (y : R) (z : T) (front : List ℕ) (a b c : Outlet) → WritesFront a b (Ok x) front → FlushesAtLast b c (Ok y) → WritesStream a c (Ok z)
writes_flushed x y z front a b c p q = record {
  text = front ++ [];
  interruptions = q.times + p.times;
  faults = 0;
  does = does_more a b c front [] p.times q.times 0 0 p.does q.does;
  ends = (refl, λ _. q.flushed);
}

-- all was written, and a flush was given up
pub writes_unflushed : {S R T : Type 0} (x : S) (f : GivenUp) (front : List ℕ) (a b c : Outlet) → WritesFront a b (Ok x) front → FlushesAtLast {T = R} b c (Err f) → WritesStream {T = T} a c (Err faults.Write)
writes_unflushed x given_up.Failed front a b c p q = record {
  text = front ++ [];
  interruptions = q.times + p.times;
  faults = 1;
  does = does_more a b c front [] p.times q.times 0 1 p.does q.does;
  ends = inl refl;
}
writes_unflushed x given_up.TooMany front a b c p q = record {
  text = front ++ [];
  interruptions = q.times + p.times;
  faults = 0;
  does = does_more a b c front [] p.times q.times 0 0 p.does q.does;
  ends = inr (refl, (let e : q.times ≡ 4294967295 = q.too_many refl in omega (arith, e)));
}

-- all that was written so far was flushed, and no call failed
abbrev pub WrittenSoFar : Outlet → Outlet → Type 0
WrittenSoFar a b = WritesStream {T = ⊤} a b (Ok tt)

pub known_unwritten : (a : Option Outlet) → Known a a WrittenSoFar
known_unwritten a = known_self a _ (writes_nothing tt)

-- a call that did nothing
pub known_unserved : (x : Ended) (a : Option Outlet) → Known a a (λ v w. WritesStream v w (Ok x))
known_unserved x a = known_self a (λ v w. WritesStream v w (Ok x)) (writes_nothing x)

pub known_written : {T : Type 0} (r : Result T StreamFault) (a b c : Option Outlet) → Known a b WrittenSoFar → Known b c (λ x y. WritesStream x y r) → Known a c (λ x y. WritesStream x y r)
known_written r a b c p q = known_then a b c _ _ _ (writes_more tt r) p q

-- what a call did that was done is more of what was done so far
done_so_far : {T : Type 0} (x : T) (a b : Outlet) → WritesStream a b (Ok x) → WrittenSoFar a b
done_so_far x a b p = record { text = p.text; interruptions = p.interruptions; faults = p.faults; does = p.does; ends = p.ends }

pub known_more : {T : Type 0} (x : T) (a b c : Option Outlet) → Known a b WrittenSoFar → Known b c (λ x1 y. WritesStream x1 y (Ok x)) → Known a c WrittenSoFar
known_more x a b c p q = known_written (Ok tt) a b c p (known_map b c _ _ (done_so_far x) q)

-- all that was written so far, where what it came to is another end than a write fault
pub known_done : {T : Type 0} (x : T) (a b : Option Outlet) → Known a b WrittenSoFar → Known a b (λ v w. WritesStream v w (Ok x))
known_done x a b p = known_map a b _ _ (λ v w q. record { text = q.text; interruptions = q.interruptions; faults = q.faults; does = q.does; ends = q.ends }) p

-- a fault tells the same of what was written, whatever was to be told else
retyped_ends : (S T : Type 0) (f : StreamFault) (a b : Outlet) (i n : ℕ) → IsWrittenTo {T = S} (Err f) a b i n → IsWrittenTo {T = T} (Err f) a b i n
retyped_ends S T faults.Read a b i n p = p
retyped_ends S T faults.TooLong a b i n p = p
retyped_ends S T faults.NoRoom a b i n p = p
retyped_ends S T faults.Write a b i n p = p

retyped : (S T : Type 0) (f : StreamFault) (a b : Outlet) → WritesStream {T = S} a b (Err f) → WritesStream {T = T} a b (Err f)
retyped S T f a b p =
    record { text = p.text; interruptions = p.interruptions; faults = p.faults; does = p.does; ends = retyped_ends S T f a b p.interruptions p.faults p.ends }

-- a fault of the answers to what was read
pub known_fault : (S T : Type 0) (f : StreamFault) (a b c : Option Outlet) → Known a b WrittenSoFar → Known b c (λ x y. WritesStream {T = S} x y (Err f)) → Known a c (λ x y. WritesStream {T = T} x y (Err f))
known_fault S T f a b c p q = known_then a b c _ _ _ (writes_more tt (Err f)) p (known_map b c _ _ (retyped S T f) q)

pub known_flushed : {S R T : Type 0} (x : S) (y : R) (z : T) (held holds : Option (List ℕ)) (bytes : List ℕ) (a b c : Option Outlet) → FrontWritten held holds a b (Ok x) bytes → Known b c (λ v w. FlushesAtLast v w (Ok y))
    → Known a c (λ v w. WritesStream v w (Ok z))
known_flushed x y z held holds bytes a b c p q = known_then a b c _ _ _ (writes_flushed x y z p.front) p.done q

pub known_unflushed : {S : Type 0} (R T : Type 0) (x : S) (f : GivenUp) (held holds : Option (List ℕ)) (bytes : List ℕ) (a b c : Option Outlet) → FrontWritten held holds a b (Ok x) bytes
    → Known b c (λ v w. FlushesAtLast {T = R} v w (Err f)) → Known a c (λ v w. WritesStream {T = T} v w (Err faults.Write))
known_unflushed R T x f held holds bytes a b c p q = known_then a b c _ _ _ (writes_unflushed x f p.front) p.done q

-- ---- reads

interrupted_append : (times : ℕ) (xs ys : List Arrival) → interrupted times (xs ++ ys) ≡ interrupted times xs ++ ys
interrupted_append zero xs ys = refl
interrupted_append (suc times) xs ys = ap (λ l. Interruption ∷ l) (interrupted_append times xs ys)

clean_append : (xs ys : List Arrival) → IsClean xs → IsClean ys → IsClean (xs ++ ys)
clean_append [] ys p q = q
clean_append (Byte b ∷ xs) ys p q = clean_append xs ys p q
clean_append (Interruption ∷ xs) ys p q = clean_append xs ys p q
clean_append (Fault ∷ xs) ys p q = absurd p

clean_interrupted : (times : ℕ) (xs : List Arrival) → IsClean xs → IsClean (interrupted times xs)
clean_interrupted zero xs p = p
clean_interrupted (suc times) xs p = clean_interrupted times xs p

clean_bytes : (bytes : List ℕ) → IsClean (map Byte bytes)
clean_bytes [] = tt
clean_bytes (b ∷ bytes) = clean_bytes bytes

-- The reads so far met no fault. So many are granted at first, and so many are left.
pub record ReadSoFar (old new : Inlet) (before after : ℕ) : Type 0 where
  pub met : List Arrival
  pub reads : ℕ
  pub gone : old.comes ≡ met ++ new.comes
  pub count : new.reads ≡ counted old.reads reads
  pub clean : IsClean met
  pub granted : before ≡ after + reads

pub read_nothing : (n : ℕ) (a : Inlet) → ReadSoFar a a n n
read_nothing n a = record { met = []; reads = 0; gone = refl; count = refl; clean = tt; granted = omega arith }

gone_more : (all met others more left : List Arrival) (times : ℕ) → all ≡ met ++ others → others ≡ interrupted times (more ++ left) → all ≡ (met ++ interrupted times more) ++ left
gone_more all met others more left times p q =
    p ∙ ap (λ l. met ++ l) (q ∙ interrupted_append times more left) ∙ sym (append_assoc met (interrupted times more) left)

count_more : (n m k j : ℕ) (o : ℕ) → m ≡ counted n j → o ≡ counted m k → o ≡ counted n (k + j)
count_more n m k j o p q = q ∙ ap (λ c. counted c k) p ∙ counted_more n j k

pub read_more : (n : ℕ) (piece : List ℕ) (first before after : ℕ) (a b c : Inlet) → ReadSoFar a b first before → ReadsPiece b c before after (Ok n) piece → ReadSoFar a c first after
read_more n piece first before after a b c p q = record {
  met = p.met ++ interrupted q.times (map Byte (take n piece));
  reads = suc q.times + p.reads;
  gone = gone_more a.comes p.met b.comes (map Byte (take n piece)) c.comes q.times p.gone q.met;
  count = count_more a.reads b.reads (suc q.times) p.reads c.reads p.count q.count;
  clean = clean_append p.met _ p.clean (clean_interrupted q.times _ (clean_bytes (take n piece)));
  granted = omega (arith, p.granted, q.granted);
}

pub read_end : (limit : ℕ) (piece : List ℕ) (before after : ℕ) (a b c : Inlet) → ReadSoFar a b limit before → ReadsPiece b c before after (Ok 0) piece → ReadsWithin limit a c (Ok ended.Eof)
read_end limit piece before after a b c p q =
    let more = read_more 0 piece _ before after a b c p q in
    record { met = more.met; reads = more.reads; gone = more.gone; count = more.count; most = omega (arith, more.granted); ends = (more.clean, q.at_end refl) }

pub read_closed : (limit : ℕ) (after : ℕ) (a b : Inlet) → ReadSoFar a b limit after → ReadsWithin limit a b (Ok ended.Closed)
read_closed limit after a b p = record { met = p.met; reads = p.reads; gone = p.gone; count = p.count; most = omega (arith, p.granted); ends = p.clean }

pub read_too_long : (limit : ℕ) (after : ℕ) (a b : Inlet) → after ≡ 0 → ReadSoFar a b limit after → ReadsWithin limit a b (Err faults.TooLong)
read_too_long limit after a b e p = record {
  met = p.met;
  reads = p.reads;
  gone = p.gone;
  count = p.count;
  most = omega (arith, p.granted);
  ends = (p.clean, omega (arith, p.granted, e));
}

pub read_too_many : (limit : ℕ) (piece : List ℕ) (before after : ℕ) (a b c : Inlet) → after ≡ 0 → ReadSoFar a b limit before → ReadsPiece b c before after (Err given_up.TooMany) piece → ReadsWithin limit a c (Err faults.TooLong)
read_too_many limit piece before after a b c e p q = read_too_long limit after a c e (
    record {
      met = p.met ++ interrupted q.times [];
      reads = q.times + p.reads;
      gone = gone_more a.comes p.met b.comes [] c.comes q.times p.gone q.met;
      count = count_more a.reads b.reads q.times p.reads c.reads p.count q.count;
      clean = clean_append p.met _ p.clean (clean_interrupted q.times [] tt);
      granted = omega (arith, p.granted, q.granted);
    }
    )

pub read_fault : (limit : ℕ) (piece : List ℕ) (before after : ℕ) (a b c : Inlet) → ReadSoFar a b limit before → ReadsPiece b c before after (Err given_up.Failed) piece → ReadsWithin limit a c (Err faults.Read)
read_fault limit piece before after a b c p q = record {
  met = p.met ++ interrupted q.times (Fault ∷ []);
  reads = suc q.times + p.reads;
  gone = gone_more a.comes p.met b.comes (Fault ∷ []) c.comes q.times p.gone q.met;
  count = count_more a.reads b.reads (suc q.times) p.reads c.reads p.count q.count;
  most = omega (arith, p.granted, q.granted);
  ends = (
    p.met ++ interrupted q.times [],
    clean_append p.met _ p.clean (clean_interrupted q.times [] tt),
    ap (λ l. p.met ++ l) (interrupted_append q.times [] (Fault ∷ [])) ∙ sym (append_assoc p.met (interrupted q.times []) (Fault ∷ [])),
  );
}

-- a fault of the answers to what was read
pub read_part_fault : (limit : ℕ) (after : ℕ) (f : StreamFault) (a b : Inlet) → ReadSoFar a b limit after → ((f ≡ faults.Write) ⊎ (f ≡ faults.NoRoom)) → ReadsWithin limit a b (Err f)
read_part_fault limit after f a b p (inl e) = subst (λ g. ReadsWithin limit a b (Err g)) (sym e) (
    record { met = p.met; reads = p.reads; gone = p.gone; count = p.count; most = omega (arith, p.granted); ends = p.clean }
    )
read_part_fault limit after f a b p (inr e) = subst (λ g. ReadsWithin limit a b (Err g)) (sym e) (
    record { met = p.met; reads = p.reads; gone = p.gone; count = p.count; most = omega (arith, p.granted); ends = p.clean }
    )

-- ---- the same where it is known

pub known_reads : (n : ℕ) (piece : List ℕ) (first before after : ℕ) (a b c : Option Inlet) → Known a b (λ x y. ReadSoFar x y first before) → Known b c (λ x y. ReadsPiece x y before after (Ok n) piece)
    → Known a c (λ x y. ReadSoFar x y first after)
known_reads n piece first before after a b c p q = known_then a b c _ _ _ (read_more n piece first before after) p q

pub known_end : (limit : ℕ) (n : ℕ) → n ≡ 0 → (piece : List ℕ) (before after : ℕ) (a b c : Option Inlet) → Known a b (λ x y. ReadSoFar x y limit before) → Known b c (λ x y. ReadsPiece x y before after (Ok n) piece)
    → Known a c (λ x y. ReadsWithin limit x y (Ok ended.Eof))
known_end limit n e piece before after a b c p q = known_then a b c _ _ _ (read_end limit piece before after) p (subst (λ m. Known b c (λ x y. ReadsPiece x y before after (Ok m) piece)) e q)

pub known_closed : (limit : ℕ) (n : ℕ) (piece : List ℕ) (before after : ℕ) (a b c : Option Inlet) → Known a b (λ x y. ReadSoFar x y limit before) → Known b c (λ x y. ReadsPiece x y before after (Ok n) piece)
    → Known a c (λ x y. ReadsWithin limit x y (Ok ended.Closed))
known_closed limit n piece before after a b c p q = known_map a c _ _ (read_closed limit after) (known_reads n piece _ before after a b c p q)

pub known_part_fault : (limit : ℕ) (f : StreamFault) → ((f ≡ faults.Write) ⊎ (f ≡ faults.NoRoom)) → (n : ℕ) (piece : List ℕ) (before after : ℕ) (a b c : Option Inlet) → Known a b (λ x y. ReadSoFar x y limit before)
    → Known b c (λ x y. ReadsPiece x y before after (Ok n) piece) → Known a c (λ x y. ReadsWithin limit x y (Err f))
known_part_fault limit f e n piece before after a b c p q =
    known_map a c _ _ (λ x y r. read_part_fault limit after f x y r e) (known_reads n piece _ before after a b c p q)

pub known_read_fault : (limit : ℕ) (f : GivenUp) → f ≡ given_up.Failed → (piece : List ℕ) (before after : ℕ) (a b c : Option Inlet) → Known a b (λ x y. ReadSoFar x y limit before)
    → Known b c (λ x y. ReadsPiece x y before after (Err f) piece) → Known a c (λ x y. ReadsWithin limit x y (Err faults.Read))
known_read_fault limit f e piece before after a b c p q =
    known_then a b c _ _ _ (read_fault limit piece before after) p (subst (λ g. Known b c (λ x y. ReadsPiece x y before after (Err g) piece)) e q)

pub known_too_many : (limit : ℕ) (f : GivenUp) → f ≡ given_up.TooMany → (piece : List ℕ) (before after : ℕ) → after ≡ 0 → (a b c : Option Inlet) → Known a b (λ x y. ReadSoFar x y limit before)
    → Known b c (λ x y. ReadsPiece x y before after (Err f) piece) → Known a c (λ x y. ReadsWithin limit x y (Err faults.TooLong))
known_too_many limit f e piece before after z a b c p q =
    known_then a b c _ _ _ (λ x y w. read_too_many limit piece before after x y w z) p (subst (λ g. Known b c (λ x y. ReadsPiece x y before after (Err g) piece)) e q)

pub known_too_long_read : (limit : ℕ) (after : ℕ) → after ≡ 0 → (a b : Option Inlet) → Known a b (λ x y. ReadSoFar x y limit after) → Known a b (λ x y. ReadsWithin limit x y (Err faults.TooLong))
known_too_long_read limit after e a b p = known_map a b _ _ (λ x y r. read_too_long limit after x y e r) p

-- before the first read
pub known_untouched : (n : ℕ) (a : Option Inlet) → Known a a (λ v w. ReadSoFar v w n n)
known_untouched n a = known_self a (λ v w. ReadSoFar v w n n) (read_nothing n)
