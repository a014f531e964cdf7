-- What a function that reads one part after the other returns.
use Rattle.std.proofs.Common.{◌≡◌, List, refl}
use Rattle.std.specs.Prelude.{Result, Ok, Err}
use Rattle.med_syntax.specs.declared.refusal.ReadFault.{ReadFault}
use Rattle.med_syntax.specs.declared.refusal.ReadFault.TheVariants as faults
use Rattle.med_syntax.specs.declared.refusal.Refusal.{Refusal}
use Rattle.med_syntax.specs.Prelude.{Terminal, ReadsAs}
use Rattle.query_reader.specs.QueryReading.{Parser, seq}

-- where the first part was read, what is returned of the others
pub seq_goes : {X Y V : Type 0} (view : V → Y × List Terminal) (first : Parser X) (next : X → Parser Y) (ts : List Terminal) (x : X) (middle : List Terminal) (r : Result V ReadFault) → first ts ≡ Ok (x, middle) → ReadsAs view r (next x middle) → ReadsAs view r (seq first next ts)
unfolding seq
seq_goes view first next ts x middle r h g = rw h g

seq_err : {X Y : Type 0} (first : Parser X) (next : X → Parser Y) (ts : List Terminal) (f : Refusal) → first ts ≡ Err f → seq first next ts ≡ Err f
unfolding seq
seq_err first next ts f h = rw h refl

-- where the first part was read, what is read of the others
pub seq_reads : {X Y : Type 0} (first : Parser X) (next : X → Parser Y) (ts : List Terminal) (x : X) (middle : List Terminal) (w : Result (Y × List Terminal) Refusal) → first ts ≡ Ok (x, middle) → next x middle ≡ w → seq first next ts ≡ w
unfolding seq
seq_reads first next ts x middle w h g = rw h g

-- where the first part was refused, its refusal
pub seq_fails : {X Y V : Type 0} (view : V → Y × List Terminal) (first : Parser X) (next : X → Parser Y) (ts : List Terminal) (e : ReadFault) (r : Result V ReadFault) → ReadsAs (λ (x : X × List Terminal). x) (Err e) (first ts) → r ≡ Err e → ReadsAs view r (seq first next ts)
seq_fails view first next ts faults.NoMemory r h is = rw is tt
seq_fails view first next ts (faults.Refused f) r h is = rw is (seq_err first next ts f h)
