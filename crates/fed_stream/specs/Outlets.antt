-- What is done to a sink.
use Rattle.std.specs.Prelude.{◌≡◌, ◌≤◌, ℕ, Option, List, [], ◌++◌, length, take, Result, Ok, Err, OnOk, MatchResult}
use Rattle.std.specs.Io.KnownBytes.{Appends}
use Rattle.fed_stream.specs.Known.{Known}
use Rattle.fed_stream.specs.Inlets.{counted}
use Rattle.fed_stream.specs.declared.source.CallFault.{CallFault}
use Rattle.fed_stream.specs.declared.source.CallFault.TheVariants as call
use Rattle.fed_stream.specs.declared.source.GivenUp.{GivenUp}
use Rattle.fed_stream.specs.declared.source.GivenUp.TheVariants as given_up

-- A sink: the bytes that it took; how many of them there were when it was flushed last; and how many of its calls were interrupted, and
-- how many failed, each up to 2^64 - 1.
pub record Outlet : Type 0 where
  pub bytes : List ℕ
  pub flushed : ℕ
  pub interruptions : ℕ
  pub faults : ℕ

-- nothing was done to it
abbrev pub nothing_done : Outlet
nothing_done = record { bytes = []; flushed = 0; interruptions = 0; faults = 0 }

-- it took these bytes, and so many calls were interrupted, and so many failed
pub record Does (old new : Outlet) (more : List ℕ) (interrupts failures : ℕ) : Type 0 where
  pub bytes : new.bytes ≡ old.bytes ++ more
  pub interruptions : new.interruptions ≡ counted old.interruptions interrupts
  pub faults : new.faults ≡ counted old.faults failures

-- the bytes that a write took, and how many interruptions and faults a call told
abbrev pub taken : {E : Type 0} → Result ℕ E → List ℕ → List ℕ
taken (Ok n) bytes = take n bytes
taken (Err e) bytes = []

abbrev pub interruptions_of : {T : Type 0} → Result T CallFault → ℕ
interruptions_of (Ok x) = 0
interruptions_of (Err call.Interrupted) = 1
interruptions_of (Err call.Failed) = 0

abbrev pub faults_of : {T : Type 0} → Result T CallFault → ℕ
faults_of (Ok x) = 0
faults_of (Err call.Interrupted) = 0
faults_of (Err call.Failed) = 1

-- one write: nothing more is flushed
pub record Writes (old new : Outlet) (result : Result ℕ CallFault) (bytes : List ℕ) : Type 0 where
  pub does : Does old new (taken result bytes) (interruptions_of result) (faults_of result)
  pub flushed : new.flushed ≡ old.flushed

-- one flush: all is flushed, or nothing more
pub record Flushes {T : Type 0} (old new : Outlet) (result : Result T CallFault) : Type 0 where
  pub does : Does old new [] (interruptions_of result) (faults_of result)
  pub flushed : MatchResult result (λ _. new.flushed ≡ length new.bytes) (λ _. new.flushed ≡ old.flushed)

-- how many faults there were where calls that are tried again came to this
abbrev pub faults_at_last : {T : Type 0} → Result T GivenUp → ℕ
faults_at_last (Ok x) = 0
faults_at_last (Err given_up.Failed) = 1
faults_at_last (Err given_up.TooMany) = 0

-- Writes of the same bytes, that were interrupted so many times before the last. They are given up for interruptions alone after
-- 4,294,967,295.
pub record WritesOnce (old new : Outlet) (result : Result ℕ GivenUp) (bytes : List ℕ) : Type 0 where
  pub times : ℕ
  pub does : Does old new (taken result bytes) times (faults_at_last result)
  pub flushed : new.flushed ≡ old.flushed
  pub too_many : result ≡ Err given_up.TooMany → times ≡ 4294967295

-- flushes, that were interrupted so many times before the last
pub record FlushesAtLast {T : Type 0} (old new : Outlet) (result : Result T GivenUp) : Type 0 where
  pub times : ℕ
  pub does : Does old new [] times (faults_at_last result)
  pub flushed : MatchResult result (λ _. new.flushed ≡ length new.bytes) (λ _. new.flushed ≡ old.flushed)
  pub too_many : result ≡ Err given_up.TooMany → times ≡ 4294967295

-- writes that took these bytes, and were interrupted so many times
pub record WritesFront {T : Type 0} (old new : Outlet) (result : Result T GivenUp) (front : List ℕ) : Type 0 where
  pub times : ℕ
  pub does : Does old new front times (faults_at_last result)
  pub flushed : new.flushed ≡ old.flushed
  pub too_many : result ≡ Err given_up.TooMany → 4294967295 ≤ times

-- A front of these bytes was written, and all of them where nothing was given up.
pub record FrontWritten {T : Type 0} (held holds : Option (List ℕ)) (old new : Option Outlet) (result : Result T GivenUp)
    (bytes : List ℕ) : Type 0 where
  pub front : List ℕ
  pub others : List ℕ
  pub parts : bytes ≡ front ++ others
  pub whole : OnOk result (others ≡ [])
  pub written : Appends held holds front
  pub done : Known old new (λ a b. WritesFront a b result front)
