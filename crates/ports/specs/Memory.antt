-- Sources and sinks in memory as plain data.
use Rattle.std.specs.Prelude.{◌≡◌, ℕ, ◌+◌, ◌-◌, ◌^◌, min, List, Result, Ok, Err}

-- Which calls fail, by their numbers, and how many were made.
pub record CallsState : Type 0 where
  pub fail : List ℕ
  pub made : ℕ

-- A source in memory: what is left, how much a call gives at most, which calls fail, and the calls
-- and faults so far.
pub record SourceState : Type 0 where
  pub left : List ℕ
  pub chunk : ℕ
  pub fail : List ℕ
  pub calls : ℕ
  pub faults : ℕ

-- A sink in memory: what it holds, how much it may hold, which calls fail, and the calls and faults so far.
pub record SinkState : Type 0 where
  pub held : List ℕ
  pub room : ℕ
  pub fail : List ℕ
  pub calls : ℕ
  pub faults : ℕ

-- The number of the next call. It stands still at 2^128 - 1, which no run reaches; past 2^64 - 1 it
-- is in no list of u64.
abbrev pub counted : ℕ → ℕ
counted n = min (n + 1) (2 ^ 128 - 1)

-- the count of faults rose in a call that failed, and stays in one that did not
abbrev pub CountsFault : {T E : Type 0} → ℕ → ℕ → Result T E → Type 0
CountsFault old new (Ok x) = new ≡ old
CountsFault old new (Err e) = new ≡ counted old

-- the call was counted, and how the source answers its calls stays as it was
pub record KeepsPlan (old new : SourceState) : Type 0 where
  pub chunk : new.chunk ≡ old.chunk
  pub fail : new.fail ≡ old.fail
  pub calls : new.calls ≡ counted old.calls

-- the call was counted, and how the sink answers its calls stays as it was
pub record KeepsRoom (old new : SinkState) : Type 0 where
  pub room : new.room ≡ old.room
  pub fail : new.fail ≡ old.fail
  pub calls : new.calls ≡ counted old.calls
