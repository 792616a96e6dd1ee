-- What a take does to a source, a put to a sink, and when they may fail.
use Rattle.std.specs.Prelude.{◌≡◌, ℕ, ◌+◌, ◌-◌, ◌^◌, ◌<◌, ◌≤◌, min, List, [], ◌++◌, length, take, Option}
use Rattle.std.specs.Prelude.{Some, None, Result, Ok, Err, OnErr}

-- What an object has beside what a trait tells of it: nothing, or the count of faults and the bytes
-- of its other side.
pub data Aside : Type 0 where
  Alone : Aside
  Beside : ℕ → Option (List ℕ) → Aside

-- the count of faults is greater after the call, or stands at the last value of its counter
abbrev pub Rose : ℕ → ℕ → Type 0
Rose before now = min (before + 1) (2 ^ 64 - 1) ≤ now

-- the count has not fallen, and a fault comes only where it rose
pub record HasCause {T E : Type 0} (before now : ℕ) (result : Result T E) : Type 0 where
  pub later : before ≤ now
  pub failed : OnErr result (Rose before now)

-- a call that succeeds leaves the count as it was, and one that fails raises it by one at most
abbrev pub RisesOnce : {T E : Type 0} → ℕ → ℕ → Result T E → Type 0
RisesOnce before now (Ok x) = now ≡ before
RisesOnce before now (Err e) = now ≤ before + 1

-- what a take does to a source that tells what is left
pub record TakesFront (old new buf_old buf_new : List ℕ) (count : ℕ) : Type 0 where
  pub bound : count ≤ length buf_old
  pub front : old ≡ take count buf_new ++ new
  pub ends : 0 < length buf_old → count ≡ 0 → old ≡ []

-- a take: the front of what was left goes into the front of the buffer. A fault leaves what was left
abbrev pub Takes : {E : Type 0} → Option (List ℕ) → Option (List ℕ) → List ℕ → List ℕ → Result ℕ E → Type 0
Takes None None buf_old buf_new (Ok count) = count ≤ length buf_old
Takes None None buf_old buf_new (Err e) = Unit {0}
Takes None (Some new) buf_old buf_new result = ⊥
Takes (Some old) None buf_old buf_new result = ⊥
Takes (Some old) (Some new) buf_old buf_new (Ok count) = TakesFront old new buf_old buf_new count
Takes (Some old) (Some new) buf_old buf_new (Err e) = new ≡ old

-- text is at the front of whole
abbrev pub IsFront : List ℕ → List ℕ → Type 0
IsFront text whole = (rest : List ℕ) × (whole ≡ text ++ rest)

-- a put: the piece is added. After a fault a front of it is
abbrev pub Puts : {T E : Type 0} → Option (List ℕ) → Option (List ℕ) → List ℕ → Result T E → Type 0
Puts None None piece result = Unit {0}
Puts None (Some new) piece result = ⊥
Puts (Some old) None piece result = ⊥
Puts (Some old) (Some new) piece (Ok x) = new ≡ old ++ piece
Puts (Some old) (Some new) piece (Err e) = (part : List ℕ) × IsFront part piece × (new ≡ old ++ part)
