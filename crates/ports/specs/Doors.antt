-- What a door does with the ends that it hands out, where it tells them.
use Rattle.std.specs.Prelude.{◌≡◌, ℕ, ◌+◌, ◌-◌, ◌≤◌, List, [], ◌∷◌, ◌++◌, Option, Some, None, Result, Ok, Err}
use Rattle.ports.specs.Memory.{counted}

-- the ends still to come, how many are out, and the finished ones
pub record Ends (E : Type 0) : Type 0 where
  pub coming : List E
  pub out : ℕ
  pub finished : List E

-- an end may be finished: where the door tells its ends, at least one is out
abbrev pub HasOut : {E : Type 0} → Option (Ends E) → Type 0
HasOut None = Unit {0}
HasOut (Some ends) = 1 ≤ ends.out

-- the first end still to come went out
pub record GoesOut {E : Type 0} (old new : Ends E) (end : E) : Type 0 where
  pub coming : old.coming ≡ end ∷ new.coming
  pub out : new.out ≡ old.out + 1
  pub finished : new.finished ≡ old.finished

-- The first end still to come goes out, and None comes where no end is to come.
-- None and a fault leave the ends as they were.
abbrev pub HandsOut : {E F : Type 0} → Option (Ends E) → Option (Ends E) → Result (Option E) F → Type 0
HandsOut None None result = Unit {0}
HandsOut None (Some new) result = ⊥
HandsOut (Some old) None result = ⊥
HandsOut (Some old) (Some new) (Ok (Some end)) = GoesOut old new end
HandsOut (Some old) (Some new) (Ok None) = (old.coming ≡ []) × (new ≡ old)
HandsOut (Some old) (Some new) (Err e) = new ≡ old

-- the ends after one of those that are out was finished
abbrev pub with_finished : {E : Type 0} → E → Ends E → Ends E
with_finished end ends = record {
  coming = ends.coming;
  out = ends.out - 1;
  finished = ends.finished ++ end ∷ [];
}

-- A door in memory: its ends, its port, which calls fail, and the calls and faults so far.
pub record DoorState (E : Type 0) : Type 0 where
  pub ends : Ends E
  pub port : Option ℕ
  pub fail : List ℕ
  pub calls : ℕ
  pub faults : ℕ

-- the call was counted, and which calls fail stays as it was
pub record CountsCall {E : Type 0} (old new : DoorState E) : Type 0 where
  pub fail : new.fail ≡ old.fail
  pub calls : new.calls ≡ counted old.calls

-- no call was counted and no fault, and which calls fail stays as it was
pub record CountsNone {E : Type 0} (old new : DoorState E) : Type 0 where
  pub fail : new.fail ≡ old.fail
  pub calls : new.calls ≡ old.calls
  pub faults : new.faults ≡ old.faults
