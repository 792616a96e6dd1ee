-- How calls that take memory answer. Want of memory is free.
use Rattle.std.specs.Prelude.{Result, Ok, Err}
use Rattle.ports.specs.declared.stop.Stop.{Stop}
use Rattle.ports.specs.declared.stop.Stop.TheVariants as stop

-- a call may end with this, where these are the right answers: there was no memory, or it is the
-- right refusal
abbrev pub Refuses : {A E : Type 0} → (Result A E → Type 0) → Stop E → Type 0
Refuses IsRight (stop.Why e) = IsRight (Err e)
Refuses IsRight stop.NoMemory = Unit {0}

-- a call may answer this, where these are the right answers
abbrev pub Answers : {A E : Type 0} → (Result A E → Type 0) → Result A (Stop E) → Type 0
Answers IsRight (Ok a) = IsRight (Ok a)
Answers IsRight (Err end) = Refuses IsRight end
