-- What the stages of the reading of a request know, one after another.
use Rattle.std.specs.Prelude.{◌≡◌, ℕ, ◌≤◌, ◌<◌, ◌⊎◌, List, [], ◌∷◌, ◌++◌, length, take, Option, None}
use Rattle.std.specs.Prelude.{Result, Ok, Err}
use Rattle.ports.specs.declared.stop.Stop.{Stop}
use Rattle.ports.specs.declared.stop.Stop.TheVariants as stop
use Rattle.ports.specs.Stops.{Refuses}
use Rattle.ports.specs.Taken.{Gave, IsSpent}
use Rattle.httparse.specs.Grammar.{HasNoRequest, MayBecomeRequest, NeverHasRequest}
use Rattle.httparse.specs.Spans.{IsRequestWithin, IsRequestOf}
use Rattle.httparse.specs.declared.spans.HeaderSpan.{HeaderSpan}
use Rattle.httparse.specs.declared.spans.RequestSpans.{RequestSpans}
use Rattle.api.specs.declared.ask.AskEnd.{AskEnd}
use Rattle.api.specs.declared.ask.AskEnd.TheVariants.{Failed, Closed, Bad}
use Rattle.api.specs.declared.look.Look.{Look}
use Rattle.api.specs.declared.look.Look.TheVariants.{Whole, Open, Never}
use Rattle.api.specs.declared.bad.BadWhy.{BadWhy}
use Rattle.api.specs.declared.bad.BadWhy.TheVariants as why
use Rattle.api.specs.Statuses.{status_of}
use Rattle.api.specs.Requests.{head_limit}
use Rattle.api.specs.Answers.{all_of, AskOf}

-- a whole head stands at the front of the bytes, and its parts are there
pub record IsHead (bytes : List ℕ) (spans : List HeaderSpan) (parts : RequestSpans) : Type 0 where
  pub within : IsRequestWithin bytes spans parts
  pub is : IsRequestOf bytes spans parts

-- the bytes are no whole head, and begin one or may begin one
pub record IsOpen (bytes : List ℕ) : Type 0 where
  pub none : HasNoRequest bytes
  pub begins : MayBecomeRequest bytes

-- a whole head, the beginning of one, or neither
abbrev pub IsLook : List ℕ → List HeaderSpan → Look → Type 0
IsLook bytes spans (Whole parts) = IsHead bytes spans parts
IsLook bytes spans Open = IsOpen bytes
IsLook bytes spans Never = NeverHasRequest bytes

-- a piece was taken, and put behind the bytes that were there
pub record Took (old new : Option (List ℕ)) (before bytes : List ℕ) (most count : ℕ) : Type 0 where
  pub piece : List ℕ
  pub gave : Gave old new piece
  pub added : bytes ≡ before ++ piece
  pub size : length piece ≡ count
  pub bound : count ≤ most
  pub ended : count ≡ 0 → IsSpent new

-- a take failed, or there was no memory
abbrev pub IsFault : Stop AskEnd → Type 0
IsFault stop.NoMemory = Unit {0}
IsFault (stop.Why Failed) = Unit {0}
IsFault (stop.Why Closed) = ⊥
IsFault (stop.Why (Bad bad)) = ⊥

abbrev pub TakesMore :
    Option (List ℕ) → Option (List ℕ) → List ℕ → List ℕ → ℕ → Result ℕ (Stop AskEnd) → Type 0
TakesMore old new before bytes most (Ok count) = Took old new before bytes most count
TakesMore old new before bytes most (Err end) = (got : List ℕ) × Gave old new got × IsFault end

-- the reading ends here, with the answer to all bytes of the source
pub record Ends (old new : Option (List ℕ)) (end : Stop AskEnd) : Type 0 where
  pub got : List ℕ
  pub gave : Gave old new got
  pub answer : Refuses (AskOf (all_of got new)) end

-- a whole head within the limit of bytes is there, or the reading ends
abbrev pub ReadsHead :
    Option (List ℕ) → Option (List ℕ) → List ℕ → List HeaderSpan → Result RequestSpans (Stop AskEnd) → Type 0
ReadsHead old new bytes spans (Ok parts) =
    Gave old new bytes × IsHead bytes spans parts × (length bytes ≤ head_limit)
ReadsHead old new bytes spans (Err end) = Ends old new end

-- a refusal that tells no methods
abbrev pub refusal : BadWhy → Stop AskEnd
refusal w = stop.Why (Bad (record { status = status_of w; why = w; allow = None }))

-- how a source ends that gave these bytes, which hold no whole head
abbrev pub cut_off : List ℕ → Stop AskEnd
cut_off [] = stop.Why Closed
cut_off (b ∷ bytes) = refusal why.Head

-- so far the body has what stands behind the head, up to its length, and what was taken since
pub record IsFilled (old new : Option (List ℕ)) (behind : List ℕ) (len : ℕ) (body : List ℕ) : Type 0 where
  pub more : List ℕ
  pub gave : Gave old new more
  pub is : body ≡ take len behind ++ more
  pub bound : length body ≤ len

-- the whole body, of this length, is there
pub record IsWhole (old new : Option (List ℕ)) (behind : List ℕ) (len : ℕ) (body : List ℕ) : Type 0 where
  pub more : List ℕ
  pub gave : Gave old new more
  pub is : body ≡ take len (behind ++ more)
  pub whole : len ≤ length (behind ++ more)

-- the source ended before
pub record IsShort (old new : Option (List ℕ)) (behind : List ℕ) (len : ℕ) (end : Stop AskEnd) : Type 0 where
  pub more : List ℕ
  pub gave : Gave old new more
  pub short : length (behind ++ more) < len
  pub spent : IsSpent new
  pub is : end ≡ refusal why.Short

abbrev pub ReadsBody :
    Option (List ℕ) → Option (List ℕ) → List ℕ → ℕ → Result (List ℕ) (Stop AskEnd) → Type 0
ReadsBody old new behind len (Ok body) = IsWhole old new behind len body
ReadsBody old new behind len (Err end) =
    ((more : List ℕ) × Gave old new more × IsFault end) ⊎ IsShort old new behind len end
