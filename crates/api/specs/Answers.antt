-- The answer to all bytes of a connection: a command text, a refusal, or that there are none.
use Rattle.std.specs.Prelude.{◌≡◌, ◌≢◌, ℕ, ◌⊎◌, List, [], ◌++◌, Option, Some, None, option_map, Result, Ok}
use Rattle.std.specs.Prelude.{Err}
use Rattle.ports.specs.declared.stop.Stop.{Stop}
use Rattle.ports.specs.Stops.{Answers}
use Rattle.ports.specs.Taken.{Gave}
use Rattle.api.specs.declared.ask.Ask.{Ask}
use Rattle.api.specs.declared.ask.AskEnd.{AskEnd}
use Rattle.api.specs.declared.ask.AskEnd.TheVariants.{Failed, Closed, Bad}
use Rattle.api.specs.declared.bad.HttpBad.{HttpBad}
use Rattle.api.specs.declared.bad.BadWhy.{BadWhy}
use Rattle.api.specs.declared.bad.BadWhy.TheVariants as why
use Rattle.api.specs.Statuses.{status_of}
use Rattle.api.specs.Requests.{Request, Says, IsBroken, IsEndless, IsCrowded}
use Rattle.api.specs.Tests.{Fails, AsksFor}

-- why the bytes are refused, the first reason in the order of the tests
abbrev pub IsRefused : List ℕ → BadWhy → Option (List ℕ) → Type 0
IsRefused bytes why.Head allow = IsBroken bytes × (allow ≡ None)
IsRefused bytes why.HeadSize allow = (IsEndless bytes ⊎ IsCrowded bytes) × (allow ≡ None)
IsRefused bytes w allow = (r : Request) × Says bytes r × Fails w r allow

-- a refusal with its status, and the methods of the path where the method is not one of them
pub record IsBad (bytes : List ℕ) (bad : HttpBad) : Type 0 where
  pub some : bytes ≢ []
  pub status : bad.status ≡ status_of bad.why
  pub refused : IsRefused bytes bad.why (option_map (λ methods. methods.now) bad.allow)

-- The answer to the bytes. A failed take is no answer to them.
abbrev pub AskOf : List ℕ → Result Ask AskEnd → Type 0
AskOf bytes (Ok ask) = (r : Request) × Says bytes r × AsksFor r ask.text
AskOf bytes (Err Closed) = bytes ≡ []
AskOf bytes (Err (Bad bad)) = IsBad bytes bad
AskOf bytes (Err Failed) = Unit {0}

-- all bytes of a source: those that it gave, and what is left where it tells that
abbrev pub all_of : List ℕ → Option (List ℕ) → List ℕ
all_of got None = got
all_of got (Some left) = got ++ left

-- Bytes were taken from the front of what was left, and the answer is the one to all bytes of the source. So
-- it does not matter into which pieces they are cut, nor where the reading of them stopped.
pub record Reads (old new : Option (List ℕ)) (result : Result Ask (Stop AskEnd)) : Type 0 where
  pub got : List ℕ
  pub gave : Gave old new got
  pub answer : Answers (AskOf (all_of got new)) result
