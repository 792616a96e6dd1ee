-- What a whole head asks for, before the body is there.
use Rattle.std.specs.Prelude.{◌≡◌, ◌≢◌, ℕ, List, [], ◌++◌, drop, codes, All, Option, None, option_map, Result}
use Rattle.std.specs.Prelude.{Ok, Err}
use Rattle.std.specs.Str.Parse.{IsNumeral}
use Rattle.ports.specs.declared.stop.Stop.{Stop}
use Rattle.ports.specs.declared.stop.Stop.TheVariants as stop
use Rattle.routes.specs.declared.route.Route.{Route}
use Rattle.routes.specs.declared.method.Method.{Method}
use Rattle.routes.specs.Methods.{IsTaken}
use Rattle.routes.specs.Asking.{Asks}
use Rattle.api.specs.declared.ask.Ask.{Ask}
use Rattle.api.specs.declared.ask.AskEnd.{AskEnd}
use Rattle.api.specs.declared.ask.AskEnd.TheVariants.{Failed, Closed, Bad}
use Rattle.api.specs.declared.bad.BadWhy.{BadWhy}
use Rattle.api.specs.declared.bad.BadWhy.TheVariants as why
use Rattle.api.specs.declared.plan.Head.{Head}
use Rattle.api.specs.declared.plan.Plan.{Plan}
use Rattle.api.specs.declared.plan.Digits.{Digits}
use Rattle.api.specs.declared.plan.Digits.TheVariants.{NoDigits, SomeDigits}
use Rattle.api.specs.Statuses.{status_of}
use Rattle.api.specs.Requests.{Request, Says}
use Rattle.api.specs.Lengths.{codings, lengths, IsSmall, body_length}
use Rattle.api.specs.Tests.{Fails, IsFound}
use Rattle.ports.specs.Stops.{Answers}
use Rattle.ports.specs.Taken.{Gave}
use Rattle.api.specs.Answers.{IsRefused, all_of, AskOf}
use Rattle.api.specs.Fields.{AreWithin, pairs}

-- the request of a head, with these bytes behind it
abbrev pub said : Head → List ℕ → Request
said head behind = record {
  method = head.method.now;
  path = head.path.now;
  query = head.query.now;
  fields = pairs head.bytes.now head.fields.now;
  behind = behind;
}

-- the bytes say this, whatever comes behind them; a head's fields lie in its bytes
pub record IsSaid (bytes : List ℕ) (len : ℕ) (head : Head) : Type 0 where
  pub says : (more : List ℕ) → Says (bytes ++ more) (said head (drop len bytes ++ more))
  pub within : AreWithin head.bytes.now head.fields.now

-- a whole head is one within the limits, or is refused, whatever comes behind it
abbrev pub IsHeadOf : List ℕ → ℕ → Result Head BadWhy → Type 0
IsHeadOf bytes len (Ok head) = IsSaid bytes len head
IsHeadOf bytes len (Err w) = (more : List ℕ) → IsRefused (bytes ++ more) w None

-- the digits of all the lengths, where there are any
abbrev pub AreDigits : List (List ℕ) → Digits → Type 0
AreDigits texts NoDigits = texts ≡ []
AreDigits texts (SomeDigits digits) =
    (texts ≢ []) × IsNumeral 10 digits.now × All (λ text. text ≡ digits.now) texts

-- they are digits
abbrev pub IsDigits : Digits → Type 0
IsDigits NoDigits = Unit {0}
IsDigits (SomeDigits digits) = IsNumeral 10 digits.now

-- the first test that the head fails, whatever comes behind it
abbrev pub FailsAll : Head → BadWhy → Option (List ℕ) → Type 0
FailsAll head w allow = (behind : List ℕ) → Fails w (said head behind) allow

-- the tests of the fields
abbrev pub PassesFields : Head → Result Digits BadWhy → Type 0
PassesFields head (Ok digits) =
    (codings (pairs head.bytes.now head.fields.now) ≡ [])
    × AreDigits (lengths (pairs head.bytes.now head.fields.now)) digits
PassesFields head (Err w) = FailsAll head w None

-- an end that refuses what fails so
abbrev pub EndsFailed : Head → Stop AskEnd → Type 0
EndsFailed head stop.NoMemory = Unit {0}
EndsFailed head (stop.Why Failed) = ⊥
EndsFailed head (stop.Why Closed) = ⊥
EndsFailed head (stop.Why (Bad bad)) =
    (bad.status ≡ status_of bad.why)
    × FailsAll head bad.why (option_map (λ methods. methods.now) bad.allow)

-- the tests of the path
abbrev pub PassesPath : Head → Result (Route × Method) (Stop AskEnd) → Type 0
PassesPath head (Ok found) =
    ((behind : List ℕ) → IsFound (said head behind) found.0) × IsTaken found.0 head.method.now found.1
PassesPath head (Err end) = EndsFailed head end

-- the tests of the length
abbrev pub PassesLength : List ℕ → List (List ℕ) → Result ℕ BadWhy → Type 0
PassesLength method texts (Ok len) =
    (method ≡ codes "POST" → texts ≢ []) × All IsSmall texts × (len ≡ body_length texts)
PassesLength method texts (Err why.NoLength) = ¬ (method ≡ codes "POST" → texts ≢ [])
PassesLength method texts (Err why.BodySize) =
    (method ≡ codes "POST" → texts ≢ []) × (¬ All IsSmall texts)
PassesLength method texts (Err w) = ⊥

-- all tests that need no body
pub record IsPlan (head : Head) (plan : Plan) : Type 0 where
  pub found : (behind : List ℕ) → IsFound (said head behind) plan.route
  pub taken : IsTaken plan.route head.method.now plan.method
  pub some : head.method.now ≡ codes "POST" → lengths (pairs head.bytes.now head.fields.now) ≢ []
  pub small : All IsSmall (lengths (pairs head.bytes.now head.fields.now))
  pub len : plan.length ≡ body_length (lengths (pairs head.bytes.now head.fields.now))
  pub query : plan.query.now ≡ head.query.now

abbrev pub Plans : Head → Result Plan (Stop AskEnd) → Type 0
Plans head (Ok plan) = IsPlan head plan
Plans head (Err end) = EndsFailed head end

-- the command text that is asked for, or the refusal of the body
abbrev pub AsksBy : Plan → List ℕ → Result Ask (Stop AskEnd) → Type 0
AsksBy plan body (Ok ask) = Asks plan.route plan.method plan.query.now body ask.text
AsksBy plan body (Err stop.NoMemory) = Unit {0}
AsksBy plan body (Err (stop.Why Failed)) = ⊥
AsksBy plan body (Err (stop.Why Closed)) = ⊥
AsksBy plan body (Err (stop.Why (Bad bad))) =
    (bad ≡ record { status = 400; why = why.Body; allow = None })
    × ((text : List ℕ) → ¬ Asks plan.route plan.method plan.query.now body text)

-- More bytes were taken behind those that had come, and the answer is the one to all bytes of the source.
pub record ReadsOn
    (bytes : List ℕ) (old new : Option (List ℕ)) (result : Result Ask (Stop AskEnd)) : Type 0 where
  pub more : List ℕ
  pub gave : Gave old new more
  pub answer : Answers (AskOf (all_of (bytes ++ more) new)) result
