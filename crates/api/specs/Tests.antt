-- The tests of a request whose head is whole, in their order.
use Rattle.std.specs.Prelude.{◌≡◌, ◌≢◌, ℕ, ◌≤◌, List, [], All, Option, Some, None, IfSome, length, codes}
use Rattle.vocabulary.specs.Names.{IsName}
use Rattle.routes.specs.declared.route.Route.{Route}
use Rattle.routes.specs.declared.method.Method.{Method}
use Rattle.routes.specs.Routes.{IsRoute, name_of}
use Rattle.routes.specs.Methods.{IsTaken, allowed}
use Rattle.routes.specs.Asking.{Asks}
use Rattle.api.specs.Requests.{Request}
use Rattle.api.specs.Lengths.{codings, lengths, AreLengths, IsSmall, body_length, body}
use Rattle.api.specs.declared.bad.BadWhy.{BadWhy}
use Rattle.api.specs.declared.bad.BadWhy.TheVariants as why

-- the request asks for what the command text says
pub record IsCommand (r : Request) (route : Route) (text : List ℕ) : Type 0 where
  pub method : Method
  pub taken : IsTaken route r.method method
  pub asks : Asks route method r.query (body r.fields r.behind) text

-- the request passes the test; its path is this one of the nine
abbrev pub Passes : BadWhy → Request → Route → Type 0
Passes why.Head r route = Unit {0}
Passes why.HeadSize r route = Unit {0}
Passes why.Coding r route = codings r.fields ≡ []
Passes why.Length r route = AreLengths (lengths r.fields)
Passes why.Route r route = IsRoute r.path route
Passes why.Method r route = (method : Method) × IsTaken route r.method method
Passes why.Name r route = IfSome (name_of route) IsName
Passes why.NoLength r route = r.method ≡ codes "POST" → lengths r.fields ≢ []
Passes why.BodySize r route = All IsSmall (lengths r.fields)
Passes why.Short r route = body_length (lengths r.fields) ≤ length r.behind
Passes why.Body r route = (text : List ℕ) × IsCommand r route text

-- the tests up to the one of the name
pub record IsFound (r : Request) (route : Route) : Type 0 where
  pub coding : Passes why.Coding r route
  pub same : Passes why.Length r route
  pub path : Passes why.Route r route
  pub taken : Passes why.Method r route
  pub named : Passes why.Name r route

-- the tests before this one, in order
abbrev pub PassesBefore : BadWhy → Request → Route → Type 0
PassesBefore why.Head r route = Unit {0}
PassesBefore why.HeadSize r route = Unit {0}
PassesBefore why.Coding r route = Unit {0}
PassesBefore why.Length r route = Passes why.Coding r route
PassesBefore why.Route r route = Passes why.Coding r route × Passes why.Length r route
PassesBefore why.Method r route =
    Passes why.Coding r route × Passes why.Length r route × Passes why.Route r route
PassesBefore why.Name r route =
    Passes why.Coding r route × Passes why.Length r route × Passes why.Route r route
    × Passes why.Method r route
PassesBefore why.NoLength r route = IsFound r route
PassesBefore why.BodySize r route = IsFound r route × Passes why.NoLength r route
PassesBefore why.Short r route = IsFound r route × Passes why.NoLength r route × Passes why.BodySize r route
PassesBefore why.Body r route =
    IsFound r route × Passes why.NoLength r route × Passes why.BodySize r route × Passes why.Short r route

-- the first test that the request fails, with the methods that its path has where it is the one of the method
abbrev pub Fails : BadWhy → Request → Option (List ℕ) → Type 0
Fails why.Head r allow = ⊥
Fails why.HeadSize r allow = ⊥
Fails why.Coding r allow = (codings r.fields ≢ []) × (allow ≡ None)
Fails why.Length r allow = (codings r.fields ≡ []) × (¬ AreLengths (lengths r.fields)) × (allow ≡ None)
Fails why.Route r allow =
    (codings r.fields ≡ []) × AreLengths (lengths r.fields) × ((route : Route) → ¬ IsRoute r.path route)
    × (allow ≡ None)
Fails why.Method r allow =
    (route : Route) × PassesBefore why.Method r route × (¬ Passes why.Method r route)
    × (allow ≡ Some (allowed route))
Fails w r allow = (route : Route) × PassesBefore w r route × (¬ Passes w r route) × (allow ≡ None)

-- it passes all, and asks for this
abbrev pub AsksFor : Request → List ℕ → Type 0
AsksFor r text = (route : Route) × PassesBefore why.Body r route × IsCommand r route text
