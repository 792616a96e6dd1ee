-- The methods that each path has.
use Rattle.std.specs.Prelude.{◌≡◌, ℕ, List, [], ◌∷◌, ◌++◌, map, Contains, codes}
use Rattle.routes.specs.declared.method.Method.{Method}
use Rattle.routes.specs.declared.method.Method.TheVariants as method
use Rattle.routes.specs.declared.route.Route.{Route}
use Rattle.routes.specs.declared.route.Route.TheVariants as route

-- how a request line spells a method
abbrev pub method_text : Method → List ℕ
method_text method.Get = codes "GET"
method_text method.Put = codes "PUT"
method_text method.Post = codes "POST"

-- the methods of a path, in the order in which they are told
abbrev pub methods : Route → List Method
methods route.Projects = method.Get ∷ []
methods (route.Project name) = method.Put ∷ method.Get ∷ []
methods (route.Faults name) = method.Get ∷ []
methods (route.Pattern name) = method.Get ∷ []
methods (route.Cp name) = method.Get ∷ []
methods (route.Fold name) = method.Get ∷ []
methods (route.Vertex name) = method.Get ∷ []
methods (route.Edits name) = method.Post ∷ []
methods (route.Sheet name width height) = method.Put ∷ []

-- the bytes spell this method, and the path has it
pub record IsTaken (route : Route) (bytes : List ℕ) (method : Method) : Type 0 where
  pub spelled : bytes ≡ method_text method
  pub taken : Contains (methods route) method

-- texts with a comma and a space between two of them
abbrev pub listed : List (List ℕ) → List ℕ
listed [] = []
listed (text ∷ []) = text
listed (text ∷ other ∷ texts) = text ++ (codes ", " ++ listed (other ∷ texts))

-- the methods of a path, as an answer tells them to a client that asked by another
abbrev pub allowed : Route → List ℕ
allowed route = listed (map method_text (methods route))
