-- The command text that a request stands for.
use Rattle.std.specs.Prelude.{◌≡◌, ℕ, List, ◌∷◌, ◌++◌, codes}
use Rattle.routes.specs.declared.method.Method.{Method}
use Rattle.routes.specs.declared.method.Method.TheVariants as method
use Rattle.routes.specs.declared.route.Route.{Route}
use Rattle.routes.specs.declared.route.Route.TheVariants as route
use Rattle.routes.specs.Queries.{IsQuery}
use Rattle.routes.specs.Edits.{IsEdit}

-- a point is asked for, by this query
pub record IsVertex (name query text : List ℕ) : Type 0 where
  pub point : List ℕ
  pub asked : IsQuery query point
  pub written : text ≡ codes "vertex " ++ (name ++ (32 ∷ point))

-- a project is asked for, or to be made
abbrev pub AsksProject : List ℕ → Method → List ℕ → Type 0
AsksProject name method.Get text = text ≡ codes "show " ++ name
AsksProject name method.Put text = text ≡ codes "new " ++ name
AsksProject name method.Post text = ⊥

-- a request with this path, method, query and body asks for what the command text says
abbrev pub Asks : Route → Method → List ℕ → List ℕ → List ℕ → Type 0
Asks route.Projects method query body text = text ≡ codes "list"
Asks (route.Project name) method query body text = AsksProject name.now method text
Asks (route.Faults name) method query body text = text ≡ codes "faults " ++ name.now
Asks (route.Pattern name) method query body text = text ≡ codes "pattern " ++ name.now
Asks (route.Cp name) method query body text = text ≡ codes "cp " ++ name.now
Asks (route.Fold name) method query body text = text ≡ codes "fold " ++ name.now
Asks (route.Vertex name) method query body text = IsVertex name.now query text
Asks (route.Edits name) method query body text = IsEdit name.now body text
Asks (route.Sheet name width height) method query body text =
    text ≡ codes "new " ++ (name.now ++ (32 ∷ (width.now ++ (32 ∷ height.now))))
