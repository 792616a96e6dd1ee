-- The nine paths, with the parts that are free in them.
use Rattle.std.specs.Prelude.{◌≡◌, ◌≢◌, ℕ, List, [], ◌∷◌, ◌++◌, All, Contains, Option, Some, None, codes}
use Rattle.routes.specs.declared.route.Route.{Route}
use Rattle.routes.specs.declared.route.Route.TheVariants as route

-- a part of a path: some bytes without a slash (47)
pub record IsPart (part : List ℕ) : Type 0 where
  pub some : part ≢ []
  pub solid : ¬ Contains part 47

-- the free parts, from left to right
abbrev pub parts_of : Route → List (List ℕ)
parts_of route.Projects = []
parts_of (route.Project name) = name.now ∷ []
parts_of (route.Faults name) = name.now ∷ []
parts_of (route.Pattern name) = name.now ∷ []
parts_of (route.Cp name) = name.now ∷ []
parts_of (route.Fold name) = name.now ∷ []
parts_of (route.Vertex name) = name.now ∷ []
parts_of (route.Edits name) = name.now ∷ []
parts_of (route.Sheet name width height) = name.now ∷ width.now ∷ height.now ∷ []

-- the path of a project, with this end
abbrev pub project_path : List ℕ → List ℕ → List ℕ
project_path name end = codes "/projects/" ++ (name ++ end)

abbrev pub path_of : Route → List ℕ
path_of route.Projects = codes "/projects"
path_of (route.Project name) = project_path name.now []
path_of (route.Faults name) = project_path name.now (codes "/faults")
path_of (route.Pattern name) = project_path name.now (codes "/pattern")
path_of (route.Cp name) = project_path name.now (codes "/cp")
path_of (route.Fold name) = project_path name.now (codes "/fold")
path_of (route.Vertex name) = project_path name.now (codes "/vertex")
path_of (route.Edits name) = project_path name.now (codes "/edits")
path_of (route.Sheet name width height) =
    project_path name.now (codes "/sheet/" ++ (width.now ++ (codes "/" ++ height.now)))

-- the path is this one of the nine
pub record IsRoute (path : List ℕ) (route : Route) : Type 0 where
  pub spelled : path ≡ path_of route
  pub parts : All IsPart (parts_of route)

-- the part that names a project, where there is one
abbrev pub name_of : Route → Option (List ℕ)
name_of route.Projects = None
name_of (route.Project name) = Some name.now
name_of (route.Faults name) = Some name.now
name_of (route.Pattern name) = Some name.now
name_of (route.Cp name) = Some name.now
name_of (route.Fold name) = Some name.now
name_of (route.Vertex name) = Some name.now
name_of (route.Edits name) = Some name.now
name_of (route.Sheet name width height) = Some name.now
