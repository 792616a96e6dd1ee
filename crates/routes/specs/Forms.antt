-- The form of a path on each page.
use Rattle.std.specs.Prelude.{◌≡◌, ℕ, List, [], ◌++◌, codes}
use Rattle.routes.specs.declared.page.Page.{Page}
use Rattle.routes.specs.declared.page.Page.TheVariants as page
use Rattle.routes.specs.Routes.{IsPart, project_path}

-- what stands behind the name on a page of a project, but for the sheet
abbrev pub end_of : Page → List ℕ
end_of page.Faults = codes "/faults"
end_of page.Pattern = codes "/pattern"
end_of page.Cp = codes "/cp"
end_of page.Fold = codes "/fold"
end_of page.Vertex = codes "/vertex"
end_of page.Edits = codes "/edits"
end_of page.Projects = []
end_of page.Project = []
end_of page.Sheet = []

-- a path of a project with this end
pub record IsNamed (end path : List ℕ) : Type 0 where
  pub name : List ℕ
  pub part : IsPart name
  pub whole : path ≡ project_path name end

pub record IsSheetPath (path : List ℕ) : Type 0 where
  pub width : List ℕ
  pub height : List ℕ
  pub wide : IsPart width
  pub high : IsPart height
  pub named : IsNamed (codes "/sheet/" ++ (width ++ (codes "/" ++ height))) path

-- the path is one of this page
abbrev pub HasForm : Page → List ℕ → Type 0
HasForm page.Projects path = path ≡ codes "/projects"
HasForm page.Sheet path = IsSheetPath path
HasForm page.Project path = IsNamed (end_of page.Project) path
HasForm page.Faults path = IsNamed (end_of page.Faults) path
HasForm page.Pattern path = IsNamed (end_of page.Pattern) path
HasForm page.Cp path = IsNamed (end_of page.Cp) path
HasForm page.Fold path = IsNamed (end_of page.Fold) path
HasForm page.Vertex path = IsNamed (end_of page.Vertex) path
HasForm page.Edits path = IsNamed (end_of page.Edits) path
