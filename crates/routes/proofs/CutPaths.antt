-- The parts of a path, as they are cut from it.
use Rattle.std.proofs.Common.{◌≡◌, ◌∙◌, ◌++◌, ℕ, sym, ap, subst, codes, List, [], ◌∷◌, append-nil}
use Rattle.std.specs.Prelude.{All}
use Rattle.std.proofs.lemmas.List.Elements.{All-nil, All-cons, All-head, All-tail}
use Rattle.routes.specs.Cuts.{IsSplit}
use Rattle.routes.specs.Routes.{IsPart, IsRoute, project_path}
use Rattle.routes.specs.Forms.{HasForm, IsNamed, IsSheetPath}
use Rattle.routes.specs.declared.page.Page.{Page}
use Rattle.routes.specs.declared.page.Page.TheVariants as page
use Rattle.routes.specs.declared.route.Route.{Route}
use Rattle.routes.specs.declared.route.Route.TheVariants as route
use Rattle.routes.proofs.Cuts.{one_split, split_part, split_last}

abbrev Text : Type 0
Text = List ℕ

-- which of the nine paths a route is
abbrev pub page_of : Route → Page
page_of route.Projects = page.Projects
page_of (route.Project name) = page.Project
page_of (route.Faults name) = page.Faults
page_of (route.Pattern name) = page.Pattern
page_of (route.Cp name) = page.Cp
page_of (route.Fold name) = page.Fold
page_of (route.Vertex name) = page.Vertex
page_of (route.Edits name) = page.Edits
page_of (route.Sheet name width height) = page.Sheet

one_part : (name end path : Text) → path ≡ project_path name end → All IsPart (name ∷ []) → IsNamed end path
one_part name end path e parts = record { name = name; part = All-head IsPart name [] parts; whole = e }

pub form_of : (path : Text) (route : Route) → IsRoute path route → HasForm (page_of route) path
form_of path route.Projects r = r.spelled
form_of path (route.Project name) r = one_part name.now [] path r.spelled r.parts
form_of path (route.Faults name) r = one_part name.now (codes "/faults") path r.spelled r.parts
form_of path (route.Pattern name) r = one_part name.now (codes "/pattern") path r.spelled r.parts
form_of path (route.Cp name) r = one_part name.now (codes "/cp") path r.spelled r.parts
form_of path (route.Fold name) r = one_part name.now (codes "/fold") path r.spelled r.parts
form_of path (route.Vertex name) r = one_part name.now (codes "/vertex") path r.spelled r.parts
form_of path (route.Edits name) r = one_part name.now (codes "/edits") path r.spelled r.parts
form_of path (route.Sheet name width height) r =
    let behind : All IsPart (width.now ∷ height.now ∷ []) = All-tail IsPart name.now (width.now ∷ height.now ∷ []) r.parts in
    record {
      width = width.now;
      height = height.now;
      wide = All-head IsPart width.now (height.now ∷ []) behind;
      high = All-head IsPart height.now [] (All-tail IsPart width.now (height.now ∷ []) behind);
      named = record { name = name.now; part = All-head IsPart name.now (width.now ∷ height.now ∷ []) r.parts; whole = r.spelled };
    }

-- what stands behind `/projects/` is cut so at its first slash
abbrev pub IsCutSo : Text → Text → Text → Type 0
IsCutSo path name behind = (rest : Text) → path ≡ codes "/projects/" ++ rest → IsSplit 47 rest name behind

pub cut_so : (path rest name behind : Text) → ((r : Text) → path ≡ codes "/projects/" ++ r → rest ≡ r) → IsSplit 47 rest name behind → IsCutSo path name behind
cut_so path rest name behind h s r e = subst (λ t. IsSplit 47 t name behind) (h r e) s

one : (name : Text) → IsPart name → All IsPart (name ∷ [])
one name p = All-cons IsPart name [] p (All-nil IsPart)

-- the name alone
pub alone : (path name behind : Text) → IsNamed [] path → IsCutSo path name behind → (path ≡ project_path name []) × All IsPart (name ∷ [])
alone path name behind f c =
    let s : IsSplit 47 f.name name behind = c f.name (f.whole ∙ ap (λ t. codes "/projects/" ++ t) (append-nil f.name)) in
    let same : f.name ≡ name = (one_split 47 f.name f.name [] name behind (split_last f.name f.part) s).0 in
    (f.whole ∙ ap (λ t. project_path t []) same, subst (λ t. All IsPart (t ∷ [])) same (one f.name f.part))

-- a name, and more behind it
pub followed : (tail path name behind : Text) → (f : IsNamed (47 ∷ tail) path) → IsCutSo path name behind → (f.name ≡ name) × (tail ≡ behind)
followed tail path name behind f c =
    one_split 47 (f.name ++ 47 ∷ tail) f.name tail name behind (split_part f.name tail f.part) (c (f.name ++ 47 ∷ tail) f.whole)

pub on_page : (tail path name behind : Text) → IsNamed (47 ∷ tail) path → IsCutSo path name behind → (path ≡ project_path name (47 ∷ tail)) × All IsPart (name ∷ [])
on_page tail path name behind f c =
    let same : f.name ≡ name = (followed tail path name behind f c).0 in
    (f.whole ∙ ap (λ t. project_path t (47 ∷ tail)) same, subst (λ t. All IsPart (t ∷ [])) same (one f.name f.part))

-- a sheet
pub on_sheet : (path name behind sizes width height : Text) → IsSheetPath path → IsCutSo path name behind
    → ((rest : Text) → behind ≡ codes "sheet/" ++ rest → sizes ≡ rest) → IsSplit 47 sizes width height
    → (path ≡ project_path name (codes "/sheet/" ++ (width ++ (codes "/" ++ height)))) × All IsPart (name ∷ width ∷ height ∷ [])
on_sheet path name behind sizes width height f c h s =
    let n = f.named in
    let tail : Text = codes "sheet/" ++ (f.width ++ 47 ∷ f.height) in
    let cut = followed tail path name behind n c in
    let got : sizes ≡ f.width ++ 47 ∷ f.height = h (f.width ++ 47 ∷ f.height) (sym cut.1) in
    let both = one_split 47 sizes f.width f.height width height (subst (λ t. IsSplit 47 t f.width f.height) (sym got) (split_part f.width f.height f.wide)) s in (
      n.whole ∙ ap (λ t. project_path t (47 ∷ tail)) cut.0
          ∙ ap (λ t. project_path name (codes "/sheet/" ++ (t ++ 47 ∷ f.height))) both.0
          ∙ ap (λ t. project_path name (codes "/sheet/" ++ (width ++ 47 ∷ t))) both.1,
      All-cons IsPart name (width ∷ height ∷ []) (subst IsPart cut.0 n.part)
          (All-cons IsPart width (height ∷ []) (subst IsPart both.0 f.wide) (one height (subst IsPart both.1 f.high))),
    )
