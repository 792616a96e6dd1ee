-- A path is of the table in one way, and a request asks for one command text.
use Rattle.std.proofs.Common.{◌≡◌, ◌≢◌, ◌∙◌, ◌++◌, ◌==◌, ℕ, cond, refl, sym, ap, subst, codes, List, [], ◌∷◌, drop, get_or, ◌⊎◌, inl, inr, Option, append-nil}
use Rattle.std.specs.Prelude.{All}
use Rattle.std.proofs.lemmas.List.{append_cancel_left}
use Rattle.std.proofs.lemmas.List.Elements.{All-head, All-tail}
use Rattle.serde_json.specs.Data.{Data}
use Rattle.vocabulary.specs.Verbs.{verb_text}
use Rattle.routes.specs.Cuts.{IsSplit}
use Rattle.routes.specs.Routes.{IsPart, IsRoute, parts_of, project_path}
use Rattle.routes.specs.Queries.{IsQuery, Unescapes}
use Rattle.routes.specs.Edits.{IsEdit, IsEditIn, IsEditOf, edit_text}
use Rattle.routes.specs.Asking.{Asks, AsksProject, IsVertex}
use Rattle.routes.specs.declared.method.Method.{Method}
use Rattle.routes.specs.declared.method.Method.TheVariants as method
use Rattle.routes.specs.declared.page.Page.{Page}
use Rattle.routes.specs.declared.page.Page.TheVariants as page
use Rattle.routes.specs.declared.route.Route.{Route}
use Rattle.routes.specs.declared.route.Route.TheVariants as route
use Rattle.routes.proofs.Cuts.{one_split, split_part, split_last}
use Rattle.routes.proofs.CutPaths.{page_of}
use Rattle.routes.proofs.Bytes.{one_value}
use Rattle.routes.proofs.Verbs.{one_change}
use Rattle.routes.proofs.Answered.{one_says, same_value}

abbrev Text : Type 0
Text = List ℕ

-- the page, by what stands behind the name
abbrev page_by : Text → Page
page_by [] = page.Project
page_by (a ∷ []) = page.Project
page_by (a ∷ b ∷ []) = page.Project
page_by (a ∷ b ∷ c ∷ rest) = cond (b == 112) page.Pattern (cond (b == 99) page.Cp (cond (b == 118) page.Vertex (cond (b == 101) page.Edits (cond (b == 115) page.Sheet (cond (c == 97) page.Faults page.Fold)))))

-- the parts of a page of a project: the name alone, or with the sizes of a sheet
record IsSized (end name : Text) (parts : List Text) : Type 0 where
  pub width : Text
  pub height : Text
  pub wide : IsPart width
  pub ends : end ≡ codes "/sheet/" ++ (width ++ 47 ∷ height)
  pub are : parts ≡ name ∷ width ∷ height ∷ []

record IsOnPage (path : Text) (p : Page) (parts : List Text) : Type 0 where
  pub name : Text
  pub end : Text
  pub behind : Text
  pub whole : path ≡ project_path name end
  pub split : IsSplit 47 (name ++ end) name behind
  pub paged : page_by end ≡ p
  pub parted : ((p ≢ page.Sheet) × (parts ≡ name ∷ [])) ⊎ ((p ≡ page.Sheet) × IsSized end name parts)

abbrev IsPlace : Text → Page → List Text → Type 0
IsPlace path p parts = ((path ≡ codes "/projects") × (p ≡ page.Projects) × (parts ≡ [])) ⊎ IsOnPage path p parts

one_size : (end name : Text) (parts others : List Text) → IsSized end name parts → IsSized end name others → parts ≡ others
one_size end name parts others f g =
    let e : f.width ++ 47 ∷ f.height ≡ g.width ++ 47 ∷ g.height = append_cancel_left (codes "/sheet/") (f.width ++ 47 ∷ f.height) (g.width ++ 47 ∷ g.height) (sym f.ends ∙ g.ends) in
    let s = one_split 47 (f.width ++ 47 ∷ f.height) f.width f.height g.width g.height (split_part f.width f.height f.wide) (subst (λ t. IsSplit 47 t g.width g.height) (sym e) (split_part g.width g.height g.wide)) in
    f.are ∙ ap (λ w. name ∷ w ∷ f.height ∷ []) s.0 ∙ ap (λ h. name ∷ g.width ∷ h ∷ []) s.1 ∙ sym g.are

one_page : (path : Text) (p q : Page) (parts others : List Text) → IsOnPage path p parts → IsOnPage path q others → (p ≡ q) × (parts ≡ others)
one_page path p q parts others f g =
    let e : f.name ++ f.end ≡ g.name ++ g.end = append_cancel_left (codes "/projects/") (f.name ++ f.end) (g.name ++ g.end) (sym f.whole ∙ g.whole) in
    let s = one_split 47 (f.name ++ f.end) f.name f.behind g.name g.behind f.split (subst (λ t. IsSplit 47 t g.name g.behind) (sym e) g.split) in
    let ends : f.end ≡ g.end = append_cancel_left g.name f.end g.end (ap (λ n. n ++ f.end) (sym s.0) ∙ e) in
    let pages : p ≡ q = sym f.paged ∙ ap page_by ends ∙ g.paged in (
      pages,
      elim f.parted [
        | inl a ↦ elim g.parted [ inl b ↦ a.1 ∙ ap (λ n. n ∷ []) s.0 ∙ sym b.1 | inr b ↦ absurd (a.0 (pages ∙ b.0)) ]
        | inr a ↦ elim g.parted [
          | inl b ↦ absurd (b.0 (sym pages ∙ a.0))
          | inr b ↦ one_size g.end g.name parts others (subst (λ n. IsSized g.end n parts) s.0 (subst (λ t. IsSized t f.name parts) ends a.1)) b.1
        ]
      ],
    )

nothing_behind : (rest : Text) → codes "/projects" ≡ codes "/projects/" ++ rest → ⊥
nothing_behind rest e = absurd (let d = ap (drop 9) e in cc)

one_place : (path : Text) (p q : Page) (parts others : List Text) → IsPlace path p parts → IsPlace path q others → (p ≡ q) × (parts ≡ others)
one_place path p q parts others (inl f) (inl g) = (f.1 ∙ sym g.1, f.2 ∙ sym g.2)
one_place path p q parts others (inl f) (inr g) = absurd (nothing_behind (g.name ++ g.end) (sym f.0 ∙ g.whole))
one_place path p q parts others (inr f) (inl g) = absurd (nothing_behind (f.name ++ f.end) (sym g.0 ∙ f.whole))
one_place path p q parts others (inr f) (inr g) = one_page path p q parts others f g

on_page : (path name tail : Text) (p : Page) → path ≡ project_path name (47 ∷ tail) → All IsPart (name ∷ []) → page_by (47 ∷ tail) ≡ p → p ≢ page.Sheet → IsPlace path p (name ∷ [])
on_page path name tail p e parts paged n = inr (record {
  name = name;
  end = 47 ∷ tail;
  behind = tail;
  whole = e;
  split = split_part name tail (All-head IsPart name [] parts);
  paged = paged;
  parted = inl (n, refl);
})

place_of : (path : Text) (r : Route) → IsRoute path r → IsPlace path (page_of r) (parts_of r)
place_of path route.Projects r = inl (r.spelled, refl, refl)
place_of path (route.Project name) r = inr (record {
  name = name.now;
  end = [];
  behind = [];
  whole = r.spelled;
  split = subst (λ t. IsSplit 47 t name.now []) (sym (append-nil name.now)) (split_last name.now (All-head IsPart name.now [] r.parts));
  paged = refl;
  parted = inl (λ e. absurd cc, refl);
})
place_of path (route.Faults name) r = on_page path name.now (codes "faults") page.Faults r.spelled r.parts refl (λ e. absurd cc)
place_of path (route.Pattern name) r = on_page path name.now (codes "pattern") page.Pattern r.spelled r.parts refl (λ e. absurd cc)
place_of path (route.Cp name) r = on_page path name.now (codes "cp") page.Cp r.spelled r.parts refl (λ e. absurd cc)
place_of path (route.Fold name) r = on_page path name.now (codes "fold") page.Fold r.spelled r.parts refl (λ e. absurd cc)
place_of path (route.Vertex name) r = on_page path name.now (codes "vertex") page.Vertex r.spelled r.parts refl (λ e. absurd cc)
place_of path (route.Edits name) r = on_page path name.now (codes "edits") page.Edits r.spelled r.parts refl (λ e. absurd cc)
place_of path (route.Sheet name width height) r = inr (record {
  name = name.now;
  end = codes "/sheet/" ++ (width.now ++ 47 ∷ height.now);
  behind = codes "sheet/" ++ (width.now ++ 47 ∷ height.now);
  whole = r.spelled;
  split = split_part name.now (codes "sheet/" ++ (width.now ++ 47 ∷ height.now)) (All-head IsPart name.now (width.now ∷ height.now ∷ []) r.parts);
  paged = refl;
  parted = inr (
    refl,
    record {
      width = width.now;
      height = height.now;
      wide = All-head IsPart width.now (height.now ∷ []) (All-tail IsPart name.now (width.now ∷ height.now ∷ []) r.parts);
      ends = refl;
      are = refl;
    },
  );
})

-- what is asked for, by the page and its parts
abbrev AsksAt : Page → List Text → Method → Text → Text → Text → Type 0
AsksAt page.Projects parts m query body text = text ≡ codes "list"
AsksAt page.Project parts m query body text = AsksProject (get_or parts 0 []) m text
AsksAt page.Faults parts m query body text = text ≡ codes "faults " ++ get_or parts 0 []
AsksAt page.Pattern parts m query body text = text ≡ codes "pattern " ++ get_or parts 0 []
AsksAt page.Cp parts m query body text = text ≡ codes "cp " ++ get_or parts 0 []
AsksAt page.Fold parts m query body text = text ≡ codes "fold " ++ get_or parts 0 []
AsksAt page.Vertex parts m query body text = IsVertex (get_or parts 0 []) query text
AsksAt page.Edits parts m query body text = IsEdit (get_or parts 0 []) body text
AsksAt page.Sheet parts m query body text = text ≡ codes "new " ++ (get_or parts 0 [] ++ (32 ∷ (get_or parts 1 [] ++ (32 ∷ get_or parts 2 []))))

asks_at : (r : Route) (m : Method) (query body text : Text) → Asks r m query body text → AsksAt (page_of r) (parts_of r) m query body text
asks_at route.Projects m query body text a = a
asks_at (route.Project name) m query body text a = a
asks_at (route.Faults name) m query body text a = a
asks_at (route.Pattern name) m query body text a = a
asks_at (route.Cp name) m query body text a = a
asks_at (route.Fold name) m query body text a = a
asks_at (route.Vertex name) m query body text a = a
asks_at (route.Edits name) m query body text a = a
asks_at (route.Sheet name width height) m query body text a = a

one_project : (name : Text) (m : Method) (text other : Text) → AsksProject name m text → AsksProject name m other → text ≡ other
one_project name method.Get text other f g = f ∙ sym g
one_project name method.Put text other f g = f ∙ sym g
one_project name method.Post text other f g = absurd f

one_point : (query p q : Text) → IsQuery query p → IsQuery query q → p ≡ q
one_point query p q f g =
    let e : f.value ≡ g.value = append_cancel_left (codes "at=") f.value g.value (sym f.whole ∙ g.whole) in
    one_value f.value p q f.meant (subst (λ v. Unescapes v q) (sym e) g.meant)

one_vertex : (name query text other : Text) → IsVertex name query text → IsVertex name query other → text ≡ other
one_vertex name query text other f g =
    f.written ∙ ap (λ p. codes "vertex " ++ (name ++ (32 ∷ p))) (one_point query f.point g.point f.asked g.asked) ∙ sym g.written

one_edit_of : (name command : Text) (rev : Option ℕ) (text other : Text) → IsEditOf name command rev text → IsEditOf name command rev other → text ≡ other
one_edit_of name command rev text other f g =
    let one = one_change command f.behind g.behind f.verb g.verb f.change g.change in
    f.written ∙ ap (λ w. edit_text w name rev f.behind) one.0 ∙ ap (λ b. edit_text (verb_text g.verb) name rev b) one.1 ∙ sym g.written

one_edit_in : (name : Text) (value : Data) (text other : Text) → IsEditIn name value text → IsEditIn name value other → text ≡ other
one_edit_in name value text other f g =
    let one = one_says value f.command g.command f.rev g.rev f.says g.says in
    one_edit_of name g.command g.rev text other (subst (λ r. IsEditOf name g.command r text) one.1 (subst (λ c. IsEditOf name c f.rev text) one.0 f.edit)) g.edit

one_edit : (name body text other : Text) → IsEdit name body text → IsEdit name body other → text ≡ other
one_edit name body text other f g =
    one_edit_in name g.value text other (subst (λ v. IsEditIn name v text) (same_value f.value g.value (sym f.json ∙ g.json)) f.edit) g.edit

one_at : (p : Page) (parts : List Text) (m : Method) (query body text other : Text) → AsksAt p parts m query body text → AsksAt p parts m query body other → text ≡ other
one_at page.Projects parts m query body text other f g = f ∙ sym g
one_at page.Project parts m query body text other f g = one_project (get_or parts 0 []) m text other f g
one_at page.Faults parts m query body text other f g = f ∙ sym g
one_at page.Pattern parts m query body text other f g = f ∙ sym g
one_at page.Cp parts m query body text other f g = f ∙ sym g
one_at page.Fold parts m query body text other f g = f ∙ sym g
one_at page.Vertex parts m query body text other f g = one_vertex (get_or parts 0 []) query text other f g
one_at page.Edits parts m query body text other f g = one_edit (get_or parts 0 []) body text other f g
one_at page.Sheet parts m query body text other f g = f ∙ sym g

pub one_asked : (path query body text other : Text) (m : Method) (r s : Route) → IsRoute path r → IsRoute path s → Asks r m query body text → Asks s m query body other → text ≡ other
one_asked path query body text other m r s f g a b =
    let one = one_place path (page_of r) (page_of s) (parts_of r) (parts_of s) (place_of path r f) (place_of path s g) in
    one_at (page_of s) (parts_of s) m query body text other
    (subst (λ ps. AsksAt (page_of s) ps m query body text) one.1 (subst (λ p. AsksAt p (parts_of r) m query body text) one.0 (asks_at r m query body text a)))
    (asks_at s m query body other b)
