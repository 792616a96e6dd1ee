use Rattle.std.proofs.Common.{rules, ◌≡◌, ◌∙◌, ap, sym, subst, Option, Some, None, ℕ, List}
use Rattle.std.specs.Prelude.{IfSome, IsNone, MatchOption}
use Rattle.matchit.specs.Seek.{first}
use Rattle.matchit.specs.Level.{IsText}
use Rattle.matchit.specs.Router.{RouteOf}
use Rattle.routes.specs.Table.{table}
use Rattle.routes.specs.Forms.{HasForm}
use Rattle.routes.specs.declared.page.Page.{Page}
use Rattle.routes.proofs.Walk.{all_text}
use Rattle.routes.proofs.Forms.{has_form, is_found}
use Rattle.routes.proofs.router.page_in.Goals as goal

form_by : (o : Option (RouteOf Page)) (path : List ℕ) (r : Option Page) → first table path ≡ o → IsText path → MatchOption o (r ≡ None) (λ route. r ≡ Some route.value) → IfSome r (λ page. HasForm page path)
form_by None path r e text h = subst (λ x. IfSome x (λ page. HasForm page path)) (sym h) tt
form_by (Some route) path r e text h = subst (λ x. IfSome x (λ page. HasForm page path)) (sym h) (has_form path route text e)

none_by : (o : Option (RouteOf Page)) (path : List ℕ) (r : Option Page) → first table path ≡ o → IsText path → MatchOption o (r ≡ None) (λ route. r ≡ Some route.value) → IsNone r → (page : Page) → HasForm page path → ⊥
none_by None path r e text h n page f = let g = is_found page path text f in absurd (let k = sym e ∙ g.1 in cc)
none_by (Some route) path r e text h n page f = absurd (let g : IsNone (Some route.value) = subst IsNone h n in cc)

pub returns-clause-form : goal.returns-clause-form
returns-clause-form c =
    form_by (first c.args.router.now c.args.path.now) c.args.path.now c.seen.result (ap (λ t. first t c.args.path.now) (sym c.requires)) (all_text c.args.path.now (λ i. search (rules, c.type_inv.path i))) c.seen.ensures

pub returns-clause-none : goal.returns-clause-none
returns-clause-none c =
    none_by (first c.args.router.now c.args.path.now) c.args.path.now c.seen.result (ap (λ t. first t c.args.path.now) (sym c.requires)) (all_text c.args.path.now (λ i. search (rules, c.type_inv.path i))) c.seen.ensures
