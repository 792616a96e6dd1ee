-- What is under a name after a project was put under one.
use Rattle.std.proofs.Common.{◌≡◌, ◌≢◌, ℕ, Bool, true, false, List, [], ◌∷◌, refl, sym, ap, ◌∙◌}
use Rattle.std.specs.Prelude.{Option, Some, None, cond}
use Rattle.std.specs.declared.cmp.Ordering.{Ordering}
use Rattle.std.specs.declared.cmp.Ordering.TheVariants as o
use Rattle.std.specs.Ordering.{is_eq}
use Rattle.std.specs.Cmp.Lexicographic.{nat_list_cmp_total}
use Rattle.std.specs.FinMap.{nat_cmp-IsAntisymmetric, slice_cmp-IsAntisymmetric}
use Rattle.std.specs.BTreeMap.{is_at}
use Rattle.std.proofs.lemmas.Cmp.{tied_itself}
use Rattle.vocabulary.specs.Names.{name_cmp}
use Rattle.projects.specs.Projects.{ExactProject}
use Rattle.projects.specs.Tables.{Tables, project_at, with_project}

tied_names : (name other : List ℕ) → name_cmp name other ≡ o.Equal → name ≡ other
tied_names name other e = slice_cmp-IsAntisymmetric nat_cmp-IsAntisymmetric name other e

at_itself : (name : List ℕ) → is_at (name_cmp name) name ≡ true
at_itself name = ap is_eq (tied_itself nat_list_cmp_total name)

not_at : (other name : List ℕ) → other ≢ name → is_at (name_cmp other) name ≡ false
not_at other name n = by (name_cmp other name) refl
  where
    by : (r : Ordering) → name_cmp other name ≡ r → is_at (name_cmp other) name ≡ false
    by o.Less e = ap is_eq e
    by o.Equal e = absurd (n (tied_names other name e))
    by o.Greater e = ap is_eq e

first : (b : Bool) (project : ExactProject) (rest : Option ExactProject) → b ≡ true → cond b (Some project) rest ≡ Some project
first true project rest e = refl
first false project rest e = cc

others : (b : Bool) (project : ExactProject) (rest : Option ExactProject) → b ≡ false → cond b (Some project) rest ≡ rest
others true project rest e = cc
others false project rest e = refl

pub put_here : (tables : Tables) (name : List ℕ) (project : ExactProject) → project_at (with_project tables name project) name ≡ Some project
put_here [] name project = first (is_at (name_cmp name) name) project None (at_itself name)
put_here (e ∷ tables) name project = by (name_cmp name e.0) refl (put_here tables name project)
  where
    by : (r : Ordering) → name_cmp name e.0 ≡ r → project_at (with_project tables name project) name ≡ Some project → project_at (with_project (e ∷ tables) name project) name ≡ Some project
    by o.Less k rest = rw k (first (is_at (name_cmp name) name) project (project_at (e ∷ tables) name) (at_itself name))
    by o.Equal k rest = rw k (first (is_at (name_cmp name) e.0) project (project_at tables name) (ap is_eq k))
    by o.Greater k rest = rw k (others (is_at (name_cmp name) e.0) e.1 (project_at (with_project tables name project) name) (ap is_eq k) ∙ rest)

pub put_elsewhere : (tables : Tables) (name : List ℕ) (project : ExactProject) (other : List ℕ) → other ≢ name → project_at (with_project tables name project) other ≡ project_at tables other
put_elsewhere [] name project other n = others (is_at (name_cmp other) name) project None (not_at other name n)
put_elsewhere (e ∷ tables) name project other n = by (name_cmp name e.0) refl (put_elsewhere tables name project other n)
  where
    by : (r : Ordering) → name_cmp name e.0 ≡ r → project_at (with_project tables name project) other ≡ project_at tables other → project_at (with_project (e ∷ tables) name project) other ≡ project_at (e ∷ tables) other
    by o.Less k rest = rw k (others (is_at (name_cmp other) name) project (project_at (e ∷ tables) other) (not_at other name n))
    by o.Equal k rest =
        let apart : is_at (name_cmp other) e.0 ≡ false = not_at other e.0 (λ same. n (same ∙ sym (tied_names name e.0 k))) in
        rw k (others (is_at (name_cmp other) e.0) project (project_at tables other) apart ∙ sym (others (is_at (name_cmp other) e.0) e.1 (project_at tables other) apart))
    by o.Greater k rest = rw k (ap (λ (r : Option ExactProject). cond (is_at (name_cmp other) e.0) (Some e.1) r) rest)
