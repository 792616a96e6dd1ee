-- The entries of tables after a project is put in.
use Rattle.std.proofs.Common.{◌≡◌, ℕ, List, [], ◌∷◌, refl, sym, ap, subst, ◌∙◌, arith}
use Rattle.std.specs.Prelude.{Option, Some, None, Result, Ok, Err, OnErr, All, cond}
use Rattle.std.specs.declared.cmp.Ordering.{Ordering}
use Rattle.std.specs.declared.cmp.Ordering.TheVariants as o
use Rattle.std.specs.Ordering.{is_eq}
use Rattle.std.specs.Cmp.Lexicographic.{nat_list_cmp_total}
use Rattle.std.specs.BTreeMap.{is_at}
use Rattle.std.specs.Map.{set_value, keys_of}
use Rattle.std.specs.List.Sorted.{IsStrictlySortedBy}
use Rattle.std.proofs.lemmas.Map.{keys-set_value}
use Rattle.std.proofs.lemmas.Map.Keys.{sorted_tail}
use Rattle.std.proofs.lemmas.Map.Entries.{lookup_at_gap}
use Rattle.std.proofs.lemmas.Map.Views.{All-keys-insert_entry, All-values-insert_entry, All-values-set_value}
use Rattle.vocabulary.specs.Names.{IsName, name_cmp}
use Rattle.projects.specs.Projects.{ExactProject, IsProject}
use Rattle.projects.specs.Tables.{Tables, IsTables, project_at, with_project}
use Rattle.creases.proofs.callers.SegmentChanges.{none_or_some}

pub some_same : {X : Type 0} (x y : X) → Some x ≡ Some y → x ≡ y
some_same x y e = cc

-- where a name is before the first of the tables, nothing is under it
before_all : (e : List ℕ × ExactProject) (tables : Tables) (name : List ℕ) → IsStrictlySortedBy name_cmp (keys_of (e ∷ tables)) → name_cmp name e.0 ≡ o.Less → project_at (e ∷ tables) name ≡ None
before_all e tables name s l = lookup_at_gap nat_list_cmp_total name (e ∷ tables) 0 s (λ j f low is. absurd (omega (arith, low))) (λ f is. subst (λ (x : List ℕ × ExactProject). name_cmp name x.0 ≡ o.Less) (some_same e f is) l)

-- a project written over another one is put under its name
pub set_is_put : (tables : Tables) (name : List ℕ) (old new : ExactProject) → IsStrictlySortedBy name_cmp (keys_of tables) → project_at tables name ≡ Some old → set_value (is_at (name_cmp name)) tables new ≡ with_project tables name new
set_is_put [] name old new s there = cc
set_is_put (e ∷ tables) name old new s there = at (name_cmp name e.0) refl (λ later. set_is_put tables name old new (sorted_tail name_cmp e.0 (keys_of tables) s) later)
  where
    at : (r : Ordering) → name_cmp name e.0 ≡ r → (project_at tables name ≡ Some old → set_value (is_at (name_cmp name)) tables new ≡ with_project tables name new) → set_value (is_at (name_cmp name)) (e ∷ tables) new ≡ with_project (e ∷ tables) name new
    at o.Less k rest = absurd (none_or_some (project_at (e ∷ tables) name) old (before_all e tables name s k) there)
    at o.Equal k rest = rw k refl
    at o.Greater k rest = rw k (ap (λ (es : Tables). e ∷ es) (rest (sym (ap (λ r. cond (is_eq r) (Some e.1) (project_at tables name)) k) ∙ there)))

pub put_keeps : (tables : Tables) (name : List ℕ) (project : ExactProject) → IsTables tables → IsName name → IsProject project → IsStrictlySortedBy name_cmp (keys_of (with_project tables name project)) → IsTables (with_project tables name project)
put_keeps tables name project t n p s = record {
  names = All-keys-insert_entry name_cmp name project IsName tables t.names n;
  ascend = s;
  projects = All-values-insert_entry name_cmp name project IsProject tables t.projects p;
}

pub set_keeps : (tables : Tables) (name : List ℕ) (project : ExactProject) → IsTables tables → IsProject project → IsTables (set_value (is_at (name_cmp name)) tables project)
set_keeps tables name project t p = record {
  names = subst (All IsName) (sym (keys-set_value (is_at (name_cmp name)) tables project)) t.names;
  ascend = subst (IsStrictlySortedBy name_cmp) (sym (keys-set_value (is_at (name_cmp name)) tables project)) t.ascend;
  projects = All-values-set_value (is_at (name_cmp name)) IsProject tables project t.projects p;
}

pub on_err : {T E : Type 0} (r : Result T E) (P : Type 0) → P → OnErr r P
on_err (Ok x) P p = tt
on_err (Err e) P p = p
