-- Tables and the entries that they stand for.
use Rattle.std.proofs.Common.{◌≡◌, ℕ, Bool, true, false, List, [], ◌∷◌, refl, sym, ap, subst, ◌∙◌}
use Rattle.std.specs.Prelude.{Option, Some, None, IsSome, cond, All}
use Rattle.std.specs.declared.cmp.Ordering.{Ordering}
use Rattle.std.specs.declared.cmp.Ordering.TheVariants as o
use Rattle.std.specs.BTreeMap.{is_at}
use Rattle.std.specs.Map.{keys_of, values_of}
use Rattle.std.proofs.lemmas.List.Elements.{All-head, All-tail}
use Rattle.vocabulary.specs.Names.{name_cmp}
use Rattle.projects.specs.Projects.{ExactProject, IsProject}
use Rattle.projects.specs.Tables.{Tables, names_of, project_at, with_project}
use Rattle.projects.specs.Entries.{Entry, Entries, StandsFor, StandFor, entry_at, with_entry}
use Rattle.projects.proofs.Entries.{some_same}
use Rattle.projects.proofs.Standing.{entry_is_one, entry_exists}

pub names_stand : (tables : Tables) (entries : Entries) → StandFor tables entries → names_of tables ≡ keys_of entries
names_stand [] [] h = refl
names_stand [] (e ∷ es) h = absurd h
names_stand (t ∷ ts) [] h = absurd h
names_stand (t ∷ ts) (e ∷ es) h = (let first : t.0 ≡ e.0 = h.0 in let rest = names_stand ts es h.2 in λ i. first i ∷ rest i)

-- what is under a name in both
pub data StandAt : Option ExactProject → Option Entry → Type 0 where
  Neither : StandAt None None
  Both : (project : ExactProject) (entry : Entry) → StandsFor project entry → StandAt (Some project) (Some entry)

stand_first : (b c : Bool) (project : ExactProject) (entry : Entry) (found : Option ExactProject) (kept : Option Entry) → b ≡ c
    → StandsFor project entry → StandAt found kept → StandAt (cond b (Some project) found) (cond c (Some entry) kept)
stand_first true true project entry found kept e h k = StandAt.Both project entry h
stand_first true false project entry found kept e h k = cc
stand_first false true project entry found kept e h k = cc
stand_first false false project entry found kept e h k = k

pub stand_at : (tables : Tables) (entries : Entries) (name : List ℕ) → StandFor tables entries → StandAt (project_at tables name) (entry_at entries name)
stand_at [] [] name h = StandAt.Neither
stand_at [] (e ∷ es) name h = absurd h
stand_at (t ∷ ts) [] name h = absurd h
stand_at (t ∷ ts) (e ∷ es) name h =
    stand_first (is_at (name_cmp name) t.0) (is_at (name_cmp name) e.0) t.1 e.1 (project_at ts name) (entry_at es name)
    (ap (λ (n : List ℕ). is_at (name_cmp name) n) h.0) h.1 (stand_at ts es name h.2)

pub found_stands : (found : Option ExactProject) (kept : Option Entry) (project : ExactProject) → StandAt found kept → found ≡ Some project → (entry : Entry) × (kept ≡ Some entry) × StandsFor project entry
found_stands found kept project h e = by found kept h e
  where
    by : (found : Option ExactProject) (kept : Option Entry) → StandAt found kept → found ≡ Some project → (entry : Entry) × (kept ≡ Some entry) × StandsFor project entry
    by found kept StandAt.Neither e = cc
    by found kept (StandAt.Both p entry s) e = (let same : p ≡ project = cc in (entry, refl, subst (λ (x : ExactProject). StandsFor x entry) same s))

pub none_stands : (found : Option ExactProject) (kept : Option Entry) → StandAt found kept → found ≡ None → kept ≡ None
none_stands found kept StandAt.Neither e = refl
none_stands found kept (StandAt.Both p entry s) e = cc

pub some_stands : (found : Option ExactProject) (kept : Option Entry) → StandAt found kept → IsSome found → IsSome kept
some_stands found kept StandAt.Neither e = e
some_stands found kept (StandAt.Both p entry s) e = refl

pub put_stands : (tables : Tables) (entries : Entries) (name : List ℕ) (project : ExactProject) (entry : Entry)
    → StandFor tables entries → StandsFor project entry → StandFor (with_project tables name project) (with_entry entries name entry)
put_stands [] [] name project entry h s = (refl, s, tt)
put_stands [] (e ∷ es) name project entry h s = absurd h
put_stands (t ∷ ts) [] name project entry h s = absurd h
put_stands (t ∷ ts) (e ∷ es) name project entry h s =
    by (name_cmp name e.0) (ap (λ (n : List ℕ). name_cmp name n) h.0) refl (put_stands ts es name project entry h.2 s)
  where
    by : (r : Ordering) → name_cmp name t.0 ≡ name_cmp name e.0 → name_cmp name e.0 ≡ r → StandFor (with_project ts name project) (with_entry es name entry)
        → StandFor (with_project (t ∷ ts) name project) (with_entry (e ∷ es) name entry)
    by o.Less same k rest = rw (same ∙ k) (rw k (refl, s, h))
    by o.Equal same k rest = rw (same ∙ k) (rw k (h.0, s, h.2))
    by o.Greater same k rest = rw (same ∙ k) (rw k (h.0, h.1, rest))

pub tables_stand : (tables : Tables) → All IsProject (values_of tables) → (entries : Entries) × StandFor tables entries
tables_stand [] a = ([], tt)
tables_stand (t ∷ ts) a =
    let first : (entry : Entry) × StandsFor t.1 entry = entry_exists t.1 (All-head IsProject t.1 (values_of ts) a) in
    let rest : (entries : Entries) × StandFor ts entries = tables_stand ts (All-tail IsProject t.1 (values_of ts) a) in
    (record { 0 = t.0; 1 = first.0 } ∷ rest.0, (refl, first.1, rest.1))

pub entries_are_one : (tables : Tables) (entries others : Entries) → StandFor tables entries → StandFor tables others → entries ≡ others
entries_are_one [] [] [] h k = refl
entries_are_one [] [] (f ∷ fs) h k = absurd k
entries_are_one [] (e ∷ es) fs h k = absurd h
entries_are_one (t ∷ ts) [] fs h k = absurd h
entries_are_one (t ∷ ts) (e ∷ es) [] h k = absurd k
entries_are_one (t ∷ ts) (e ∷ es) (f ∷ fs) h k =
    let name : e.0 ≡ f.0 = sym h.0 ∙ k.0 in
    let entry : e.1 ≡ f.1 = entry_is_one t.1 e.1 f.1 h.1 k.1 in
    let rest : es ≡ fs = entries_are_one ts es fs h.2 k.2 in
    λ i. (name i, entry i) ∷ rest i

pub there_stands : (tables : Tables) (entries : Entries) (name : List ℕ) (project : ExactProject) (entry : Entry)
    → StandFor tables entries → project_at tables name ≡ Some project → entry_at entries name ≡ Some entry → StandsFor project entry
there_stands tables entries name project entry h p e =
    let found = found_stands (project_at tables name) (entry_at entries name) project (stand_at tables entries name h) p in
    let same : found.0 ≡ entry = some_same found.0 entry (sym found.1 ∙ e) in
    subst (λ (x : Entry). StandsFor project x) same found.2
