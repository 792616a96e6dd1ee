-- What came of attaching a keeper.
use Rattle.std.proofs.Common.{◌≡◌, ℕ, ◌≤◌, List, inr, refl}
use Rattle.std.specs.Prelude.{Option, Some}
use Rattle.projects.specs.Tables.{Tables}
use Rattle.projects.specs.Keeping.{Tells}
use Rattle.oriedit.specs.Script.{works, KeepsTelling}
use Rattle.oriedit.specs.Serving.{DoorSide}
use Rattle.oriedit.specs.Outside.{Outside, outside}
use Rattle.oriedit.specs.Attaching.{IsTold, Attached}
use Rattle.oriedit.specs.declared.status.Status.{Status}

-- tables that are as before, where the store is clean at a later time too
pub still_same : (old new : Option Tables) (C D : Type 0) → (D → C) → Tells old C new (λ before after. after ≡ before)
    → KeepsTelling old D new (λ before after. after ≡ before)
still_same old new C D f t = λ before e c.
    let a = t before e (f c) in
    (a.0, record { told = a.1.told; tables = λ x. a.1.new_tables; holds = a.1.holds })

-- the keeper was told a path
pub is_told : (left held : Option (List ℕ)) (takes puts : ℕ) (t u : Option Tables) (f g : ℕ) (p q r : Option (List ℕ)) (door : DoorSide) (C D : Type 0)
    → (D → C) → Tells t C u (λ before after. after ≡ before) → f ≤ g → q ≡ r
    → IsTold (outside left (works held t f) takes puts p door) D (outside left (works held u g) takes puts q door) r
is_told left held takes puts t u f g p q r door C D later told l e = record {
  source = record { left = refl; takes = refl };
  sink = record { held = refl; puts = refl };
  told = still_same t u C D later told;
  faults = l;
  path_is = e;
  door = refl;
}

module _ (left held : Option (List ℕ)) (takes puts : ℕ) (t u : Option Tables) (f g : ℕ) (p q : Option (List ℕ)) (path : List ℕ) (door : DoorSide)
    (Then : Outside → Outside → Status → Type 0) where
  -- it was attached, and then the command did its work
  pub then_done : (C D : Type 0) (new : Outside) (s : Status) → (D → C) → Tells t C u (λ before after. after ≡ before)
      → f ≤ g → q ≡ Some path → Then (outside left (works held u g) takes puts q door) new s
      → Attached (Some path) Then (outside left (works held t f) takes puts p door) D new s
  then_done C D new s later told l e h =
      inr (outside left (works held u g) takes puts q door, is_told left held takes puts t u f g p q (Some path) door C D later told l e, h)
