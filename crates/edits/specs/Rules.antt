-- How the rules of an edit are tested: one after another, and the first broken one is the answer.
use Rattle.std.specs.Prelude.{◌≡◌, ◌⊎◌, List, [], ◌∷◌, Result, Ok, Err}
use Rattle.edits.specs.declared.refusal.EditBad.{EditBad}

-- an answer that is no refusal: some value that is wanted
abbrev pub Gives : {A : Type 0} → (A → Type 0) → Result A EditBad → Type 0
Gives IsWanted (Ok a) = IsWanted a
Gives IsWanted (Err e) = ⊥

-- the refusal e where the rule is broken, and else what the rest answers
abbrev pub Unless : {A : Type 0} → Type 0 → EditBad → (Result A EditBad → Type 0) → Result A EditBad → Type 0
Unless IsBroken e Rest answer = (IsBroken × (answer ≡ Err e)) ⊎ ((¬ IsBroken) × Rest answer)

-- what the first refuses, and else what the next answers for the value that the first gives
abbrev pub Then : {A B : Type 0} → (Result A EditBad → Type 0) → (A → Result B EditBad → Type 0)
    → Result B EditBad → Type 0
Then {A = A} First Next (Ok b) = (a : A) × First (Ok a) × Next a (Ok b)
Then {A = A} First Next (Err e) = First (Err e) ⊎ ((a : A) × First (Ok a) × Next a (Err e))

-- the values for all elements of a list, in their order, or the refusal of the first that has one
abbrev pub ForEach : {A B : Type 0} → (A → Result B EditBad → Type 0) → List A → Result (List B) EditBad
    → Type 0
ForEach Step [] answer = answer ≡ Ok []
ForEach Step (a ∷ rest) answer = Then (Step a)
    (λ b. Then (ForEach Step rest) (λ others. Gives (λ all. all ≡ b ∷ others))) answer
