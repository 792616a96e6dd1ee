-- What an outcome says.
use Rattle.std.specs.Prelude.{ℕ, List}
use Rattle.crimp.specs.declared.outcome.Run.{Run}
use Rattle.crimp.specs.declared.outcome.Outcome.{Outcome}
use Rattle.crimp.specs.declared.outcome.Outcome.TheVariants.{Folds, Stuck}

abbrev pub IsFolds : Outcome → Type 0
IsFolds (Folds order) = Unit {0}
IsFolds (Stuck run) = ⊥

-- of the order, where there is one
abbrev pub IfFolds : Outcome → (List ℕ → Type 0) → Type 0
IfFolds (Folds order) P = P order
IfFolds (Stuck run) P = Unit {0}

-- of the run, where there is one
abbrev pub IfStuck : Outcome → (Run → Type 0) → Type 0
IfStuck (Folds order) P = Unit {0}
IfStuck (Stuck run) P = P run
