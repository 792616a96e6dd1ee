-- A subdivision has one FOLD text.
use Rattle.std.proofs.Common.{◌≡◌, ℕ, List, sym, ap, ◌∙◌}
use Rattle.subdivide.specs.Subdivision.{ExactSubdivision}
use Rattle.decimals.proofs.callers.Points.{points_are_one}
use Rattle.foldfile.specs.FoldText.{IsFoldText, fold_text}

pub text_is_one : (s : ExactSubdivision) (text other : List ℕ)
    → IsFoldText s text → IsFoldText s other → text ≡ other
text_is_one s text other p q =
    let a = p.whole in
    let b = q.whole in
    sym a.2 ∙ ap (fold_text s) (points_are_one _ _ s.vertices a.0 b.0 a.1 b.1) ∙ b.2
