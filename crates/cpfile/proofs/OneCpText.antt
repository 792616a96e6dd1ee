-- A subdivision has one CP text.
use Rattle.std.proofs.Common.{◌≡◌, ℕ, List, sym, ap, ◌∙◌}
use Rattle.subdivide.specs.Subdivision.{ExactSubdivision}
use Rattle.decimals.proofs.callers.Points.{points_are_one}
use Rattle.cpfile.specs.CpText.{IsCpText, cp_lines}

pub text_is_one : (s : ExactSubdivision) (text other : List ℕ)
    → IsCpText s text → IsCpText s other → text ≡ other
text_is_one s text other p q =
    let a = p.lines in
    let b = q.lines in
    sym a.2 ∙ ap (λ places. cp_lines places s.edges) (points_are_one _ _ s.vertices a.0 b.0 a.1 b.1) ∙ b.2
