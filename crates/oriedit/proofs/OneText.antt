-- One text is due for each input.
use Rattle.std.proofs.Common.{◌≡◌, ℕ, List, ap, subst, sym, ◌∙◌, inl, inr}
use Rattle.sheet.specs.Pattern.{ExactPattern, IsPattern}
use Rattle.pattern.proofs.callers.OneText.{one_pattern}
use Rattle.pattern.proofs.callers.OneRefusal.{not_refused, one_refusal}
use Rattle.subdivide.proofs.callers.OneAnswer.{one_answer}
use Rattle.commands.specs.ReplyText.{refused_text}
use Rattle.oriedit.specs.ReplyText.{bad_cause}
use Rattle.oriedit.specs.CutText.{CutText, PatternText, answer_text, answer_status}
use Rattle.oriedit.specs.declared.status.Status.{Status}

of_pattern : (pattern : ExactPattern) → IsPattern pattern → (s r : Status) (text other : List ℕ)
    → PatternText pattern s text → PatternText pattern r other → (s ≡ r) × (text ≡ other)
of_pattern pattern p s r text other a b =
    let e = one_answer pattern a.0 b.0 p a.1 b.1 in (a.2 ∙ ap answer_status e ∙ sym b.2, a.3 ∙ ap answer_text e ∙ sym b.3)

pub one_text : (bytes : List ℕ) (s r : Status) (text other : List ℕ) → CutText bytes s text
    → CutText bytes r other → (s ≡ r) × (text ≡ other)
one_text bytes s r text other (inl a) (inl b) =
    let e : a.0 ≡ b.0 = one_pattern a.0 b.0 a.1.0 b.1.0 (sym a.1.1 ∙ b.1.1) in
    of_pattern b.0 b.1.0 s r text other (subst (λ z. PatternText z s text) e a.2) b.2
one_text bytes s r text other (inl a) (inr b) = absurd (not_refused bytes a.0 b.0 a.1 b.1)
one_text bytes s r text other (inr a) (inl b) = absurd (not_refused bytes b.0 a.0 b.1 a.1)
one_text bytes s r text other (inr a) (inr b) =
    let e = one_refusal bytes a.0 b.0 a.1 b.1 in
    (a.2 ∙ sym b.2, a.3 ∙ ap (λ z. refused_text (bad_cause z)) e ∙ sym b.3)
