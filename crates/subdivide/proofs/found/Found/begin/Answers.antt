use Rattle.std.proofs.Common.{◌≡◌, ℕ, ◌*◌, ◌/◌, ◌++◌, ◌∷◌, [], refl, ap, ◌∙◌, arith}
use Rattle.subdivide.specs.declared.found.Cut.{Cut}
use Rattle.subdivide.proofs.Noted.{begun}
use Rattle.subdivide.proofs.found.Found.begin.Goals as goal

half : (n k : ℕ) → k ≡ 2 * n → k / 2 ≡ n
half n k e = omega (arith, e)

pub returns : goal.returns
returns c = λ lines n scale e m h. begun lines n scale c.in_ok-number.number c.args.line.now c.args.self.now _ e m h
    (c.in_ok-number.ensures ∙ half n c.len.result (c.len.ensures ∙ c.args.self.now.points.ok.0 ∙ h.many))
    (c.in_ok-push-4.ensures.items ∙ ap (λ z. z ++ c.q.result ∷ []) c.in_ok-push-3.ensures.items ∙ ap (λ z. (c.args.self.now.points.items ++ z ∷ []) ++ c.q.result ∷ []) c.p.ensures.value ∙ ap (λ z. (c.args.self.now.points.items ++ c.args.line.now.seg.p ∷ []) ++ z ∷ []) c.q.ensures.value)
    (c.in_ok-push-2.ensures.items ∙ ap (λ z. z ++ (let d : Cut = record { line = c.in_ok-number.number; point = c.in_ok-to.to } in d) ∷ []) c.in_ok-push.ensures.items
    ∙ ap (λ z. (c.args.self.now.cuts.items ++ (let d : Cut = record { line = c.in_ok-number.number; point = z } in d) ∷ []) ++ (let d : Cut = record { line = c.in_ok-number.number; point = c.in_ok-to.to } in d) ∷ []) c.in_ok-from.ensures
    ∙ ap (λ z. (c.args.self.now.cuts.items ++ (let d : Cut = record { line = c.in_ok-number.number; point = 2 * c.in_ok-number.number } in d) ∷ []) ++ (let d : Cut = record { line = c.in_ok-number.number; point = z } in d) ∷ []) c.in_ok-to.ensures)
    refl refl
