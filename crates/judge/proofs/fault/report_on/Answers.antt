use Rattle.std.proofs.Common.{◌≡◌, ap, subst, sym, refl, ◌∙◌}
use Rattle.sheet.specs.Sheet.{ExactSheet, IsInside}
use Rattle.sheet.specs.Pattern.{ExactPattern}
use Rattle.judge.proofs.fault.report_on.Goals as goal

pub returns-then-not-is_inside-clause-report : goal.returns-then-not-is_inside-clause-report
returns-then-not-is_inside-clause-report g c =
    let sheet : c.sheet.result ≡ c.args.live.now.sheet = c.sheet.ensures.sheet ∙ ap (λ (p : ExactPattern). p.sheet) c.pattern.ensures.value in
    let no = c.if-not-is_inside.true in
    let e = c.is_inside.ensures in
    (c.in_ok-star.ensures.vertex.0 refl, λ i. let t = e.1 (subst (λ (s : ExactSheet). IsInside s c.args.at.now) (sym sheet) i) in absurd (cc))

pub returns-clause-report : goal.returns-clause-report
returns-clause-report g c =
    let sheet : c.sheet.result ≡ c.args.live.now.sheet = c.sheet.ensures.sheet ∙ ap (λ (p : ExactPattern). p.sheet) c.pattern.ensures.value in
    let yes = c.if-not-is_inside.false in
    record {
      inner = (c.in_ok-star.ensures.vertex.0 refl, subst (λ (s : ExactSheet). IsInside s c.args.at.now) sheet (c.is_inside.ensures.0 yes));
      is_star = c.in_ok-star.ensures.some;
      is_verdict = c.judge-verdict.ensures.verdict;
    }
