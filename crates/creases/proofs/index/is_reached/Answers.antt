use Rattle.std.proofs.Common.{◌≡◌, sym, ap, subst, ◌∙◌}
use Rattle.std.proofs.lemmas.Bool.{true≢false}
use Rattle.exact.specs.Plane.{ExactPoint, Before}
use Rattle.sheet.specs.Pattern.{ExactCrease}
use Rattle.creases.proofs.Equalities.{line_told}
use Rattle.creases.proofs.Reaching.{reached_within, one_line}
use Rattle.creases.proofs.callers.Overlaps.{passes}
use Rattle.creases.proofs.index.is_reached.Goals as goal

pub returns-then-eq : goal.returns-then-eq
returns-then-eq c =
    let t = c.args.crease.now.seg in
    let s = c.args.seg.now in
    let end : c.q.result ≡ t.q = c.q.ensures.value ∙ ap (λ (f : ExactCrease). f.seg.q) c.crease.view_is in
    let same = (line_told c.args.place.now.line c.args.end.now.line c.eq.result c.eq.ensures).0 c.if-eq.true in (
      λ r. reached_within t s c.args.place.now c.args.end.now c.requires.held c.requires.segment c.requires.place c.requires.end c.requires.before same
          (subst (λ (p : ExactPoint). Before p t.q) c.p.ensures.value (subst (λ (q : ExactPoint). Before c.p.result q) end (c.is_before.ensures.0 r))),
      λ v. c.is_before.ensures.1 (subst (λ (p : ExactPoint). Before p c.q.result) (sym c.p.ensures.value) (subst (λ (q : ExactPoint). Before s.p q) (sym end) (passes t s v).0)),
    )

pub returns-else-eq : goal.returns-else-eq
returns-else-eq c =
    let t = c.args.crease.now.seg in
    let s = c.args.seg.now in (
      λ r. absurd (true≢false (sym r ∙ c.if-eq.false)),
      λ v. (line_told c.args.place.now.line c.args.end.now.line c.eq.result c.eq.ensures).1 (one_line t s c.args.place.now c.args.end.now c.requires.held c.requires.segment c.requires.place c.requires.end v),
    )
