use Rattle.std.proofs.Common.{subst}
use Rattle.forms.specs.Marks.{AreMarks}
use Rattle.exact.specs.Plane.{IsPointCanonical}
use Rattle.subdivide.proofs.line.MarkedLine.new.Goals as goal

pub returns-clause-marked : goal.returns-clause-marked
returns-clause-marked c = record {
  along = record { small = c.dir.ensures.small; ordered = c.dir.ensures.segment.0; dir = c.dir.ensures.leads };
  held = (subst IsPointCanonical c.p.ensures.value c.p.ensures.canonical, subst IsPointCanonical c.q.ensures.value c.q.ensures.canonical);
  lesser = subst (λ p. AreMarks c.args.scale p c.of.result) c.p.ensures.value c.of.ensures;
  greater = subst (λ p. AreMarks c.args.scale p c.of-2.result) c.q.ensures.value c.of-2.ensures;
}
