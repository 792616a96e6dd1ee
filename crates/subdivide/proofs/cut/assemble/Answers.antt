use Rattle.std.proofs.Common.{◌≡◌, ℕ, ◌<◌, ◌≤◌, length, sym, ap, subst, arith, ◌∙◌}
use Rattle.std.specs.Prelude.{All}
use Rattle.subdivide.specs.Subdivision.{Answer, CutOf, vertex_limit}
use Rattle.subdivide.specs.Ranks.{AreCutsRanked}
use Rattle.subdivide.specs.Edges.{AreStepsOf}
use Rattle.subdivide.specs.declared.found.Cut.{Cut}
use Rattle.subdivide.proofs.SweptAnswer.{points_within, lines_within, ranked_many, ranked_known, ranked_cut}
use Rattle.subdivide.proofs.cut.assemble.Goals as goal
use Rattle.subdivide.proofs.cut.assemble.Goals.{In_ok-edges}

pub returns-then-len-gt-VERTEX_LIMIT : goal.returns-then-len-gt-VERTEX_LIMIT
returns-then-len-gt-VERTEX_LIMIT c = λ pattern a. ranked_many pattern c.args.lines.now c.args.points.now c.in_ok-vertices.vertices.items c.args.cuts.items c.in_ok-vertices.ranks.items a c.in_ok-vertices.ensures
    (above c.len.result (length c.in_ok-vertices.vertices.items) (c.len.ensures ∙ c.in_ok-vertices.vertices.ok.0) (omega (arith, c.if-len-gt-VERTEX_LIMIT.true)))
  where
    above : (n m : ℕ) → n ≡ m → 100000 < n → vertex_limit < m
    above n m e h = omega (arith, e, h)

pub rank_cuts-requires : goal.rank_cuts-requires
rank_cuts-requires c = points_within c.args.lines.now c.args.points.now c.args.cuts.items (length c.deref.result.now) c.requires.1.sound (ap length c.deref.ensures.value ∙ c.in_ok-vertices.ensures.many)

pub edges_of-requires : goal.edges_of-requires
edges_of-requires c = subst (All (λ (d : Cut). d.line < length c.args.lines.now)) (sym c.deref-2.ensures.value)
    (lines_within c.args.lines.now c.args.points.now c.args.cuts.items c.rank_cuts.new.cuts.items c.in_ok-vertices.ranks.items c.requires.1.sound
    (subst (λ z. AreCutsRanked z c.args.cuts.items c.rank_cuts.new.cuts.items) c.deref.ensures.value c.rank_cuts.ensures.ranked))

ranked : (c : In_ok-edges) → AreCutsRanked c.in_ok-vertices.ranks.items c.args.cuts.items c.rank_cuts.new.cuts.items
ranked c = subst (λ z. AreCutsRanked z c.args.cuts.items c.rank_cuts.new.cuts.items) c.deref.ensures.value c.rank_cuts.ensures.ranked

steps : (c : In_ok-edges) → AreStepsOf c.args.lines.now c.rank_cuts.new.cuts.items c.in_ok-edges.edges.items
steps c = subst (λ z. AreStepsOf c.args.lines.now z c.in_ok-edges.edges.items) c.deref-2.ensures.value c.in_ok-edges.ensures

pub new-requires : goal.new-requires
new-requires c = ranked_known c.requires.0 c.args.lines.now c.args.points.now c.in_ok-vertices.vertices.items c.args.cuts.items c.rank_cuts.new.cuts.items c.in_ok-vertices.ranks.items c.in_ok-edges.edges.items
    c.requires.1 c.in_ok-vertices.ensures (ranked c) c.rank_cuts.ensures.ascends (steps c)

pub returns : goal.returns
returns c = λ pattern a. subst (λ z. CutOf pattern (Answer.Cut z.vertices z.edges)) (sym c.new.ensures)
    (ranked_cut pattern c.args.lines.now c.args.points.now c.in_ok-vertices.vertices.items c.args.cuts.items c.rank_cuts.new.cuts.items c.in_ok-vertices.ranks.items c.in_ok-edges.edges.items
    a c.in_ok-vertices.ensures
    (subst (λ z. AreCutsRanked z c.args.cuts.items c.rank_cuts.new.cuts.items) c.deref.ensures.value c.rank_cuts.ensures.ranked) c.rank_cuts.ensures.ascends
    (subst (λ z. AreStepsOf c.args.lines.now z c.in_ok-edges.edges.items) c.deref-2.ensures.value c.in_ok-edges.ensures)
    (within c.len.result (length c.in_ok-vertices.vertices.items) (c.len.ensures ∙ c.in_ok-vertices.vertices.ok.0) (omega (arith, c.if-len-gt-VERTEX_LIMIT.false))))
  where
    within : (n m : ℕ) → n ≡ m → n ≤ 100000 → m ≤ vertex_limit
    within n m e h = omega (arith, e, h)
