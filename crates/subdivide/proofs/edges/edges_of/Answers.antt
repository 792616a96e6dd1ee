use Rattle.std.proofs.Common.{arith, refl, sym, subst, get_or, Equal, ◌≡◌, ◌-◌}
use Rattle.std.proofs.lemmas.Option.{slice_get-get_or}
use Rattle.subdivide.specs.declared.edge.EdgeKind.{EdgeKind}
use Rattle.subdivide.specs.declared.edge.EdgeKind.TheVariants as kind
use Rattle.subdivide.specs.contracts.edge.EdgeKindOrd.TheImpl
use Rattle.subdivide.proofs.Stepped.{AreStepsTo, none_stepped, next_stepped, all_stepped, kinded_before}
use Rattle.subdivide.proofs.edges.edges_of.Goals as goal

pub loop-i-init : goal.loop-i-init
loop-i-init c = subst (AreStepsTo c.args.lines.now c.args.cuts.now 1) (sym c.in_ok-edges.ensures.items) (none_stepped c.args.lines.now c.args.cuts.now)

same_kind : (k : EdgeKind) → (Rattle.subdivide.specs.contracts.edge.EdgeKindOrd.TheImpl.ghosts).cmp k k ≡ Equal
same_kind kind.B = refl
same_kind kind.M = refl
same_kind kind.V = refl
same_kind kind.A = refl

pub returns : goal.returns
returns c = all_stepped c.args.lines.now c.args.cuts.now c.loop-i.i c.loop-i.edges.items c.ascending.new.list.items (omega arith) c.loop-i.invariant
    (λ i j d p q. kinded_before (Rattle.subdivide.specs.contracts.edge.EdgeKindOrd.TheImpl.ghosts).cmp same_kind (get_or c.ascending.new.list.items i d) (get_or c.ascending.new.list.items j d) (c.ascending.ensures.ascends i j d p q))
    c.ascending.ensures.keeps c.ascending.ensures.adds_none

pub loop-i-preserved : goal.loop-i-preserved
loop-i-preserved c = next_stepped c.args.lines.now c.args.cuts.now c.loop-i.i _ _ c.loop-i.edges.items c.add_step.new.edges.items (omega arith)
    (slice_get-get_or c.args.cuts.now (c.loop-i.i - 1) _ (omega arith)) (slice_get-get_or c.args.cuts.now c.loop-i.i _ (omega arith))
    c.in_ok-add_step.ensures c.loop-i.invariant
