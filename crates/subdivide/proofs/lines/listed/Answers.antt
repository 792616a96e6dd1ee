use Rattle.std.proofs.Common.{rules, ap, ◌∙◌}
use Rattle.std.specs.Prelude.{take, drop}
use Rattle.std.proofs.lemmas.Iterator.{items_from_collect, YieldsList-from_slice, YieldsList-from_map}
use Rattle.std.proofs.lemmas.Iterator.Consumers.{YieldsList-from_chain, YieldsList-from_first, YieldsList-at}
use Rattle.exact.specs.Plane.{ExactSegment}
use Rattle.sheet.specs.Sheet.{sides}
use Rattle.sheet.specs.Pattern.{ExactCrease}
use Rattle.subdivide.specs.Subdivision.{Line, kind_of}
use Rattle.subdivide.specs.declared.edge.EdgeKind.TheVariants as kind
use Rattle.subdivide.proofs.lines.listed.Goals as goal

of_side : ExactSegment → Line
of_side s = record { seg = s; kind = kind.B }

of_crease : ExactCrease → Line
of_crease f = record { seg = f.seg; kind = kind_of f.colour }

pub returns-clause-lines : goal.returns-clause-lines
unfolding of_side of_crease
returns-clause-lines c = items_from_collect c.collect.result c.collect.ensures.ran
    (YieldsList-from_chain
    (YieldsList-at c.chain-2.ensures.first
    (YieldsList-from_chain
    (YieldsList-at c.chain.ensures.first (YieldsList-from_map _ of_side (YieldsList-at c.map-before.ensures.source (YieldsList-from_slice (take 3 (sides c.args.pattern.now.sheet)) (c.iter.ensures.rest ∙ c.split_at.ensures.front ∙ ap (take 3) (c.sheet_sides-sides.ensures ∙ ap sides c.sheet.ensures.sheet)))) c.map-before.ensures.closure (λ x r q k. search rules)))
    (YieldsList-at c.chain.ensures.second (YieldsList-from_map _ of_crease (YieldsList-at c.map-inner.ensures.source (YieldsList-from_first (λ x. x) (λ s. s) c.args.pattern.now.creases c.creases-creases.ensures.rest)) c.map-inner.ensures.closure (λ x r q k. search rules)))
    c.chain.ensures.first_done c.chain.ensures.second_done))
    (YieldsList-at c.chain-2.ensures.second (YieldsList-from_map _ of_side (YieldsList-at c.map-behind.ensures.source (YieldsList-from_slice (drop 3 (sides c.args.pattern.now.sheet)) (c.iter-2.ensures.rest ∙ c.split_at.ensures.back ∙ ap (drop 3) (c.sheet_sides-sides.ensures ∙ ap sides c.sheet.ensures.sheet)))) c.map-behind.ensures.closure (λ x r q k. search rules)))
    c.chain-2.ensures.first_done c.chain-2.ensures.second_done)
