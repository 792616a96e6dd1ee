use Rattle.std.proofs.Common.{length, subst, refl, arith}
use Rattle.std.proofs.lemmas.Option.{slice_get_read}
use Rattle.subdivide.specs.Fans.{IsWithRay}
use Rattle.subdivide.proofs.Noting.{AreEnds, noted, ray}
use Rattle.subdivide.proofs.stars.note.Goals as goal

pub direction-dir-requires : goal.direction-dir-requires
direction-dir-requires c =
    let j = c.requires.joined in
    j.segment (record { p = c.index-vertices-from.result; q = c.index-vertices-to.result })
    (slice_get_read c.args.vertices.now (length c.args.vertices.now) c.args.edge.now.from c.index-vertices-from.result refl (omega (arith, j.rising, j.within)) c.index-vertices-from.is)
    (slice_get_read c.args.vertices.now (length c.args.vertices.now) c.args.edge.now.to c.index-vertices-to.result refl j.within c.index-vertices-to.is)

pub returns : goal.returns
returns c =
    let j = c.requires.joined in
    let ends : AreEnds c.args.vertices.now c.args.edge.now c.args.mark c.direction-dir.result c.index-vertices-from.result c.index-vertices-to.result = record {
      joined = j;
      kind = c.requires.mark;
      from = slice_get_read c.args.vertices.now (length c.args.vertices.now) c.args.edge.now.from c.index-vertices-from.result refl (omega (arith, j.rising, j.within)) c.index-vertices-from.is;
      to = slice_get_read c.args.vertices.now (length c.args.vertices.now) c.args.edge.now.to c.index-vertices-to.result refl j.within c.index-vertices-to.is;
      leads = c.direction-dir.ensures.leads;
      small = c.direction-dir.ensures.small;
      only = c.direction-dir.ensures.only;
    } in
    noted c.args.vertices.now c.args.edge.now c.args.mark c.direction-dir.result c.index-vertices-from.result c.index-vertices-to.result c.args.fans.now.items
    c.index.result.now c.with.result c.index-2.result.now c.with-2.result ends c.requires.long c.index.ensures c.with.ensures c.index-2.ensures
    (subst (λ k. IsWithRay c.index-2.result.now (ray k c.args.mark) c.with-2.result) c.opposite-back.ensures c.with-2.ensures)
