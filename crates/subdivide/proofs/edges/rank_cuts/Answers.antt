use Rattle.std.proofs.Common.{◌≡◌, ◌<◌, ◌++◌, arith, sym, ap, subst, ◌∙◌, length, get_or}
use Rattle.std.specs.Prelude.{take, drop, Contains}
use Rattle.std.proofs.Math.Seq.{take-append_seam}
use Rattle.std.proofs.lemmas.Option.{slice_get-get_or}
use Rattle.subdivide.specs.declared.found.Cut.{Cut}
use Rattle.subdivide.proofs.Stepped.{AreRankedTo, none_ranked, one_ranked, next_within, all_ranked}
use Rattle.subdivide.proofs.edges.rank_cuts.Goals as goal

pub loop-cut-init : goal.loop-cut-init
loop-cut-init c = subst (AreRankedTo c.args.ranks.now 0 c.args.cuts.now.items) (sym c.deref_mut-cut-items.ensures.value) (none_ranked c.args.ranks.now c.args.cuts.now.items)

pub loop-cut-preserved : goal.loop-cut-preserved
loop-cut-preserved c =
    let d : Cut = record { line = 0; point = 0 } in
    let h : c.loop-cut.cut-index < length c.loop-cut.cut-items = omega arith in
    one_ranked c.args.ranks.now c.loop-cut.cut-index _ d c.args.cuts.now.items c.loop-cut.cut-items h
    (slice_get-get_or c.args.ranks.now (get_or c.loop-cut.cut-items c.loop-cut.cut-index d).point 0
    (next_within c.args.ranks.now c.loop-cut.cut-index d c.args.cuts.now.items c.loop-cut.cut-items c.requires h c.loop-cut.invariant)) c.loop-cut.invariant

pub returns-clause-ranked : goal.returns-clause-ranked
returns-clause-ranked c =
    let held : take c.args.cuts.now.len (c.loop-cut.cut-items ++ drop (length c.loop-cut.cut-items) c.args.cuts.now.items) ≡ c.loop-cut.cut-items =
    ap (λ n. take n (c.loop-cut.cut-items ++ drop (length c.loop-cut.cut-items) c.args.cuts.now.items)) (sym (c.loop-cut.invariant.many ∙ sym c.args.cuts.now.ok.0))
    ∙ take-append_seam c.loop-cut.cut-items (drop (length c.loop-cut.cut-items) c.args.cuts.now.items) in
    all_ranked c.args.ranks.now c.loop-cut.cut-index c.args.cuts.now.items c.loop-cut.cut-items c.ascending.new.list.items
    (omega arith) c.loop-cut.invariant (λ x h. c.ascending.ensures.keeps x (subst (λ l. Contains l x) (sym held) h)) (λ x h. subst (λ l. Contains l x) held (c.ascending.ensures.adds_none x h))
