use Rattle.std.proofs.Common.{ℕ, ◌+◌, ◌%◌, length, refl, sym, ap, subst, ◌∙◌, arith}
use Rattle.std.proofs.lemmas.Option.{slice_get_read}
use Rattle.subdivide.specs.declared.line.MarkedLine.{MarkedLine}
use Rattle.subdivide.specs.declared.strips.Strips.{Strips}
use Rattle.subdivide.proofs.Standing.{AreRowsSeen, rows_seen_more, rows_seen_still, near_all}
use Rattle.subdivide.proofs.strips.Strips.reach.Goals as goal
use Rattle.subdivide.proofs.strips.Strips.reach.Goals.{then-row-own+in_ok-reach_band, else-row-own}

pub loop-row-preserved : goal.loop-row-preserved
loop-row-preserved c =
    let n : ℕ = c.args.line in
    let own : ℕ = c.row_of-own.result in
    let next : ℕ = c.loop-row.row + 1 in
    elim c.if-row-own.branch [
      | then-row-own+in_ok-reach_band w ↦ subst (λ (z : Strips). AreRowsSeen c.args.lines.now n own next z c.if-row-own.near.items) (sym w.self-is)
          (subst (λ z. AreRowsSeen c.args.lines.now n own next w.reach_band.new.self z.items) (sym w.near-is)
          (rows_seen_more c.args.lines.now n own c.loop-row.row c.loop-row.self w.reach_band.new.self c.loop-row.near.items w.reach_band.new.near.items c.requires.swept c.loop-row.invariant w.in_ok-reach_band.ensures))
      | else-row-own w ↦ subst (λ (z : Strips). AreRowsSeen c.args.lines.now n own next z c.if-row-own.near.items) (sym w.self-is)
          (subst (λ z. AreRowsSeen c.args.lines.now n own next c.loop-row.self z.items) (sym w.near-is)
          (rows_seen_still c.args.lines.now n own c.loop-row.row c.loop-row.self c.loop-row.near.items c.loop-row.invariant (omega arith)))
    ]

pub returns-clause-near : goal.returns-clause-near
returns-clause-near c =
    near_all c.args.lines.now c.args.line c.index-lines-line.result c.loop-row.near.items c.requires.swept.marked
    (slice_get_read c.args.lines.now (length c.args.lines.now) c.args.line c.index-lines-line.result refl c.requires.within c.index-lines-line.is)
    c.loop-row.invariant.below (λ k h d. c.loop-row.invariant.seen k (omega arith) (λ e. d (e ∙ c.row_of-own.ensures.value ∙ ap (λ (l : MarkedLine). l.dir % 8) (sym c.index-lines-line.is))))
