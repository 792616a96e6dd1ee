use Rattle.std.proofs.Common.{◌∙◌, refl}
use Rattle.subdivide.specs.declared.strips.Strips.{Strips}
use Rattle.subdivide.proofs.Standing.{rows_more}
use Rattle.subdivide.proofs.bands.add_band.Goals as goal

pub returns : goal.returns
returns c =
    let new : Strips = record { bands = c.push.new.self; strips = c.add_strips.new.strips } in
    rows_more c.args.row _ c.args.strips.now new _ c.requires.before c.in_ok-add_strips.ensures.unused c.in_ok-add_strips.ensures.count
    c.in_ok-push.ensures.items (c.len-first.ensures ∙ c.args.strips.now.strips.ok.0) refl c.shift_of-shift.ensures
