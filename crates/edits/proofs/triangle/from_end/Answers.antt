use Rattle.std.proofs.Common.{ℕ, sym, subst}
use Rattle.exact.specs.Plane.{DirOf}
use Rattle.edits.proofs.triangle.from_end.Goals as goal
use Rattle.geometry.proofs.Leads.{opposite_dir}

pub returns-else-is_same_point-clause-from_greater : goal.returns-else-is_same_point-clause-from_greater
returns-else-is_same_point-clause-from_greater c e = subst (λ (z : ℕ). DirOf c.args.seg.now.q c.args.seg.now.p z) (sym c.opposite.ensures) (opposite_dir c.args.seg.now.p c.args.seg.now.q c.dir-dir.result c.dir-dir.ensures.small c.dir-dir.ensures.leads)
