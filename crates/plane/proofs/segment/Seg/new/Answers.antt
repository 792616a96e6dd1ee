use Rattle.plane.proofs.segment.Seg.new.Goals as goal

pub returns-clause-not_direction : goal.returns-clause-not_direction
returns-clause-not_direction c = (λ e. absurd (cc), λ h. absurd (let e = c.in_ok-seg.ensures.not_direction.1 h in cc))
