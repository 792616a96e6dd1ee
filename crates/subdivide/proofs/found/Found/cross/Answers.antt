use Rattle.std.proofs.Common.{refl, ◌∙◌}
use Rattle.subdivide.proofs.Noted.{cuts_both_at, cuts_none}
use Rattle.subdivide.proofs.found.Found.cross.Goals as goal

pub returns-then-self : goal.returns-then-self
returns-then-self c = cuts_none c.args.first c.args.second c.args.at c.args.self.now c.if-self.true

pub returns : goal.returns
returns c = cuts_both_at c.args.first c.args.second c.in_ok-point.point c.args.at c.args.self.now _ c.push-2.new.self.items refl refl c.in_ok-push.ensures.items c.in_ok-push-2.ensures.items c.in_ok-push-3.ensures.items
    (c.in_ok-point.ensures ∙ c.len.ensures ∙ c.args.self.now.points.ok.0)
