use Rattle.std.proofs.Common.{sym, subst}
use Rattle.std.proofs.lemmas.Result.{on_ok_weaker}
use Rattle.subdivide.specs.Found.{IsNoted}
use Rattle.subdivide.proofs.Noted.{noted_ends, cuts_first, cuts_second}
use Rattle.subdivide.proofs.found.Found.note.Goals as goal

pub returns-in-Ends : goal.returns-in-Ends
returns-in-Ends c = subst (λ t. IsNoted c.args.first c.args.second t c.args.self.now c.args.self.now) (sym c.in-Ends.is) (noted_ends c.args.first c.args.second c.args.self.now)

pub returns-in_ok-point-in-CutsFirst : goal.returns-in_ok-point-in-CutsFirst
returns-in_ok-point-in-CutsFirst c = on_ok_weaker c.cut.result (λ w. subst (λ t. IsNoted c.args.first c.args.second t c.args.self.now c.cut.new.self) (sym c.in-CutsFirst.is) (cuts_first c.args.first c.args.second c.in-CutsFirst.end c.in_ok-point-in-CutsFirst.point c.args.self.now c.cut.new.self c.in_ok-point-in-CutsFirst.ensures w)) c.cut.ensures

pub returns-in_ok-point-in-CutsSecond : goal.returns-in_ok-point-in-CutsSecond
returns-in_ok-point-in-CutsSecond c = on_ok_weaker c.cut-in-CutsSecond.result (λ w. subst (λ t. IsNoted c.args.first c.args.second t c.args.self.now c.cut-in-CutsSecond.new.self) (sym c.in-CutsSecond.is) (cuts_second c.args.first c.args.second c.in-CutsSecond.end c.in_ok-point-in-CutsSecond.point c.args.self.now c.cut-in-CutsSecond.new.self c.in_ok-point-in-CutsSecond.ensures w)) c.cut-in-CutsSecond.ensures

pub returns-in-CutsBoth : goal.returns-in-CutsBoth
returns-in-CutsBoth c = on_ok_weaker c.cross.result (λ w. subst (λ t. IsNoted c.args.first c.args.second t c.args.self.now c.cross.new.self) (sym c.in-CutsBoth.is) w) c.cross.ensures

pub returns-in-OutOfRange : goal.returns-in-OutOfRange
returns-in-OutOfRange c = subst (λ t. IsNoted c.args.first c.args.second t c.args.self.now c.refuse.new.self) (sym c.in-OutOfRange.is) c.refuse.ensures
