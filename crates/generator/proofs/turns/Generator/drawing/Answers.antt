use Rattle.generator.proofs.Draws.{drawn}
use Rattle.generator.proofs.turns.Generator.drawing.Goals as goal

pub returns-clause-drawing : goal.returns-clause-drawing
returns-clause-drawing c =
    drawn c.args.self.now c.below-c.new.self c.below-i.new.self c.below-j.new.self c.below-l.new.self
    c.below-c.result c.below-i.result c.below-j.result c.below-l.result c.below-k.result c.stroke.result
    c.below-c.ensures.state c.below-i.ensures.state c.below-j.ensures.state c.below-l.ensures.state
    c.below-c.ensures.value c.below-i.ensures.value c.below-j.ensures.value c.below-l.ensures.value c.below-k.ensures.value c.stroke.ensures
