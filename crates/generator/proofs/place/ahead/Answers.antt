use Rattle.generator.proofs.Places.{part_held, place_held, same_ahead}
use Rattle.generator.proofs.place.ahead.Goals as goal

pub returns-clause-same : goal.returns-clause-same
returns-clause-same c =
    let n = c.from-n.result in
    same_ahead c.over_sixteen.result c.args.start c.args.length c.args.part _ _
    (place_held c.args.start c.args.length c.from.result n c.a.result c.args.part.a c.from.ensures c.from-n.ensures c.a.ensures.value c.requires.start c.requires.length c.requires.part.0)
    (part_held c.args.length n c.b.result c.args.part.b c.from-n.ensures c.b.ensures.value c.requires.length c.requires.part.1)
    c.over_sixteen.ensures.same
