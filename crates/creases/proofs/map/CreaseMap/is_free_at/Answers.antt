use Rattle.std.proofs.Common.{List, subst}
use Rattle.std.specs.Prelude.{◌↔◌, IsTrue}
use Rattle.sheet.specs.Pattern.{ExactCrease}
use Rattle.creases.specs.Creases.{IsFree}
use Rattle.creases.specs.Segments.{creases_of}
use Rattle.creases.proofs.Found.{free_among}
use Rattle.creases.proofs.map.CreaseMap.is_free_at.Goals as goal

pub returns-clause-free : goal.returns-clause-free
returns-clause-free c =
    let lines : List ExactCrease = c.self.inside.by_line in
    let all : List ExactCrease = creases_of c.self.inside.by_segment.entries in
    subst (λ (xs : List ExactCrease). IsTrue c.is_free.result ↔ IsFree xs c.args.seg.now) c.self.view_is (
      λ r. free_among lines all c.args.seg.now (λ f. (c.self.invariant.same f).1) (c.is_free.ensures.0 r),
      λ n. c.is_free.ensures.1 (free_among all lines c.args.seg.now (λ f. (c.self.invariant.same f).0) n),
    )
