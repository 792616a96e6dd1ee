use Rattle.std.proofs.Common.{◌∙◌, ◌+◌, ap, subst}
use Rattle.exact.specs.Number.{ExactNumber, Same, add, mul}
use Rattle.exact.specs.Plane.{ExactPoint, vector}
use Rattle.edits.specs.declared.edit.Edit.TheVariants as edit
use Rattle.generator.specs.Turns.{sixteenths}
use Rattle.generator.proofs.Draws.{numbered}
use Rattle.generator.proofs.turns.stroke.Goals as goal

pub returns : goal.returns
returns c =
    let from : ExactPoint = record { x = c.at.result; y = c.at-2.result } in
    let to : ExactPoint = record { x = c.ahead.result; y = c.ahead-2.result } in
    let k = numbered c.new.result c.unwrap.result c.args.k c.unwrap.ensures c.new.ensures.some in (
      from,
      to,
      record { same = record { x = c.at.ensures.same; y = c.at-2.ensures.same }; canonical = (c.at.ensures.canonical, c.at-2.ensures.canonical) },
      record {
        same = record {
          x = subst (λ (v : ExactNumber). Same c.ahead.result (add (sixteenths c.args.i) (mul (sixteenths (c.args.l + 1)) v))) (c.vector-x.ensures.x ∙ ap (λ n. (vector n).x) k) c.ahead.ensures.same;
          y = subst (λ (v : ExactNumber). Same c.ahead-2.result (add (sixteenths c.args.j) (mul (sixteenths (c.args.l + 1)) v))) (c.vector-x.ensures.y ∙ ap (λ n. (vector n).y) k) c.ahead-2.ensures.same;
        };
        canonical = (c.ahead.ensures.canonical, c.ahead-2.ensures.canonical);
      },
      ap (λ m. edit.Draw m from to) c.colour.ensures,
    )
