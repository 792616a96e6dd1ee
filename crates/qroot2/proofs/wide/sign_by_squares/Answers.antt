use Rattle.std.proofs.Common.{◌∙◌, sym}
use Rattle.std.specs.Int.{w64}
use Rattle.std.proofs.lemmas.Int.{to_z-of_z}
use Rattle.exact.specs.Order.{root_cmp}
use Rattle.qroot2.proofs.callers.Held.{both_same}
use Rattle.qroot2.proofs.callers.Signs.{minus_of, zero_of, plus_of}
use Rattle.qroot2.proofs.wide.sign_by_squares.Goals as goal

pub returns-in-Less : goal.returns-in-Less
returns-in-Less c = minus_of c.args.a c.args.b (sym (c.by_squares.ensures ∙ both_same root_cmp _ _ _ _ (to_z-of_z w64 c.args.a c.ranges.a) (to_z-of_z w64 c.args.b c.ranges.b)) ∙ c.in-Less.is)

pub returns-in-Equal : goal.returns-in-Equal
returns-in-Equal c = zero_of c.args.a c.args.b (sym (c.by_squares.ensures ∙ both_same root_cmp _ _ _ _ (to_z-of_z w64 c.args.a c.ranges.a) (to_z-of_z w64 c.args.b c.ranges.b)) ∙ c.in-Equal.is)

pub returns-in-Greater : goal.returns-in-Greater
returns-in-Greater c = plus_of c.args.a c.args.b (sym (c.by_squares.ensures ∙ both_same root_cmp _ _ _ _ (to_z-of_z w64 c.args.a c.ranges.a) (to_z-of_z w64 c.args.b c.ranges.b)) ∙ c.in-Greater.is)
