use Rattle.std.proofs.Common.{◌≡◌, subst, sym, ◌∙◌}
use Rattle.std.specs.Prelude.{Option, Some, None, IfSome, IsNone, List, Contains}
use Rattle.exact.specs.Plane.{ExactSegment}
use Rattle.sheet.specs.Pattern.{ExactCrease}
use Rattle.sheet.specs.declared.colour.Colour.{Colour}
use Rattle.creases.specs.Creases.{IsUncreased}
use Rattle.creases.proofs.callers.Lookups.{colour_found, colour_missing}
use Rattle.creases.proofs.map.CreaseMap.colour.Goals as goal

some : (r : Option Colour) (creases : List ExactCrease) (s : ExactSegment) → ((c : Colour) → r ≡ Some c → Contains creases (record { seg = s; colour = c })) → IfSome r (λ c. Contains creases (record { seg = s; colour = c }))
some None creases s f = tt
some (Some c) creases s f = f c cc

none : (r : Option Colour) (P : Type 0) → (r ≡ None → P) → IsNone r → P
none None P f h = f cc
none (Some c) P f h = cc

pub returns-clause-some : goal.returns-clause-some
returns-clause-some c = some c.copied.result c.args.self.now c.args.seg.now (λ k e. subst (λ (cs : List ExactCrease). Contains cs (record { seg = c.args.seg.now; colour = k })) c.self.view_is (colour_found c.self.inside.by_segment.entries c.args.seg.now k (sym (c.copied.ensures ∙ c.get.ensures.value) ∙ e)))

pub returns-clause-none : goal.returns-clause-none
returns-clause-none c = none c.copied.result (IsUncreased c.args.self.now c.args.seg.now) (λ e. subst (λ (cs : List ExactCrease). IsUncreased cs c.args.seg.now) c.self.view_is (colour_missing c.self.inside.by_segment.entries c.args.seg.now (sym (c.copied.ensures ∙ c.get.ensures.value) ∙ e)))
