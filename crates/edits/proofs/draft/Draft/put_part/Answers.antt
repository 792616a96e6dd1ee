use Rattle.std.proofs.Common.{◌≡◌, ◌⊎◌, List, sym, subst, inl, inr}
use Rattle.std.specs.Prelude.{◌↔◌, Contains, Option, Some, None}
use Rattle.exact.specs.Plane.{ExactSegment}
use Rattle.sheet.specs.Pattern.{ExactCrease}
use Rattle.sheet.specs.declared.colour.Colour.{Colour}
use Rattle.edits.specs.CreaseSet.{crease}
use Rattle.edits.proofs.drawings.CutPieces.{Put, if_ok}
use Rattle.edits.proofs.draft.Draft.put_part.Goals as goal

-- the crease that came is named last
turned : (old now : List ExactCrease) (u : ExactSegment) (c : Colour) (o : Option ExactSegment) → o ≡ Some u → ((f : ExactCrease) → Contains now f ↔ ((f ≡ crease u c) ⊎ Contains old f)) → Put old o c now
turned old now u c o e h = subst (λ x. Put old x c now) (sym e) (λ f. (
  λ at. elim ((h f).0 at) [ inl is ↦ inr is | inr k ↦ inl k ],
  λ is. (h f).1 (elim is [ inl k ↦ inr k | inr e ↦ inl e ]),
))

none_came : (old : List ExactCrease) (c : Colour) (o : Option ExactSegment) → o ≡ None → Put old o c old
none_came old c o e = subst (λ x. Put old x c old) (sym e) (λ f. (λ at. inl at, λ is. elim is [ inl k ↦ k | inr bad ↦ absurd bad ]))

pub returns-in-Some-clause-put : goal.returns-in-Some-clause-put
returns-in-Some-clause-put c = if_ok c.put_in.result _ (Put c.args.self.now.creases c.args.part c.args.colour c.put_in.new.self.creases) (turned c.args.self.now.creases c.put_in.new.self.creases c.in-Some.seg c.args.colour c.args.part c.in-Some.is) c.put_in.ensures.put

pub returns-in-None-clause-put : goal.returns-in-None-clause-put
returns-in-None-clause-put c = none_came c.args.self.now.creases c.args.colour c.args.part c.in-None.is
