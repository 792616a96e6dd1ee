use Rattle.std.proofs.Common.{◌∙◌, ◌++◌, List, ap, sym}
use Rattle.std.proofs.lemmas.List.{append-nil}
use Rattle.sheet.specs.Pattern.{ExactCrease}
use Rattle.pattern.proofs.callers.Fronts.{moved}
use Rattle.edits.proofs.draft.listed.Goals as goal

pub loop-crease-init : goal.loop-crease-init
loop-crease-init c = rw c.new-list.ensures.items (c.into_iter-crease-iterator.ensures.into_iter_gives ∙ c.creases-crease-items.ensures.rest)

pub loop-crease-preserved : goal.loop-crease-preserved
loop-crease-preserved c = ap (λ (xs : List ExactCrease). xs ++ c.next.new.self) c.in_ok-push.ensures.items ∙ moved c.args.map.now c.loop-crease.list.items c.loop-crease.crease-iterator c.next.new.self c.in-Some.crease c.loop-crease.invariant c.in-Some.ensures.steps

pub returns : goal.returns
returns c = sym (append-nil c.loop-crease.list.items) ∙ ap (λ (xs : List ExactCrease). c.loop-crease.list.items ++ xs) (sym c.in-None.ensures.steps.0) ∙ c.loop-crease.invariant
