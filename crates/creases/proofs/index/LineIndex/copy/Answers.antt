use Rattle.std.proofs.Common.{sym, ap, subst, ◌∙◌}
use Rattle.std.specs.Map.{values_of}
use Rattle.std.proofs.lemmas.Map.Entries.{entries_from_clone}
use Rattle.creases.specs.Index.{IsIndex}
use Rattle.creases.proofs.index.LineIndex.copy.Goals as goal

pub invariant_of-result : goal.invariant_of-result
invariant_of-result c = subst IsIndex (sym (entries_from_clone _ _ (λ x y e. e) (λ x y e. e) c.self.inside.by_place.entries c.in_ok-clone.field-0.entries c.in_ok-clone.ensures.cases)) c.self.invariant

pub returns : goal.returns
returns c = ap values_of (entries_from_clone _ _ (λ x y e. e) (λ x y e. e) c.self.inside.by_place.entries c.in_ok-clone.field-0.entries c.in_ok-clone.ensures.cases) ∙ c.self.view_is
