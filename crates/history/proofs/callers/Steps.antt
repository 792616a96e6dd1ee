-- Undoing and redoing lead to one history each.
use Rattle.std.proofs.Common.{◌≡◌, List, [], ◌∷◌, ◌++◌, sym, ◌∙◌, ap}
use Rattle.std.proofs.lemmas.List.{same_from_push}
use Rattle.pattern.specs.declared.delta.Delta.{Delta}
use Rattle.history.specs.Histories.{ExactHistory, IsBack}

same_parts : (history other : ExactHistory) → history.past ≡ other.past → history.future ≡ other.future → history ≡ other
same_parts history other p f =
    let of : List Delta → List Delta → ExactHistory = λ (past future : List Delta). record { past = past; future = future } in
    ap (λ (past : List Delta). of past history.future) p ∙ ap (λ (future : List Delta). of other.past future) f

pub same_front : (deltas others : List Delta) (delta other : Delta) → delta ∷ deltas ≡ other ∷ others → (delta ≡ other) × (deltas ≡ others)
same_front deltas others delta other e = (cc, cc)

pub one_earlier : (later earlier other : ExactHistory) → IsBack later earlier → IsBack later other → earlier ≡ other
one_earlier later earlier other h k =
    let same : (earlier.past ≡ other.past) × (h.delta ≡ k.delta) = same_from_push earlier.past other.past h.delta k.delta (sym h.past ∙ k.past) in
    same_parts earlier other same.0 (h.future ∙ ap (λ (d : Delta). d ∷ later.future) same.1 ∙ sym k.future)

pub one_later : (later other earlier : ExactHistory) → IsBack later earlier → IsBack other earlier → later ≡ other
one_later later other earlier h k =
    let same : (h.delta ≡ k.delta) × (later.future ≡ other.future) = same_front later.future other.future h.delta k.delta (sym h.future ∙ k.future) in
    same_parts later other (h.past ∙ ap (λ (d : Delta). earlier.past ++ d ∷ []) same.0 ∙ sym k.past) same.1
