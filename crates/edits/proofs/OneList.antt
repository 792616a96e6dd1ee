-- The creases that have a property are listed in one way.
use Rattle.std.proofs.Common.{◌≡◌, List, sym, subst}
use Rattle.std.specs.Prelude.{Contains}
use Rattle.std.proofs.lemmas.List.Elements.{All-contains}
use Rattle.sheet.specs.Pattern.{ExactCrease}
use Rattle.plane.specs.Segments.{HasCanonicalEnds}
use Rattle.plane.proofs.callers.Orders.{point_unique}
use Rattle.creases.proofs.callers.Members.{same_list}
use Rattle.edits.specs.CreaseSet.{SameCrease, AreCreases}

-- two creases in lowest terms that are one are equal
pub crease_unique : (f g : ExactCrease) → HasCanonicalEnds f.seg → HasCanonicalEnds g.seg → SameCrease f g → f ≡ g
crease_unique f g c d s = (let from = point_unique f.seg.p g.seg.p c.0 d.0 s.from in let to = point_unique f.seg.q g.seg.q c.1 d.1 s.to in let colour = s.colour in
    λ i. record { seg = record { p = from i; q = to i }; colour = colour i })

pub creases_are_one : (Stands : ExactCrease → Type 0) (xs ys : List ExactCrease) → AreCreases Stands xs → AreCreases Stands ys → xs ≡ ys
creases_are_one Stands xs ys a b = same_list xs ys a.ordered b.ordered (moved xs ys a b) (moved ys xs b a)
  where
    moved : (us vs : List ExactCrease) → AreCreases Stands us → AreCreases Stands vs → (f : ExactCrease) → Contains us f → Contains vs f
    moved us vs c d f at =
        let m = d.all f (All-contains Stands us f c.each at) in
        let canonical = All-contains (λ (g : ExactCrease). HasCanonicalEnds g.seg) us f c.canonical at in
        let other = All-contains (λ (g : ExactCrease). HasCanonicalEnds g.seg) vs m.0 d.canonical m.1 in
        subst (λ g. Contains vs g) (sym (crease_unique f m.0 canonical other m.2)) m.1
