use Rattle.std.proofs.Common.{◌≡◌, ◌≢◌, Bool, true, false, refl, sym, subst, ap, ◌∙◌, rules}
use Rattle.std.specs.Prelude.{IsTrue, ◌↔◌}
use Rattle.std.specs.declared.cmp.Ordering.{Ordering}
use Rattle.std.specs.Ordering.{is_eq}
use denote.Enum.Bare.{sameb, same_true}
use Rattle.exact.specs.Plane.{ExactSegment}
use Rattle.plane.specs.Order.{segment_cmp}
use Rattle.plane.proofs.callers.Orders.{segment_exact}
use Rattle.sheet.specs.Pattern.{ExactCrease}
use Rattle.sheet.specs.contracts.Colour.{the_type}
use Rattle.std.specs.declared.cmp.Ordering.TheVariants as o
use Rattle.creases.proofs.callers.Members.{crease_same, tied_segments, colour_itself}
use Rattle.pattern.proofs.callers.Told.{answers_not}
use Rattle.pattern.proofs.fits.is_one.Goals as goal
use Rattle.creases.proofs.callers.Lookups.{tied}

one_segment : (s t : ExactSegment) (r : Ordering) (b : Bool) → r ≡ segment_cmp s t → b ≡ is_eq r → b ≡ true → s ≡ t
one_segment s t r b e f g = segment_exact s t (sym e ∙ tied r (sym f ∙ g))

other_segment : (s t : ExactSegment) (r : Ordering) (b : Bool) → r ≡ segment_cmp s t → b ≡ is_eq r → b ≡ false → s ≢ t
other_segment s t r b e f g h = (let k = sym g ∙ f ∙ ap is_eq (e ∙ tied_segments s t h) in cc)

told : (f g : ExactCrease) (r : Bool) → f.seg ≡ g.seg → r ≡ sameb the_type f.colour g.colour → IsTrue r ↔ (f ≡ g)
told f g r s q = (
  λ t. crease_same f g s (same_true the_type (search rules) f.colour g.colour (sym q ∙ t)),
  λ e. q ∙ subst (λ x. sameb the_type f.colour x ≡ true) (ap (λ (h : ExactCrease). h.colour) e) (colour_itself f.colour),
)

views : (f g x y : ExactCrease) (r : Bool) → f ≡ x → g ≡ y → IsTrue r ↔ (f ≡ g) → IsTrue r ↔ (x ≡ y)
views f g x y r e h i = (λ t. sym e ∙ i.0 t ∙ h, λ q. i.1 (e ∙ q ∙ sym h))

pub returns-then-is_eq : goal.returns-then-is_eq
returns-then-is_eq c =
    let f : ExactCrease = record { seg = c.first.inside.seg; colour = c.first.inside.colour } in
    let g : ExactCrease = record { seg = c.second.inside.seg; colour = c.second.inside.colour } in
    views f g c.args.first.now c.args.second.now c.eq.result c.first.view_is c.second.view_is (told f g c.eq.result (one_segment f.seg g.seg c.cmp.result c.is_eq.result c.cmp.ensures c.is_eq.ensures c.if-is_eq.true) c.eq.ensures)

pub returns-else-is_eq : goal.returns-else-is_eq
returns-else-is_eq c =
    let f : ExactCrease = record { seg = c.first.inside.seg; colour = c.first.inside.colour } in
    let g : ExactCrease = record { seg = c.second.inside.seg; colour = c.second.inside.colour } in
    views f g c.args.first.now c.args.second.now c.is_eq.result c.first.view_is c.second.view_is (answers_not c.is_eq.result (f ≡ g) c.if-is_eq.false (λ e. other_segment f.seg g.seg c.cmp.result c.is_eq.result c.cmp.ensures c.is_eq.ensures c.if-is_eq.false (ap (λ (h : ExactCrease). h.seg) e)))
