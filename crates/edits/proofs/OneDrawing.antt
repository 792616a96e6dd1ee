-- Each edit but the rabbit ear, step by step, has one answer.
use Rattle.std.specs.Prelude.{Result, Ok}
use Rattle.std.proofs.Common.{◌≡◌, ℕ, ◌<◌, List, [], ◌∷◌, sym, subst, ◌∙◌, inl, inr}
use Rattle.exact.specs.Plane.{ExactPoint, ExactSegment, SamePoint, Before}
use Rattle.sheet.specs.Sheet.{ExactSheet}
use Rattle.sheet.specs.Pattern.{ExactCrease, ExactPattern}
use Rattle.sheet.specs.declared.colour.Colour.{Colour}
use Rattle.qroot2.specs.Dir.{IsMiddle}
use Rattle.geometry.proofs.PointOrder.{before_not_back, same_before, before_same}
use Rattle.geometry.proofs.RayPoints.{ray_ordered}
use Rattle.plane.proofs.callers.Imaged.{image_only}
use Rattle.plane.proofs.callers.Orders.{point_unique}
use Rattle.plane.proofs.callers.OneIncentre.{middle_one}
use Rattle.pattern.proofs.callers.SingleText.{seg_made}
use Rattle.edits.specs.Rules.{Gives, Then}
use Rattle.edits.specs.CreaseSet.{AreCreases}
use Rattle.edits.specs.Drawn.{IsLeft, StandsAfter, Counted, DrawnOne, DrawnInTurn}
use Rattle.edits.specs.Ends.{Joins, EndsOf}
use Rattle.edits.specs.Erase.{Erased}
use Rattle.edits.specs.Recolour.{StandsRecoloured, Recoloured}
use Rattle.edits.specs.Extend.{IsFirstMet, IsExtension, Extension}
use Rattle.edits.specs.Bisect.{Bisector}
use Rattle.edits.specs.Mirror.{AreConcerned, IsCreaseImage, ImageOf, ImagesOf, MirrorImages}
use Rattle.edits.specs.Lines.{LineOf, LinesOf}
use Rattle.edits.specs.declared.refusal.EditBad.{EditBad}
use Rattle.edits.specs.declared.refusal.EditBad.TheVariants as bad
use Rattle.edits.proofs.OneAnswer.{HasOneAnswer, gives_one, unless_one, then_one, for_each_one}
use Rattle.edits.proofs.OneList.{creases_are_one}

pub equal_one : {A : Type 0} (a : A) → HasOneAnswer (Gives (λ b. b ≡ a))
equal_one a = gives_one (λ b. b ≡ a) (λ b c p q. p ∙ sym q)

pub counted_one : (creases : List ExactCrease) → HasOneAnswer (Counted creases)
counted_one creases = unless_one _ _ _ (equal_one creases)

pub set_one : (Stands : ExactCrease → Type 0) → HasOneAnswer (Then (Gives (AreCreases Stands)) Counted)
set_one Stands = then_one (Gives (AreCreases Stands)) Counted (gives_one (AreCreases Stands) (creases_are_one Stands)) (λ after _. counted_one after)

pub drawn_one : (d : ExactCrease) (creases : List ExactCrease) → HasOneAnswer (DrawnOne d creases)
drawn_one d creases = set_one (StandsAfter creases d)

pub answer_is : {A : Type 0} (a : Result A EditBad) → HasOneAnswer (λ answer. answer ≡ a)
unfolding HasOneAnswer
answer_is a x y u v = u ∙ sym v

pub in_turn_one : (drawings creases : List ExactCrease) → HasOneAnswer (DrawnInTurn drawings creases)
in_turn_one [] creases = answer_is (Ok creases)
in_turn_one (d ∷ rest) creases = then_one (DrawnOne d creases) (λ after. DrawnInTurn rest after) (drawn_one d creases) (λ after _. in_turn_one rest after)

pub joins_one : (p q : ExactPoint) (a b : ExactSegment) → Joins a p q → Joins b p q → a ≡ b
joins_one p q a b h k = elim h.1 [
  | inl e ↦ elim k.1 [
    | inl f ↦ seg_made a b (e.0 ∙ sym f.0) (e.1 ∙ sym f.1)
    | inr f ↦ absurd (crossed a b h.0.0 k.0.0 (e.0 ∙ sym f.1) (e.1 ∙ sym f.0))
  ]
  | inr e ↦ elim k.1 [
    | inl f ↦ absurd (crossed a b h.0.0 k.0.0 (e.0 ∙ sym f.1) (e.1 ∙ sym f.0))
    | inr f ↦ seg_made a b (e.0 ∙ sym f.0) (e.1 ∙ sym f.1)
  ]
]
  where
    crossed : (a b : ExactSegment) → Before a.p a.q → Before b.p b.q → a.p ≡ b.q → a.q ≡ b.p → ⊥
    crossed a b x y e f = before_not_back b.p b.q y (subst (λ z. Before b.q z) f (subst (λ z. Before z a.q) e x))

pub ends_one : (sheet : ExactSheet) (p q : ExactPoint) → HasOneAnswer (EndsOf sheet p q)
ends_one sheet p q = unless_one _ _ _ (unless_one _ _ _ (unless_one _ _ _ (unless_one _ _ _ (gives_one (λ s. Joins s p q) (joins_one p q)))))

pub erased_one : (creases : List ExactCrease) (s : ExactSegment) → HasOneAnswer (Erased creases s)
erased_one creases s = unless_one _ _ _ (set_one (IsLeft creases s))

pub recoloured_one : (creases : List ExactCrease) (s : ExactSegment) (c : Colour) → HasOneAnswer (Recoloured creases s c)
recoloured_one creases s c = unless_one _ _ _ (set_one (StandsRecoloured creases s c))

-- the first point that a ray meets
first_one : (pattern : ExactPattern) (start : ExactPoint) (k : ℕ) (d e : ExactPoint) → IsFirstMet pattern start k d → IsFirstMet pattern start k e → SamePoint d e
first_one pattern start k d e f g = elim (ray_ordered start d e k f.ray g.ray) [
  | inl after ↦ absurd (g.first d f.ray after f.met)
  | inr other ↦ elim other [ inl same ↦ same | inr after ↦ absurd (f.first e g.ray after g.met) ]
]

pub extension_is_one : (pattern : ExactPattern) (start : ExactPoint) (k : ℕ) (a b : ExactSegment) → IsExtension pattern start k a → IsExtension pattern start k b → a ≡ b
extension_is_one pattern start k a b h l =
    let e : h.0 ≡ l.0 = point_unique h.0 l.0 h.2 l.2 (first_one pattern start k h.0 l.0 h.1 l.1) in
    joins_one start l.0 a b (subst (λ z. Joins a start z) e h.3) l.3

pub extension_one : (pattern : ExactPattern) (start : ExactPoint) (k : ℕ) → HasOneAnswer (Extension pattern start k)
extension_one pattern start k = unless_one _ _ _ (unless_one _ _ _ (unless_one _ _ _ (unless_one _ _ _ (gives_one (IsExtension pattern start k) (extension_is_one pattern start k)))))

pub bisector_one : (pattern : ExactPattern) (start : ExactPoint) (i j : ℕ) → HasOneAnswer (Bisector pattern start i j)
unfolding HasOneAnswer
bisector_one pattern start i j = unless_one _ _ _ (unless_one _ _ _ (unless_one _ _ _ (unless_one _ _ _ halved)))
  where
    halved : HasOneAnswer (λ answer. (k : ℕ) × IsMiddle i j k × Extension pattern start k answer)
    halved x y u v = extension_one pattern start v.0 x y (subst (λ z. Extension pattern start z x) (middle_one i j u.0 v.0 u.1 v.1) u.2) v.2

-- the image of a crease
pub image_is_one : (start : ExactPoint) (k : ℕ) → k < 16 → (f a b : ExactCrease) → IsCreaseImage start k f a → IsCreaseImage start k f b → a ≡ b
image_is_one start k small f a b h l = together (elim h.image.1 [
  | inl x ↦ elim l.image.1 [
    | inl y ↦ (image_only k start f.seg.p a.seg.p b.seg.p small x.0 y.0, image_only k start f.seg.q a.seg.q b.seg.q small x.1 y.1)
    | inr y ↦ absurd (crossed h.image.0.0 l.image.0.0 (image_only k start f.seg.p a.seg.p b.seg.q small x.0 y.0) (image_only k start f.seg.q a.seg.q b.seg.p small x.1 y.1))
  ]
  | inr x ↦ elim l.image.1 [
    | inl y ↦ absurd (crossed h.image.0.0 l.image.0.0 (image_only k start f.seg.q a.seg.p b.seg.q small x.1 y.1) (image_only k start f.seg.p a.seg.q b.seg.p small x.0 y.0))
    | inr y ↦ (image_only k start f.seg.q a.seg.p b.seg.p small x.1 y.1, image_only k start f.seg.p a.seg.q b.seg.q small x.0 y.0)
  ]
])
  where
    crossed : Before a.seg.p a.seg.q → Before b.seg.p b.seg.q → SamePoint a.seg.p b.seg.q → SamePoint a.seg.q b.seg.p → ⊥
    crossed x y e g = before_not_back b.seg.p b.seg.q y (before_same b.seg.q a.seg.q b.seg.p g (same_before a.seg.p b.seg.q a.seg.q e x))

    together : SamePoint a.seg.p b.seg.p × SamePoint a.seg.q b.seg.q → a ≡ b
    together s =
        let from = point_unique a.seg.p b.seg.p h.canonical.0 l.canonical.0 s.0 in
        let to = point_unique a.seg.q b.seg.q h.canonical.1 l.canonical.1 s.1 in
        let colour = h.colour ∙ sym l.colour in
        λ i. record { seg = record { p = from i; q = to i }; colour = colour i }

pub image_one : (sheet : ExactSheet) (start : ExactPoint) (k : ℕ) → k < 16 → (f : ExactCrease) → HasOneAnswer (ImageOf sheet start k f)
image_one sheet start k small f = unless_one _ _ _ (unless_one _ _ _ (unless_one _ _ _ (gives_one (IsCreaseImage start k f) (image_is_one start k small f))))

pub images_one : (pattern : ExactPattern) (start : ExactPoint) (k : ℕ) → k < 16 → HasOneAnswer (MirrorImages pattern start k)
images_one pattern start k small = unless_one _ _ _ (
    then_one (Gives (AreConcerned pattern.creases start k)) (ImagesOf pattern.sheet start k) (gives_one (AreConcerned pattern.creases start k) (creases_are_one _)) (λ concerned _.
    unless_one (concerned ≡ []) bad.NoCrease _ (for_each_one (ImageOf pattern.sheet start k) (image_one pattern.sheet start k small) concerned)))

line_one : (sheet : ExactSheet) (f : ExactCrease) → HasOneAnswer (LineOf sheet f)
line_one sheet f = unless_one _ _ _ (unless_one _ _ _ (equal_one f))

pub lines_one : (sheet : ExactSheet) (given : List ExactCrease) → HasOneAnswer (LinesOf sheet given)
lines_one sheet given = for_each_one (LineOf sheet) (line_one sheet) given
