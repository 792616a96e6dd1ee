-- What becomes of one crease of a draft that is recoloured along a segment that it overlaps.
use Rattle.std.proofs.Common.{◌≡◌, ◌≢◌, List, get_or, refl, sym, subst, inl, inr}
use Rattle.std.specs.Prelude.{Contains, Option, Some, None, IfSome, IsSomeAnd}
use Rattle.std.proofs.lemmas.List.Elements.{Contains-get_or}
use Rattle.exact.specs.Plane.{ExactPoint, ExactSegment, IsSegment, Overlap, IsPointCanonical}
use Rattle.sheet.specs.Pattern.{ExactCrease}
use Rattle.sheet.specs.declared.colour.Colour.{Colour}
use Rattle.geometry.specs.Meeting.{IsLater, IsEarlier}
use Rattle.plane.specs.Segments.{HasCanonicalEnds, IsHeld}
use Rattle.creases.proofs.callers.Overlaps.{overlap_itself}
use Rattle.creases.proofs.callers.Standing.{one_or_apart}
use Rattle.edits.specs.Parts.{Covers, IsCommonPart}
use Rattle.edits.specs.CreaseSet.{crease}
use Rattle.edits.specs.Pieces.{IsCut, IsFromTo, MayCome, IsPiece, IsRecoloured, Replaced}
use Rattle.edits.proofs.drawings.StillApart.{overlap_wider, covers_itself}
use Rattle.edits.proofs.drawings.StillPatterns.{common_part, common_one}
use Rattle.edits.proofs.drawings.CutPieces.{Put, segment, held_of, others_apart, told}

-- a crease of the new colour stays
pub kept_replaced : (old : List ExactCrease) (t : ExactCrease) (s : ExactSegment) (c : Colour) → IsCut old t s → t.colour ≡ c → Replaced (IsRecoloured s c t) old t old
kept_replaced old t s c h same = λ f. (
  λ at. elim (one_or_apart old h.standing.apart f t at h.there) [
    | inl e ↦ inr (inl (same, e))
    | inr n ↦ inl (at, λ e. n (subst (λ (z : ExactCrease). Overlap z.seg t.seg) (sym e) (overlap_itself t.seg (held_of old t h.standing h.there).segment)))
  ],
  λ is. elim is [
    | inl x ↦ x.0
    | inr y ↦ elim y [ inl x ↦ subst (Contains old) (sym x.1) h.there | inr x ↦ absurd (x.0 same) ]
  ],
)

-- the ends of the common part
pub record AreShared (t s : ExactSegment) (lo hi : ExactPoint) : Type 0 where
  pub from : IsLater t.p s.p lo
  pub to : IsEarlier t.q s.q hi

common : (old : List ExactCrease) (t : ExactCrease) (s : ExactSegment) (lo hi : ExactPoint) → IsCut old t s → AreShared t.seg s lo hi → IsCommonPart (segment lo hi) t.seg s
common old t s lo hi h e = common_part t.seg s (segment lo hi) (held_of old t h.standing h.there).segment h.held.segment h.overlap e.from e.to

shared_canonical : (old : List ExactCrease) (t : ExactCrease) (s : ExactSegment) (lo hi : ExactPoint) → IsCut old t s → AreShared t.seg s lo hi → HasCanonicalEnds (segment lo hi)
shared_canonical old t s lo hi h e = (
  elim e.from.one [ inl a ↦ subst IsPointCanonical (sym a) k.from | inr a ↦ subst IsPointCanonical (sym a) h.held.from ],
  elim e.to.one [ inl a ↦ subst IsPointCanonical (sym a) k.to | inr a ↦ subst IsPointCanonical (sym a) h.held.to ],
)
  where
    k : IsHeld t.seg
    k = held_of old t h.standing h.there

pub shared_segment : (old : List ExactCrease) (t : ExactCrease) (s : ExactSegment) (lo hi : ExactPoint) → IsCut old t s → AreShared t.seg s lo hi → IsSegment (segment lo hi)
shared_segment old t s lo hi h e = (common old t s lo hi h e).segment

pub on_first : (u t s : ExactSegment) → IsCommonPart u t s → Covers t u
on_first u t s h = λ r on. ((h.points r).1 on).0

on_second : (u t s : ExactSegment) → IsCommonPart u t s → Covers s u
on_second u t s h = λ r on. ((h.points r).1 on).1

pub common_may : (old mid : List ExactCrease) (t : ExactCrease) (s : ExactSegment) (lo hi : ExactPoint) (o : Option ExactSegment) → IsCut old t s → AreShared t.seg s lo hi → Replaced (IsPiece s t) old t mid → IsFromTo lo hi o → IfSome o (MayCome mid)
common_may old mid t s lo hi None h e m g = tt
common_may old mid t s lo hi (Some u) h e m g =
    let part = common old t s lo hi h e in
    let ends = shared_canonical old t s lo hi h e in
    let v : ExactSegment = segment lo hi in
    subst (MayCome mid) (sym g.1) (record {
      held = record { segment = part.segment; from = ends.0; to = ends.1 };
      apart = λ i x lt. elim ((m (get_or mid i x)).0 (Contains-get_or mid i x lt)) [
        | inl at ↦ others_apart old t (get_or mid i x) v h.standing h.there (on_first v t.seg s part) at.0 at.1
        | inr piece ↦ (λ y. piece.part.part.outside (overlap_wider (get_or mid i x).seg v (get_or mid i x).seg s (covers_itself (get_or mid i x).seg) (on_second v t.seg s part) y))
      ];
    })

-- the common part came in the new colour
common_came : (old : List ExactCrease) (t : ExactCrease) (s : ExactSegment) (lo hi : ExactPoint) (c : Colour) (o : Option ExactSegment) (f : ExactCrease) → IsCut old t s → AreShared t.seg s lo hi → IsFromTo lo hi o
    → IsSomeAnd o (λ u. f ≡ crease u c) → IsCommonPart f.seg t.seg s × (f.colour ≡ c) × HasCanonicalEnds f.seg
common_came old t s lo hi c None f h e g is = absurd is
common_came old t s lo hi c (Some u) f h e g is = subst (λ (z : ExactCrease). IsCommonPart z.seg t.seg s × (z.colour ≡ c) × HasCanonicalEnds z.seg) (sym is)
    (subst (λ z. IsCommonPart z t.seg s × (c ≡ c) × HasCanonicalEnds z) (sym g.1) (common old t s lo hi h e, refl, shared_canonical old t s lo hi h e))

common_is : (old : List ExactCrease) (t : ExactCrease) (s : ExactSegment) (lo hi : ExactPoint) (c : Colour) (o : Option ExactSegment) (f : ExactCrease) → IsCut old t s → AreShared t.seg s lo hi → IsFromTo lo hi o
    → IsCommonPart f.seg t.seg s → f.colour ≡ c → HasCanonicalEnds f.seg → IsSomeAnd o (λ u. f ≡ crease u c)
common_is old t s lo hi c o f h e g part colour canonical =
    let own = common old t s lo hi h e in
    let ends = common_one f.seg (segment lo hi) t.seg s part own in
    told lo hi c o f g own.segment.0 (shared_canonical old t s lo hi h e) canonical ends.0 ends.1 colour

-- of another colour, the parts outside s stay, and the common part comes in the new colour
pub painted_replaced : (old mid new : List ExactCrease) (t : ExactCrease) (s : ExactSegment) (lo hi : ExactPoint) (c : Colour) (o : Option ExactSegment) → IsCut old t s → t.colour ≢ c → AreShared t.seg s lo hi → IsFromTo lo hi o
    → Replaced (IsPiece s t) old t mid → Put mid o c new → Replaced (IsRecoloured s c t) old t new
painted_replaced old mid new t s lo hi c o h n e g m q = λ f. (
  λ at. elim ((q f).0 at) [
    | inl a ↦ elim ((m f).0 a) [ inl x ↦ inl x | inr piece ↦ inr (inr (n, inl (piece.part, piece.colour), piece.canonical)) ]
    | inr is ↦ (let x = common_came old t s lo hi c o f h e g is in inr (inr (n, inr (x.0, x.1), x.2)))
  ],
  λ is. elim is [
    | inl x ↦ (q f).1 (inl ((m f).1 (inl x)))
    | inr y ↦ elim y [
      | inl x ↦ absurd (n x.0)
      | inr x ↦ elim x.1 [
        | inl part ↦ (q f).1 (inl ((m f).1 (inr (record { part = part.0; canonical = x.2; colour = part.1 }))))
        | inr part ↦ (q f).1 (inr (common_is old t s lo hi c o f h e g part.0 part.1 x.2))
      ]
    ]
  ],
)
