-- What becomes of one crease of a draft that is cut along a segment that it overlaps.
use Rattle.std.proofs.Common.{◌≡◌, ◌≢◌, List, get_or, refl, sym, subst, ◌⊎◌, inl, inr}
use Rattle.std.specs.Prelude.{◌↔◌, All, Contains, Option, Some, None, IfSome, IsSomeAnd, Result, Ok, Err, OnOk}
use Rattle.std.proofs.lemmas.List.Elements.{All-contains, Contains-get_or}
use Rattle.exact.specs.Plane.{ExactPoint, ExactSegment, SamePoint, Before, IsSegment, Overlap}
use Rattle.sheet.specs.Pattern.{ExactCrease}
use Rattle.sheet.specs.declared.colour.Colour.{Colour}
use Rattle.geometry.proofs.PointOrder.{before_not_back}
use Rattle.plane.specs.Segments.{HasCanonicalEnds, IsHeld}
use Rattle.creases.proofs.callers.Overlaps.{ended}
use Rattle.creases.specs.Creases.{AreBut}
use Rattle.creases.specs.Standing.{AreStanding}
use Rattle.creases.proofs.callers.Standing.{one_or_apart}
use Rattle.edits.specs.Parts.{Covers, IsPart}
use Rattle.edits.specs.CreaseSet.{crease}
use Rattle.edits.specs.Pieces.{IsCut, IsFromTo, MayCome, IsPiece, Replaced}
use Rattle.edits.proofs.OneList.{crease_unique}
use Rattle.edits.proofs.drawings.Overlapping.{front_part, back_part, only_parts}
use Rattle.edits.proofs.drawings.StillApart.{overlap_wider, covers_itself}

abbrev pub segment : ExactPoint → ExactPoint → ExactSegment
segment a b = record { p = a; q = b }

-- by equal points
pub from_to_moved : (a b p q : ExactPoint) (o : Option ExactSegment) → a ≡ p → b ≡ q → IsFromTo a b o → IsFromTo p q o
from_to_moved a b p q o e f h = subst (λ x. IsFromTo x q o) e (subst (λ y. IsFromTo a y o) f h)

-- a crease came, where there is a segment for it
abbrev pub Put : List ExactCrease → Option ExactSegment → Colour → List ExactCrease → Type 0
Put old o c now = (f : ExactCrease) → Contains now f ↔ (Contains old f ⊎ IsSomeAnd o (λ u. f ≡ crease u c))

-- a crease of a draft can be held
pub held_of : (old : List ExactCrease) (t : ExactCrease) → AreStanding old → Contains old t → IsHeld t.seg
held_of old t d k = All-contains (λ (f : ExactCrease). IsHeld f.seg) old t d.held k

-- what is on t overlaps no other crease
pub others_apart : (old : List ExactCrease) (t f : ExactCrease) (u : ExactSegment) → AreStanding old → Contains old t → Covers t.seg u → Contains old f → f ≢ t → ¬ Overlap f.seg u
others_apart old t f u d k c at n = elim (one_or_apart old d.apart f t at k) [
  | inl e ↦ absurd (n e)
  | inr m ↦ (λ o. m (overlap_wider f.seg u f.seg t.seg (covers_itself f.seg) c o))
]

-- what is on t, which was taken out, overlaps no crease that is left
pub taken_apart : (old now : List ExactCrease) (t : ExactCrease) (u : ExactSegment) → AreStanding old → Contains old t → AreBut old t now → Covers t.seg u → All (λ f. ¬ Overlap f.seg u) now
taken_apart old now t u d k m c = λ i x lt.
    (let at = (m (get_or now i x)).0 (Contains-get_or now i x lt) in others_apart old t (get_or now i x) u d k c at.0 at.1)

-- the part in front of s, and the one behind it

in_front : (old : List ExactCrease) (t : ExactCrease) (s : ExactSegment) → IsCut old t s → Before t.seg.p s.p → IsPart (segment t.seg.p s.p) t.seg s
in_front old t s h b = front_part t.seg s (held_of old t h.standing h.there).segment h.held.segment h.overlap b

behind : (old : List ExactCrease) (t : ExactCrease) (s : ExactSegment) → IsCut old t s → Before s.q t.seg.q → IsPart (segment s.q t.seg.q) t.seg s
behind old t s h b = back_part t.seg s (held_of old t h.standing h.there).segment h.held.segment h.overlap b

pub front_segment : (old : List ExactCrease) (t : ExactCrease) (s : ExactSegment) → IsCut old t s → Before t.seg.p s.p → IsSegment (segment t.seg.p s.p)
front_segment old t s h b = (in_front old t s h b).part.segment

pub back_segment : (old : List ExactCrease) (t : ExactCrease) (s : ExactSegment) → IsCut old t s → Before s.q t.seg.q → IsSegment (segment s.q t.seg.q)
back_segment old t s h b = (behind old t s h b).part.segment

-- the part in front may come once t was taken out
pub front_may : (old now : List ExactCrease) (t : ExactCrease) (s : ExactSegment) (o : Option ExactSegment) → IsCut old t s → AreBut old t now → IsFromTo t.seg.p s.p o → IfSome o (MayCome now)
front_may old now t s None h m f = tt
front_may old now t s (Some u) h m f =
    let p = in_front old t s h f.0 in
    let k = held_of old t h.standing h.there in
    subst (MayCome now) (sym f.1) (record {
      held = record { segment = p.part.segment; from = k.from; to = h.held.from };
      apart = taken_apart old now t (segment t.seg.p s.p) h.standing h.there m p.part.within;
    })

-- the part behind s does not overlap the one in front
ends_apart : (s u : ExactSegment) (a b : ExactPoint) → IsSegment s → u ≡ segment a s.p → ¬ Overlap u (segment s.q b)
ends_apart s u a b l e = subst (λ z. ¬ Overlap z (segment s.q b)) (sym e) (ended (segment a s.p) (segment s.q b) (before_not_back s.p s.q l.0))

front_apart : (t : ExactCrease) (s : ExactSegment) (o : Option ExactSegment) (b : ExactPoint) (c : Colour) (f : ExactCrease) → IsSegment s → IsFromTo t.seg.p s.p o → IsSomeAnd o (λ u. f ≡ crease u c) → ¬ Overlap f.seg (segment s.q b)
front_apart t s None b c f l h e = absurd e
front_apart t s (Some u) b c f l h e = subst (λ (z : ExactCrease). ¬ Overlap z.seg (segment s.q b)) (sym e) (ends_apart s u t.seg.p b l h.1)

-- the part behind may come then too, after the one in front
pub back_may : (old taken now : List ExactCrease) (t : ExactCrease) (s : ExactSegment) (o r : Option ExactSegment) (c : Colour) → IsCut old t s → AreBut old t taken → IsFromTo t.seg.p s.p o → Put taken o c now → IsFromTo s.q t.seg.q r → IfSome r (MayCome now)
back_may old taken now t s o None c h m f p g = tt
back_may old taken now t s o (Some u) c h m f p g =
    let part = behind old t s h g.0 in
    let k = held_of old t h.standing h.there in
    subst (MayCome now) (sym g.1) (record {
      held = record { segment = part.part.segment; from = h.held.to; to = k.to };
      apart = λ i x lt. elim ((p (get_or now i x)).0 (Contains-get_or now i x lt)) [
        | inl at ↦ (let told = (m (get_or now i x)).0 at in others_apart old t (get_or now i x) (segment s.q t.seg.q) h.standing h.there part.part.within told.0 told.1)
        | inr e ↦ front_apart t s o t.seg.q c (get_or now i x) h.held.segment f e
      ];
    })

-- each of the two parts is a piece

front_piece : (old : List ExactCrease) (t : ExactCrease) (s : ExactSegment) (o : Option ExactSegment) (f : ExactCrease) → IsCut old t s → IsFromTo t.seg.p s.p o → IsSomeAnd o (λ u. f ≡ crease u t.colour) → IsPiece s t f
front_piece old t s None f h g e = absurd e
front_piece old t s (Some u) f h g e = subst (IsPiece s t) (sym e) (subst (λ z. IsPiece s t (crease z t.colour)) (sym g.1)
    (record { part = in_front old t s h g.0; canonical = ((held_of old t h.standing h.there).from, h.held.from); colour = refl }))

back_piece : (old : List ExactCrease) (t : ExactCrease) (s : ExactSegment) (o : Option ExactSegment) (f : ExactCrease) → IsCut old t s → IsFromTo s.q t.seg.q o → IsSomeAnd o (λ u. f ≡ crease u t.colour) → IsPiece s t f
back_piece old t s None f h g e = absurd e
back_piece old t s (Some u) f h g e = subst (IsPiece s t) (sym e) (subst (λ z. IsPiece s t (crease z t.colour)) (sym g.1)
    (record { part = behind old t s h g.0; canonical = (h.held.to, (held_of old t h.standing h.there).to); colour = refl }))

-- a crease with these ends is the one that came
pub told : (a b : ExactPoint) (c : Colour) (o : Option ExactSegment) (f : ExactCrease) → IsFromTo a b o → Before a b → HasCanonicalEnds (segment a b) → HasCanonicalEnds f.seg → SamePoint f.seg.p a → SamePoint f.seg.q b → f.colour ≡ c → IsSomeAnd o (λ u. f ≡ crease u c)
told a b c None f h l d k from to colour = absurd (h l)
told a b c (Some u) f h l d k from to colour = subst (λ z. f ≡ crease z c) (sym h.1) (crease_unique f (crease (segment a b) c) k d (record { from = from; to = to; colour = colour }))

-- the creases that come are the pieces of t
pub pieces_are : (old : List ExactCrease) (t : ExactCrease) (s : ExactSegment) (o r : Option ExactSegment) (f : ExactCrease) → IsCut old t s → IsFromTo t.seg.p s.p o → IsFromTo s.q t.seg.q r
    → (IsSomeAnd o (λ u. f ≡ crease u t.colour) ⊎ IsSomeAnd r (λ u. f ≡ crease u t.colour)) ↔ IsPiece s t f
pieces_are old t s o r f h g l = (
  λ e. elim e [ inl a ↦ front_piece old t s o f h g a | inr a ↦ back_piece old t s r f h l a ],
  λ p. elim (only_parts f.seg t.seg s k.segment h.held.segment h.overlap p.part) [
    | inl x ↦ inl (told t.seg.p s.p t.colour o f g x.0 (k.from, h.held.from) p.canonical x.1 x.2 p.colour)
    | inr x ↦ inr (told s.q t.seg.q t.colour r f l x.0 (h.held.to, k.to) p.canonical x.1 x.2 p.colour)
  ],
)
  where
    k : IsHeld t.seg
    k = held_of old t h.standing h.there

-- t was taken out, and the parts in front and behind came
pub cut_replaced : (old taken mid new : List ExactCrease) (t : ExactCrease) (s : ExactSegment) (o r : Option ExactSegment) → IsCut old t s → IsFromTo t.seg.p s.p o → IsFromTo s.q t.seg.q r
    → AreBut old t taken → Put taken o t.colour mid → Put mid r t.colour new → Replaced (IsPiece s t) old t new
cut_replaced old taken mid new t s o r h g l m p q = λ f. (
  λ at. elim ((q f).0 at) [
    | inl a ↦ elim ((p f).0 a) [ inl x ↦ inl ((m f).0 x) | inr e ↦ inr ((pieces_are old t s o r f h g l).0 (inl e)) ]
    | inr e ↦ inr ((pieces_are old t s o r f h g l).0 (inr e))
  ],
  λ is. elim is [
    | inl x ↦ (q f).1 (inl ((p f).1 (inl ((m f).1 x))))
    | inr piece ↦ elim ((pieces_are old t s o r f h g l).1 piece) [ inl e ↦ (q f).1 (inl ((p f).1 (inr e))) | inr e ↦ (q f).1 (inr e) ]
  ],
)

-- by equal points and colours

pub segment_moved : (a b p q : ExactPoint) → a ≡ p → b ≡ q → (Before p q → IsSegment (segment p q)) → Before a b → IsSegment (segment a b)
segment_moved a b p q e f h = subst (λ x. Before x b → IsSegment (segment x b)) (sym e) (subst (λ y. Before p y → IsSegment (segment p y)) (sym f) h)

pub put_moved : (old now : List ExactCrease) (o : Option ExactSegment) (c d : Colour) → c ≡ d → Put old o c now → Put old o d now
put_moved old now o c d e h = subst (λ x. Put old o x now) e h

-- what follows where a call succeeds

pub if_ok : {A E : Type 0} (r : Result A E) (P Q : Type 0) → (P → Q) → OnOk r P → OnOk r Q
if_ok (Ok a) P Q f h = f h
if_ok (Err e) P Q f h = tt

pub if_both_ok : {A E : Type 0} (r : Result A E) (P Q R : Type 0) → (P → Q → R) → OnOk r P → OnOk r Q → OnOk r R
if_both_ok (Ok a) P Q R f h k = f h k
if_both_ok (Err e) P Q R f h k = tt
