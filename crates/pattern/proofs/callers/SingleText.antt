-- A text is that of one segment, and of one crease.
use Rattle.std.proofs.Common.{◌≡◌, ◌≢◌, ℕ, List, get_or, drop, refl, sym, ap, subst, ◌∙◌, inl, inr, arith}
use Rattle.std.specs.Prelude.{Ok, Err, Result, Option, Some, None, IfSome, IfOk}
use Rattle.std.specs.Result.{result_ok}
use Rattle.exact.specs.Plane.{ExactPoint, ExactSegment, IsSegment, Before, IsPointCanonical}
use Rattle.plane.specs.PointText.{point_text}
use Rattle.plane.specs.Segments.{IsHeld, HasEnds}
use Rattle.plane.specs.declared.segment.SegBad.{SegBad}
use Rattle.sheet.specs.Pattern.{ExactCrease}
use Rattle.qroot2.specs.declared.text.NumText.{NumText}
use Rattle.qroot2.specs.declared.text.NumText.TheVariants.{Syntax, Range}
use Rattle.pattern.specs.NativeText.{seg_text, crease_text}
use Rattle.pattern.specs.NativeLines.{ReadsEnd}
use Rattle.pattern.specs.SingleText.{IsSegText, IsCreaseText}
use Rattle.pattern.specs.Splitting.{SplitsAt}
use Rattle.creases.proofs.callers.Members.{crease_same}
use Rattle.pattern.proofs.Splits.{one_split}
use Rattle.pattern.proofs.callers.LineText.{point_unmarked, spelled_point, both_texts}
use Rattle.pattern.proofs.Placing.{ends_in_order}
use Rattle.pattern.proofs.callers.OneText.{letter_of_one, point_of_one}

-- what reading refuses is the text of no point that can be held
pub no_end : (bytes : List ℕ) (e : NumText) (p : ExactPoint) → ReadsEnd bytes (Err e) → IsPointCanonical p → bytes ≢ point_text p
no_end bytes Syntax p r c e = r p (spelled_point p c) e
no_end bytes Range p r c e = r.3 (subst IsPointCanonical (point_of_one p r.0 (spelled_point p c) r.1 (sym e ∙ r.2)) c)

-- the ends of a segment's text stand before and after its first space
pub halves : (bytes from to : List ℕ) (s : ExactSegment) → SplitsAt bytes 32 from to → bytes ≡ seg_text s → (from ≡ point_text s.p) × (to ≡ point_text s.q)
halves bytes from to s c e = one_split 32 from to (point_text s.p) (point_text s.q) c.first (point_unmarked s.p 32 (inr (inl refl)) (λ h. omega (arith, h))) (sym c.joined ∙ e)

pub seg_made : (s t : ExactSegment) → s.p ≡ t.p → s.q ≡ t.q → s ≡ t
seg_made s t e f = λ i. record { p = e i; q = f i }

pub one_seg : (bytes : List ℕ) (s t : ExactSegment) → IsSegText bytes s → IsSegText bytes t → s ≡ t
one_seg bytes s t a b =
    let two = one_split 32 (point_text s.p) (point_text s.q) (point_text t.p) (point_text t.q) (point_unmarked s.p 32 (inr (inl refl)) (λ h. omega (arith, h))) (point_unmarked t.p 32 (inr (inl refl)) (λ h. omega (arith, h))) (sym a.text ∙ b.text) in
    seg_made s t (point_of_one s.p t.p (spelled_point s.p a.held.from) (spelled_point t.p b.held.from) two.0) (point_of_one s.q t.q (spelled_point s.q a.held.to) (spelled_point t.q b.held.to) two.1)

pub one_crease_text : (bytes : List ℕ) (f g : ExactCrease) → IsCreaseText bytes f → IsCreaseText bytes g → f ≡ g
one_crease_text bytes f g a b =
    let same : crease_text f ≡ crease_text g = sym a.text ∙ b.text in
    crease_same f g (one_seg (seg_text f.seg) f.seg g.seg (record { held = a.held; text = refl }) (record { held = b.held; text = ap (drop 2) same })) (letter_of_one f.colour g.colour (ap (λ t. get_or t 0 0) same))

-- ---- what the reading of the ends gives as an option
pub end_missing : (bytes : List ℕ) (o : Option ExactPoint) (r : Result ExactPoint NumText) → o ≡ result_ok r → o ≡ None → ReadsEnd bytes r → (p : ExactPoint) → IsPointCanonical p → bytes ≢ point_text p
end_missing bytes o (Ok q) e n r p c = absurd (let x : Some q ≡ None = sym e ∙ n in cc)
end_missing bytes o (Err w) e n r p c = no_end bytes w p r c

one_some : (p q : ExactPoint) → Some p ≡ Some q → p ≡ q
one_some p q e = cc

pub end_there : (bytes : List ℕ) (o : Option ExactPoint) (r : Result ExactPoint NumText) (p : ExactPoint) → o ≡ result_ok r → o ≡ Some p → ReadsEnd bytes r → (bytes ≡ point_text p) × IsPointCanonical p
end_there bytes o (Ok q) p e s r = (let same : q ≡ p = one_some q p (sym e ∙ s) in subst (λ x. ReadsEnd bytes (Ok x)) same r)
end_there bytes o (Err w) p e s r = absurd (let x : None ≡ Some p = sym e ∙ s in cc)

-- the segment between two ends in order
abbrev pub between : ExactPoint → ExactPoint → ExactSegment
between p q = record { p = p; q = q }

pub between_some : (o : Option ExactSegment) (r : Result ExactSegment SegBad) (p q : ExactPoint) → o ≡ result_ok r → Before p q → IfOk r (λ s. IsSegment s × HasEnds s p q) → IfOk r IsHeld → IfSome o (λ s. IsHeld s × (s ≡ between p q))
between_some o (Ok s) p q e b h k = subst (λ (x : Option ExactSegment). IfSome x (λ t. IsHeld t × (t ≡ between p q))) (sym e) (k, ends_in_order s p q h.0 h.1 b)
between_some o (Err w) p q e b h k = subst (λ (x : Option ExactSegment). IfSome x (λ t. IsHeld t × (t ≡ between p q))) (sym e) tt

pub seg_read : (bytes from to : List ℕ) (p q : ExactPoint) (o : Option ExactSegment) → SplitsAt bytes 32 from to → from ≡ point_text p → to ≡ point_text q → IfSome o (λ s. IsHeld s × (s ≡ between p q)) → IfSome o (IsSegText bytes)
seg_read bytes from to p q None c e f h = tt
seg_read bytes from to p q (Some s) c e f h = record { held = h.0; text = both_texts bytes from to p q c e f ∙ ap seg_text (sym h.1) }

-- the text of a segment whose ends are these points is read as theirs
pub ends_of_text : (bytes from to : List ℕ) (p q : ExactPoint) (s : ExactSegment) → SplitsAt bytes 32 from to → from ≡ point_text p → to ≡ point_text q → IsPointCanonical p → IsPointCanonical q → IsSegText bytes s → s ≡ between p q
ends_of_text bytes from to p q s c e f h k t =
    let two = halves bytes from to s c t.text in
    seg_made s (between p q) (point_of_one s.p p (spelled_point s.p t.held.from) (spelled_point p h) (sym two.0 ∙ e)) (point_of_one s.q q (spelled_point s.q t.held.to) (spelled_point q k) (sym two.1 ∙ f))
