-- A crease that comes behind all others.
use Rattle.std.proofs.Common.{List, [], ◌∷◌, ◌++◌, length, ◌+◌, ◌≤◌, sym, subst, arith, length-append}
use Rattle.std.specs.Prelude.{All, Option, Some, None}
use Rattle.std.proofs.lemmas.List.Elements.{All-push, All-nil}
use Rattle.std.proofs.lemmas.List.Quantifiers.{all_pairs_push}
use Rattle.exact.specs.Plane.{ExactSegment, SegmentBefore, Overlap}
use Rattle.sheet.specs.Pattern.{ExactCrease, ExactPattern, IsPattern, IsKey, crease_limit}
use Rattle.creases.specs.Creases.{Ascends, IsFree}
use Rattle.creases.proofs.callers.Members.{all_of, before_last, segment_before_trans}
use Rattle.pattern.specs.NativeReading.{IsAfterLast}
use Rattle.pattern.specs.NativeReader.{IsLast, CanFollow, with_last}

-- after the last of the creases is after all of them
pub after_all : (end : Option ExactSegment) (good : List ExactCrease) (s : ExactSegment) → IsLast end good → Ascends good → IsAfterLast good s → All (λ f. SegmentBefore f.seg s) good
after_all None good s l p a = subst (λ (xs : List ExactCrease). All (λ f. SegmentBefore f.seg s) xs) (sym l) (All-nil (λ (f : ExactCrease). SegmentBefore f.seg s))
after_all (Some t) good s l p a =
    let front = l.0 in
    let f = l.1 in
    let last : SegmentBefore f.seg s = a front f l.2 in
    let ordered : Ascends (front ++ f ∷ []) = subst Ascends l.2 p in
    subst (λ (xs : List ExactCrease). All (λ g. SegmentBefore g.seg s) xs) (sym l.2)
    (All-push (λ (g : ExactCrease). SegmentBefore g.seg s) front f (all_of (λ (g : ExactCrease). SegmentBefore g.seg s) front (λ g c. segment_before_trans g.seg f.seg s (before_last front f g ordered c) last)) last)

-- a crease that passes all tests makes a longer pattern
pub longer : (end : Option ExactSegment) (good : ExactPattern) (f : ExactCrease) → IsLast end good.creases → IsPattern good → CanFollow good f.seg → IsFree good.creases f.seg → length good.creases + 1 ≤ crease_limit → IsPattern (with_last good f)
longer end good f l p before free few = record {
  sheet = p.sheet;
  keys = All-push (λ (g : ExactCrease). IsKey good.sheet g.seg) good.creases f p.keys (record { segment = before.3; from = before.0.0; to = before.0.1; from_in = before.1.0; to_in = before.1.1; inner = before.4 });
  ordered = all_pairs_push (λ (g h : ExactCrease). SegmentBefore g.seg h.seg) good.creases f p.ordered (after_all end good.creases f.seg l p.ordered before.2.1);
  apart = all_pairs_push (λ (g h : ExactCrease). ¬ Overlap g.seg h.seg) good.creases f p.apart free;
  few = omega (arith, few, length-append good.creases (f ∷ []));
}
