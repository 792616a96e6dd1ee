-- The star of a vertex, as a kept pattern has it.
use Rattle.std.proofs.Common.{◌≡◌, ℕ, ◌<◌, List, length, get_or, refl, sym, subst, arith}
use Rattle.std.specs.Prelude.{Some, Contains, All, AllPairs, slice_get}
use Rattle.std.proofs.lemmas.List.Elements.{All-contains, All-get_or}
use Rattle.std.proofs.lemmas.Option.{slice_get_read}
use Rattle.exact.specs.Plane.{ExactPoint, Before, IsPointCanonical}
use Rattle.sheet.specs.Pattern.{ExactPattern}
use Rattle.layers.specs.declared.star.Ray.{Ray}
use Rattle.chains.specs.Chains.{Ascends}
use Rattle.plane.specs.Order.{point_cmp}
use Rattle.plane.proofs.callers.Orders.{point_less, point_unique}
use Rattle.subdivide.specs.Subdivision.{IsVertex, ExactSubdivision}
use Rattle.subdivide.specs.Star.{GoesOut, StarOf}
use Rattle.subdivide.specs.Live.{IsCut}
use Rattle.subdivide.specs.Fans.{HasRay, AreRaysOf, IsLive}
use Rattle.subdivide.specs.declared.stars.Fan.{Fan}
use Rattle.creases.proofs.callers.Members.{all_of}

-- a list that ascends ascends as the program compares
pub before_ascends : (vs : List ExactPoint) → All IsPointCanonical vs → AllPairs Before vs → Ascends point_cmp vs
before_ascends vs c up i j d h l = (point_less (get_or vs i d) (get_or vs j d) (All-get_or IsPointCanonical vs i d (lt_trans i j h l) c) (All-get_or IsPointCanonical vs j d l c)).1 (up i j d h l)
  where
    lt_trans : (i j : ℕ) → i < j → j < length vs → i < length vs
    lt_trans i j h l = omega arith

pub kept_cut : (pattern : ExactPattern) (cut : ExactSubdivision) (fans : List Fan) → IsLive pattern cut fans → IsCut pattern
kept_cut pattern cut fans l = (cut.vertices, cut.edges, l.cut_as.cut)

pub kept_star : (pattern : ExactPattern) (cut : ExactSubdivision) (fans : List Fan) (v : ExactPoint) (i : ℕ) (fan : Fan) (rays : List Ray) → IsLive pattern cut fans → i < length cut.vertices → get_or cut.vertices i v ≡ v
    → fan ≡ get_or fans i fan → AreRaysOf fan rays → StarOf pattern v rays
kept_star pattern cut fans v i fan rays l h at is a = record {
  star = a.star;
  each = all_of (GoesOut pattern v) rays (λ r c. (l.rays.rays i fan v r stands).0 (subst (λ z. HasRay z r) is ((a.are r).0 c)));
  all = λ r g. (a.are r).1 (subst (λ z. HasRay z r) (sym is) ((l.rays.rays i fan v r stands).1 g));
}
  where
    stands : slice_get cut.vertices i ≡ Some v
    stands = slice_get_read cut.vertices (length cut.vertices) i v refl h (sym at)

pub kept_vertex : (pattern : ExactPattern) (cut : ExactSubdivision) (fans : List Fan) (v : ExactPoint) → IsLive pattern cut fans → Contains cut.vertices v → IsVertex pattern v
kept_vertex pattern cut fans v l c = All-contains (IsVertex pattern) cut.vertices v l.cut_as.cut.1.each c

pub vertex_kept : (pattern : ExactPattern) (cut : ExactSubdivision) (fans : List Fan) (v : ExactPoint) → IsLive pattern cut fans → IsPointCanonical v → IsVertex pattern v → Contains cut.vertices v
vertex_kept pattern cut fans v l c x =
    let w = l.cut_as.cut.1.all v x in
    subst (Contains cut.vertices) (sym (point_unique v w.0 c (All-contains IsPointCanonical cut.vertices w.0 l.cut_as.cut.1.canonical w.1) w.2)) w.1
