-- The direction from one point to a later one, as the code finds it.
use Rattle.std.proofs.Common.{◌≡◌, ℕ, ◌<◌, refl, sym, subst, ◌∙◌, inl, arith}
use Rattle.std.specs.Prelude.{Option, Some, None, IfSome, IsSome, IsNone}
use Rattle.exact.specs.Number.{Same}
use Rattle.exact.specs.Plane.{ExactPoint, Before, ExactSegment, IsSegment, DirOf, vector}
use Rattle.geometry.specs.Root.{Root}
use Rattle.geometry.specs.Gap.{gx, gy}
use Rattle.geometry.specs.Meeting.{Along}
use Rattle.geometry.proofs.Lines.{On}
use Rattle.geometry.proofs.Plain.{flat_on, upright_on}
use Rattle.geometry.proofs.Segments.{end_on}
use Rattle.geometry.proofs.Directions.{vector_ahead}
use Rattle.geometry.proofs.Found.{on_along, one_along, along_half}
use Rattle.plane.specs.Ways.{IsAlong, IsAhead}
use Rattle.plane.proofs.callers.Zeros.{offset_cross}

made : ExactPoint → ExactPoint → ExactSegment
made p q = record { p = p; q = q }

along_made : (p q : ExactPoint) (k : ℕ) → IsAhead k → Before p q → On (vector k) p q → DirOf p q k
along_made p q k a b o = (on_along (record { p = p; q = q }) k a.0 (vector_ahead k a.0 a.1) b o).dir

pub level_found : (p q : ExactPoint) (o : Option ℕ) → Before p q → Same p.y q.y → IfSome o (λ d. (d ≡ 0) × (0 < 16)) → IfSome o (λ k. (k < 16) × DirOf p q k)
level_found p q None b s h = tt
level_found p q (Some d) b s h = subst (λ k. (k < 16) × DirOf p q k) (sym h.0) (omega arith, along_made p q 0 (omega arith, inl (omega arith)) b ((flat_on p q).0 s))

pub plumb_found : (p q : ExactPoint) (o : Option ℕ) → Before p q → Same p.x q.x → IfSome o (λ d. (d ≡ 4) × (4 < 16)) → IfSome o (λ k. (k < 16) × DirOf p q k)
plumb_found p q None b s h = tt
plumb_found p q (Some d) b s h = subst (λ k. (k < 16) × DirOf p q k) (sym h.0) (omega arith, along_made p q 4 (omega arith, inl (omega arith)) b ((upright_on p q).0 s))

pub slant_found : (p q : ExactPoint) (o : Option ℕ) (x y : Root) → Before p q → x ≡ gx p q → y ≡ gy p q → IfSome o (λ k. IsAhead k × IsAlong k x y) → IfSome o (λ k. (k < 16) × DirOf p q k)
slant_found p q None x y b e f h = tt
slant_found p q (Some k) x y b e f h = (h.0.0, along_made p q k h.0 b (record { on = sym (offset_cross k p q x y e f) ∙ h.1 }))

pub none_found : (p q : ExactPoint) (x y : Root) → Before p q → x ≡ gx p q → y ≡ gy p q → ((k : ℕ) → IsAhead k → ¬ IsAlong k x y) → (k : ℕ) → k < 16 → ¬ DirOf p q k
none_found p q x y b e f h k l d = h k (l, along_half s k a) (offset_cross k p q x y e f ∙ (end_on s k a).on)
  where
    s : ExactSegment
    s = record { p = p; q = q }

    a : Along s k
    a = record { small = l; ordered = b; dir = d }

pub some_found : (p q : ExactPoint) (o : Option ℕ) → (let s : ExactSegment = record { p = p; q = q } in IsSegment s) → (IsNone o → (k : ℕ) → k < 16 → ¬ DirOf p q k) → IsSome o
some_found p q None s h = absurd (h refl s.1.0 s.1.1 s.1.2)
some_found p q (Some k) s h = refl

pub only_found : (s : ExactSegment) (k : ℕ) → Before s.p s.q → k < 16 → DirOf s.p s.q k → (j : ℕ) → j < 16 → DirOf s.p s.q j → j ≡ k
only_found s k b l d j m e = one_along s j k (record { small = m; ordered = b; dir = e }) (record { small = l; ordered = b; dir = d })
