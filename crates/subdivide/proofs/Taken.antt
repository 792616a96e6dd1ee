-- The lines are settled one after another.
use Rattle.std.proofs.Common.{◌≡◌, ℕ, ◌+◌, ◌<◌, List, [], ◌∷◌, Some, sym, subst, ◌⊎◌, inl, inr, arith}
use Rattle.std.specs.Prelude.{Contains, slice_get}
use Rattle.std.proofs.lemmas.Bool.{cases_lt}
use Rattle.chains.proofs.callers.Elements.{head_has, tail_has, has_cases, has_none}
use Rattle.geometry.specs.Meeting.{Along}
use Rattle.subdivide.specs.declared.line.MarkedLine.{MarkedLine}
use Rattle.subdivide.specs.declared.found.Found.{Found}
use Rattle.subdivide.specs.Lines.{AreSwept}
use Rattle.subdivide.specs.Strips.{AreNear}
use Rattle.subdivide.specs.Found.{Findings, Settled, Leads, IsKept, Grows, AreSettled, AreSettledBefore, IsSweptUpTo}
use Rattle.subdivide.proofs.Noted.{settled_grows, ends_settled}
use Rattle.subdivide.proofs.PatternLines.{parallel_or_not}
use Rattle.subdivide.proofs.Touched.{parallel_ends}

in_or_not : (xs : List ℕ) (x : ℕ) → Contains xs x ⊎ (Contains xs x → ⊥)
in_or_not [] x = inr (has_none x)
in_or_not (y ∷ xs) x = elim (parallel_or_not y x) [
  | inl e ↦ inl (head_has y x xs e)
  | inr n ↦ elim (in_or_not xs x) [ inl c ↦ inl (tail_has y x xs c) | inr m ↦ inr (λ c. elim (has_cases y x xs c) [ inl e ↦ n e | inr d ↦ m d ]) ]
]

pub taken : (lines : List MarkedLine) (n number : ℕ) (near : List ℕ) (old new : Found) → AreSwept lines → AreNear lines n near → IsSweptUpTo lines n old → number ≡ n → Leads lines old new (AreSettled lines number near) → IsSweptUpTo lines (n + 1) new
taken lines n number near old new w a s q x = record { findings = u.0; kept = u.1; settled = settled }
  where
    u : (g : Findings) × IsKept lines g new × Grows s.findings g × AreSettled lines number near g
    u = x.each s.findings s.kept

    last : (i : ℕ) (l m : MarkedLine) → i < n → slice_get lines i ≡ Some l → slice_get lines n ≡ Some m → Settled u.0 i n l.seg m.seg
    last i l m h e f = elim (parallel_or_not l.dir m.dir) [
      | inl d ↦ ends_settled lines u.0 i n l m u.1.sound e f (parallel_ends l.seg m.seg l.dir (w.marked.each i l e).along (subst (Along m.seg) (sym d) (w.marked.each n m f).along) (w.apart i n l m h e f))
      | inr d ↦ elim (in_or_not near i) [
        | inl c ↦ subst (λ k. Settled u.0 i k l.seg m.seg) q (u.3 i l m c e (subst (λ k. slice_get lines k ≡ Some m) (sym q) f))
        | inr c ↦ record { each = λ v o. absurd (a.rest i l m h e f d c v o) }
      ]
    ]

    settled : AreSettledBefore lines (n + 1) u.0
    settled i j l m h k e f = elim (cases_lt j n) [
      | inl r ↦ settled_grows s.findings u.0 i j l.seg m.seg u.2 (s.settled i j l m h r e f)
      | inr r ↦ (let z : j ≡ n = omega (arith, k, r) in subst (λ d. Settled u.0 i d l.seg m.seg) (sym z) (last i l m (omega (arith, h, z)) e (subst (λ d. slice_get lines d ≡ Some m) z f)))
    ]

pub swept_none : (lines : List MarkedLine) (found : Found) → (f : Findings) × IsKept lines f found → IsSweptUpTo lines 0 found
swept_none lines found h = record { findings = h.0; kept = h.1; settled = λ i j l m x y e f. absurd (omega (arith, y)) }

pub swept_looked : (lines : List MarkedLine) (n : ℕ) (old new : Found) → Leads lines old new (λ _. Unit {0}) → IsSweptUpTo lines n old → IsSweptUpTo lines n new
swept_looked lines n old new x s = (let u = x.each s.findings s.kept in record {
  findings = u.0;
  kept = u.1;
  settled = λ i j l m h k e f. settled_grows s.findings u.0 i j l.seg m.seg u.2 (s.settled i j l m h k e f);
})
