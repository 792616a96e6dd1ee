-- Decimals that are read as one are near the same values.
use Rattle.std.proofs.Common.{◌≡◌, ℕ, zero, suc, ◌<◌, ◌≤◌, ◌^◌, ◌⊎◌, inl, inr, min, sym, subst, ap, ◌∙◌, arith, to_z, of_z}
use Rattle.std.specs.Prelude.{ℤ, pos, negsuc, neg_ℤ, unsigned_abs, Option, IfSome}
use Rattle.std.specs.Int.{w128}
use Rattle.std.proofs.lemmas.Int.{to_z-of_z, fits_signed_from_abs}
use Rattle.std.proofs.lemmas.Bool.{cases_lt}
use Rattle.lattice.specs.Lattice.{Measures, IsLattice}
use Rattle.lattice.specs.Near.{IsAnswer}
use Rattle.lattice.specs.declared.near.Near.{Near}
use Rattle.lattice.specs.declared.near.Near.TheVariants as near
use Rattle.lattice.proofs.callers.Apart.{far_away}
use Rattle.decimals.specs.Decimal.{capped, cap}
use Rattle.cpfile.specs.CpAxes.{ExactAxis}

record AreFar (x : ℤ) : Type 0 where
  whole : 2 ^ 60 < unsigned_abs x
  kept : 2 ^ 60 < unsigned_abs (capped x)

capped_or_far : (x : ℤ) → (capped x ≡ x) ⊎ AreFar x
capped_or_far (pos n) = elim (cases_lt cap n) [
  | inl h ↦ inr (record { whole = omega (arith, h); kept = omega (arith, h) })
  | inr h ↦ inl (ap pos (let e : min n cap ≡ n = omega (arith, h) in e))
]
capped_or_far (negsuc n) = elim (cases_lt cap (suc n)) [
  | inl h ↦ inr (record { whole = omega (arith, h); kept = (let e : min (suc n) cap ≡ cap = omega (arith, h) in rw e (omega arith)) })
  | inr h ↦ inl (ap (λ k. neg_ℤ (pos k)) (let e : min (suc n) cap ≡ suc n = omega (arith, h) in e))
]

far_answer : (l : Measures) (m : ℕ) (x : ℤ) (a : Near) → IsLattice l → m ≤ 8 → AreFar x → IsAnswer l m (capped x) a → IsAnswer l m x a
far_answer l m x near.Nothing h k f g = λ v. far_away l m x v h k f.whole
far_answer l m x (near.One u) h k f g = absurd (far_away l m (capped x) u h k f.kept g.0)
far_answer l m x (near.Two u v) h k f g = absurd (far_away l m (capped x) u h k f.kept g.0)

pub uncapped : (l : Measures) (m : ℕ) (x units : ℤ) (a : Near) → IsLattice l → m ≤ 8 → units ≡ capped x → IsAnswer l m units a → IsAnswer l m x a
uncapped l m x units a h k e g = elim (capped_or_far x) [
  | inl s ↦ subst (λ z. IsAnswer l m z a) (e ∙ s) g
  | inr f ↦ far_answer l m x a h k f (subst (λ z. IsAnswer l m z a) e g)
]

pub capped_small : (x units : ℤ) → units ≡ capped x → unsigned_abs units ≤ 2 ^ 100
capped_small (pos n) units e = rw e (omega arith)
capped_small (negsuc n) units e = rw e (told (min (suc n) cap) (omega arith))
  where
    told : (k : ℕ) → k ≤ cap → unsigned_abs (neg_ℤ (pos k)) ≤ 2 ^ 100
    told zero h = omega arith
    told (suc k) h = omega arith

-- the same on an axis, where the decimal is known by another name
pub answer_on : (l : Measures) (m : ℕ) (axis : ExactAxis) (key units : ℤ) (a : Near) → IsLattice l → m ≤ 8 → record { lattice = l; length = m } ≡ axis → key ≡ units
    → IsAnswer axis.lattice axis.length key a → (x : ℤ) → units ≡ capped x → IsAnswer axis.lattice axis.length x a
answer_on l m axis key units a h k v e g x f =
    subst (λ (s : ExactAxis). IsAnswer s.lattice s.length x a) v
    (uncapped l m x units a h k f (subst (λ z. IsAnswer l m z a) e (subst (λ (s : ExactAxis). IsAnswer s.lattice s.length key a) (sym v) g)))

-- an answer that was found under a name of the decimal
pub met_on : (l : Measures) (m : ℕ) (axis : ExactAxis) (key units : ℤ) (o r : Option Near) → record { lattice = l; length = m } ≡ axis → key ≡ units → r ≡ o
    → IfSome o (IsAnswer l m key) → IfSome r (IsAnswer axis.lattice axis.length units)
met_on l m axis key units o r v e f h =
    subst (λ (s : ExactAxis). IfSome r (IsAnswer s.lattice s.length units)) v
    (subst (λ z. IfSome r (IsAnswer l m z)) e (subst (λ q. IfSome q (IsAnswer l m key)) (sym f) h))

-- units keep their value in a register
pub held_units : (units : ℤ) → unsigned_abs units ≤ 2 ^ 100 → to_z w128 (of_z w128 units) ≡ units
held_units units h = to_z-of_z w128 units (fits_signed_from_abs w128 units (omega (arith, h)))

pub kept : (x units : ℤ) → units ≡ capped x → to_z w128 (of_z w128 units) ≡ capped x
kept x units e = held_units units (capped_small x units e) ∙ e
