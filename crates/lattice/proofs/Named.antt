-- The two least as numbers.
use Rattle.std.proofs.Common.{◌≡◌, ℕ, ◌⊎◌, max, sym, subst, arith, inl, inr}
use Rattle.std.specs.Prelude.{pos, ◌-ℤ◌, ◌*ℤ◌}
use Rattle.exact.specs.Number.{ExactNumber, Same, Less}
use Rattle.exact.proofs.Ring.{is_eq, is_mul, is_sub, is_lit}
use Rattle.exact.proofs.Order.{same_turned}
use Rattle.exact.proofs.Positive.{moved, scaled}
use Rattle.exact.proofs.Told.{same_on, less_values}
use Rattle.lattice.specs.Search.{IsSeen, IsSeenValue}
use Rattle.lattice.specs.Found.{IsBelow, AreSameNumerators, Holds, value_of}
use Rattle.lattice.specs.declared.found.Numerators.{Numerators}
use Rattle.lattice.specs.declared.found.Found.{Found}
use Rattle.lattice.specs.declared.found.Found.TheVariants.{Nothing, One, Two}
use Rattle.lattice.specs.declared.search.Window.{Window}
use Rattle.lattice.proofs.Sets.{spot_is}

abbrev value : Window → Numerators → ExactNumber
value w s = value_of w.d w.k s.whole s.root

below_less : (w : Window) (s t : Numerators) → IsBelow s t → Less (value w s) (value w t)
below_less w s t h = moved _ _ _ _ (sym (spread t.whole s.whole w.k (max 1 w.d))) (sym (spread t.root s.root w.k (max 1 w.d))) (scaled _ _ (max 1 w.d) (omega arith) h.below)
  where
    spread : (a b k d : ℕ) → (pos a -ℤ pos b) *ℤ pos d ≡ (pos a -ℤ pos k) *ℤ pos d -ℤ (pos b -ℤ pos k) *ℤ pos d
    spread a b k d = is_eq (is_mul (is_sub (is_lit a) (is_lit b)) (is_lit d)) (is_sub (is_mul (is_sub (is_lit a) (is_lit k)) (is_lit d)) (is_mul (is_sub (is_lit b) (is_lit k)) (is_lit d))) (omega arith)

at_spot : (w : Window) (s t : Numerators) (u v : ExactNumber) → Same v (value w s) → AreSameNumerators s t → Same u (value w t) → Same v u
at_spot w s t u v h e k = same_on v (value w t) u (subst (λ y. Same v (value w y)) (spot_is s t e) h) (same_turned u (value w t) k)

above_spot : (w : Window) (s t : Numerators) (u v : ExactNumber) → Same v (value w s) → IsBelow t s → Same u (value w t) → Less u v
above_spot w s t u v h e k = less_values (value w t) u (value w s) v (same_turned u (value w t) k) (same_turned v (value w s) h) (below_less w t s e)

pub named_nothing : (w : Window) (m : ℕ) (f : Found) → f ≡ Nothing → Holds (IsSeen w m 0) f → (v : ExactNumber) → IsSeenValue w m v → ⊥
named_nothing w m f e h v s = (let k : Holds (IsSeen w m 0) Nothing = subst (λ g. Holds (IsSeen w m 0) g) e h in k s.seen.0 s.seen.1)

pub named_one : (w : Window) (m : ℕ) (f : Found) (t : Numerators) (u : ExactNumber) → f ≡ One t → Same u (value w t) → Holds (IsSeen w m 0) f → IsSeenValue w m u × ((v : ExactNumber) → IsSeenValue w m v → Same v u)
named_one w m f t u e a h =
    let k : Holds (IsSeen w m 0) (One t) = subst (λ g. Holds (IsSeen w m 0) g) e h in
    (record { seen = (t, k.0, a) }, λ v s. at_spot w s.seen.0 t u v s.seen.2 (k.1 s.seen.0 s.seen.1) a)

pub named_two : (w : Window) (m : ℕ) (f : Found) (t r : Numerators) (u z : ExactNumber) → f ≡ Two t r → Same u (value w t) → Same z (value w r) → Holds (IsSeen w m 0) f
    → IsSeenValue w m u × IsSeenValue w m z × Less u z × ((v : ExactNumber) → IsSeenValue w m v → Same v u ⊎ (Same v z ⊎ Less z v))
named_two w m f t r u z e a b h =
    let k : Holds (IsSeen w m 0) (Two t r) = subst (λ g. Holds (IsSeen w m 0) g) e h in (
      record { seen = (t, k.0, a) },
      record { seen = (r, k.1, b) },
      above_spot w r t u z b k.2 a,
      λ v s. elim (k.3 s.seen.0 s.seen.1) [
        | inl i ↦ inl (at_spot w s.seen.0 t u v s.seen.2 i a)
        | inr j ↦ inr (elim j [ inl i ↦ inl (at_spot w s.seen.0 r z v s.seen.2 i b) | inr i ↦ inr (above_spot w s.seen.0 r z v s.seen.2 i b) ])
      ],
    )
