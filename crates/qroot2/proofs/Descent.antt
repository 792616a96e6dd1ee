-- The descent by which a √2 is compared with a whole number.
use Rattle.std.proofs.Common.{◌≡◌, Bool, true, false, not, refl, ◌+◌, ◌*◌, ℕ, arith, sym}
use Rattle.std.proofs.lemmas.Bool.{false≢true}
use Rattle.exact.proofs.Root.{norm_turns}

-- a step keeps the norm up to its sign
-- What a turn of the descent keeps, with the next pair u, v.
pub turn_kept : (x y u v a b : ℕ) (same : Bool) → x ≡ u + 2 * v → y ≡ u + v
    → (same ≡ true → x * x + 2 * (b * b) ≡ 2 * (y * y) + a * a)
    → (same ≡ false → x * x + a * a ≡ 2 * (y * y) + 2 * (b * b))
    → (not same ≡ true → u * u + 2 * (b * b) ≡ 2 * (v * v) + a * a) × (not same ≡ false → u * u + a * a ≡ 2 * (v * v) + 2 * (b * b))
turn_kept x y u v a b true e f held turned = ((λ h. absurd (false≢true h)), (λ h. omega (arith, norm_turns x y u v e f, held refl)))
turn_kept x y u v a b false e f held turned = ((λ h. omega (arith, norm_turns x y u v e f, turned refl)), (λ h. absurd (false≢true (sym h))))
