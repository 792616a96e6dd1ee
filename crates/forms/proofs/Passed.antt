-- Forms and multiples as code computes them.
use Rattle.std.proofs.Common.{◌≡◌, ℕ, ◌≤◌, ◌^◌, arith, sym, ap, subst, ◌∙◌}
use Rattle.std.specs.Prelude.{ℤ, pos, ◌-ℤ◌, ◌*ℤ◌, unsigned_abs}
use Rattle.std.proofs.lemmas.Int.{ints}
use Rattle.qroot2.specs.Wide.{Pair, pair_add, pair_sub}
use Rattle.exact.specs.Number.{ExactNumber}
use Rattle.qroot2.proofs.callers.Pairs.{by_parts}
use Rattle.qroot2.proofs.callers.Signs.{product_bound}
use Rattle.qroot2.proofs.callers.Held.{through, through_64, held_128, held_64}
use Rattle.geometry.specs.Root.{Root, times, count, size}
use Rattle.geometry.specs.Gap.{num}
use Rattle.geometry.proofs.Gap.{scale}
use Rattle.geometry.proofs.RootRing.{both}
use Rattle.geometry.proofs.Sizes.{scaled_within}
use Rattle.plane.specs.Ways.{root, tilted, offset_of}

-- √2 - 1 times a number
pub aslant_made : (x r : Pair) (a b c d : ℤ) → r ≡ record { a = through (through (pos 2 *ℤ through b) -ℤ through a); b = through (through c -ℤ through d) }
    → a ≡ x.a → b ≡ x.b → c ≡ x.a → d ≡ x.b → size (root x) ≤ 2 ^ 69 → r ≡ tilted x
aslant_made x r a b c d h ea eb ec ed s = h ∙ by_parts _ (tilted x) first second
  where
    first : through (through (pos 2 *ℤ through b) -ℤ through a) ≡ pos 2 *ℤ x.b -ℤ x.a
    first =
        rw (eb, ea, held_128 x.b (omega (arith, s)), held_128 x.a (omega (arith, s)), held_128 (pos 2 *ℤ x.b) (omega (arith, ints, s)))
        (held_128 (pos 2 *ℤ x.b -ℤ x.a) (omega (arith, ints, s)))

    second : through (through c -ℤ through d) ≡ x.a -ℤ x.b
    second =
        rw (ec, ed, held_128 x.a (omega (arith, s)), held_128 x.b (omega (arith, s)))
        (held_128 (x.a -ℤ x.b) (omega (arith, ints, s)))

pub aslant_within : (x r : Pair) → r ≡ tilted x → size (root x) ≤ 2 ^ 69 → size (root r) ≤ 2 ^ 71
aslant_within x r e s = rw e (omega (arith, ints, s))

pub sum_within : (f t u : Pair) → f ≡ pair_add t u → size (root t) ≤ 2 ^ 71 → size (root u) ≤ 2 ^ 71 → size (root f) ≤ 2 ^ 72
sum_within f t u e h k = rw e (omega (arith, ints, h, k))

pub difference_within : (f t u : Pair) → f ≡ pair_sub t u → size (root t) ≤ 2 ^ 71 → size (root u) ≤ 2 ^ 71 → size (root f) ≤ 2 ^ 72
difference_within f t u e h k = rw e (omega (arith, ints, h, k))

-- a direction that was told by its number
pub told_dir : (k j : ℕ) (f x y : Root) → k ≡ j → f ≡ offset_of j x y → f ≡ offset_of k x y
told_dir k j f x y e h = subst (λ (i : ℕ). f ≡ offset_of i x y) (sym e) h

pub multiple_made : (a y x m : ℤ) (n : ℕ) → a ≡ through_64 y → y ≡ x → m ≡ pos n → unsigned_abs x ≤ 2 ^ 48 → n ≤ 2 ^ 20 → through (through a *ℤ through m) ≡ x *ℤ pos n
multiple_made a y x m n f g h b k =
    rw (f, g, h, held_64 x (omega (arith, b)), held_128 x (omega (arith, b)), held_128 (pos n) (omega (arith, k)))
    (held_128 (x *ℤ pos n) (omega (arith, product_bound x n b k)))

pub scaled_made : (x : ExactNumber) (r : Pair) (a b : ℤ) (n : ℕ) → r ≡ record { a = a; b = b } → a ≡ x.a *ℤ pos n → b ≡ x.b *ℤ pos n → root r ≡ times (num x) (count n)
unfolding num
scaled_made x r a b n e f g = ap root e ∙ both _ _ f g ∙ sym (scale (num x) n)

pub multiple_size : (x : ExactNumber) (r : Root) (n : ℕ) → r ≡ times (num x) (count n) → unsigned_abs x.a ≤ 2 ^ 48 → unsigned_abs x.b ≤ 2 ^ 48 → n ≤ 2 ^ 20 → size r ≤ 2 ^ 69
unfolding num
multiple_size x r n e h k l = rw e (omega (arith, scaled_within (num x) n (2 ^ 49) (2 ^ 20) (omega (arith, h, k)) l))

-- a denominator that was told by its size
pub size_told : (w d : ℕ) (z : ℤ) → w ≡ unsigned_abs (through_64 z) → z ≡ pos d → d ≤ 2 ^ 20 → w ≡ d
size_told w d z e f h = e ∙ ap (λ (t : ℤ). unsigned_abs (through_64 t)) f ∙ ap unsigned_abs (held_64 (pos d) (omega (arith, h)))
