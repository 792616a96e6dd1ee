-- The sixteen directions mirrored in each of them, by tests of all of them.
use Rattle.std.specs.Prelude.{pos}
use Rattle.std.proofs.Common.{◌≡◌, ◌≢◌, ℕ, ◌+◌, ◌*◌, ◌-◌, ◌%◌, ◌<◌, Bool, true, false, cond, eqb, refl, ap, ◌∙◌, arith}
use Rattle.std.proofs.lemmas.Bool.Decides.{nat_tests}
use Rattle.exact.specs.Plane.{ExactPoint, vector}
use Rattle.exact.proofs.Turns.{all_below, all_below_at}
use Rattle.geometry.specs.Root.{Root, plus, times, minus, count, size}
use Rattle.geometry.specs.Gap.{num, gx, gy}
use Rattle.geometry.proofs.Gap.{difference_none}
use Rattle.geometry.proofs.Sizes.{no_size}
use Rattle.plane.specs.Images.{AreTurned, IsImage}
use Rattle.plane.proofs.callers.Imaged.{image_of, image_self, turned_x, turned_y, tested}

zero_size : size (count 0) ≡ 0
unfolding count
zero_size = refl

-- how far two numbers are apart
abbrev apart : Root → Root → ℕ
apart x y = size (plus x (minus y))

equal_of : (x y : Root) → apart x y ≡ 0 → x ≡ y
equal_of x y e = difference_none x y (no_size _ e)

-- Each axis has a doubled cosine and sine.
abbrev cosine : ℕ → Root
cosine k = cond (eqb (k % 2) 0) (times (count 2) (num (vector ((k + k) % 16)).x)) (record { a = pos 0; b = (vector ((k + k) % 16)).x.a })

abbrev sine : ℕ → Root
sine k = cond (eqb (k % 2) 0) (times (count 2) (num (vector ((k + k) % 16)).y)) (record { a = pos 0; b = (vector ((k + k) % 16)).y.a })

turned_test : ℕ → Bool
turned_test k = cond (eqb (apart (plus (times (num (vector k).x) (cosine k)) (times (num (vector k).y) (sine k))) (times (count 2) (num (vector k).x))) 0)
    (eqb (apart (plus (times (num (vector k).x) (sine k)) (minus (times (num (vector k).y) (cosine k)))) (times (count 2) (num (vector k).y))) 0) false

turned_tested : all_below 16 turned_test ≡ true
unfolding turned_test num plus times minus count
turned_tested = refl

turned : (k : ℕ) → k < 16 → AreTurned k (cosine k) (sine k)
unfolding turned_test
turned k h = (let t = tested _ _ (all_below_at 16 turned_test turned_tested k h) in record { along = equal_of _ _ t.0; across = equal_of _ _ t.1 })

-- each point has an image in each axis
pub some_image : (k : ℕ) (a p : ExactPoint) → k < 16 → (v : ExactPoint) × IsImage a k p v
some_image k a p h = (image_of a p (turned_x (cosine k) (sine k) (gx a p) (gy a p)) (turned_y (cosine k) (sine k) (gx a p) (gy a p)), image_self k a p (cosine k) (sine k) h (turned k h))

-- The way by m, mirrored in the axis by v: both by numerators, and the image over the square of v's length.
abbrev pub mirrored_x : Root → Root → Root → Root → Root
mirrored_x vx vy mx my = plus (times (plus (times mx vx) (times my vy)) vx) (times (plus (times vx my) (minus (times vy mx))) vy)

abbrev pub mirrored_y : Root → Root → Root → Root → Root
mirrored_y vx vy mx my = plus (times (plus (times mx vx) (times my vy)) vy) (minus (times (plus (times vx my) (minus (times vy mx))) vx))

-- direction m mirrored in direction k
abbrev pub mirrored : ℕ → ℕ → ℕ
mirrored k m = (2 * k + 16 - m) % 16

abbrev x_of : ℕ → ℕ → Root
x_of k m = mirrored_x (num (vector k).x) (num (vector k).y) (num (vector m).x) (num (vector m).y)

abbrev y_of : ℕ → ℕ → Root
y_of k m = mirrored_y (num (vector k).x) (num (vector k).y) (num (vector m).x) (num (vector m).y)

-- the product with the mirrored way, and the square of n's length
abbrev stretch_of : ℕ → ℕ → ℕ → Root
stretch_of k m n = plus (times (x_of k m) (num (vector n).x)) (times (y_of k m) (num (vector n).y))

abbrev square_of : ℕ → Root
square_of n = plus (times (num (vector n).x) (num (vector n).x)) (times (num (vector n).y) (num (vector n).y))

-- the mirrored way is along direction n
pub record IsMirrored (k m n : ℕ) : Type 0 where
  pub stretch : Root
  pub square : Root
  pub some : stretch ≢ count 0
  pub x : times stretch (num (vector n).x) ≡ times square (mirrored_x (num (vector k).x) (num (vector k).y) (num (vector m).x) (num (vector m).y))
  pub y : times stretch (num (vector n).y) ≡ times square (mirrored_y (num (vector k).x) (num (vector k).y) (num (vector m).x) (num (vector m).y))

mirrored_test : ℕ → ℕ → Bool
mirrored_test k m = cond (eqb (size (stretch_of k m (mirrored k m))) 0) false
    (cond (eqb (apart (times (stretch_of k m (mirrored k m)) (num (vector (mirrored k m)).x)) (times (square_of (mirrored k m)) (x_of k m))) 0)
    (eqb (apart (times (stretch_of k m (mirrored k m)) (num (vector (mirrored k m)).y)) (times (square_of (mirrored k m)) (y_of k m))) 0) false)

mirrored_tested : all_below 16 (λ k. all_below 16 (λ m. mirrored_test k m)) ≡ true
unfolding mirrored_test num plus times minus
mirrored_tested = refl

three_tests : (l m n : ℕ) → cond (eqb l 0) false (cond (eqb m 0) (eqb n 0) false) ≡ true → (l ≢ 0) × (m ≡ 0) × (n ≡ 0)
three_tests l m n e = (λ z. first l _ z e, grind (arith, nat_tests), grind (arith, nat_tests))
  where
    first : (l : ℕ) (b : Bool) → l ≡ 0 → cond (eqb l 0) false b ≡ true → ⊥
    first l b z e = grind (arith, nat_tests)

pub is_mirrored : (k m : ℕ) → k < 16 → m < 16 → IsMirrored k m (mirrored k m)
unfolding mirrored_test
is_mirrored k m h l =
    let t = three_tests _ _ _ (all_below_at 16 (λ j. mirrored_test k j) (all_below_at 16 (λ i. all_below 16 (λ j. mirrored_test i j)) mirrored_tested k h) m l) in
    record {
      stretch = stretch_of k m (mirrored k m);
      square = square_of (mirrored k m);
      some = λ e. t.0 (ap size e ∙ zero_size);
      x = equal_of _ _ t.1;
      y = equal_of _ _ t.2;
    }
