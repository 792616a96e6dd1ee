use Rattle.std.proofs.Common.{◌≡◌, ℕ, ◌+◌, ◌*◌, ◌<◌, arith, sym, ap, ◌∙◌}
use Rattle.std.specs.Prelude.{ℤ, pos, ◌*ℤ◌, unsigned_abs}
use Rattle.std.proofs.lemmas.Int.{unsigned_abs-mul}
use Rattle.std.proofs.Math.Nat.{eq_of_mul-eq-mul_right}
use borrow.Author.Differences.{up, down, same_in, product_is}
use Rattle.exact.specs.Number.{ExactNumber, IsCanonical, IsLowest, Same, den}
use Rattle.exact.proofs.Ring.{is_eq, is_mul, is_atom, is_lit}
use Rattle.exact.proofs.Lowest.{same_lowest}

-- one whole number, from equal products
pub cancel : (a b : ℤ) (d : ℕ) → 0 < d → a *ℤ pos d ≡ b *ℤ pos d → a ≡ b
cancel a b d p e =
    let same : up a * d + down b * d ≡ up b * d + down a * d = omega (arith, product_is a (pos d), product_is b (pos d), ap up e, ap down e) in
    same_in a b (eq_of_mul-eq-mul_right d p (up a + down b) (up b + down a) (omega arith))

sized : (a b : ℤ) (d e : ℕ) → a *ℤ pos e ≡ b *ℤ pos d → unsigned_abs a * e ≡ unsigned_abs b * d
sized a b d e h = sym (unsigned_abs-mul a (pos e)) ∙ ap unsigned_abs h ∙ unsigned_abs-mul b (pos d)

pub triple : (a a' b b' : ℤ) (d d' : ℕ) → a ≡ a' → b ≡ b' → d ≡ d' → (let x : ExactNumber = record { a = a; b = b; d = d } in x) ≡ record { a = a'; b = b'; d = d' }
triple a a' b b' d d' e f g = cc

crossed : (a b c : ℤ) (d e f : ℕ) → 0 < d → a *ℤ pos e ≡ b *ℤ pos d → a *ℤ pos f ≡ c *ℤ pos d → b *ℤ pos f ≡ c *ℤ pos e
crossed a b c d e f p h k = cancel (b *ℤ pos f) (c *ℤ pos e) d p (
    is_eq (is_mul (is_mul (is_atom b) (is_lit f)) (is_lit d)) (is_mul (is_mul (is_atom b) (is_lit d)) (is_lit f)) (omega arith)
    ∙ ap (λ t. t *ℤ pos f) (sym h)
    ∙ is_eq (is_mul (is_mul (is_atom a) (is_lit e)) (is_lit f)) (is_mul (is_mul (is_atom a) (is_lit f)) (is_lit e)) (omega arith)
    ∙ ap (λ t. t *ℤ pos e) k
    ∙ is_eq (is_mul (is_mul (is_atom c) (is_lit d)) (is_lit e)) (is_mul (is_mul (is_atom c) (is_lit e)) (is_lit d)) (omega arith))

pub unique : (x y : ExactNumber) → IsCanonical x → IsCanonical y → Same x y → x ≡ y
unique x y p q s =
    let dx : den x ≡ x.d = omega (arith, p.positive) in
    let dy : den y ≡ y.d = omega (arith, q.positive) in
    let sa : x.a *ℤ pos y.d ≡ y.a *ℤ pos x.d = rw (← dx, ← dy) s.a in
    let sb : x.b *ℤ pos y.d ≡ y.b *ℤ pos x.d = rw (← dx, ← dy) s.b in
    let e : x.d ≡ y.d = same_lowest (unsigned_abs x.a) (unsigned_abs x.b) x.d (unsigned_abs y.a) (unsigned_abs y.b) y.d p.positive q.positive p.lowest q.lowest (sized x.a y.a x.d y.d sa) (sized x.b y.b x.d y.d sb) in
    triple x.a y.a x.b y.b x.d y.d (cancel x.a y.a y.d q.positive (rw e at sa)) (cancel x.b y.b y.d q.positive (rw e at sb)) e

-- the same of any two triples in lowest terms, whatever their size
pub unique_lowest : (x y : ExactNumber) → 0 < x.d → IsLowest x → 0 < y.d → IsLowest y → Same x y → x ≡ y
unique_lowest x y p low q low' s =
    let dx : den x ≡ x.d = omega (arith, p) in
    let dy : den y ≡ y.d = omega (arith, q) in
    let sa : x.a *ℤ pos y.d ≡ y.a *ℤ pos x.d = rw (← dx, ← dy) s.a in
    let sb : x.b *ℤ pos y.d ≡ y.b *ℤ pos x.d = rw (← dx, ← dy) s.b in
    let e : x.d ≡ y.d = same_lowest (unsigned_abs x.a) (unsigned_abs x.b) x.d (unsigned_abs y.a) (unsigned_abs y.b) y.d p q low low' (sized x.a y.a x.d y.d sa) (sized x.b y.b x.d y.d sb) in
    triple x.a y.a x.b y.b x.d y.d (cancel x.a y.a y.d q (rw e at sa)) (cancel x.b y.b y.d q (rw e at sb)) e

-- two numbers that are one with a third are one
pub same_trans : (x y z : ExactNumber) → Same x y → Same x z → Same y z
same_trans x y z h k = record { a = crossed x.a y.a z.a (den x) (den y) (den z) den_above h.a k.a; b = crossed x.b y.b z.b (den x) (den y) (den z) den_above h.b k.b }
  where
    den_above : 0 < den x
    den_above = omega arith
