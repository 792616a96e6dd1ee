-- The laws of the ring of numbers a + b √2.
use Rattle.std.proofs.Common.{◌≡◌, arith, sym, ap, ◌∙◌}
use Rattle.std.specs.Prelude.{ℤ}
use Rattle.std.proofs.lemmas.Int.{ints}
use Rattle.exact.proofs.Ring.{is_add, is_lit, is_atom, is_mul, is_eq}
use Rattle.geometry.specs.Root.{Root, plus, times, minus, count}

pub both : (x y : Root) → x.a ≡ y.a → x.b ≡ y.b → x ≡ y
both x y e f = pair x.a y.a x.b y.b e f
  where
    pair : (a a' b b' : ℤ) → a ≡ a' → b ≡ b' → (let x : Root = record { a = a; b = b } in x) ≡ record { a = a'; b = b' }
    pair a a' b b' e f = cc

pub plus_comm : (x y : Root) → plus x y ≡ plus y x
unfolding plus
plus_comm x y = both _ _ (omega (arith, ints)) (omega (arith, ints))

pub plus_assoc : (x y z : Root) → plus (plus x y) z ≡ plus x (plus y z)
unfolding plus
plus_assoc x y z = both _ _ (omega (arith, ints)) (omega (arith, ints))

pub plus_zero : (x : Root) → plus x (count 0) ≡ x
unfolding plus count
plus_zero x = both _ _ (omega (arith, ints)) (omega (arith, ints))

pub plus_minus : (x : Root) → plus x (minus x) ≡ count 0
unfolding plus minus count
plus_minus x = both _ _ (omega (arith, ints)) (omega (arith, ints))

pub times_comm : (x y : Root) → times x y ≡ times y x
unfolding times
times_comm x y =
    let A = is_atom x.a in let B = is_atom x.b in let C = is_atom y.a in let D = is_atom y.b in let two = is_lit 2 in
    both _ _
    (is_eq (is_add (is_mul A C) (is_mul two (is_mul B D))) (is_add (is_mul C A) (is_mul two (is_mul D B))) (omega arith))
    (is_eq (is_add (is_mul A D) (is_mul B C)) (is_add (is_mul C B) (is_mul D A)) (omega arith))

pub times_one : (x : Root) → times x (count 1) ≡ x
unfolding times count
times_one x =
    let A = is_atom x.a in let B = is_atom x.b in let one = is_lit 1 in let none = is_lit 0 in let two = is_lit 2 in
    both _ _
    (is_eq (is_add (is_mul A one) (is_mul two (is_mul B none))) A (omega arith))
    (is_eq (is_add (is_mul A none) (is_mul B one)) B (omega arith))

pub dist : (x y z : Root) → times x (plus y z) ≡ plus (times x y) (times x z)
unfolding times plus
dist x y z =
    let A = is_atom x.a in let B = is_atom x.b in let C = is_atom y.a in let D = is_atom y.b in let E = is_atom z.a in let F = is_atom z.b in let two = is_lit 2 in
    both _ _
    (is_eq (is_add (is_mul A (is_add C E)) (is_mul two (is_mul B (is_add D F)))) (is_add (is_add (is_mul A C) (is_mul two (is_mul B D))) (is_add (is_mul A E) (is_mul two (is_mul B F)))) (omega arith))
    (is_eq (is_add (is_mul A (is_add D F)) (is_mul B (is_add C E))) (is_add (is_add (is_mul A D) (is_mul B C)) (is_add (is_mul A F) (is_mul B E))) (omega arith))

pub times_assoc : (x y z : Root) → times (times x y) z ≡ times x (times y z)
unfolding times
times_assoc x y z =
    let A = is_atom x.a in let B = is_atom x.b in let C = is_atom y.a in let D = is_atom y.b in let E = is_atom z.a in let F = is_atom z.b in let two = is_lit 2 in
    let xy_a = is_add (is_mul A C) (is_mul two (is_mul B D)) in
    let xy_b = is_add (is_mul A D) (is_mul B C) in
    let yz_a = is_add (is_mul C E) (is_mul two (is_mul D F)) in
    let yz_b = is_add (is_mul C F) (is_mul D E) in
    both _ _
    (is_eq (is_add (is_mul xy_a E) (is_mul two (is_mul xy_b F))) (is_add (is_mul A yz_a) (is_mul two (is_mul B yz_b))) (omega arith))
    (is_eq (is_add (is_mul xy_a F) (is_mul xy_b E)) (is_add (is_mul A yz_b) (is_mul B yz_a)) (omega arith))

-- from x + n ≡ m + n
pub cancel_plus : (x y n : Root) → plus x n ≡ plus y n → x ≡ y
cancel_plus x y n e =
    sym (plus_zero x) ∙ ap (plus x) (sym (plus_minus n)) ∙ sym (plus_assoc x n (minus n)) ∙ ap (λ t. plus t (minus n)) e
    ∙ plus_assoc y n (minus n) ∙ ap (plus y) (plus_minus n) ∙ plus_zero y
