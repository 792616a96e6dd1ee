-- Steps over a list, one element after another, as a loop makes them.
use Rattle.std.proofs.Common.{◌≡◌, ℕ, zero, suc, ◌+◌, ◌<◌, List, [], ◌∷◌, ◌++◌, take, length, get_or, refl, ap, subst, inl, inr, arith}
use Rattle.std.specs.Prelude.{Result, Ok, Err}
use Rattle.sheet.specs.Pattern.{ExactCrease}
use Rattle.ports.specs.declared.stop.Stop.{Stop}
use Rattle.ports.specs.declared.stop.Stop.TheVariants as stop
use Rattle.edits.specs.Rules.{ForEach}
use Rattle.ports.specs.Stops.{Refuses}
use Rattle.edits.specs.Drawn.{DrawnOne, DrawnInTurn}
use Rattle.edits.specs.declared.refusal.EditBad.{EditBad}

is_ok : {A : Type 0} (a b : A) → (let x : Result A EditBad = Ok a in x) ≡ Ok b → a ≡ b
is_ok a b e = cc

after : (i : ℕ) → suc i ≡ i + 1
after i = omega (arith)

-- what holds of the first i + 1
at_next : {X : Type 0} (P : List X → Type 0) (xs : List X) (i : ℕ) → P (take (suc i) xs) → P (take (i + 1) xs)
at_next P xs i h = subst (λ n. P (take n xs)) (after i) h

each_suc : {A B : Type 0} (Step : A → Result B EditBad → Type 0) (xs : List A) (i : ℕ) (x : A) (ys : List B) (y : B) → i < length xs → x ≡ get_or xs i x
    → ForEach Step (take i xs) (Ok ys) → Step x (Ok y) → ForEach Step (take (suc i) xs) (Ok (ys ++ y ∷ []))
each_suc Step [] i x ys y lt is h k = absurd (omega (arith, lt))
each_suc Step (a ∷ rest) zero x ys y lt is h k = (y, subst (λ z. Step z (Ok y)) is k, ([], refl, ap (λ (zs : List _). zs ++ y ∷ []) (is_ok ys [] h)))
each_suc Step (a ∷ rest) (suc i) x ys y lt is h k =
    (h.0, h.1, (h.2.0 ++ y ∷ [], each_suc Step rest i x h.2.0 y (omega (arith, lt)) is h.2.1 k, ap (λ (zs : List _). zs ++ y ∷ []) h.2.2))

pub each_next : {A B : Type 0} (Step : A → Result B EditBad → Type 0) (xs : List A) (i : ℕ) (x : A) (ys : List B) (y : B) → i < length xs → x ≡ get_or xs i x
    → ForEach Step (take i xs) (Ok ys) → Step x (Ok y) → ForEach Step (take (i + 1) xs) (Ok (ys ++ y ∷ []))
each_next Step xs i x ys y lt is h k = at_next (λ zs. ForEach Step zs (Ok (ys ++ y ∷ []))) xs i (each_suc Step xs i x ys y lt is h k)

pub each_refused : {A B : Type 0} (Step : A → Result B EditBad → Type 0) (xs : List A) (i : ℕ) (x : A) (ys : List B) (e : EditBad) → i < length xs → x ≡ get_or xs i x
    → ForEach Step (take i xs) (Ok ys) → Step x (Err e) → ForEach Step xs (Err e)
each_refused Step [] i x ys e lt is h k = absurd (omega (arith, lt))
each_refused Step (a ∷ rest) zero x ys e lt is h k = inl (subst (λ z. Step z (Err e)) is k)
each_refused Step (a ∷ rest) (suc i) x ys e lt is h k = inr (h.0, h.1, inl (each_refused Step rest i x h.2.0 e (omega (arith, lt)) is h.2.1 k))

turn_suc : (ds : List ExactCrease) (i : ℕ) (d : ExactCrease) (creases xs ys : List ExactCrease) → i < length ds → d ≡ get_or ds i d
    → DrawnInTurn (take i ds) creases (Ok xs) → DrawnOne d xs (Ok ys) → DrawnInTurn (take (suc i) ds) creases (Ok ys)
turn_suc [] i d creases xs ys lt is h k = absurd (omega (arith, lt))
turn_suc (a ∷ rest) zero d creases xs ys lt is h k = (ys, subst (λ z. DrawnOne a z (Ok ys)) (is_ok xs creases h) (subst (λ z. DrawnOne z xs (Ok ys)) is k), refl)
turn_suc (a ∷ rest) (suc i) d creases xs ys lt is h k = (h.0, h.1, turn_suc rest i d h.0 xs ys (omega (arith, lt)) is h.2 k)

pub turn_next : (ds : List ExactCrease) (i : ℕ) (d : ExactCrease) (creases xs ys : List ExactCrease) → i < length ds → d ≡ get_or ds i d
    → DrawnInTurn (take i ds) creases (Ok xs) → DrawnOne d xs (Ok ys) → DrawnInTurn (take (i + 1) ds) creases (Ok ys)
turn_next ds i d creases xs ys lt is h k = at_next (λ zs. DrawnInTurn zs creases (Ok ys)) ds i (turn_suc ds i d creases xs ys lt is h k)

pub turn_refused : (ds : List ExactCrease) (i : ℕ) (d : ExactCrease) (creases xs : List ExactCrease) (e : EditBad) → i < length ds → d ≡ get_or ds i d
    → DrawnInTurn (take i ds) creases (Ok xs) → DrawnOne d xs (Err e) → DrawnInTurn ds creases (Err e)
turn_refused [] i d creases xs e lt is h k = absurd (omega (arith, lt))
turn_refused (a ∷ rest) zero d creases xs e lt is h k = inl (subst (λ z. DrawnOne a z (Err e)) (is_ok xs creases h) (subst (λ z. DrawnOne z xs (Err e)) is k))
turn_refused (a ∷ rest) (suc i) d creases xs e lt is h k = inr (h.0, h.1, turn_refused rest i d h.0 xs e (omega (arith, lt)) is h.2 k)

-- a drawing ends the turn
pub turn_stopped : (ds : List ExactCrease) (i : ℕ) (d : ExactCrease) (creases xs : List ExactCrease) (e : Stop EditBad) → i < length ds → d ≡ get_or ds i d
    → DrawnInTurn (take i ds) creases (Ok xs) → Refuses (DrawnOne d xs) e → Refuses (DrawnInTurn ds creases) e
turn_stopped ds i d creases xs stop.NoMemory lt is h k = tt
turn_stopped ds i d creases xs (stop.Why e) lt is h k = turn_refused ds i d creases xs e lt is h k

-- a step ends the rest
pub each_stopped : {A B : Type 0} (Step : A → Result B EditBad → Type 0) (xs : List A) (i : ℕ) (x : A) (ys : List B) (e : Stop EditBad) → i < length xs → x ≡ get_or xs i x
    → ForEach Step (take i xs) (Ok ys) → Refuses (Step x) e → Refuses (ForEach Step xs) e
each_stopped Step xs i x ys stop.NoMemory lt is h k = tt
each_stopped Step xs i x ys (stop.Why e) lt is h k = each_refused Step xs i x ys e lt is h k
