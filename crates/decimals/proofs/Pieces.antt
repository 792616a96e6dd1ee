-- The pieces of bytes are one, and what is spelled is cut into its own pieces.
use Rattle.std.proofs.Common.{◌≡◌, ◌≢◌, ℕ, zero, suc, ◌<◌, ◌≤◌, ◌⊎◌, inl, inr, Bool, List, [], ◌∷◌, ◌++◌, length, get_or, drop, refl, sym, subst, ap, ◌∙◌, arith}
use Rattle.qroot2.specs.Digits.{AllDigits}
use Rattle.decimals.specs.Decimal.{IsSign}
use Rattle.decimals.specs.Cutting.{IsUnsigned, IsRun, IsFraction, IsCut, Cut, EndsRun, BeginsNot}
use Rattle.chains.proofs.callers.Elements.{same_heads, same_tails}

ends_not : (b : ℕ) (bs xs : List ℕ) → xs ≡ b ∷ bs → EndsRun xs → 48 ≤ b → b ≤ 57 → ⊥
ends_not b bs xs e h l g = told (subst EndsRun e h)
  where
    told : (b < 48) ⊎ (57 < b) → ⊥
    told (inl p) = omega arith
    told (inr p) = omega arith

-- two runs at the front of the same bytes are one
pub run_one : (a r b s : List ℕ) → a ++ r ≡ b ++ s → AllDigits a → AllDigits b → EndsRun r → EndsRun s → (a ≡ b) × (r ≡ s)
run_one [] r [] s e h k x y = (refl, e)
run_one [] r (d ∷ b) s e h k x y = absurd (ends_not d (b ++ s) r e x k.0 k.1)
run_one (c ∷ a) r [] s e h k x y = absurd (ends_not c (a ++ r) s (sym e) y h.0 h.1)
run_one (c ∷ a) r (d ∷ b) s e h k x y =
    let t = run_one a r b s (same_tails e) h.2 k.2 x y in
    let f : c ≡ d = same_heads e in
    (let g = t.0 in cc, t.1)

pub runs_are_one : {bytes a r b s : List ℕ} → IsRun bytes a r → IsRun bytes b s → (a ≡ b) × (r ≡ s)
runs_are_one {bytes} {a} {r} {b} {s} h k = run_one a r b s (sym h.whole ∙ k.whole) h.digits k.digits h.ends k.ends

begins_not : (c : ℕ) (bs xs : List ℕ) → xs ≡ c ∷ bs → BeginsNot c xs → ⊥
begins_not c bs xs e h = told (subst (BeginsNot c) e h)
  where
    told : c ≢ c → ⊥
    told n = n refl

pub unsigned_one : {bytes p q : List ℕ} {m n : Bool} → IsUnsigned bytes m p → IsUnsigned bytes n q → (m ≡ n) × (p ≡ q)
unsigned_one (inl h) (inl k) = (h.1 ∙ sym k.1, same_tails (sym h.0 ∙ k.0))
unsigned_one (inl h) (inr (inl k)) = absurd (let e = same_heads (sym h.0 ∙ k.0) in omega arith)
unsigned_one {bytes} {p} {q} (inl h) (inr (inr k)) = absurd (begins_not 45 p q (sym k.0 ∙ h.0) k.2)
unsigned_one (inr (inl h)) (inl k) = absurd (let e = same_heads (sym h.0 ∙ k.0) in omega arith)
unsigned_one (inr (inl h)) (inr (inl k)) = (h.1 ∙ sym k.1, same_tails (sym h.0 ∙ k.0))
unsigned_one {bytes} {p} {q} (inr (inl h)) (inr (inr k)) = absurd (begins_not 43 p q (sym k.0 ∙ h.0) k.3)
unsigned_one {bytes} {p} {q} (inr (inr h)) (inl k) = absurd (begins_not 45 q p (sym h.0 ∙ k.0) h.2)
unsigned_one {bytes} {p} {q} (inr (inr h)) (inr (inl k)) = absurd (begins_not 43 q p (sym h.0 ∙ k.0) h.3)
unsigned_one (inr (inr h)) (inr (inr k)) = (h.1 ∙ sym k.1, sym h.0 ∙ k.0)

pub fraction_one : {bytes a r b s : List ℕ} → IsFraction bytes a r → IsFraction bytes b s → (a ≡ b) × (r ≡ s)
fraction_one (inl h) (inl k) =
    let e : h.0 ≡ k.0 = same_tails (sym h.1 ∙ k.1) in
    runs_are_one h.2 (subst (λ xs. IsRun xs _ _) (sym e) k.2)
fraction_one {bytes} {a} {r} {b} {s} (inl h) (inr k) = absurd (begins_not 46 h.0 s (sym k.1 ∙ h.1) k.2)
fraction_one {bytes} {a} {r} {b} {s} (inr h) (inl k) = absurd (begins_not 46 k.0 r (sym h.1 ∙ k.1) h.2)
fraction_one (inr h) (inr k) = (h.0 ∙ sym k.0, sym h.1 ∙ k.1)

pub record AreSameCut (c d : Cut) : Type 0 where
  pub minus : c.minus ≡ d.minus
  pub before : c.before ≡ d.before
  pub behind : c.behind ≡ d.behind
  pub tail : c.tail ≡ d.tail

pub cut_one : {bytes : List ℕ} {c d : Cut} → IsCut bytes c → IsCut bytes d → AreSameCut c d
cut_one {bytes} {c} {d} h k =
    let u = unsigned_one h.unsigned k.unsigned in
    let r = runs_are_one h.before (subst (λ xs. IsRun xs d.before k.rest) (sym u.1) k.before) in
    let f = fraction_one h.behind (subst (λ xs. IsFraction xs d.behind d.tail) (sym r.1) k.behind) in
    record { minus = u.0; before = r.0; behind = f.0; tail = f.1 }

-- a sign before bytes that begin with a digit or a point
pub sign_off : (sign rest : List ℕ) (minus : Bool) → IsSign sign minus → BeginsNot 45 rest → BeginsNot 43 rest → IsUnsigned (sign ++ rest) minus rest
sign_off sign rest minus (inl h) p q = inl (ap (λ xs. xs ++ rest) h.0, h.1)
sign_off sign rest minus (inr (inl e, m)) p q = inr (inl (ap (λ xs. xs ++ rest) e, m))
sign_off sign rest minus (inr (inr e, m)) p q = inr (inr (ap (λ xs. xs ++ rest) e, m, p, q))

-- and back
pub sign_on : (bytes rest : List ℕ) (minus : Bool) → IsUnsigned bytes minus rest → (sign : List ℕ) × (bytes ≡ sign ++ rest) × IsSign sign minus
sign_on bytes rest minus (inl h) = (45 ∷ [], h.0, inl (refl, h.1))
sign_on bytes rest minus (inr (inl h)) = (43 ∷ [], h.0, inr (inl refl, h.1))
sign_on bytes rest minus (inr (inr h)) = ([], h.0, inr (inr refl, h.1))

pub ends_at : (xs : List ℕ) (i : ℕ) → i < length xs → (get_or xs i 0 < 48) ⊎ (57 < get_or xs i 0) → EndsRun (drop i xs)
ends_at [] i l h = absurd (omega arith)
ends_at (x ∷ xs) zero l h = h
ends_at (x ∷ xs) (suc i) l h = ends_at xs i (omega arith) h

pub digits_begin_not : (c : ℕ) (ds : List ℕ) → c < 48 → AllDigits ds → BeginsNot c ds
digits_begin_not c [] l a = tt
digits_begin_not c (d ∷ ds) l a = λ e. (let h = a.0 in omega arith)
