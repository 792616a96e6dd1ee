-- A text is cut in one way, and parts of a path have no slash.
use Rattle.std.proofs.Common.{◌≡◌, ◌≢◌, ℕ, suc, ◌<◌, ◌==◌, Bool, true, false, cond, List, [], ◌∷◌, ◌++◌, length, get_or, Some, None, refl, sym, subst, ◌∙◌, inl, inr, arith}
use Rattle.std.specs.Borrow.{Bor}
use Rattle.std.specs.Prelude.{Contains}
use Rattle.std.proofs.lemmas.Bool.{eqb-true}
use Rattle.std.proofs.lemmas.Bool.Decides.{nat_tests}
use Rattle.std.proofs.lemmas.Str.Pattern.{IsSplitOnceResult, split_parts}
use Rattle.matchit.specs.Seek.{has_slash}
use Rattle.chains.proofs.callers.Elements.{head_has, tail_has, has_cases, has_none}
use Rattle.lines.proofs.callers.Lines.{has_behind, one_cut}
use Rattle.routes.specs.Cuts.{IsSplit}
use Rattle.routes.specs.Routes.{IsPart}

pub one_split : (c : ℕ) (text p q r s : List ℕ) → IsSplit c text p q → IsSplit c text r s → (p ≡ r) × (q ≡ s)
one_split c text p q r s f g = elim f.whole [
  | inl a ↦ elim g.whole [
    | inl b ↦ one_cut c p r q s f.first g.first (sym a ∙ b)
    | inr b ↦ absurd (g.first (subst (λ xs. Contains xs c) (sym a ∙ b.0) (has_behind c p q)))
  ]
  | inr a ↦ elim g.whole [
    | inl b ↦ absurd (f.first (subst (λ xs. Contains xs c) (sym b ∙ a.0) (has_behind c r s)))
    | inr b ↦ (sym a.0 ∙ b.0, a.1 ∙ sym b.1)
  ]
]

-- what `split_once` says at a character
nowhere : (c : ℕ) (xs : List ℕ) → ((i : ℕ) → i < length xs → get_or xs i 0 ≢ c) → ¬ Contains xs c
nowhere c [] h m = has_none c m
nowhere c (x ∷ xs) h m = elim (has_cases x c xs m) [
  | inl e ↦ h 0 (omega arith) e
  | inr k ↦ nowhere c xs (λ i l. h (suc i) (omega arith)) k
]

pub split_some : (c : ℕ) (text : List ℕ) (x : Bor (List ℕ) × Bor (List ℕ)) → IsSplitOnceResult c text (Some x) → c < 128 → IsSplit c text x.0.now x.1.now
split_some c text x h l =
    let s = split_parts c text (Some x) h l in
    record { first = nowhere c x.0.now s.1; whole = inl s.0 }

pub split_none : (c : ℕ) (text : List ℕ) → IsSplitOnceResult c text None → c < 128 → IsSplit c text text []
split_none c text h l = record { first = nowhere c text (split_parts c text None h l); whole = inr (refl, refl) }

-- parts of a path
no_slash : (part : List ℕ) → has_slash part ≡ false → ¬ Contains part 47
no_slash [] h m = has_none 47 m
no_slash (x ∷ part) h m = pick (x == 47) refl h (no_slash part) where
  pick : (b : Bool) → (x == 47) ≡ b → cond b true (has_slash part) ≡ false → (has_slash part ≡ false → ¬ Contains part 47) → ⊥
  pick true e g rest = absurd (let f = g in cc)
  pick false e g rest = elim (has_cases x 47 part m) [
    | inl k ↦ let q : x ≢ 47 = λ z. grind (arith, nat_tests) in q k
    | inr k ↦ rest g k
  ]

slashless : (part : List ℕ) → ¬ Contains part 47 → has_slash part ≡ false
slashless [] n = refl
slashless (x ∷ part) n = pick (x == 47) refl (slashless part (λ m. n (tail_has x 47 part m))) where
  pick : (b : Bool) → (x == 47) ≡ b → has_slash part ≡ false → cond b true (has_slash part) ≡ false
  pick true e g = absurd (n (head_has x 47 part (eqb-true x 47 e)))
  pick false e g = g

pub part_is : (x : ℕ) (part : List ℕ) → has_slash (x ∷ part) ≡ false → IsPart (x ∷ part)
part_is x part h = record { some = λ e. absurd cc; solid = no_slash (x ∷ part) h }

pub part_slashless : (part : List ℕ) → IsPart part → has_slash part ≡ false
part_slashless part p = slashless part p.solid

-- a part, and what may follow it, are cut at the slash
pub split_part : (part behind : List ℕ) → IsPart part → IsSplit 47 (part ++ 47 ∷ behind) part behind
split_part part behind p = record { first = p.solid; whole = inl refl }

pub split_last : (part : List ℕ) → IsPart part → IsSplit 47 part part []
split_last part p = record { first = p.solid; whole = inr (refl, refl) }
