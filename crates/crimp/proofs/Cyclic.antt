-- Cyclic lists: turning, and a crimp at the front.
use Rattle.std.proofs.Common.{◌≡◌, ◌≢◌, ◌%◌, ℕ, arith, refl, subst, sym, ◌∙◌, ◌⊎◌, inl, inr, List, [], ◌∷◌, ◌++◌, append-nil}
use Rattle.std.specs.Prelude.{ℤ}
use Rattle.sheet.specs.declared.mark.Mark.{Mark}
use Rattle.crimp.specs.Rules.{Rules}
use Rattle.crimp.specs.Cyclic.{In, Follows, Linked, Distinct}
use Rattle.crimp.proofs.Places.{Folded}
use Rattle.crimp.proofs.Crimp.{Crimp, Creases, First, Second, Third, Left}

pub in_append : {A : Type 0} (xs ys : List A) (a : A) → In (xs ++ ys) a → In xs a ⊎ In ys a
in_append [] ys a h = inr h
in_append (x ∷ xs) ys a (inl e) = inl (inl e)
in_append (x ∷ xs) ys a (inr h) = elim (in_append xs ys a h) [ inl k ↦ inl (inr k) | inr k ↦ inr k ]

pub in_left : {A : Type 0} (xs ys : List A) (a : A) → In xs a → In (xs ++ ys) a
in_left [] ys a h = absurd h
in_left (x ∷ xs) ys a (inl e) = inl e
in_left (x ∷ xs) ys a (inr h) = inr (in_left xs ys a h)

pub in_right : {A : Type 0} (xs ys : List A) (a : A) → In ys a → In (xs ++ ys) a
in_right [] ys a h = h
in_right (x ∷ xs) ys a h = inr (in_right xs ys a h)

pub in_turned : {A : Type 0} (xs ys : List A) (a : A) → In (xs ++ ys) a → In (ys ++ xs) a
in_turned xs ys a h = elim (in_append xs ys a h) [ inl k ↦ in_right ys xs a k | inr k ↦ in_left ys xs a k ]

pub follows_append : {A : Type 0} (u : A) (xs : List A) (v : A) (ys : List A) (z a b : A) → Follows u (xs ++ v ∷ ys) z a b → Follows u xs v a b ⊎ Follows v ys z a b
follows_append u [] v ys z a b (inl h) = inl h
follows_append u [] v ys z a b (inr h) = inr h
follows_append u (x ∷ xs) v ys z a b (inl h) = inl (inl h)
follows_append u (x ∷ xs) v ys z a b (inr h) = elim (follows_append x xs v ys z a b h) [ inl k ↦ inl (inr k) | inr k ↦ inr k ]

pub follows_left : {A : Type 0} (u : A) (xs : List A) (v : A) (ys : List A) (z a b : A) → Follows u xs v a b → Follows u (xs ++ v ∷ ys) z a b
follows_left u [] v ys z a b h = inl h
follows_left u (x ∷ xs) v ys z a b (inl h) = inl h
follows_left u (x ∷ xs) v ys z a b (inr h) = inr (follows_left x xs v ys z a b h)

pub follows_right : {A : Type 0} (u : A) (xs : List A) (v : A) (ys : List A) (z a b : A) → Follows v ys z a b → Follows u (xs ++ v ∷ ys) z a b
follows_right u [] v ys z a b h = inr h
follows_right u (x ∷ xs) v ys z a b h = inr (follows_right x xs v ys z a b h)

pub linked_turned : {A : Type 0} (xs ys : List A) (a b : A) → Linked (xs ++ ys) a b → Linked (ys ++ xs) a b
linked_turned [] ys a b h = rw (append-nil ys) h
linked_turned (u ∷ xs) [] a b h = subst (λ ls. Linked ls a b) (append-nil (u ∷ xs)) h
linked_turned (u ∷ xs) (v ∷ ys) a b h = elim (follows_append u xs v ys u a b h) [
  | inl k ↦ follows_right v ys u xs v a b k
  | inr k ↦ follows_left v ys u xs v a b k
]

pub follows_from : {A : Type 0} (u : A) (vs : List A) (z a b : A) → Follows u vs z a b → In (u ∷ vs) a
follows_from u [] z a b h = inl h.0
follows_from u (v ∷ vs) z a b (inl h) = inl h.0
follows_from u (v ∷ vs) z a b (inr h) = inr (follows_from v vs z a b h)

pub follows_to : {A : Type 0} (u : A) (vs : List A) (z a b : A) → Follows u vs z a b → (b ≡ z) ⊎ In vs b
follows_to u [] z a b h = inl h.1
follows_to u (v ∷ vs) z a b (inl h) = inr (inl h.1)
follows_to u (v ∷ vs) z a b (inr h) = elim (follows_to v vs z a b h) [ inl e ↦ inl e | inr k ↦ inr (inr k) ]

-- fewer sectors and creases keep the rules
pub fewer : (Here Less : ℕ → Type 0) (Link Chain : ℕ → ℕ → Type 0) (x : ℕ → ℤ) (mark : ℕ → Mark) (rank : ℕ → ℕ)
    → ((a : ℕ) → Less a → Here a) → ((a b : ℕ) → Chain a b → Link a b) → Rules Here Link x mark rank → Rules Less Chain x mark rank
fewer Here Less Link Chain x mark rank f g R = record {
  apart = λ a b h k. R.apart a b (f a h) (f b k);
  agrees = λ a b l h k. R.agrees a b (g a b l) (f a h) (f b k);
  clear = λ a b c d l h k m j. R.clear a b c d (g a b l) (f a h) (f b k) (g c d m) (f c j);
  nested = λ a b c d l h k m i j. R.nested a b c d (g a b l) (f a h) (f b k) (g c d m) (f c i) (f d j);
}

pub in_moved : (ls : List ℕ) (a b : ℕ) → a ≡ b → In ls a → In ls b
in_moved ls a b e h = rw e at h

-- a cyclic list from the sector before the crimped one on
pub crimp_at_front : (x : ℕ → ℤ) (p q r t : ℕ) (zs : List ℕ) → Distinct (p ∷ q ∷ r ∷ t ∷ zs) → q % 2 ≢ p % 2 → r % 2 ≢ q % 2 → t % 2 ≢ r % 2 → Folded (x p) (x q) (x r) (x t)
    → Crimp (In (p ∷ t ∷ zs)) (Linked (p ∷ t ∷ zs)) (In (p ∷ q ∷ r ∷ t ∷ zs)) (Linked (p ∷ q ∷ r ∷ t ∷ zs)) x p q r t
crimp_at_front x p q r t zs D o1 o2 o3 F = record {
  creases = λ a b l. sorts a b l;
  sectors = λ a h. elim h [ inl e ↦ inr (inr (inl e)) | inr h ↦ elim h [ inl e ↦ inl e | inr h ↦ elim h [ inl e ↦ inr (inl e) | inr h ↦ inr (inr (inr h)) ] ] ];
  joined = inl (refl, refl);
  has_p = inl refl;
  has_t = inr (inl refl);
  no_q = λ h. elim h [ inl e ↦ D.0 (inl (sym e)) | inr k ↦ D.1.0 (inr k) ];
  no_r = λ h. elim h [ inl e ↦ D.0 (inr (inl (sym e))) | inr k ↦ D.1.1.0 k ];
  odd_q = o1;
  odd_r = omega arith;
  odd_t = λ e. o3 (omega arith);
  places = F;
}
  where
    last : (a b : ℕ) → Follows t zs p a b → Creases (In (p ∷ t ∷ zs)) (Linked (p ∷ t ∷ zs)) p q r t a b
    last a b l = Left (record {
      link = inr l;
      from = inr (follows_from t zs p a b l);
      to = elim (follows_to t zs p a b l) [ inl e ↦ inl e | inr k ↦ inr (inr k) ];
      not_p = λ e. D.0 (inr (inr (in_moved (t ∷ zs) a p e (follows_from t zs p a b l))));
      not_t = λ e. elim (follows_to t zs p a b l) [ inl f ↦ D.0 (inr (inr (inl (sym f ∙ e)))) | inr k ↦ D.1.1.1.0 (in_moved zs b t e k) ];
    })

    sorts : (a b : ℕ) → Linked (p ∷ q ∷ r ∷ t ∷ zs) a b → Creases (In (p ∷ t ∷ zs)) (Linked (p ∷ t ∷ zs)) p q r t a b
    sorts a b (inl h) = First h.0 h.1
    sorts a b (inr (inl h)) = Second h.0 h.1
    sorts a b (inr (inr (inl h))) = Third h.0 h.1
    sorts a b (inr (inr (inr l))) = last a b l
