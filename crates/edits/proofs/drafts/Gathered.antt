-- The creases of a list that are wanted, as a loop over the list gathers them behind others.
use Rattle.std.proofs.Common.{◌≡◌, ◌≢◌, zero, suc, List, [], ◌∷◌, ◌++◌, get_or, sym, subst, ◌⊎◌, inl, inr, arith}
use Rattle.std.specs.Prelude.{◌↔◌, AllPairs, Contains}
use Rattle.std.proofs.lemmas.List.Elements.{Contains-get_or, Contains-append_left, Contains-push, Contains-push_cases}
use Rattle.std.proofs.lemmas.List.Quantifiers.{all_pairs_push}
use Rattle.chains.proofs.callers.Elements.{head_has, tail_has, has_cases}
use Rattle.sheet.specs.Pattern.{ExactCrease}

abbrev Other : ExactCrease → ExactCrease → Type 0
Other f g = f ≢ g

-- All that are to be found are in the list, or are those of the rest that are wanted. None is twice there.
pub record AreGathered (Found Wanted : ExactCrease → Type 0) (list rest : List ExactCrease) : Type 0 where
  pub members : (f : ExactCrease) → Found f ↔ (Contains list f ⊎ (Contains rest f × Wanted f))
  pub once : AllPairs (λ f g. f ≢ g) list
  pub later : AllPairs (λ f g. f ≢ g) rest
  pub apart : (f : ExactCrease) → Contains list f → ¬ Contains rest f

pub none_gathered : (Found Wanted : ExactCrease → Type 0) (xs : List ExactCrease) → ((f : ExactCrease) → Found f ↔ (Contains xs f × Wanted f)) → AllPairs (λ f g. f ≢ g) xs → AreGathered Found Wanted [] xs
none_gathered Found Wanted xs m once = record {
  members = λ f. (λ h. inr ((m f).0 h), λ c. elim c [ inl none ↦ absurd (omega (arith, none.1)) | inr d ↦ (m f).1 d ]);
  once = λ i j d l n. absurd (omega (arith, n));
  later = once;
  apart = λ f c. absurd (omega (arith, c.1));
}

pairs_later : (x : ExactCrease) (xs : List ExactCrease) → AllPairs (λ f g. f ≢ g) (x ∷ xs) → AllPairs (λ f g. f ≢ g) xs
pairs_later x xs h = λ i j d l m. h (suc i) (suc j) d (omega (arith, l)) (omega (arith, m))

first_other : (x f : ExactCrease) (xs : List ExactCrease) → AllPairs (λ f g. f ≢ g) (x ∷ xs) → Contains xs f → x ≢ f
first_other x f xs h c = subst (λ (y : ExactCrease). x ≢ y) c.2 (h zero (suc c.0) f (omega arith) (omega (arith, c.1)))

module _ (Found Wanted : ExactCrease → Type 0) (list rest next : List ExactCrease) (x : ExactCrease) (g : AreGathered Found Wanted list rest) (e : rest ≡ x ∷ next) where
  rest_later : AllPairs (λ f g. f ≢ g) (x ∷ next)
  rest_later = subst (λ xs. AllPairs (λ (f g : ExactCrease). f ≢ g) xs) e g.later

  in_rest : (f : ExactCrease) → Contains (x ∷ next) f → Contains rest f
  in_rest f c = subst (λ xs. Contains xs f) (sym e) c

  -- the next one is wanted
  pub gathered_more : Wanted x → AreGathered Found Wanted (list ++ x ∷ []) next
  gathered_more w = record {
    members = λ f. (
      λ h. elim ((g.members f).0 h) [
        | inl c ↦ inl (Contains-append_left list (x ∷ []) f c)
        | inr c ↦ elim (has_cases x f next (subst (λ xs. Contains xs f) e c.0)) [ inl i ↦ inl (subst (Contains (list ++ x ∷ [])) i (Contains-push list x)) | inr d ↦ inr (d, c.1) ]
      ],
      λ c. (g.members f).1 (elim c [
        | inl d ↦ elim (Contains-push_cases list x f d) [ inl k ↦ inl k | inr i ↦ inr (in_rest f (head_has x f next i), subst Wanted i w) ]
        | inr d ↦ inr (in_rest f (tail_has x f next d.0), d.1)
      ]),
    );
    once = all_pairs_push Other list x g.once (λ k d l i. g.apart (get_or list k d) (Contains-get_or list k d l) (in_rest (get_or list k d) (head_has x (get_or list k d) next (sym i))));
    later = pairs_later x next rest_later;
    apart = λ f c d. elim (Contains-push_cases list x f c) [ inl k ↦ g.apart f k (in_rest f (tail_has x f next d)) | inr i ↦ first_other x f next rest_later d i ];
  }

  -- the next one is not
  pub gathered_passed : (¬ Wanted x) → AreGathered Found Wanted list next
  gathered_passed n = record {
    members = λ f. (
      λ h. elim ((g.members f).0 h) [
        | inl c ↦ inl c
        | inr c ↦ elim (has_cases x f next (subst (λ xs. Contains xs f) e c.0)) [ inl i ↦ absurd (n (subst Wanted (sym i) c.1)) | inr d ↦ inr (d, c.1) ]
      ],
      λ c. (g.members f).1 (elim c [ inl d ↦ inl d | inr d ↦ inr (in_rest f (tail_has x f next d.0), d.1) ]),
    );
    once = g.once;
    later = pairs_later x next rest_later;
    apart = λ f c d. g.apart f c (in_rest f (tail_has x f next d));
  }

pub all_gathered : (Found Wanted : ExactCrease → Type 0) (list rest : List ExactCrease) → AreGathered Found Wanted list rest → rest ≡ [] → (f : ExactCrease) → Contains list f ↔ Found f
all_gathered Found Wanted list rest g e f = (
  λ c. (g.members f).1 (inl c),
  λ h. elim ((g.members f).0 h) [ inl c ↦ c | inr c ↦ absurd (let n : Contains [] f = subst (λ xs. Contains xs f) e c.0 in omega (arith, n.1)) ],
)
