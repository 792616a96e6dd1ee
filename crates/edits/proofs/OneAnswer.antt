-- Rules that are tested one after another have one answer, where each of them has.
use Rattle.std.proofs.Common.{◌≡◌, List, [], ◌∷◌, sym, ap, subst, ◌∙◌, inl, inr}
use Rattle.std.specs.Prelude.{Result, Ok, Err}
use Rattle.edits.specs.Rules.{Gives, Unless, Then, ForEach}
use Rattle.edits.specs.declared.refusal.EditBad.{EditBad}

unfoldable pub HasOneAnswer : {A : Type 0} → (Result A EditBad → Type 0) → Type 0
HasOneAnswer {A} Answers = (x y : Result A EditBad) → Answers x → Answers y → x ≡ y

pub gives_one : {A : Type 0} (W : A → Type 0) → ((a b : A) → W a → W b → a ≡ b) → HasOneAnswer (Gives W)
unfolding HasOneAnswer
gives_one W h (Ok a) (Ok b) u v = ap Ok (h a b u v)
gives_one W h (Ok a) (Err e) u v = absurd v
gives_one W h (Err e) y u v = absurd u

pub unless_one : {A : Type 0} (B : Type 0) (e : EditBad) (Rest : Result A EditBad → Type 0) → HasOneAnswer Rest → HasOneAnswer (Unless B e Rest)
unfolding HasOneAnswer
unless_one B e Rest h x y (inl p) (inl q) = p.1 ∙ sym q.1
unless_one B e Rest h x y (inl p) (inr q) = absurd (q.0 p.0)
unless_one B e Rest h x y (inr p) (inl q) = absurd (p.0 q.0)
unless_one B e Rest h x y (inr p) (inr q) = h x y p.1 q.1

given_one : {A : Type 0} (First : Result A EditBad → Type 0) → HasOneAnswer First → (a b : A) → First (Ok a) → First (Ok b) → a ≡ b
unfolding HasOneAnswer
given_one First h a b u v = let e = h (Ok a) (Ok b) u v in cc

given_or_refused : {A : Type 0} (First : Result A EditBad → Type 0) → HasOneAnswer First → (a : A) (e : EditBad) → First (Ok a) → First (Err e) → ⊥
unfolding HasOneAnswer
given_or_refused First h a e u v = let d = h (Ok a) (Err e) u v in absurd (cc)

refused_one : {A B : Type 0} (First : Result A EditBad → Type 0) → HasOneAnswer First → (e d : EditBad) → First (Err e) → First (Err d) → (let x : Result B EditBad = Err e in x) ≡ Err d
unfolding HasOneAnswer
refused_one First h e d u v = let q = h (Err e) (Err d) u v in let r : e ≡ d = cc in ap Err r

pub then_one : {A B : Type 0} (First : Result A EditBad → Type 0) (Next : A → Result B EditBad → Type 0) → HasOneAnswer First → ((a : A) → First (Ok a) → HasOneAnswer (Next a)) → HasOneAnswer (Then First Next)
unfolding HasOneAnswer
then_one {A} {B} First Next h k x y u v = both x y u v
  where
    same : (a b : A) (x y : Result B EditBad) → First (Ok a) → First (Ok b) → Next a x → Next b y → x ≡ y
    same a b x y f g n m = k a f x y n (subst (λ c. Next c y) (sym (given_one First h a b f g)) m)

    both : (x y : Result B EditBad) → Then First Next x → Then First Next y → x ≡ y
    both (Ok b) (Ok c) u v = same u.0 v.0 (Ok b) (Ok c) u.1 v.1 u.2 v.2
    both (Ok b) (Err e) u (inl v) = absurd (given_or_refused First h u.0 e u.1 v)
    both (Ok b) (Err e) u (inr v) = same u.0 v.0 (Ok b) (Err e) u.1 v.1 u.2 v.2
    both (Err e) (Ok c) (inl u) v = absurd (given_or_refused First h v.0 e v.1 u)
    both (Err e) (Ok c) (inr u) v = same u.0 v.0 (Err e) (Ok c) u.1 v.1 u.2 v.2
    both (Err e) (Err d) (inl u) (inl v) = refused_one First h e d u v
    both (Err e) (Err d) (inl u) (inr v) = absurd (given_or_refused First h v.0 e v.1 u)
    both (Err e) (Err d) (inr u) (inl v) = absurd (given_or_refused First h u.0 d u.1 v)
    both (Err e) (Err d) (inr u) (inr v) = same u.0 v.0 (Err e) (Err d) u.1 v.1 u.2 v.2

pub for_each_one : {A B : Type 0} (Step : A → Result B EditBad → Type 0) → ((a : A) → HasOneAnswer (Step a)) → (list : List A) → HasOneAnswer (ForEach Step list)
unfolding HasOneAnswer
for_each_one Step h [] x y u v = u ∙ sym v
for_each_one {A} {B} Step h (a ∷ rest) x y u v =
    then_one (Step a) (λ b. Then (ForEach Step rest) (λ others. Gives (λ all. all ≡ b ∷ others))) (h a)
    (λ b _. then_one (ForEach Step rest) (λ others. Gives (λ all. all ≡ b ∷ others)) (for_each_one Step h rest) (λ others _. gives_one (λ all. all ≡ b ∷ others) (λ c d p q. p ∙ sym q))) x y u v
