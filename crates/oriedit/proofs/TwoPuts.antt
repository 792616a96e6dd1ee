-- One text put behind another.
use Rattle.std.proofs.Common.{◌≡◌, ℕ, List, ◌++◌, Bool, append_assoc, sym, ap, subst, ◌∙◌}
use Rattle.std.specs.Prelude.{Option, Some, None, Result, Ok, Err, IsErr}
use Rattle.std.proofs.lemmas.Bool.{false≢true}
use Rattle.ports.specs.Streams.{Puts}
use Rattle.api.specs.HeadText.{head_text}

pub put_both : {E : Type 0} (F : Type 0) (a b c : Option (List ℕ)) (s t : List ℕ) (x : Unit) (r : Result Unit E)
    → Puts {T = Unit} {E = F} a b s (Ok x) → Puts {T = Unit} {E = E} b c t r → Puts {T = Unit} {E = E} a c (s ++ t) r
put_both F None None None s t x r p q = tt
put_both F None None (Some c) s t x r p q = absurd q
put_both F None (Some b) c s t x r p q = absurd p
put_both F (Some a) None c s t x r p q = absurd p
put_both F (Some a) (Some b) None s t x r p q = absurd q
put_both F (Some a) (Some b) (Some c) s t x (Ok y) p q = q ∙ ap (λ h. h ++ t) p ∙ append_assoc a s t
put_both F (Some a) (Some b) (Some c) s t x (Err e) p q = (
  s ++ q.0,
  (q.1.0, ap (λ z. s ++ z) q.1.1 ∙ sym (append_assoc s q.0 q.1.0)),
  q.2 ∙ ap (λ h. h ++ q.0) p ∙ append_assoc a s q.0,
)

pub put_first : {E F : Type 0} (a b : Option (List ℕ)) (s t : List ℕ) (e : E) (f : F)
    → Puts {T = Unit} {E = E} a b s (Err e) → Puts {T = Unit} {E = F} a b (s ++ t) (Err f)
put_first None None s t e f p = tt
put_first None (Some b) s t e f p = absurd p
put_first (Some a) None s t e f p = absurd p
put_first (Some a) (Some b) s t e f p =
    (p.0, (p.1.0 ++ t, ap (λ z. z ++ t) p.1.1 ∙ append_assoc p.0 p.1.0 t), p.2)

-- the first text was put in part
pub put_failed : {E F : Type 0} (a b : Option (List ℕ)) (s t : List ℕ) (e : E) (r : Result Unit F)
    → Puts {T = Unit} {E = E} a b s (Err e) → IsErr r → Puts {T = Unit} {E = F} a b (s ++ t) r
put_failed a b s t e (Ok x) p i = absurd (false≢true i)
put_failed a b s t e (Err f) p i = put_first a b s t e f p

-- a head that says the same
pub head_is : {E : Type 0} (a b : Option (List ℕ)) (s r n m : ℕ) (j k : Bool) (allow : Option (List ℕ)) (x : Result Unit E)
    → s ≡ r → j ≡ k → n ≡ m → Puts {T = Unit} {E = E} a b (head_text s j n allow) x → Puts {T = Unit} {E = E} a b (head_text r k m allow) x
head_is a b s r n m j k allow x e f g p =
    subst (λ z. Puts a b (head_text r k z allow) x) g (subst (λ z. Puts a b (head_text r z n allow) x) f (subst (λ z. Puts a b (head_text z j n allow) x) e p))
