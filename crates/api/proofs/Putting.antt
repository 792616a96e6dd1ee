-- Texts of which one after another is put or added.
use Rattle.std.proofs.Common.{◌≡◌, ◌∙◌, List, ℕ, ◌++◌, append_assoc, ap, sym}
use Rattle.std.specs.Prelude.{Option, Some, None, Result, Ok, Err, IsErr}
use Rattle.std.proofs.lemmas.Bool.{false≢true}
use Rattle.ports.specs.Streams.{Puts}

-- a piece is put behind another
pub puts_more : {T E : Type 0} (h k l : Option (List ℕ)) (a b : List ℕ) (x : T) (r : Result T E)
    → Puts {T = T} {E = E} h k a (Ok x) → Puts k l b r → Puts h l (a ++ b) r
puts_more None None None a b x r p q = tt
puts_more None None (Some l) a b x r p q = q
puts_more None (Some k) l a b x r p q = absurd p
puts_more (Some h) None l a b x r p q = absurd p
puts_more (Some h) (Some k) None a b x r p q = q
puts_more (Some h) (Some k) (Some l) a b x (Ok y) p q = q ∙ ap (λ t. t ++ b) p ∙ append_assoc h a b
puts_more (Some h) (Some k) (Some l) a b x (Err e) p q =
    (a ++ q.0, (q.1.0, ap (λ t. a ++ t) q.1.1 ∙ sym (append_assoc a q.0 q.1.0)), q.2 ∙ ap (λ t. t ++ q.0) p ∙ append_assoc h a q.0)

-- the three pieces of a head that tells methods
pub three : (first allow methods end last : List ℕ) → (first ++ allow) ++ (methods ++ (end ++ last)) ≡ first ++ ((allow ++ (methods ++ end)) ++ last)
three first allow methods end last = simp append_assoc

pub added : (o a b c d e x y z v w : List ℕ) → x ≡ o ++ a → y ≡ x ++ b → z ≡ y ++ c → v ≡ z ++ d → w ≡ v ++ e
    → w ≡ o ++ (a ++ (b ++ (c ++ (d ++ e))))
added o a b c d e x y z v w p q r s t =
    t ∙ ap (λ u. u ++ e) (s ∙ ap (λ u. u ++ d) (r ∙ ap (λ u. u ++ c) (q ∙ ap (λ u. u ++ b) p))) ∙ simp append_assoc

pub puts_failed : {T E : Type 0} (h l : Option (List ℕ)) (a b : List ℕ) (e : E) (r : Result T E)
    → Puts {T = T} {E = E} h l a (Err e) → IsErr r → Puts h l (a ++ b) r
puts_failed h l a b e (Ok x) p is = absurd (false≢true is)
puts_failed None None a b e (Err f) p is = tt
puts_failed None (Some l) a b e (Err f) p is = p
puts_failed (Some h) None a b e (Err f) p is = p
puts_failed (Some h) (Some l) a b e (Err f) p is =
    (p.0, (p.1.0 ++ b, ap (λ t. t ++ b) p.1.1 ∙ append_assoc p.0 p.1.0 b), p.2)
