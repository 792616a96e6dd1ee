-- A text to which pieces are added one after another.
use Rattle.std.proofs.Common.{◌≡◌, ℕ, List, [], ◌++◌, append_assoc, refl, ap, ◌∙◌}
use Rattle.std.specs.Prelude.{Result, Ok, Err, OnOk}

pub four : (t a b c d u v w x : List ℕ) → u ≡ t ++ a → v ≡ u ++ b → w ≡ v ++ c → x ≡ w ++ d → x ≡ t ++ (a ++ (b ++ (c ++ d)))
four t a b c d u v w x e f g h = rw (h, g, f, e, append_assoc (t ++ a) b c, append_assoc t a (b ++ c), append_assoc t (a ++ (b ++ c)) d, append_assoc a (b ++ c) d, append_assoc b c d) refl

pub seven : (t0 t1 t2 t3 t4 t5 t6 t7 a b c d e f g : List ℕ) → t0 ≡ [] → t1 ≡ t0 ++ a → t2 ≡ t1 ++ b → t3 ≡ t2 ++ c → t4 ≡ t3 ++ d → t5 ≡ t4 ++ e → t6 ≡ t5 ++ f → t7 ≡ t6 ++ g
    → t7 ≡ (a ++ b) ++ (c ++ (d ++ (e ++ (f ++ g))))
seven t0 t1 t2 t3 t4 t5 t6 t7 a b c d e f g h0 h1 h2 h3 h4 h5 h6 h7 =
    let start : t2 ≡ a ++ b = rw (h2, h1, h0) refl in
    h7 ∙ ap (λ t. t ++ g) (four t2 c d e f t3 t4 t5 t6 h3 h4 h5 h6)
    ∙ append_assoc t2 (c ++ (d ++ (e ++ f))) g
    ∙ ap (λ t. t2 ++ t) (append_assoc c (d ++ (e ++ f)) g ∙ ap (λ t. c ++ t) (append_assoc d (e ++ f) g ∙ ap (λ t. d ++ t) (append_assoc e f g)))
    ∙ ap (λ t. t ++ (c ++ (d ++ (e ++ (f ++ g))))) start

pub on_ok : {A E : Type 0} (P Q : Type 0) (r : Result A E) → (P → Q) → OnOk r P → OnOk r Q
on_ok P Q (Ok x) f h = f h
on_ok P Q (Err e) f h = h
