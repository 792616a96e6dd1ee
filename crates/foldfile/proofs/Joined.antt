-- Nine pieces that are appended one after another.
use Rattle.std.proofs.Common.{◌≡◌, ℕ, List, ◌++◌, sym, ap, ◌∙◌, append_assoc}

module _ (a b c d e f g h i : List ℕ) where
  in_turn : (((((((a ++ b) ++ c) ++ d) ++ e) ++ f) ++ g) ++ h) ++ i
      ≡ a ++ (b ++ (c ++ (d ++ (e ++ (f ++ (g ++ (h ++ i)))))))
  in_turn =
      append_assoc ((((((a ++ b) ++ c) ++ d) ++ e) ++ f) ++ g) h i
      ∙ append_assoc (((((a ++ b) ++ c) ++ d) ++ e) ++ f) g (h ++ i)
      ∙ append_assoc ((((a ++ b) ++ c) ++ d) ++ e) f (g ++ (h ++ i))
      ∙ append_assoc (((a ++ b) ++ c) ++ d) e (f ++ (g ++ (h ++ i)))
      ∙ append_assoc ((a ++ b) ++ c) d (e ++ (f ++ (g ++ (h ++ i))))
      ∙ append_assoc (a ++ b) c (d ++ (e ++ (f ++ (g ++ (h ++ i)))))
      ∙ append_assoc a b (c ++ (d ++ (e ++ (f ++ (g ++ (h ++ i))))))

  pub joined : (s t u v w x y z all : List ℕ) → s ≡ a → t ≡ s ++ b → u ≡ t ++ c → v ≡ u ++ d → w ≡ v ++ e
      → x ≡ w ++ f → y ≡ x ++ g → z ≡ y ++ h → all ≡ z ++ i
      → a ++ (b ++ (c ++ (d ++ (e ++ (f ++ (g ++ (h ++ i))))))) ≡ all
  joined s t u v w x y z all p q r k l m n o last =
      let to_c = r ∙ ap (λ j. j ++ c) (q ∙ ap (λ j. j ++ b) p) in
      let to_e = l ∙ ap (λ j. j ++ e) (k ∙ ap (λ j. j ++ d) to_c) in
      let to_g = n ∙ ap (λ j. j ++ g) (m ∙ ap (λ j. j ++ f) to_e) in
      sym (last ∙ ap (λ j. j ++ i) (o ∙ ap (λ j. j ++ h) to_g) ∙ in_turn)
