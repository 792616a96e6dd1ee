-- Of one text there is one answer.
use Rattle.std.proofs.Common.{◌≡◌, ℕ, suc, ◌+◌, List, [], ◌∷◌, ◌++◌, length, refl, sym, subst, ap, ◌∙◌}
use Rattle.std.specs.Prelude.{All, Result, Ok, Err}
use Rattle.std.proofs.lemmas.List.Elements.{All-head, All-tail}
use Rattle.sheet.specs.Sheet.{ExactSheet}
use Rattle.lattice.specs.Lattice.{Measures}
use Rattle.cpfile.specs.CpDrawing.{DrawsLine}
use Rattle.cpfile.specs.CpReading.{DrawnLine, IsDrawn, lines_of, creases_of, dropped_of, AreDrawn, IsFirstBad, ReadsCp}
use Rattle.cpfile.specs.declared.bad.CpBad.{CpBad}
use Rattle.cpfile.specs.declared.bad.CpWhy.{CpWhy}
use Rattle.cpfile.specs.declared.drawn.CpLines.{CpLines}
use Rattle.cpfile.specs.declared.line.Drawn.{Drawn}
use Rattle.cpfile.proofs.TextLines.{one_lines}
use Rattle.cpfile.proofs.OneLine.{head_of, tail_of, line_one}

same_drawn : {a b : Drawn} (r s : Result Drawn CpWhy) → r ≡ s → r ≡ Ok a → s ≡ Ok b → a ≡ b
same_drawn r s e f g = (let h = sym f ∙ e ∙ g in cc)

same_why : {a b : CpWhy} (r s : Result Drawn CpWhy) → r ≡ s → r ≡ Err a → s ≡ Err b → a ≡ b
same_why r s e f g = (let h = sym f ∙ e ∙ g in cc)

not_both : {a : Drawn} {w : CpWhy} (r s : Result Drawn CpWhy) → r ≡ s → r ≡ Ok a → s ≡ Err w → ⊥
not_both r s e f g = absurd (let h = sym f ∙ e ∙ g in cc)

module _ (l : Measures) (sheet : ExactSheet) where
  drawn_one : (ds es : List DrawnLine) → lines_of ds ≡ lines_of es → All (IsDrawn l sheet) ds → All (IsDrawn l sheet) es → ds ≡ es
  drawn_one [] [] e a b = refl
  drawn_one [] (d ∷ es) e a b = absurd (cc)
  drawn_one (d ∷ ds) [] e a b = absurd (cc)
  drawn_one (d ∷ ds) (f ∷ es) e a b =
      let t : d.line ≡ f.line = head_of e in
      let u : d.drawn ≡ f.drawn = same_drawn (Ok d.drawn) (Ok f.drawn) (line_one l sheet f.line (Ok d.drawn) (Ok f.drawn) (subst (λ x. DrawsLine l sheet x (Ok d.drawn)) t (All-head (IsDrawn l sheet) d ds a)) (All-head (IsDrawn l sheet) f es b)) refl refl in
      let r = drawn_one ds es (tail_of e) (All-tail (IsDrawn l sheet) d ds a) (All-tail (IsDrawn l sheet) f es b) in
      λ i. record { line = t i; drawn = u i } ∷ r i

  drawn_not_bad : (ds before : List DrawnLine) (line : List ℕ) (after : List (List ℕ)) (w : CpWhy) → lines_of ds ≡ lines_of before ++ line ∷ after → All (IsDrawn l sheet) ds → DrawsLine l sheet line (Err w) → ⊥
  drawn_not_bad [] [] line after w e a h = absurd (cc)
  drawn_not_bad [] (b ∷ before) line after w e a h = absurd (cc)
  drawn_not_bad (d ∷ ds) [] line after w e a h = not_both (Ok d.drawn) (Err w) (line_one l sheet line (Ok d.drawn) (Err w) (subst (λ x. DrawsLine l sheet x (Ok d.drawn)) (head_of e) (All-head (IsDrawn l sheet) d ds a)) h) refl refl
  drawn_not_bad (d ∷ ds) (b ∷ before) line after w e a h = drawn_not_bad ds before line after w (tail_of e) (All-tail (IsDrawn l sheet) d ds a) h

  bad_one : (before others : List DrawnLine) (line other : List ℕ) (after rest : List (List ℕ)) (w x : CpWhy) → lines_of before ++ line ∷ after ≡ lines_of others ++ other ∷ rest
      → All (IsDrawn l sheet) before → All (IsDrawn l sheet) others → DrawsLine l sheet line (Err w) → DrawsLine l sheet other (Err x) → (length before ≡ length others) × (w ≡ x)
  bad_one [] [] line other after rest w x e a b h k = (refl, same_why (Err w) (Err x) (line_one l sheet other (Err w) (Err x) (subst (λ t. DrawsLine l sheet t (Err w)) (head_of e) h) k) refl refl)
  bad_one [] (d ∷ others) line other after rest w x e a b h k = absurd (not_both (Ok d.drawn) (Err w) (line_one l sheet line (Ok d.drawn) (Err w) (subst (λ t. DrawsLine l sheet t (Ok d.drawn)) (sym (head_of e)) (All-head (IsDrawn l sheet) d others b)) h) refl refl)
  bad_one (d ∷ before) [] line other after rest w x e a b h k = absurd (not_both (Ok d.drawn) (Err x) (line_one l sheet other (Ok d.drawn) (Err x) (subst (λ t. DrawsLine l sheet t (Ok d.drawn)) (head_of e) (All-head (IsDrawn l sheet) d before a)) k) refl refl)
  bad_one (d ∷ before) (f ∷ others) line other after rest w x e a b h k =
      let r = bad_one before others line other after rest w x (tail_of e) (All-tail (IsDrawn l sheet) d before a) (All-tail (IsDrawn l sheet) f others b) h k in
      (ap suc r.0, r.1)

  read_one : (bytes : List ℕ) (r s : CpLines) → AreDrawn l sheet bytes r → AreDrawn l sheet bytes s → r ≡ s
  read_one bytes r s h k =
      let e = drawn_one h.all k.all (one_lines bytes (lines_of h.all) (lines_of k.all) h.lines k.lines) h.drawn k.drawn in
      let a : r.lines ≡ s.lines = h.creases ∙ ap creases_of e ∙ sym k.creases in
      let b : r.dropped ≡ s.dropped = h.dropped ∙ ap dropped_of e ∙ sym k.dropped in
      λ i. record { lines = a i; dropped = b i }

  read_not_bad : (bytes : List ℕ) (r : CpLines) (b : CpBad) → AreDrawn l sheet bytes r → IsFirstBad l sheet bytes b → ⊥
  read_not_bad bytes r b h k = drawn_not_bad h.all k.before k.line k.after b.why (one_lines bytes (lines_of h.all) (lines_of k.before ++ k.line ∷ k.after) h.lines k.lines) h.drawn k.why

  first_bad_one : (bytes : List ℕ) (a b : CpBad) → IsFirstBad l sheet bytes a → IsFirstBad l sheet bytes b → a ≡ b
  first_bad_one bytes a b h k =
      let o = bad_one h.before k.before h.line k.line h.after k.after a.why b.why (one_lines bytes (lines_of h.before ++ h.line ∷ h.after) (lines_of k.before ++ k.line ∷ k.after) h.lines k.lines) h.drawn k.drawn h.why k.why in
      let e : a.line ≡ b.line = h.number ∙ ap (λ n. n + 1) o.0 ∙ sym k.number in
      let f = o.1 in
      λ i. record { line = e i; why = f i }

pub reading_one : (l : Measures) (sheet : ExactSheet) (bytes : List ℕ) (read other : Result CpLines CpBad) → ReadsCp l sheet bytes read → ReadsCp l sheet bytes other → read ≡ other
reading_one l sheet bytes (Ok r) (Ok s) h k = ap Ok (read_one l sheet bytes r s h k)
reading_one l sheet bytes (Ok r) (Err b) h k = absurd (read_not_bad l sheet bytes r b h k)
reading_one l sheet bytes (Err a) (Ok s) h k = absurd (read_not_bad l sheet bytes s a k h)
reading_one l sheet bytes (Err a) (Err b) h k = ap Err (first_bad_one l sheet bytes a b h k)
