-- What a line draws, from what its words are.
use Rattle.std.proofs.Common.{◌≡◌, ℕ, ◌≤◌, Bool, false, List, [], ◌∷◌, length, refl, sym, subst, ap, ◌∙◌, inl, inr}
use Rattle.std.specs.Prelude.{◌↔◌, IsTrue, Result, Ok, Err}
use Rattle.std.proofs.lemmas.Bool.{false≢true}
use Rattle.exact.specs.Plane.{ExactPoint}
use Rattle.sheet.specs.Sheet.{ExactSheet}
use Rattle.lattice.specs.Lattice.{Measures}
use Rattle.lines.specs.Words.{Word, AreWords}
use Rattle.lines.proofs.callers.Words.{one_list}
use Rattle.cpfile.proofs.FiveWords.{one_order, same_texts}
use Rattle.ports.specs.declared.stop.Stop.{Stop}
use Rattle.ports.specs.declared.stop.Stop.TheVariants as stop
use Rattle.ports.specs.Stops.{Answers}
use Rattle.cpfile.specs.CpDrawing.{Fields, HasFields, AreEnds, DrawsBetween, DrawsLine, line_limit}
use Rattle.cpfile.specs.CpAxes.{Ruled, AreRead, PlacesEnds}
use Rattle.cpfile.specs.CpWords.{Texts, texts_of, in_order, AreFields}
use Rattle.cpfile.specs.declared.bad.CpWhy.{CpWhy}
use Rattle.cpfile.specs.declared.fields.Read.{Read}
use Rattle.cpfile.specs.declared.line.Drawn.{Drawn}

pub some_words : (line : List ℕ) (words : List Word) (b : Bool) → AreWords line words → IsTrue b ↔ (words ≡ []) → b ≡ false → ¬ AreWords line []
some_words line words b a i e n = false≢true (sym e ∙ i.1 (one_list line words [] a n))

-- the texts of a line with five fields
abbrev texts : {line : List ℕ} {f : Fields} → HasFields line f → Texts
texts h = record { kind = h.type.text; x1 = h.from_x.text; y1 = h.from_y.text; x2 = h.to_x.text; y2 = h.to_y.text }

pub no_fields : (line : List ℕ) (words : List Word) → AreWords line words → ((t : Texts) → (f : Fields) → texts_of words ≡ in_order t → ¬ AreFields t f) → (f : Fields) → ¬ HasFields line f
no_fields line words a n f h = n (texts h) f (ap texts_of (one_list line words (h.type ∷ h.from_x ∷ h.from_y ∷ h.to_x ∷ h.to_y ∷ []) a h.words)) (record { kind = h.kind; x1 = h.x1; y1 = h.y1; x2 = h.x2; y2 = h.y2 })

of_texts : (t u : Texts) (f : Fields) → in_order t ≡ in_order u → AreFields u f → AreFields t f
of_texts t u f e a = subst (λ v. AreFields v f) (sym (one_order t u e)) a

pub has_fields : (line : List ℕ) (words : List Word) (t : Texts) (f : Fields) → AreWords line words → texts_of words ≡ in_order t → AreFields t f → HasFields line f
has_fields line [] t f a e h = absurd (cc)
has_fields line (v ∷ []) t f a e h = absurd (let g = same_texts e in cc)
has_fields line (v ∷ w ∷ []) t f a e h = absurd (let g = same_texts (same_texts e) in cc)
has_fields line (v ∷ w ∷ x ∷ []) t f a e h = absurd (let g = same_texts (same_texts (same_texts e)) in cc)
has_fields line (v ∷ w ∷ x ∷ y ∷ []) t f a e h = absurd (let g = same_texts (same_texts (same_texts (same_texts e))) in cc)
has_fields line (v ∷ w ∷ x ∷ y ∷ z ∷ []) t f a e h =
    let g = of_texts (record { kind = v.text; x1 = w.text; y1 = x.text; x2 = y.text; y2 = z.text }) t f e h in
    record { type = v; from_x = w; from_y = x; to_x = y; to_y = z; words = a; kind = g.kind; x1 = g.x1; y1 = g.y1; x2 = g.x2; y2 = g.y2 }
has_fields line (v ∷ w ∷ x ∷ y ∷ z ∷ u ∷ words) t f a e h = absurd (let g = same_texts (same_texts (same_texts (same_texts (same_texts e)))) in cc)

-- a line with these fields, read so
pub record IsReadAs (line : List ℕ) (read : Read) : Type 0 where
  pub fields : Fields
  pub has : HasFields line fields
  pub are : AreRead fields read

pub read_as : (line : List ℕ) (words : List Word) (read : Read) → AreWords line words → ((t : Texts) × (f : Fields) × (texts_of words ≡ in_order t) × AreFields t f × AreRead f read) → IsReadAs line read
read_as line words read a s = record { fields = s.1; has = has_fields line words s.0 s.1 a s.2 s.3; are = s.4 }

pub bad_ends : (l : Measures) (sheet : ExactSheet) (r : Ruled) (line : List ℕ) (read : Read) (s : Stop CpWhy) → r.lattice ≡ l → r.sheet ≡ sheet → length line ≤ line_limit → IsReadAs line read → PlacesEnds r read (Err s) → Answers (DrawsLine l sheet line) (Err s)
bad_ends l sheet r line read stop.NoMemory d e k h p = tt
bad_ends l sheet r line read (stop.Why w) d e k h p =
    subst (λ m. DrawsLine m sheet line (Err w)) d (subst (λ t. DrawsLine r.lattice t line (Err w)) e
    (inr (k, inr (inr (h.fields, h.has, inl (w, p h.fields h.are, refl))))))

pub drawn_between : (l : Measures) (sheet : ExactSheet) (r : Ruled) (line : List ℕ) (read : Read) (p q : ExactPoint) (o answer : Result Drawn CpWhy) → r.lattice ≡ l → r.sheet ≡ sheet → length line ≤ line_limit → IsReadAs line read
    → PlacesEnds r read (Ok (p, q)) → o ≡ answer → DrawsBetween sheet read.kind p q o → DrawsLine l sheet line answer
drawn_between l sheet r line read p q o answer d e k h ends f b =
    let a = subst (λ m. AreEnds m sheet h.fields p q) d (subst (λ t. AreEnds r.lattice t h.fields p q) e (ends h.fields h.are)) in
    inr (k, inr (inr (h.fields, h.has, inr (p, q, a, subst (λ c. DrawsBetween sheet c p q answer) h.are.kind (subst (DrawsBetween sheet read.kind p q) f b)))))
