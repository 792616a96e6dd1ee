-- The fields of a line by the texts of its words.
use Rattle.std.proofs.Common.{◌≡◌, ◌≢◌, ℕ, suc, List, [], ◌∷◌, length, refl, sym, subst, ap, ◌∙◌}
use Rattle.std.specs.Prelude.{Option, Some, None, IfSome}
use Rattle.lines.specs.Words.{Word}
use Rattle.cpfile.specs.CpDrawing.{Fields}
use Rattle.cpfile.specs.CpAxes.{AreRead}
use Rattle.cpfile.specs.CpWords.{Texts, texts_of, in_order, AreFields, AreSmall}
use Rattle.cpfile.specs.declared.fields.Read.{Read}
use Rattle.cpfile.proofs.Capping.{capped_small}

pub read_small : (f : Fields) (read : Read) → AreRead f read → AreSmall read
read_small f read a = record {
  x1 = capped_small f.x1 read.x1 a.x1;
  y1 = capped_small f.y1 read.y1 a.y1;
  x2 = capped_small f.x2 read.x2 a.x2;
  y2 = capped_small f.y2 read.y2 a.y2;
}

many : (words : List Word) → length (texts_of words) ≡ length words
many [] = refl
many (w ∷ words) = ap suc (many words)

pub one_order : (t u : Texts) → in_order t ≡ in_order u → t ≡ u
one_order t u e =
    let a : t.kind ≡ u.kind = cc in
    let b : t.x1 ≡ u.x1 = cc in
    let c : t.y1 ≡ u.y1 = cc in
    let d : t.x2 ≡ u.x2 = cc in
    let f : t.y2 ≡ u.y2 = cc in
    λ i. record { kind = a i; x1 = b i; y1 = c i; x2 = d i; y2 = f i }

pub small_by : (o : Option Read) (P : Fields → Type 0) → IfSome o (λ read. (f : Fields) × P f × AreRead f read) → IfSome o AreSmall
small_by None P h = tt
small_by (Some read) P h = read_small h.0 read h.2

-- texts in the order of others are no fields where those are none
pub none_by : (words : List Word) (t : Texts) → texts_of words ≡ in_order t → ((f : Fields) → ¬ AreFields t f) → (u : Texts) (f : Fields) → texts_of words ≡ in_order u → ¬ AreFields u f
none_by words t e n u f g a = n f (subst (λ v. AreFields v f) (one_order u t (sym g ∙ e)) a)

pub same_texts : {s t : List ℕ} {ss ts : List (List ℕ)} → s ∷ ss ≡ t ∷ ts → ss ≡ ts
same_texts e = cc
