-- A word is read as one value of each kind, or is wrong for one reason.
use Rattle.std.proofs.Common.{◌≡◌, ℕ, suc, ◌<◌, ◌≤◌, ◌^◌, cond, List, [], ◌∷◌, ◌++◌, length, take, drop, Option, Some, None, Result, Ok, Err, refl, sym, ap, ◌∙◌, arith, length-append, lit<}
use Rattle.std.specs.Prelude.{bytes_eq, codes, decimal, IfSome}
use Rattle.std.specs.List.{position_or_len}
use Rattle.std.proofs.lemmas.Fmt.{decimal_injective}
use Rattle.std.proofs.lemmas.List.{append-nil}
use Rattle.qroot2.specs.declared.text.NumText.{NumText}
use Rattle.qroot2.specs.declared.text.NumText.TheVariants.{Syntax, Range}
use Rattle.sheet.specs.Sheet.{IsLength}
use Rattle.sheet.specs.declared.colour.Colour.TheVariants as colour
use Rattle.sheet.specs.declared.mark.Mark.{Mark}
use Rattle.sheet.specs.declared.mark.Mark.TheVariants as mark
use Rattle.pattern.specs.NativeText.{letter}
use Rattle.vocabulary.specs.Names.{IsName}
use Rattle.vocabulary.specs.Revs.{last_rev, rev_text}
use Rattle.vocabulary.specs.Verbs.{verb_text}
use Rattle.commands.specs.Spelling.{mark_letter, IsWho, who_text}
use Rattle.commands.specs.Fields.{Spells, AVerb, AName, AWho, AColour, AMark, ADirection, ANumber, ALength}
use Rattle.commands.specs.declared.who.Who.{Who}
use Rattle.vocabulary.specs.declared.verb.Verb.{Verb}
use Rattle.vocabulary.specs.declared.verb.Verb.TheVariants as verb
use Rattle.chains.proofs.callers.Elements.{same_heads}
use Rattle.commands.proofs.Whos.{is_at, at_behind, no_at, take_all, drop_all}
use Rattle.pattern.proofs.callers.OneText.{letter_of_one}

-- bytes are read as one value, or are wrong for one reason
abbrev pub HasOne : {A : Type 0} → (List ℕ → Result A NumText → Type 0) → Type 0
HasOne {A = A} Reads = (bytes : List ℕ) (r s : Result A NumText) → Reads bytes r → Reads bytes s → r ≡ s

spells_one : {A : Type 0} (IsIt : A → Type 0) (spelled : A → List ℕ) → ((a b : A) → IsIt a → IsIt b → spelled a ≡ spelled b → a ≡ b) → HasOne (Spells IsIt spelled)
spells_one IsIt spelled one bytes (Ok a) (Ok b) h k = ap Ok (one a b h.0 k.0 (h.1 ∙ sym k.1))
spells_one IsIt spelled one bytes (Ok a) (Err Syntax) h k = absurd (k a h.0 h.1)
spells_one IsIt spelled one bytes (Ok a) (Err Range) h k = absurd k
spells_one IsIt spelled one bytes (Err Syntax) (Ok b) h k = absurd (h b k.0 k.1)
spells_one IsIt spelled one bytes (Err Syntax) (Err Syntax) h k = refl
spells_one IsIt spelled one bytes (Err Syntax) (Err Range) h k = absurd k
spells_one IsIt spelled one bytes (Err Range) s h k = absurd h

-- the verb of a text, found again
verb_of : List ℕ → Verb
verb_of bytes =
    cond (bytes_eq bytes (codes "list")) verb.List
    (cond (bytes_eq bytes (codes "show")) verb.Show
    (cond (bytes_eq bytes (codes "faults")) verb.Faults
    (cond (bytes_eq bytes (codes "vertex")) verb.Vertex
    (cond (bytes_eq bytes (codes "pattern")) verb.Pattern
    (cond (bytes_eq bytes (codes "cp")) verb.Cp
    (cond (bytes_eq bytes (codes "fold")) verb.Fold
    (cond (bytes_eq bytes (codes "draw")) verb.Draw
    (cond (bytes_eq bytes (codes "erase")) verb.Erase
    (cond (bytes_eq bytes (codes "recolour")) verb.Recolour
    (cond (bytes_eq bytes (codes "flip")) verb.Flip
    (cond (bytes_eq bytes (codes "extend")) verb.Extend
    (cond (bytes_eq bytes (codes "bisect")) verb.Bisect
    (cond (bytes_eq bytes (codes "mirror")) verb.Mirror
    (cond (bytes_eq bytes (codes "rabbit-ear")) verb.RabbitEar
    (cond (bytes_eq bytes (codes "import")) verb.Import
    (cond (bytes_eq bytes (codes "undo")) verb.Undo
    (cond (bytes_eq bytes (codes "redo")) verb.Redo
    verb.New)))))))))))))))))

verb_again : (v : Verb) → verb_of (verb_text v) ≡ v
unfolding verb_of
verb_again verb.New = refl
verb_again verb.List = refl
verb_again verb.Show = refl
verb_again verb.Faults = refl
verb_again verb.Vertex = refl
verb_again verb.Pattern = refl
verb_again verb.Cp = refl
verb_again verb.Fold = refl
verb_again verb.Import = refl
verb_again verb.Draw = refl
verb_again verb.Erase = refl
verb_again verb.Recolour = refl
verb_again verb.Flip = refl
verb_again verb.Extend = refl
verb_again verb.Bisect = refl
verb_again verb.Mirror = refl
verb_again verb.RabbitEar = refl
verb_again verb.Undo = refl
verb_again verb.Redo = refl

pub one_verb : HasOne AVerb
one_verb = spells_one (λ v. Unit {0}) verb_text (λ v w h k e. sym (verb_again v) ∙ ap verb_of e ∙ verb_again w)

pub one_name : HasOne AName
one_name = spells_one IsName (λ name. name) (λ a b h k e. e)

-- the colour and the mark of a letter, found again
pub one_colour : HasOne AColour
one_colour = spells_one (λ c. Unit {0}) (λ c. letter c ∷ []) (λ c d h k e. letter_of_one c d (same_heads e))

one_mark_letter : (m n : Mark) → mark_letter m ≡ mark_letter n → m ≡ n
one_mark_letter mark.M mark.M e = refl
one_mark_letter mark.M mark.V e = absurd (omega arith)
one_mark_letter mark.V mark.M e = absurd (omega arith)
one_mark_letter mark.V mark.V e = refl

pub one_mark : HasOne AMark
one_mark = spells_one (λ m. Unit {0}) (λ m. mark_letter m ∷ []) (λ m n h k e. one_mark_letter m n (same_heads e))

small : (n m : ℕ) → n ≤ m → m < 2 ^ 64 → n < 2 ^ 64
small n m h k = omega arith

pub one_direction : HasOne ADirection
one_direction = spells_one (λ k. k < 16) decimal (λ m n h k e. decimal_injective m n (small m 16 (omega arith) (lit< tt)) (small n 16 (omega arith) (lit< tt)) e)

pub one_number : (low most : ℕ) → most < 2 ^ 64 → HasOne (ANumber low most)
one_number low most l = spells_one (λ n. (low ≤ n) × (n ≤ most)) decimal (λ m n h k e. decimal_injective m n (small m most h.1 l) (small n most k.1 l) e)

pub one_length : HasOne ALength
one_length = spells_one IsLength decimal (λ m n h k e. decimal_injective m n (small m 8 h.1 (lit< tt)) (small n 8 k.1 (lit< tt)) e)

-- a name with a rev is that of one project and one rev
rev_small : (n : ℕ) → n ≤ last_rev → n < 2 ^ 64
rev_small n h = small n (10 ^ 12) h (lit< tt)

same_who : (who other : Who) → who.name ≡ other.name → who.rev ≡ other.rev → who ≡ other
same_who who other p q = λ i. record { name = p i; rev = q i }

no_rev_twice : (name other : List ℕ) (n : ℕ) → IsName name → IsName other → name ++ [] ≡ other ++ 64 ∷ decimal n → ⊥
no_rev_twice name other n h k e =
    let f : name ≡ other ++ 64 ∷ decimal n = sym (append-nil name) ∙ e in
    let a : position_or_len is_at name ≡ length name = no_at name h.each in
    let b : position_or_len is_at (other ++ 64 ∷ decimal n) ≡ length other = at_behind other (decimal n) k.each in
    let c : position_or_len is_at name ≡ position_or_len is_at (other ++ 64 ∷ decimal n) = ap (position_or_len is_at) f in
    let d : length name ≡ length (other ++ 64 ∷ decimal n) = ap length f in
    let l = length-append other (64 ∷ decimal n) in
    omega arith

same_revs : (name other : List ℕ) (n m : ℕ) → IsName name → IsName other → n ≤ last_rev → m ≤ last_rev → name ++ 64 ∷ decimal n ≡ other ++ 64 ∷ decimal m → (name ≡ other) × (n ≡ m)
same_revs name other n m h k p q e =
    let l : length name ≡ length other = sym (at_behind name (decimal n) h.each) ∙ ap (position_or_len is_at) e ∙ at_behind other (decimal m) k.each in
    let f : name ≡ other = sym (take_all name (64 ∷ decimal n)) ∙ (λ i. take (l i) (e i)) ∙ take_all other (64 ∷ decimal m) in
    let g : decimal n ≡ decimal m = sym (drop_all name (decimal n) 64) ∙ (λ i. drop (suc (l i)) (e i)) ∙ drop_all other (decimal m) 64 in
    (f, decimal_injective n m (rev_small n p) (rev_small m q) g)

one_who_text : (name other : List ℕ) (rev later : Option ℕ) → IsName name → IsName other → IfSome rev (λ n. n ≤ last_rev) → IfSome later (λ n. n ≤ last_rev)
    → name ++ rev_text rev ≡ other ++ rev_text later → (name ≡ other) × (rev ≡ later)
one_who_text name other None None h k p q e = (sym (append-nil name) ∙ e ∙ append-nil other, refl)
one_who_text name other None (Some m) h k p q e = absurd (no_rev_twice name other m h k e)
one_who_text name other (Some n) None h k p q e = absurd (no_rev_twice other name n k h (sym e))
one_who_text name other (Some n) (Some m) h k p q e = (let r = same_revs name other n m h k p q e in (r.0, ap Some r.1))

pub one_who : HasOne AWho
one_who = spells_one IsWho who_text (λ who other h k e.
    let r = one_who_text who.name other.name who.rev other.rev h.name k.name h.rev k.rev e in same_who who other r.0 r.1)
