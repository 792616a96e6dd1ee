-- A text that begins with the verb of a command is no blank line and no comment.
use Rattle.std.proofs.Common.{◌≡◌, ◌≢◌, ℕ, suc, ◌<◌, ◌≤◌, List, [], ◌∷◌, ◌++◌, Option, None, Result, Ok, Err, refl, sym, ap, subst, ◌∙◌, ◌⊎◌, inl, inr, arith}
use Rattle.std.specs.Prelude.{All, Contains, slice_index}
use Rattle.std.proofs.lemmas.Bool.{cases_order}
use Rattle.std.proofs.lemmas.List.Elements.{All-nil, All-cons}
use Rattle.chains.proofs.callers.Elements.{has_cases, has_none, same_heads}
use Rattle.dialogue.specs.declared.command.Command.{Command}
use Rattle.lines.specs.Lines.{IsBare}
use Rattle.lines.specs.Words.{Word, IsBlank, BeginsBlank, IsWord, AreWords}
use Rattle.vocabulary.specs.Verbs.{verb_text}
use Rattle.vocabulary.specs.declared.verb.Verb.{Verb}
use Rattle.vocabulary.specs.declared.verb.Verb.TheVariants as verb
use Rattle.commands.specs.Lines.{IsSilent, Completes, ReadsCommand}
use Rattle.commands.specs.Imports.{alone, import_of, lines_text, ImportAnswers}
use Rattle.commands.specs.declared.ask.Asked.{Asked}
use Rattle.commands.specs.declared.ask.Asked.TheVariants as asked
use Rattle.commands.specs.declared.ask.ImportLine.{ImportLine}
use Rattle.commands.specs.declared.bad.BadText.{BadText}

abbrev IsNoBlank : ℕ → Type 0
IsNoBlank b = ¬ IsBlank b

blank_or_not : (b : ℕ) → IsBlank b ⊎ IsNoBlank b
blank_or_not b = elim (cases_order b 32) [
  | inl e ↦ inl (inl e)
  | inr o ↦ elim (cases_order b 9) [
    | inl e ↦ inl (inr e)
    | inr p ↦ inr (λ h. elim h [
      | inl e ↦ elim o [ inl l ↦ omega (arith, e, l) | inr l ↦ omega (arith, e, l) ]
      | inr e ↦ elim p [ inl l ↦ omega (arith, e, l) | inr l ↦ omega (arith, e, l) ]
    ])
  ]
]

-- the bytes before the first blank, and what stands behind them
record Run (bytes : List ℕ) : Type 0 where
  pub text : List ℕ
  pub rest : List ℕ
  pub whole : bytes ≡ text ++ rest
  pub solid : All IsNoBlank text
  pub right : BeginsBlank rest

longer_run : (b : ℕ) (bs : List ℕ) → IsNoBlank b → Run bs → Run (b ∷ bs)
longer_run b bs n r = record {
  text = b ∷ r.text;
  rest = r.rest;
  whole = ap (λ t. b ∷ t) r.whole;
  solid = All-cons IsNoBlank b r.text n r.solid;
  right = r.right;
}

run_of : (bytes : List ℕ) → Run bytes
run_of [] = record { text = []; rest = []; whole = refl; solid = All-nil IsNoBlank; right = tt }
run_of (b ∷ bs) = elim (blank_or_not b) [
  | inl h ↦ record { text = []; rest = b ∷ bs; whole = refl; solid = All-nil IsNoBlank; right = h }
  | inr n ↦ longer_run b bs n (run_of bs)
]

-- a letter begins the first word
abbrev first_word : ℕ → List ℕ → Word
first_word b text = record { column = 1; text = b ∷ text }

letter_begins : (b : ℕ) (bs : List ℕ) (r : Run bs) → 97 ≤ b → IsWord (b ∷ bs) (first_word b r.text)
letter_begins b bs r h = record {
  before = [];
  after = r.rest;
  whole = ap (λ t. b ∷ t) r.whole;
  column = refl;
  some = λ e. cc;
  solid = All-cons IsNoBlank b r.text (λ k. elim k [ inl e ↦ omega (arith, e, h) | inr e ↦ omega (arith, e, h) ]) r.solid;
  left = tt;
  right = r.right;
}

-- no word stands before it
none_before : (line : List ℕ) (w v : Word) (ws : List Word) → AreWords line (w ∷ ws) → Contains ws v
    → v.column ≡ 1 → IsWord line w → ⊥
none_before line w v ws a c e h =
    let l = c.1 in
    let k : w.column < v.column = subst (λ (u : Word). w.column < u.column) c.2 (a.ascend 0 (suc c.0) v (omega arith) (omega arith)) in
    let p = h.column in
    omega arith

not_silent : (b : ℕ) (bs : List ℕ) (words : List Word) → 97 ≤ b → AreWords (b ∷ bs) words → ¬ IsSilent words
not_silent b bs [] h a s = (let r = run_of bs in has_none (first_word b r.text) ((a.all (first_word b r.text)).1 (letter_begins b bs r h)))
not_silent b bs (w ∷ ws) h a s =
    let r = run_of bs in
    elim (has_cases w (first_word b r.text) ws ((a.all (first_word b r.text)).1 (letter_begins b bs r h))) [
      | inl e ↦ (let k : b ≡ 35 = subst (λ (u : Word). slice_index u.text 0 ≡ 35) e s in omega (arith, k, h))
      | inr c ↦ none_before (b ∷ bs) w (first_word b r.text) ws a c refl ((a.all w).0 (0, omega arith, refl))
    ]

-- so many bytes begin with a letter
abbrev Begins : ℕ → List ℕ → Type 0
Begins b bytes = (rest : List ℕ) × (bytes ≡ b ∷ rest)

bytes_begin : (b : ℕ) (text bytes after : List ℕ) → 97 ≤ b → Begins b text
    → (text ≡ bytes ++ 10 ∷ after) ⊎ ((text ≡ bytes) × (after ≡ [])) → Begins b bytes
bytes_begin b text [] after h t w = elim w [
  | inl e ↦ (let k : b ≡ 10 = same_heads (sym t.1 ∙ e) in absurd (omega (arith, k, h)))
  | inr e ↦ absurd (let k = sym t.1 ∙ e.0 in cc)
]
bytes_begin b text (c ∷ bytes) after h t w = elim w [
  | inl e ↦ (let k : b ≡ c = same_heads (sym t.1 ∙ e) in (bytes, ap (λ x. x ∷ bytes) (sym k)))
  | inr e ↦ (let k : b ≡ c = same_heads (sym t.1 ∙ e.0) in (bytes, ap (λ x. x ∷ bytes) (sym k)))
]

line_begins : (b : ℕ) (bytes line : List ℕ) → 97 ≤ b → Begins b bytes → IsBare bytes line → Begins b line
line_begins b bytes [] h t w = elim w [
  | inl e ↦ (let k : b ≡ 13 = same_heads (sym t.1 ∙ e) in absurd (omega (arith, k, h)))
  | inr e ↦ absurd (let k = sym t.1 ∙ e.0 in cc)
]
line_begins b bytes (c ∷ line) h t w = elim w [
  | inl e ↦ (let k : b ≡ c = same_heads (sym t.1 ∙ e) in (line, ap (λ x. x ∷ line) (sym k)))
  | inr e ↦ (let k : b ≡ c = same_heads (sym t.1 ∙ e.0) in (line, ap (λ x. x ∷ line) (sym k)))
]

-- a line that asks for something is no silent one
alone_is_some : (after : List ℕ) (c : Command) → alone after c ≢ Ok None
alone_is_some [] c e = cc
alone_is_some (b ∷ after) c e = cc

import_is_some : (line : ImportLine) (lines : List (List ℕ)) (rest : List ℕ) (answer : Result (Option Command) BadText)
    → ImportAnswers line lines rest answer → answer ≢ Ok None
import_is_some line lines rest answer h e = elim h [
  | inl f ↦ (let k = sym f.1 ∙ e in cc)
  | inr f ↦ elim f [
    | inl g ↦ (let k = sym g.2 ∙ e in cc)
    | inr g ↦ alone_is_some rest (import_of line (lines_text lines)) (sym g.2 ∙ e)
  ]
]

line_is_some : (read : Result Asked BadText) (after : List ℕ) (answer : Result (Option Command) BadText)
    → Completes read after answer → answer ≢ Ok None
line_is_some (Err why) after answer h e = (let k = sym h ∙ e in cc)
line_is_some (Ok (asked.Command c)) after answer h e = alone_is_some after c (sym h ∙ e)
line_is_some (Ok (asked.Import line)) after answer h e = import_is_some line h.lines h.rest answer h.answers e

-- a verb begins with a letter
record HasLetter (text : List ℕ) : Type 0 where
  pub letter : ℕ
  pub above : 97 ≤ letter
  pub begins : Begins letter text

begun : (b : ℕ) (rest : List ℕ) → 97 ≤ b → HasLetter (b ∷ rest)
begun b rest h = record { letter = b; above = h; begins = (rest, refl) }

verb_letter : (v : Verb) (behind : List ℕ) → HasLetter (verb_text v ++ behind)
verb_letter verb.New behind = begun _ _ (omega arith)
verb_letter verb.List behind = begun _ _ (omega arith)
verb_letter verb.Show behind = begun _ _ (omega arith)
verb_letter verb.Faults behind = begun _ _ (omega arith)
verb_letter verb.Vertex behind = begun _ _ (omega arith)
verb_letter verb.Pattern behind = begun _ _ (omega arith)
verb_letter verb.Cp behind = begun _ _ (omega arith)
verb_letter verb.Fold behind = begun _ _ (omega arith)
verb_letter verb.Draw behind = begun _ _ (omega arith)
verb_letter verb.Erase behind = begun _ _ (omega arith)
verb_letter verb.Recolour behind = begun _ _ (omega arith)
verb_letter verb.Flip behind = begun _ _ (omega arith)
verb_letter verb.Extend behind = begun _ _ (omega arith)
verb_letter verb.Bisect behind = begun _ _ (omega arith)
verb_letter verb.Mirror behind = begun _ _ (omega arith)
verb_letter verb.RabbitEar behind = begun _ _ (omega arith)
verb_letter verb.Import behind = begun _ _ (omega arith)
verb_letter verb.Undo behind = begun _ _ (omega arith)
verb_letter verb.Redo behind = begun _ _ (omega arith)

pub spoken : (v : Verb) (behind : List ℕ) (answer : Result (Option Command) BadText)
    → ReadsCommand (verb_text v ++ behind) answer → answer ≢ Ok None
spoken v behind answer h e =
    let t = verb_letter v behind in
    let b = bytes_begin t.letter (verb_text v ++ behind) h.first.bytes h.after t.above t.begins h.first.whole in
    let l = line_begins t.letter h.first.bytes h.line t.above b h.first.bare in
    elim h.read [
      | inl f ↦ not_silent t.letter l.0 h.words t.above (subst (λ line. AreWords line h.words) l.1 h.all) f.0
      | inr f ↦ line_is_some f.1.0 h.after answer f.1.2 e
    ]
