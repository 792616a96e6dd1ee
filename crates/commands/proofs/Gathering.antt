-- Lines that belong to an import, one after another.
use Rattle.std.proofs.Common.{◌≡◌, ◌≢◌, ℕ, ◌+◌, ◌<◌, ◌≤◌, List, [], ◌∷◌, ◌++◌, length, length-append, append_assoc, Bool, true, false, refl, sym, ap, ◌∙◌, inl, inr, arith}
use Rattle.std.specs.Prelude.{IsTrue, ◌↔◌, ◌==◌, Option, Result, Ok, Err}
use Rattle.std.proofs.lemmas.List.{flat_map_more}
use Rattle.std.proofs.lemmas.List.Elements.{All-nil, All-cons, All-head, All-tail, All-append}
use Rattle.std.proofs.lemmas.Bool.{false≢true}
use Rattle.dialogue.specs.declared.command.Command.{Command}
use Rattle.lines.specs.Lines.{IsFirstLine}
use Rattle.lines.proofs.callers.Lines.{line_more}
use Rattle.ports.specs.Stops.{Answers}
use Rattle.ports.specs.declared.stop.Stop.{Stop}
use Rattle.ports.specs.declared.stop.Stop.TheVariants as stop
use Rattle.commands.specs.Imports.{AreShort, line_limit, IsImport, alone, import_of}
use Rattle.commands.specs.Gathering.{Gathers}
use Rattle.commands.specs.declared.ask.ImportLine.{ImportLine}
use Rattle.commands.specs.declared.bad.BadText.{BadText}
use Rattle.commands.specs.declared.bad.BadText.TheVariants as bad

abbrev IsShort : List ℕ → Type 0
IsShort line = length line ≤ line_limit

all_front : (lines : List (List ℕ)) (line : List ℕ) → AreShort (lines ++ line ∷ []) → AreShort lines
all_front [] line a = All-nil IsShort
all_front (l ∷ lines) line a = All-cons IsShort l lines (All-head IsShort l (lines ++ line ∷ []) a) (all_front lines line (All-tail IsShort l (lines ++ line ∷ []) a))

all_last : (lines : List (List ℕ)) (line : List ℕ) → AreShort (lines ++ line ∷ []) → IsShort line
all_last [] line a = All-head IsShort line [] a
all_last (l ∷ lines) line a = all_last lines line (All-tail IsShort l (lines ++ line ∷ []) a)

-- whether bytes are left
-- one line more
pub gathers_more : (after text rest line later new : List ℕ) (count after_count : ℕ) (short now : Bool)
    → Gathers after text count short rest → rest ≢ [] → IsFirstLine rest line later
    → new ≡ (text ++ line) ++ 10 ∷ [] → after_count ≡ count + 1 → IsTrue now ↔ (IsTrue short × IsShort line)
    → Gathers after new after_count now later
gathers_more after text rest line later new count after_count short now g n f t c s = record {
  lines = g.lines ++ line ∷ [];
  front = line_more after rest g.lines line later g.front n f;
  text_is = t ∙ append_assoc text line (10 ∷ []) ∙ ap (λ xs. xs ++ (line ++ 10 ∷ [])) g.text_is ∙ flat_map_more (λ (l : List ℕ). l ++ 10 ∷ []) [] g.lines line;
  count_is = (let l = length-append g.lines (line ∷ []) in let k = g.count_is in omega arith);
  short_is = (
    (λ e. let p = s.0 e in All-append IsShort g.lines (line ∷ []) (g.short_is.0 p.0) (All-cons IsShort line [] p.1 (All-nil IsShort))),
    (λ a. s.1 (g.short_is.1 (all_front g.lines line a), all_last g.lines line a)),
  );
}

-- what an import with its lines answers
pub too_long : (line : ImportLine) (after text rest : List ℕ) (count : ℕ) (short : Bool)
    → Gathers after text count short rest → count ≤ line.count → (count < line.count → rest ≡ [])
    → short ≡ false → IsImport line after (Err (bad.Syntax 4097))
too_long line after text rest count short g m l e = record {
  lines = g.lines;
  rest = rest;
  belong = record { front = g.front; most = (let k = g.count_is in omega arith); lacking = λ h. l (let k = g.count_is in omega arith) };
  answers = inl ((λ a. false≢true (sym e ∙ g.short_is.1 a)), refl);
}

pub lacking : (line : ImportLine) (after text rest : List ℕ) (count : ℕ) (short : Bool)
    → Gathers after text count short rest → count ≤ line.count → (count < line.count → rest ≡ [])
    → short ≡ true → count < line.count → IsImport line after (Err (bad.Syntax line.column))
lacking line after text rest count short g m l e b = record {
  lines = g.lines;
  rest = rest;
  belong = record { front = g.front; most = (let k = g.count_is in omega arith); lacking = λ h. l (let k = g.count_is in omega arith) };
  answers = inr (inl (g.short_is.0 e, (let k = g.count_is in omega arith), refl));
}

all_there : (line : ImportLine) (after text rest : List ℕ) (count : ℕ) (short : Bool) (answer : Result (Option Command) BadText)
    → Gathers after text count short rest → count ≤ line.count
    → (count < line.count → rest ≡ []) → short ≡ true → line.count ≤ count
    → answer ≡ alone rest (import_of line text) → IsImport line after answer
all_there line after text rest count short answer g m l e b a = record {
  lines = g.lines;
  rest = rest;
  belong = record { front = g.front; most = (let k = g.count_is in omega arith); lacking = λ h. l (let k = g.count_is in omega arith) };
  answers = inr (inr (g.short_is.0 e, (let k = g.count_is in omega arith), a ∙ ap (λ t. alone rest (import_of line t)) g.text_is));
}

pub whole : (line : ImportLine) (after text rest : List ℕ) (count : ℕ) (short : Bool) (answer : Result (Option Command) (Stop BadText))
    → Gathers after text count short rest → count ≤ line.count
    → (count < line.count → rest ≡ []) → short ≡ true → line.count ≤ count
    → Answers (λ a. a ≡ alone rest (import_of line text)) answer → Answers (IsImport line after) answer
whole line after text rest count short (Ok c) g m l e b a = all_there line after text rest count short (Ok c) g m l e b a
whole line after text rest count short (Err (stop.Why why)) g m l e b a = all_there line after text rest count short (Err why) g m l e b a
whole line after text rest count short (Err stop.NoMemory) g m l e b a = tt
