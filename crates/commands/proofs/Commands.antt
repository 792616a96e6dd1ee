-- What a text is read as, by its first line and the words of that.
use Rattle.std.proofs.Common.{ℕ, List, Option, None, Result, Ok, Err, subst, refl, inl, inr}
use Rattle.dialogue.specs.declared.command.Command.{Command}
use Rattle.lines.specs.Words.{Word, AreWords}
use Rattle.lines.specs.Lines.{IsFirstLine}
use Rattle.lines.proofs.callers.Words.{one_list}
use Rattle.ports.specs.Stops.{Answers}
use Rattle.ports.specs.declared.stop.Stop.{Stop}
use Rattle.ports.specs.declared.stop.Stop.TheVariants as stop
use Rattle.commands.specs.Lines.{IsSilent, Asks, Completes, ReadsCommand}
use Rattle.commands.specs.declared.ask.Asked.{Asked}
use Rattle.commands.specs.declared.bad.BadText.{BadText}

-- a blank line or a comment
pub silent : (text line after : List ℕ) (words : List Word) → IsFirstLine text line after
    → AreWords line words → IsSilent words → ReadsCommand text (Ok None)
silent text line after words f a s = record { line = line; after = after; words = words; first = f; all = a; read = inl (s, refl) }

-- another line
pub complete : (text line after : List ℕ) (words : List Word) (read : Result Asked BadText) (answer : Result (Option Command) BadText)
    → IsFirstLine text line after
    → AreWords line words → ¬ IsSilent words
    → (others : List Word) × AreWords line others × Asks line others read → Completes read after answer
    → ReadsCommand text answer
complete text line after words read answer f a s h c = record {
  line = line;
  after = after;
  words = words;
  first = f;
  all = a;
  read = inr (s, (read, subst (λ ws. Asks line ws read) (one_list line h.0 words h.1 a) h.2, c));
}

pub completed : (text line after : List ℕ) (words : List Word) (read : Result Asked BadText) (answer : Result (Option Command) (Stop BadText))
    → IsFirstLine text line after
    → AreWords line words → ¬ IsSilent words
    → (others : List Word) × AreWords line others × Asks line others read
    → Answers (Completes read after) answer → Answers (ReadsCommand text) answer
completed text line after words read (Ok c) f a s h k = complete text line after words read (Ok c) f a s h k
completed text line after words read (Err (stop.Why why)) f a s h k = complete text line after words read (Err why) f a s h k
completed text line after words read (Err stop.NoMemory) f a s h k = tt
