-- The text that is due.
use Rattle.std.specs.Prelude.{ℕ, List}
use Rattle.commands.specs.ReplyText.{reply_text}
use Rattle.oriedit.specs.declared.due.Text.{Text}
use Rattle.oriedit.specs.declared.due.Text.TheVariants as text

abbrev pub text_of : Text → List ℕ
text_of (text.Reply r) = reply_text r
text_of (text.Line line) = line.items
