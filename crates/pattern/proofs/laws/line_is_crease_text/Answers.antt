use Rattle.pattern.proofs.callers.DeltaLines.{line_text_is}
use Rattle.pattern.proofs.laws.line_is_crease_text.Goals as goal

pub returns : goal.returns
returns c = line_text_is
