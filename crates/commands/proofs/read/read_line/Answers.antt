use Rattle.std.proofs.Common.{refl, inl, arith}
use Rattle.lines.specs.Taking.{words_from}
use Rattle.lines.proofs.callers.Words.{all_words}
use Rattle.commands.proofs.read.read_line.Goals as goal

pub returns-then-line-gt-LINE_LIMIT : goal.returns-then-line-gt-LINE_LIMIT
returns-then-line-gt-LINE_LIMIT c = (words_from 0 c.args.line.now, all_words c.args.line.now, inl ((omega arith), refl))
