use Rattle.lines.proofs.callers.Words.{all_words}
use Rattle.lines.proofs.words.Words.of.Goals as goal

pub returns-clause-all : goal.returns-clause-all
returns-clause-all c = all_words c.args.line.now
