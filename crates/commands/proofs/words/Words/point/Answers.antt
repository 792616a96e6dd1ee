use Rattle.std.proofs.Common.{refl, inr}
use Rattle.qroot2.specs.declared.text.NumText.TheVariants.{Syntax, Range}
use Rattle.commands.proofs.words.Words.point.Goals as goal

pub returns-in-Err-Syntax-clause-wrong : goal.returns-in-Err-Syntax-clause-wrong
returns-in-Err-Syntax-clause-wrong c = inr (record {
  word = record { column = c.in_ok-word.word.column; text = c.in_ok-word.word.text.now };
  new = c.take.new.self;
  taken = c.in_ok-word.ensures.right;
  because = Syntax;
  reads = rw (c.in-Err-Syntax.is, c.in-Err-Syntax.field-0-is) at c.read_point.ensures;
  at = c.syntax.ensures;
})

pub returns-in-Err-Range-clause-wrong : goal.returns-in-Err-Range-clause-wrong
returns-in-Err-Range-clause-wrong c = inr (record {
  word = record { column = c.in_ok-word.word.column; text = c.in_ok-word.word.text.now };
  new = c.take.new.self;
  taken = c.in_ok-word.ensures.right;
  because = Range;
  reads = rw (c.in-Err-Range.is, c.in-Err-Range.field-0-is) at c.read_point.ensures;
  at = refl;
})
