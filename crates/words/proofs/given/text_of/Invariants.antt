use Rattle.std.proofs.Common.{List, map, string_bytes, length}
use Rattle.words.specs.Grammar.{Given, AreWritten}
use Rattle.words.proofs.GivenLists.{AreValues, HasPassed}
use Rattle.words.proofs.given.text_of.Given as goal

abbrev pub invariant-loop-first : goal.invariant-loop-first
invariant-loop-first l =
    (given : List Given) → AreWritten given (map string_bytes l.words) → AreValues given → HasPassed given l.argument (map string_bytes l.rest)

abbrev pub decreases-loop-first : goal.decreases-loop-first
decreases-loop-first l = length l.rest
