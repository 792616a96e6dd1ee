-- No task has more turns than the words may ask for.
use Rattle.std.proofs.Common.{ℕ, ◌≤◌, List, arith}
use Rattle.words.specs.Words.{Asks}
use Rattle.words.specs.Tasks.{Task}
use Rattle.oriedit.specs.Run.{turns_of}

pub few_turns : (words : List (List ℕ)) (t : Task) → Asks words t → turns_of t ≤ 100000
few_turns words Task.Usage a = omega arith
few_turns words Task.Cut a = omega arith
few_turns words (Task.Check lattice sheet) a = omega arith
few_turns words (Task.Script keep) a = omega arith
few_turns words (Task.Generate seed count) a = a.2.count_small
few_turns words (Task.Serve port connections keep) a = omega arith
