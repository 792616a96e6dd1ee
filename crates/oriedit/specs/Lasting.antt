-- What came of answering the last unit of a script that has ended.
use Rattle.std.specs.Prelude.{ℕ, List, []}
use Rattle.oriedit.specs.Units.{last_unit}
use Rattle.oriedit.specs.Script.{Works, AreAnswered, AreCutOff}
use Rattle.oriedit.specs.declared.status.Status.{Status}
use Rattle.oriedit.specs.declared.status.Status.TheVariants as status

abbrev pub AnswersLast : List ℕ → Works → Type 0 → Works → Status → Type 0
AnswersLast rest old clean new status.Ok = AreAnswered old clean new (last_unit rest)
AnswersLast rest old clean new status.WriteFault = AreCutOff old clean new (last_unit rest)
AnswersLast rest old clean new status.NoMemory = AreAnswered old clean new []
AnswersLast rest old clean new status.FaultsFound = ⊥
AnswersLast rest old clean new status.Usage = ⊥
AnswersLast rest old clean new status.ReadFault = ⊥
AnswersLast rest old clean new status.KeeperFault = ⊥
AnswersLast rest old clean new status.DoorFault = ⊥
AnswersLast rest old clean new status.TooLong = ⊥
AnswersLast rest old clean new status.Refused = ⊥
