-- The numbers of the statuses.
use Rattle.std.specs.Prelude.{ℕ}
use Rattle.oriedit.specs.declared.status.Status.{Status}
use Rattle.oriedit.specs.declared.status.Status.TheVariants as status

abbrev pub number_of : Status → ℕ
number_of status.Ok = 0
number_of status.FaultsFound = 1
number_of status.Usage = 2
number_of status.ReadFault = 3
number_of status.WriteFault = 4
number_of status.NoMemory = 5
number_of status.KeeperFault = 6
number_of status.DoorFault = 7
number_of status.TooLong = 8
number_of status.Refused = 10
