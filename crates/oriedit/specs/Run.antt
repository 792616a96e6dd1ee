-- A run of the program: what it takes from its source, what it writes, and how it ends.
use Rattle.std.specs.Prelude.{◌≡◌, ℕ, ◌≤◌, ◌<◌, ◌⊎◌, List, length, Option}
use Rattle.ports.specs.Taken.{Gave, IsSpent}
use Rattle.oriedit.specs.Limits.{input_limit}
use Rattle.oriedit.specs.Outputs.{Gained, GainedFront}
use Rattle.words.specs.Words.{Asks, usage_text}
use Rattle.words.specs.Tasks.{Task}
use Rattle.oriedit.specs.Outside.{Outside, LeavesSource, LeavesKeeper}
use Rattle.oriedit.specs.Attaching.{Attached, Scripts, Serves}
use Rattle.oriedit.specs.CutText.{CutText}
use Rattle.oriedit.specs.CheckText.{CheckText}
use Rattle.oriedit.specs.Generating.{Generates}
use Rattle.oriedit.specs.declared.status.Status.{Status}
use Rattle.oriedit.specs.declared.status.Status.TheVariants as status

-- the text was due with this status: it was written, or a front of it and the end is a write fault
abbrev pub WritesDue : Option (List ℕ) → Option (List ℕ) → List ℕ → Status → Status → Type 0
WritesDue held now text due came =
    ((came ≡ due) × Gained held now text) ⊎ ((came ≡ status.WriteFault) × GainedFront held now text)

-- Which text a command owes for the bytes of its input, and with which status.
abbrev pub Dues : Type 1
Dues = List ℕ → Status → List ℕ → Type 0

-- what is due for the whole input was written
abbrev pub Wrote : Dues → List ℕ → Option (List ℕ) → Option (List ℕ) → Status → Type 0
Wrote Due bytes held now s = (text : List ℕ) × Due bytes s text × Gained held now text

abbrev pub Answers : Dues → List ℕ → Option (List ℕ) → Option (List ℕ) → Status → Type 0
Answers Due bytes held now status.Ok = Wrote Due bytes held now status.Ok
Answers Due bytes held now status.FaultsFound = Wrote Due bytes held now status.FaultsFound
Answers Due bytes held now status.Refused = Wrote Due bytes held now status.Refused
Answers Due bytes held now status.WriteFault =
    (due : Status) × (text : List ℕ) × Due bytes due text × GainedFront held now text
Answers Due bytes held now status.NoMemory = now ≡ held
Answers Due bytes held now status.Usage = ⊥
Answers Due bytes held now status.ReadFault = ⊥
Answers Due bytes held now status.KeeperFault = ⊥
Answers Due bytes held now status.DoorFault = ⊥
Answers Due bytes held now status.TooLong = ⊥

-- the whole input was read, and is below the limit
abbrev pub IsWhole : List ℕ → Option (List ℕ) → Type 0
IsWhole bytes left = IsSpent left × (length bytes < input_limit)

-- how a run of a command that answers its whole input ends after these bytes were taken
abbrev pub Ends : Dues → List ℕ → Option (List ℕ) → Option (List ℕ) → Option (List ℕ) → Status → Type 0
Ends Due bytes left held now status.Ok = IsWhole bytes left × Answers Due bytes held now status.Ok
Ends Due bytes left held now status.FaultsFound =
    IsWhole bytes left × Answers Due bytes held now status.FaultsFound
Ends Due bytes left held now status.Refused = IsWhole bytes left × Answers Due bytes held now status.Refused
Ends Due bytes left held now status.WriteFault =
    IsWhole bytes left × Answers Due bytes held now status.WriteFault
Ends Due bytes left held now status.NoMemory = (length bytes ≤ input_limit) × (now ≡ held)
Ends Due bytes left held now status.ReadFault = (length bytes < input_limit) × (now ≡ held)
Ends Due bytes left held now status.TooLong = (length bytes ≡ input_limit) × (now ≡ held)
Ends Due bytes left held now status.Usage = ⊥
Ends Due bytes left held now status.KeeperFault = ⊥
Ends Due bytes left held now status.DoorFault = ⊥

-- A run of a command that answers its whole input. A source that tells had the taken bytes at its
-- front and has what stood behind them.
abbrev pub InputRuns : Dues → Option (List ℕ) → Option (List ℕ) → Option (List ℕ) → Option (List ℕ) → Status
    → Type 0
InputRuns Due was left held now s = (bytes : List ℕ) × Gave was left bytes × Ends Due bytes left held now s

-- A run with words that are not in the grammar.
abbrev pub UsageRuns : Outside → Outside → Status → Type 0
UsageRuns old new s =
    WritesDue old.works.held new.works.held usage_text status.Usage s × LeavesSource old new
    × LeavesKeeper old new
    × (new.door ≡ old.door)

-- What each command is: from which outside to which, and with which status.
abbrev pub Means : Task → Outside → Type 0 → Outside → Status → Type 0
Means Task.Usage old clean new s = UsageRuns old new s
Means Task.Cut old clean new s =
    InputRuns CutText old.left new.left old.works.held new.works.held s × LeavesKeeper old new
    × (new.door ≡ old.door)
Means (Task.Check lattice sheet) old clean new s =
    InputRuns (CheckText lattice sheet) old.left new.left old.works.held new.works.held s
    × LeavesKeeper old new
    × (new.door ≡ old.door)
Means (Task.Script keep) old clean new s = Attached keep (Scripts clean) old clean new s
Means (Task.Generate seed count) old clean new s =
    Generates seed count old.works clean new.works s × LeavesSource old new × (new.path ≡ old.path)
    × (new.door ≡ old.door)
Means (Task.Serve port connections keep) old clean new s = Attached keep
    (Serves port connections clean) old clean new s

-- how many turns of the generator a task asks for
abbrev pub turns_of : Task → ℕ
turns_of Task.Usage = 0
turns_of Task.Cut = 0
turns_of (Task.Check lattice sheet) = 0
turns_of (Task.Script keep) = 0
turns_of (Task.Generate seed count) = count
turns_of (Task.Serve port connections keep) = 0

-- A run of the program: what its words ask for. Where there is no memory to read them, nothing is done.
abbrev pub Runs : List (List ℕ) → Outside → Type 0 → Outside → Status → Type 0
Runs words old clean new s =
    ((t : Task) × Asks words t × Means t old clean new s) ⊎ ((s ≡ status.NoMemory) × (new ≡ old))
