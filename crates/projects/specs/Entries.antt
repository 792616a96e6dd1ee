-- What a project is to those who ask: its rev, and whole patterns for its past, its present and its future.
use Rattle.std.specs.Prelude.{◌≡◌, ℕ, List, [], ◌∷◌, Option}
use Rattle.std.specs.BTreeMap.{is_at, insert_entry}
use Rattle.std.specs.Map.{lookup}
use Rattle.sheet.specs.Sheet.{ExactSheet}
use Rattle.sheet.specs.Pattern.{ExactPattern, IsPattern}
use Rattle.pattern.specs.Deltas.{Fits, Leads}
use Rattle.pattern.specs.declared.delta.Delta.{Delta}
use Rattle.vocabulary.specs.Names.{name_cmp}
use Rattle.projects.specs.Projects.{ExactProject}
use Rattle.projects.specs.Tables.{Tables}

-- The past is oldest first, the future next first.
pub record Entry : Type 0 where
  pub rev : ℕ
  pub past : List ExactPattern
  pub now : ExactPattern
  pub future : List ExactPattern

abbrev pub Entries : Type 0
Entries = List (List ℕ × Entry)

-- the first of these patterns, or the one that comes after all
abbrev pub next_of : List ExactPattern → ExactPattern → ExactPattern
next_of [] last = last
next_of (p ∷ ps) last = p

-- each delta leads from its pattern to the next, and the last one to the present
abbrev pub LeadTo : List Delta → List ExactPattern → ExactPattern → Type 0
LeadTo [] [] now = Unit {0}
LeadTo [] (p ∷ ps) now = ⊥
LeadTo (d ∷ ds) [] now = ⊥
LeadTo (d ∷ ds) (p ∷ ps) now = IsPattern p × Fits p d × Leads p d (next_of ps now) × LeadTo ds ps now

-- each delta leads to its pattern from the one before, and the first one from the present
abbrev pub LeadFrom : ExactPattern → List Delta → List ExactPattern → Type 0
LeadFrom now [] [] = Unit {0}
LeadFrom now [] (p ∷ ps) = ⊥
LeadFrom now (d ∷ ds) [] = ⊥
LeadFrom now (d ∷ ds) (p ∷ ps) = Fits now d × Leads now d p × LeadFrom p ds ps

-- the project keeps deltas where the entry has patterns
pub record StandsFor (project : ExactProject) (entry : Entry) : Type 0 where
  pub rev : entry.rev ≡ project.rev
  pub now : entry.now ≡ project.pattern
  pub past : LeadTo project.history.past entry.past project.pattern
  pub future : LeadFrom project.pattern project.history.future entry.future

-- the tables have the names of the entries, and under each a project that stands for its entry
abbrev pub StandFor : Tables → Entries → Type 0
StandFor [] [] = Unit {0}
StandFor [] (e ∷ es) = ⊥
StandFor (t ∷ ts) [] = ⊥
StandFor (t ∷ ts) (e ∷ es) = (t.0 ≡ e.0) × StandsFor t.1 e.1 × StandFor ts es

-- the entry under a name, if there is one
abbrev pub entry_at : Entries → List ℕ → Option Entry
entry_at entries name = lookup (is_at (name_cmp name)) entries

-- the entries with this one under this name, and all else as it was
abbrev pub with_entry : Entries → List ℕ → Entry → Entries
with_entry entries name entry = insert_entry name_cmp entries name entry

-- a sheet without creases, at rev 0
abbrev pub fresh : ExactSheet → Entry
fresh sheet = record { rev = 0; past = []; now = record { sheet = sheet; creases = [] }; future = [] }
