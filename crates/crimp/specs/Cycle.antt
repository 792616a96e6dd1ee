-- A list that is being crimped: sectors with their own numbers, each at the places that it had in the star.
use Rattle.std.specs.Prelude.{◌≡◌, ◌≢◌, ℕ, ◌+◌, ◌-◌, ◌<◌, ◌≤◌, ◌%◌, List, [], ◌∷◌, length, map}
use Rattle.std.specs.Prelude.{slice_index_or, ℤ, pos, ◌+ℤ◌, ◌-ℤ◌}
use Rattle.sheet.specs.declared.mark.Mark.{Mark}
use Rattle.sheet.specs.declared.mark.Mark.TheVariants as mark
use Rattle.crimp.specs.declared.entries.Entry.{Entry}
use Rattle.crimp.specs.Rules.{Rules}
use Rattle.layers.specs.declared.sector_list.Sector.{Sector}
use Rattle.layers.specs.Sectors.{behind}
use Rattle.layers.specs.LayerOrder.{height}
use Rattle.crimp.specs.Cyclic.{In, Linked, Distinct}
use Rattle.crimp.specs.Crimping.{Opposite, crimped}

-- the three become one sector; it keeps the number of the first
abbrev pub merged : Entry → Entry → Entry → Entry
merged p q r = record { number = p.number; mark = p.mark; angle = p.angle + r.angle - q.angle }

abbrev pub no_entry : Entry
no_entry = record { number = 0; mark = mark.M; angle = 0 }

abbrev pub numbers_of : List Entry → List ℕ
numbers_of es = map (λ e. e.number) es

abbrev pub entry_at : List Entry → ℕ → Entry
entry_at es i = slice_index_or es i (record { number = 0; mark = mark.M; angle = 0 })

abbrev pub crimped_at : List Entry → ℕ → List Entry
crimped_at es i = crimped merged no_entry es i

-- sector f comes behind sector e: it is odd where e is even, and its place is the angle of e
-- further, up from an even e, down from an odd one
pub record Step (x : ℕ → ℤ) (e f : Entry) : Type 0 where
  pub odd : f.number % 2 ≢ e.number % 2
  pub up : e.number % 2 ≡ 0 → x f.number ≡ x e.number +ℤ pos e.angle
  pub down : e.number % 2 ≡ 1 → x f.number ≡ x e.number -ℤ pos e.angle

pub record IsCycle (x : ℕ → ℤ) (mark : ℕ → Mark) (es : List Entry) : Type 0 where
  pub steps : (e f : Entry) → Linked es e f → Step x e f
  pub marked : (e : Entry) → In es e → mark e.number ≡ e.mark
  pub distinct : Distinct (numbers_of es)

-- the order has each of these sectors once, and keeps the rules among them
pub record Layered (x : ℕ → ℤ) (mark : ℕ → Mark) (sectors order : List ℕ) : Type 0 where
  pub rules : Rules (In sectors) (Linked sectors) x mark (height order)
  pub holds : (a : ℕ) → In sectors a → height order a < length order
  pub lacks : (a : ℕ) → (In sectors a → ⊥) → height order a ≡ length order
  pub long : length order ≡ length sectors

-- a least entry of a list of four or more, whose creases have opposite marks
pub record Crimpable (es : List Entry) (i : ℕ) : Type 0 where
  pub four : 4 ≤ length es
  pub within : i < length es
  pub least : (j : ℕ) → j < length es → (entry_at es i).angle ≤ (entry_at es j).angle
  pub opposite : Opposite (entry_at es i).mark (entry_at es (behind (length es) i)).mark

-- the sum of the angles
unfoldable pub total : List Entry → ℕ
total [] = 0
total (e ∷ es) = e.angle + total es

pub record IsSomeCycle (es : List Entry) : Type 0 where
  pub x : ℕ → ℤ
  pub mark : ℕ → Mark
  pub is : IsCycle x mark es

-- two entries with one mark
pub record IsPair (es : List Entry) : Type 0 where
  pub two : length es ≡ 2
  pub same : (entry_at es 0).mark ≡ (entry_at es 1).mark

-- crimping at the first entry that can be crimped, again and again, ends with this list
pub data Ends : List Entry → List Entry → Type 0 where
  Stop : (es : List Entry) → ((i : ℕ) → Crimpable es i → ⊥) → Ends es es
  Go : (es fs : List Entry) (i : ℕ) → Crimpable es i → ((j : ℕ) → j < i → Crimpable es j → ⊥)
      → Ends (crimped_at es i) fs → Ends es fs

-- a sector with its number
abbrev pub entry_for : ℕ → Sector → Entry
entry_for k s = record { number = k; mark = s.mark; angle = s.angle }

-- the sectors with their numbers, the first of which is k
unfoldable pub numbered : ℕ → List Sector → List Entry
numbered k [] = []
numbered k (s ∷ ss) = record { number = k; mark = s.mark; angle = s.angle } ∷ numbered (k + 1) ss
