-- A pattern, and beside it which of its creases are gone and which came: what stands.
use Rattle.std.specs.Prelude.{List, [], ◌∷◌, Contains}
use Rattle.std.specs.Ordering.{match_ordering}
use Rattle.exact.specs.Plane.{Overlap}
use Rattle.sheet.specs.Pattern.{ExactCrease, ExactPattern, IsPattern}
use Rattle.plane.specs.Order.{segment_cmp}
use Rattle.creases.specs.Standing.{AreStanding}

-- a crease put before the first whose segment is above its own
abbrev pub put_before : ExactCrease → List ExactCrease → List ExactCrease
put_before f [] = f ∷ []
put_before f (g ∷ gs) = match_ordering (segment_cmp f.seg g.seg) (f ∷ g ∷ gs) (f ∷ g ∷ gs)
    (g ∷ put_before f gs)

abbrev pub put_all : List ExactCrease → List ExactCrease → List ExactCrease
put_all [] fs = fs
put_all (g ∷ gs) fs = put_before g (put_all gs fs)

-- the creases that are not on the segment of this one
abbrev pub leave_one : ExactCrease → List ExactCrease → List ExactCrease
leave_one g [] = []
leave_one g (f ∷ fs) = match_ordering (segment_cmp g.seg f.seg) (f ∷ leave_one g fs) (leave_one g fs)
    (f ∷ leave_one g fs)

abbrev pub leave_all : List ExactCrease → List ExactCrease → List ExactCrease
leave_all [] fs = fs
leave_all (g ∷ gs) fs = leave_all gs (leave_one g fs)

-- the creases that stand, ascending: those of the pattern that are not gone, and those that came
abbrev pub standing : ExactPattern → List ExactCrease → List ExactCrease → List ExactCrease
standing old gone come = put_all come (leave_all gone old.creases)

-- what is gone was there, what came is new, and it overlaps nothing that is left
pub record AreBeside (old : ExactPattern) (gone come : List ExactCrease) : Type 0 where
  pub pattern : IsPattern old
  pub gone_apart : AreStanding gone
  pub come_apart : AreStanding come
  pub there : (f : ExactCrease) → Contains gone f → Contains old.creases f
  pub fresh : (f : ExactCrease) → Contains come f → ¬ Contains old.creases f
  pub free : (f g : ExactCrease) → Contains come f → Contains old.creases g → (¬ Contains gone g)
      → ¬ Overlap g.seg f.seg
