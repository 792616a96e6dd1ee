-- How the first words of commands are spelled, and which of them change a project.
use Rattle.std.specs.Prelude.{ℕ, List, codes, Bool, true, false}
use Rattle.vocabulary.specs.declared.verb.Verb.{Verb}
use Rattle.vocabulary.specs.declared.verb.Verb.TheVariants as verb

-- the first word of a command
abbrev pub verb_text : Verb → List ℕ
verb_text verb.New = codes "new"
verb_text verb.List = codes "list"
verb_text verb.Show = codes "show"
verb_text verb.Faults = codes "faults"
verb_text verb.Vertex = codes "vertex"
verb_text verb.Pattern = codes "pattern"
verb_text verb.Cp = codes "cp"
verb_text verb.Fold = codes "fold"
verb_text verb.Draw = codes "draw"
verb_text verb.Erase = codes "erase"
verb_text verb.Recolour = codes "recolour"
verb_text verb.Flip = codes "flip"
verb_text verb.Extend = codes "extend"
verb_text verb.Bisect = codes "bisect"
verb_text verb.Mirror = codes "mirror"
verb_text verb.RabbitEar = codes "rabbit-ear"
verb_text verb.Import = codes "import"
verb_text verb.Undo = codes "undo"
verb_text verb.Redo = codes "redo"

-- the commands that change a project that is there
abbrev pub is_change : Verb → Bool
is_change verb.New = false
is_change verb.List = false
is_change verb.Show = false
is_change verb.Faults = false
is_change verb.Vertex = false
is_change verb.Pattern = false
is_change verb.Cp = false
is_change verb.Fold = false
is_change verb.Draw = true
is_change verb.Erase = true
is_change verb.Recolour = true
is_change verb.Flip = true
is_change verb.Extend = true
is_change verb.Bisect = true
is_change verb.Mirror = true
is_change verb.RabbitEar = true
is_change verb.Import = true
is_change verb.Undo = true
is_change verb.Redo = true
