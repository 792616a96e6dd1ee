-- Mountains and valleys exchanged.
use Rattle.std.specs.Prelude.{List, map}
use Rattle.sheet.specs.Pattern.{ExactCrease}
use Rattle.sheet.specs.declared.colour.Colour.{Colour}
use Rattle.sheet.specs.declared.colour.Colour.TheVariants as colour
use Rattle.edits.specs.CreaseSet.{crease}

abbrev pub exchanged : Colour → Colour
exchanged colour.M = colour.V
exchanged colour.V = colour.M
exchanged colour.A = colour.A

abbrev pub exchanged_crease : ExactCrease → ExactCrease
exchanged_crease f = crease f.seg (exchanged f.colour)

abbrev pub flipped : List ExactCrease → List ExactCrease
flipped creases = map exchanged_crease creases
