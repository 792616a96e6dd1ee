-- Two points that are not on the right of a line, and not both on it.
use Rattle.qroot2.specs.declared.sign.Sign.{Sign}
use Rattle.qroot2.specs.declared.sign.Sign.TheVariants.{Minus, Zero, Plus}

-- of the sides on which two points are, none is Minus, and not both are Zero
abbrev pub AreLeft : Sign → Sign → Type 0
AreLeft Minus to = ⊥
AreLeft Zero Minus = ⊥
AreLeft Zero Zero = ⊥
AreLeft Zero Plus = Unit {0}
AreLeft Plus Minus = ⊥
AreLeft Plus Zero = Unit {0}
AreLeft Plus Plus = Unit {0}
