use Rattle.std.proofs.Common.{◌≡◌, Bool, true, false, refl}
use mathlib.Core.Bool.{beq}
use Rattle.edits.proofs.extensions.Nearer.{nearer_told, other_told}
use Rattle.edits.proofs.sight.nearer.Goals as goal

equal : (a b : Bool) → beq a b ≡ true → a ≡ b
equal true true e = refl
equal true false e = (let f : false ≡ true = e in cc)
equal false true e = (let f : false ≡ true = e in cc)
equal false false e = refl

unequal : (a b : Bool) → beq a b ≡ false → ¬ (a ≡ b)
unequal true true e f = (let g : true ≡ false = e in cc)
unequal true false e f = (let g : true ≡ false = f in cc)
unequal false true e f = (let g : false ≡ true = f in cc)
unequal false false e f = (let g : true ≡ false = e in cc)

pub returns-then-leads_on-is_before : goal.returns-then-leads_on-is_before
returns-then-leads_on-is_before c = nearer_told c.args.dir c.args.first.now c.args.second.now c.leads_on.result c.is_before.result c.leads_on.ensures.small c.leads_on.ensures.on c.is_before.ensures
    (equal c.leads_on.result c.is_before.result c.if-leads_on-is_before.true)

pub returns-else-leads_on-is_before : goal.returns-else-leads_on-is_before
returns-else-leads_on-is_before c = other_told c.args.dir c.args.first.now c.args.second.now c.leads_on.result c.is_before.result c.leads_on.ensures.small c.leads_on.ensures.on c.is_before.ensures
    (unequal c.leads_on.result c.is_before.result c.if-leads_on-is_before.false)
