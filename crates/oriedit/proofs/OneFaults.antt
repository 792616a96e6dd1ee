-- The faults of a pattern are one list.
use Rattle.std.proofs.Common.{◌≡◌, List, sym, subst}
use Rattle.std.specs.Prelude.{Contains}
use Rattle.std.proofs.lemmas.List.Elements.{All-contains}
use Rattle.exact.specs.Plane.{Before, IsPointCanonical}
use Rattle.geometry.proofs.PointOrder.{before_not_back}
use Rattle.sheet.specs.Pattern.{ExactPattern}
use Rattle.plane.proofs.callers.Orders.{point_unique}
use Rattle.chains.proofs.callers.Sorted.{same_lists}
use Rattle.judge.specs.Faults.{IsFault, AreFaults}
use Rattle.judge.specs.declared.fault.Fault.{Fault}

same_fault : (f g : Fault) → f.at ≡ g.at → f.why ≡ g.why → f ≡ g
same_fault f g p q = λ i. record { at = p i; why = q i }

faults_within : (pattern : ExactPattern) (fs gs : List Fault) → AreFaults pattern fs → AreFaults pattern gs
    → (f : Fault) → Contains fs f → Contains gs f
faults_within pattern fs gs a b f c =
    let g = b.all f.at f.why (All-contains (λ (x : Fault). IsFault pattern x.at x.why) fs f a.each c) in
    let held = All-contains (λ (x : Fault). IsPointCanonical x.at) fs f a.canonical c in
    let other = All-contains (λ (x : Fault). IsPointCanonical x.at) gs g.0 b.canonical g.1 in
    let at = point_unique f.at g.0.at held other g.2 in
    subst (Contains gs) (sym (same_fault f g.0 at (sym g.3))) g.1

pub faults_one : (pattern : ExactPattern) (fs gs : List Fault) → AreFaults pattern fs → AreFaults pattern gs
    → fs ≡ gs
faults_one pattern fs gs a b =
    let R = λ (f : Fault) (g : Fault). Before f.at g.at in
    same_lists R (λ f g. before_not_back f.at g.at) fs gs a.ordered b.ordered
    (faults_within pattern fs gs a b) (faults_within pattern gs fs b a)
