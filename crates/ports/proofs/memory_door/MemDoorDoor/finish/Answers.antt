use Rattle.std.proofs.Common.{arith, ◌≡◌, ◌≤◌, ◌+◌, [], ◌∷◌, ◌++◌, take, drop, length, ℕ, List, ap, sym, ◌∙◌}
use Rattle.std.specs.List.{insert}
use Rattle.std.proofs.lemmas.Grind.{common_steps}
use Rattle.std.proofs.lemmas.List.{take_at, drop_at, append_assoc, length-take-le, length-append}
use Rattle.ports.specs.Doors.{with_finished}
use Rattle.ports.proofs.memory_door.MemDoorDoor.finish.Goals as goal

-- what was put between the finished ends and those still to come, as two parts
parted : {E : Type 0} (items : List E) (n : ℕ) (end : E) → insert items n end ≡ (take n items ++ end ∷ []) ++ drop n items
parted items n end = sym (append_assoc (take n items) (end ∷ []) (drop n items))

long : {E : Type 0} (items : List E) (n : ℕ) (end : E) → n ≤ length items → length (take n items ++ end ∷ []) ≡ n + 1
long items n end h = omega (arith, length-append (take n items) (end ∷ []), length-take-le n items h)

-- it is the last of the finished ends
more : {E : Type 0} (items : List E) (n : ℕ) (end : E) → n ≤ length items → take (n + 1) (insert items n end) ≡ take n items ++ end ∷ []
more items n end h = ap (take (n + 1)) (parted items n end) ∙ take_at (take n items ++ end ∷ []) (drop n items) (n + 1) (long items n end h)

-- and those still to come are as before
same : {E : Type 0} (items : List E) (n : ℕ) (end : E) → n ≤ length items → drop (n + 1) (insert items n end) ≡ drop n items
same items n end h = ap (drop (n + 1)) (parted items n end) ∙ drop_at (take n items ++ end ∷ []) (drop n items) (n + 1) (long items n end h)

-- src/memory_door.rt:169:5
pub returns-clause-ends : goal.returns-clause-ends
returns-clause-ends c =
    let put : c.insert.new.self.items ≡ insert c.self.inside.ends.items c.self.inside.done c.args.end = grind (arith, common_steps, c.insert.ensures.items, c.insert.ensures.succeeds, c.self.invariant, c.requires) in
    let few : c.self.inside.done ≤ length c.self.inside.ends.items = c.self.invariant.0 in
    rw (put, more c.self.inside.ends.items c.self.inside.done c.args.end few, same c.self.inside.ends.items c.self.inside.done c.args.end few) (ap (with_finished c.args.end) (ap (λ s. s.ends) c.self.view_is))
