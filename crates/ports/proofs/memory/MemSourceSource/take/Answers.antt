use Rattle.std.proofs.Common.{arith, ◌≡◌, ◌≤◌, ◌+◌, [], ◌++◌, take, drop, length, ℕ, List, length-drop, ap, sym, ◌∙◌}
use Rattle.std.proofs.lemmas.Grind.{common_steps}
use Rattle.std.proofs.lemmas.List.{take_at, take-append-drop, length-take, drop-drop}
use Rattle.ports.proofs.memory.MemSourceSource.take.Goals as goal

-- what was copied stands before what is left
moved : (items copied tail : List ℕ) (at n : ℕ) → copied ≡ take n (drop at items) → n + at ≤ length items → drop at items ≡ take n (copied ++ tail) ++ drop (at + n) items
moved items copied tail at n e h =
    let long : length copied ≡ n = omega (arith, ap length e, length-take n (drop at items), length-drop at items) in
    rw (take_at copied tail n long) (rw e (sym (take-append-drop n (drop at items)) ∙ ap (λ t. take n (drop at items) ++ t) (drop-drop n at items)))

ended : (items : List ℕ) (at : ℕ) → length items ≤ at → drop at items ≡ []
ended items at h = grind (arith, common_steps)

-- src/memory.rt:53:5
pub returns-clause-bytes : goal.returns-clause-bytes
returns-clause-bytes c =
    let long : c.min-count.result + c.self.inside.at ≤ length c.self.inside.bytes.items = grind (arith, common_steps, c.min-count.ensures, c.min.ensures, c.deref.ensures.value, c.self.invariant) in
    record {
      bound = omega (arith, c.min-count.ensures, c.min.ensures);
      front = ap (λ s. s.left) (sym c.self.view_is) ∙ moved c.self.inside.bytes.items c.copy_from_slice.new.self _ c.self.inside.at _ (grind (arith, common_steps, c.copy_from_slice.ensures.after, c.deref.ensures.value)) long;
      ends = λ h z. ap (λ s. s.left) (sym c.self.view_is) ∙ ended c.self.inside.bytes.items c.self.inside.at (grind (arith, common_steps, c.min-count.ensures, c.min.ensures, c.deref.ensures.value, c.self.invariant));
    }
