-- Rays that ascend, one after another.
use Rattle.std.proofs.Common.{◌≡◌, ◌<◌, ◌+◌, ℕ, zero, suc, arith, ap, List, length, refl}
use Rattle.layers.specs.Star.{Ray, ray_at, Ascends}

-- a ray whose direction is below the least that may follow
pub falls_back : (rays : List Ray) (i number least : ℕ) → i < length rays → number ≡ (ray_at rays i).dir → number < least → (i ≡ 0 → least ≡ 0) → ((j : ℕ) → j + 1 ≡ i → least ≡ (ray_at rays j).dir + 1) → Ascends rays → ⊥
falls_back rays zero number least h e l start last A = let s = start refl in omega arith
falls_back rays (suc j) number least h e l start last A =
    let n : j + 1 ≡ suc j = omega arith in let s = last j n in let t : (ray_at rays (j + 1)).dir ≡ (ray_at rays (suc j)).dir = ap (λ k. (ray_at rays k).dir) n in
    let a = A j (omega arith) in omega arith
