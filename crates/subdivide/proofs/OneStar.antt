-- A vertex has one star.
use Rattle.std.proofs.Common.{◌≡◌, ℕ, zero, suc, ◌+◌, ◌-◌, ◌<◌, List, length, get_or, sym, ap, subst, arith}
use Rattle.std.specs.Prelude.{Contains, AllPairs}
use Rattle.std.proofs.lemmas.List.{get_or_default}
use Rattle.std.proofs.lemmas.List.Elements.{All-contains}
use Rattle.exact.specs.Plane.{ExactPoint}
use Rattle.sheet.specs.Pattern.{ExactPattern}
use Rattle.layers.specs.Star.{ray_at, Ascends}
use Rattle.layers.specs.declared.star.Ray.{Ray}
use Rattle.chains.proofs.callers.Sorted.{same_lists}
use Rattle.subdivide.specs.Star.{GoesOut, StarOf}

rising : (rays : List Ray) → Ascends rays → (n i : ℕ) → i + 1 + n < length rays → (ray_at rays i).dir < (ray_at rays (i + 1 + n)).dir
rising rays up zero i h = subst (λ j. (ray_at rays i).dir < (ray_at rays j).dir) (same i) (up i (omega arith))
  where
    same : (i : ℕ) → i + 1 ≡ i + 1 + 0
    same i = omega arith
rising rays up (suc n) i h =
    let near = rising rays up n i (omega arith) in
    let next : (ray_at rays (i + 1 + n)).dir < (ray_at rays (i + 1 + n + 1)).dir = up (i + 1 + n) (omega arith) in
    subst (λ j. (ray_at rays i).dir < (ray_at rays j).dir) (same i n) (omega (arith, near, next))
  where
    same : (i n : ℕ) → i + 1 + n + 1 ≡ i + 1 + suc n
    same i n = omega arith

by_direction : (rays : List Ray) → Ascends rays → AllPairs (λ r q. r.dir < q.dir) rays
by_direction rays up i j d h l =
    let far = rising rays up (j - (i + 1)) i (omega arith) in
    let same : i + 1 + (j - (i + 1)) ≡ j = omega arith in
    let there : (ray_at rays i).dir < (ray_at rays j).dir = subst (λ k. (ray_at rays i).dir < (ray_at rays k).dir) same far in
    let a = ap (λ (r : Ray). r.dir) (get_or_default rays i d _ (omega arith)) in
    let b = ap (λ (r : Ray). r.dir) (get_or_default rays j d _ l) in
    subst (λ z. z < (get_or rays j d).dir) (sym a) (subst (λ z. (ray_at rays i).dir < z) (sym b) there)

not_back : (r q : Ray) → r.dir < q.dir → q.dir < r.dir → ⊥
not_back r q h l = omega (arith, h, l)

within : (pattern : ExactPattern) (v : ExactPoint) (rays others : List Ray) → StarOf pattern v rays → StarOf pattern v others → (r : Ray) → Contains rays r → Contains others r
within pattern v rays others a b r c = b.all r (All-contains (GoesOut pattern v) rays r a.each c)

pub one_star : (pattern : ExactPattern) (v : ExactPoint) (rays others : List Ray) → StarOf pattern v rays → StarOf pattern v others → rays ≡ others
one_star pattern v rays others a b =
    same_lists (λ r q. r.dir < q.dir) not_back rays others (by_direction rays a.star.ascends) (by_direction others b.star.ascends) (within pattern v rays others a b) (within pattern v others rays b a)
