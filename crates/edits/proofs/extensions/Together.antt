-- What a ray meets of some segments and of others, it meets of all of them.
use Rattle.std.proofs.Common.{ℕ, ◌<◌, sym, subst, ◌⊎◌, inl, inr}
use Rattle.exact.specs.Plane.{ExactPoint, ExactSegment, IsPointCanonical}
use Rattle.geometry.specs.Rays.{OnRay, RunsAlong}
use Rattle.geometry.proofs.RayPoints.{ray_ordered}
use Rattle.geometry.proofs.RayOrder.{ray_trans, ray_to_same, runs_early, runs_on_it}
use Rattle.edits.specs.Sights.{OnOne, IsFirstOf, IsLost, Sees, IsNearer, AreBoth}
use Rattle.edits.specs.declared.sight.Sight.{Sight}
use Rattle.edits.specs.declared.sight.Sight.TheVariants as sight

abbrev pub Or : (ExactSegment → Type 0) → (ExactSegment → Type 0) → ExactSegment → Type 0
Or P Q s = P s ⊎ Q s

abbrev IsNone : (ExactSegment → Type 0) → ExactPoint → ℕ → Type 0
IsNone P start k = (r : ExactPoint) → OnRay start k r → ¬ OnOne P r

pub first_not_along : (P : ExactSegment → Type 0) (start v : ExactPoint) (k : ℕ) → k < 16 → IsFirstOf P start k v → (s : ExactSegment) → P s → ¬ RunsAlong start k s
first_not_along P start v k small f s p runs = (let m = runs_early start v k s small runs f.ray in f.first m.0 m.1 m.2 (s, p, m.3))

none_not_along : (P : ExactSegment → Type 0) (start : ExactPoint) (k : ℕ) → k < 16 → IsNone P start k → (s : ExactSegment) → P s → ¬ RunsAlong start k s
none_not_along P start k small n s p runs = (let e = runs_on_it start k s small runs in n e.0 e.1 (s, p, e.2))

none_not_lost : (P : ExactSegment → Type 0) (start : ExactPoint) (k : ℕ) → IsNone P start k → (s : ExactSegment) → P s → ¬ IsLost start k s
none_not_lost P start k n s p l = n l.0 l.1.ray (s, p, l.1.here)

either : (P Q : ExactSegment → Type 0) (T : ExactSegment → Type 0) → ((s : ExactSegment) → P s → T s) → ((s : ExactSegment) → Q s → T s) → (s : ExactSegment) → Or P Q s → T s
either P Q T f g s h = elim h [ inl p ↦ f s p | inr q ↦ g s q ]

on_either : (P Q : ExactSegment → Type 0) (r : ExactPoint) → ¬ OnOne P r → ¬ OnOne Q r → ¬ OnOne (Or P Q) r
on_either P Q r f g h = elim h.1 [ inl p ↦ f (h.0, p, h.2) | inr q ↦ g (h.0, q, h.2) ]

first_left : (P Q : ExactSegment → Type 0) (start v : ExactPoint) (k : ℕ) → IsFirstOf P start k v → ((r : ExactPoint) → OnRay start k r → OnRay r k v → ¬ OnOne Q r) → IsFirstOf (Or P Q) start k v
first_left P Q start v k f n = record { ray = f.ray; met = (f.met.0, inl f.met.1, f.met.2); first = λ r ray l. on_either P Q r (f.first r ray l) (n r ray l) }

first_right : (P Q : ExactSegment → Type 0) (start w : ExactPoint) (k : ℕ) → IsFirstOf Q start k w → ((r : ExactPoint) → OnRay start k r → OnRay r k w → ¬ OnOne P r) → IsFirstOf (Or P Q) start k w
first_right P Q start w k f n = record { ray = f.ray; met = (f.met.0, inr f.met.1, f.met.2); first = λ r ray l. on_either P Q r (n r ray l) (f.first r ray l) }

-- what comes before a comes before b, where b does not come before a
before_both : (start r a b : ExactPoint) (k : ℕ) → k < 16 → OnRay start k a → OnRay start k b → ¬ OnRay b k a → OnRay r k a → OnRay r k b
before_both start r a b k small ha hb n l = elim (ray_ordered start a b k ha hb) [
  | inl x ↦ ray_trans k r a b small l x
  | inr y ↦ elim y [ inl s ↦ ray_to_same k r a b small l s | inr z ↦ absurd (n z) ]
]

first_both : (P Q : ExactSegment → Type 0) (start v w m : ExactPoint) (k : ℕ) → k < 16 → IsFirstOf P start k v → IsFirstOf Q start k w → IsNearer k v w m → IsFirstOf (Or P Q) start k m
first_both P Q start v w m k small f g n = elim n.one [
  | inl e ↦ subst (IsFirstOf (Or P Q) start k) (sym e) (first_left P Q start v k f (λ r ray l. g.first r ray (before_both start r v w k small f.ray g.ray (subst (λ z. ¬ OnRay w k z) e n.second) l)))
  | inr e ↦ subst (IsFirstOf (Or P Q) start k) (sym e) (first_right P Q start w k g (λ r ray l. f.first r ray (before_both start r w v k small g.ray f.ray (subst (λ z. ¬ OnRay v k z) e n.first) l)))
]

one_held : (k : ℕ) (v w m : ExactPoint) → IsNearer k v w m → IsPointCanonical v → IsPointCanonical w → IsPointCanonical m
one_held k v w m n c d = elim n.one [ inl e ↦ subst IsPointCanonical (sym e) c | inr e ↦ subst IsPointCanonical (sym e) d ]

pub both_see : (start : ExactPoint) (k : ℕ) (P Q : ExactSegment → Type 0) (x y z : Sight) → k < 16 → Sees start k P x → Sees start k Q y → AreBoth k x y z → Sees start k (Or P Q) z
both_see start k P Q sight.Along y z small h l b = subst (Sees start k (Or P Q)) (sym b) (h.0, inl h.1, h.2)
both_see start k P Q sight.OutOfRange sight.Along z small h l b = subst (Sees start k (Or P Q)) (sym b) (l.0, inr l.1, l.2)
both_see start k P Q sight.OutOfRange sight.OutOfRange z small h l b = subst (Sees start k (Or P Q)) (sym b) ((h.0.0, inl h.0.1, h.0.2), either P Q (λ s. ¬ RunsAlong start k s) h.1 l.1)
both_see start k P Q sight.OutOfRange (sight.First w) z small h l b = subst (Sees start k (Or P Q)) (sym b) ((h.0.0, inl h.0.1, h.0.2), either P Q (λ s. ¬ RunsAlong start k s) h.1 (first_not_along Q start w k small l.1))
both_see start k P Q sight.OutOfRange sight.Nothing z small h l b = subst (Sees start k (Or P Q)) (sym b) ((h.0.0, inl h.0.1, h.0.2), either P Q (λ s. ¬ RunsAlong start k s) h.1 (none_not_along Q start k small l))
both_see start k P Q (sight.First v) sight.Along z small h l b = subst (Sees start k (Or P Q)) (sym b) (l.0, inr l.1, l.2)
both_see start k P Q (sight.First v) sight.OutOfRange z small h l b = subst (Sees start k (Or P Q)) (sym b) ((l.0.0, inr l.0.1, l.0.2), either P Q (λ s. ¬ RunsAlong start k s) (first_not_along P start v k small h.1) l.1)
both_see start k P Q (sight.First v) (sight.First w) z small h l b = subst (Sees start k (Or P Q)) (sym b.1) (one_held k v w b.0 b.2 h.0 l.0, first_both P Q start v w b.0 k small h.1 l.1 b.2, either P Q (λ s. ¬ IsLost start k s) h.2 l.2)
both_see start k P Q (sight.First v) sight.Nothing z small h l b = subst (Sees start k (Or P Q)) (sym b) (h.0, first_left P Q start v k h.1 (λ r ray _. l r ray), either P Q (λ s. ¬ IsLost start k s) h.2 (none_not_lost Q start k l))
both_see start k P Q sight.Nothing sight.Along z small h l b = subst (Sees start k (Or P Q)) (sym b) (l.0, inr l.1, l.2)
both_see start k P Q sight.Nothing sight.OutOfRange z small h l b = subst (Sees start k (Or P Q)) (sym b) ((l.0.0, inr l.0.1, l.0.2), either P Q (λ s. ¬ RunsAlong start k s) (none_not_along P start k small h) l.1)
both_see start k P Q sight.Nothing (sight.First w) z small h l b = subst (Sees start k (Or P Q)) (sym b) (l.0, first_right P Q start w k l.1 (λ r ray _. h r ray), either P Q (λ s. ¬ IsLost start k s) (none_not_lost P start k h) l.2)
both_see start k P Q sight.Nothing sight.Nothing z small h l b = subst (Sees start k (Or P Q)) (sym b) (λ r ray. on_either P Q r (h r ray) (l r ray))

-- the same of the same segments, said otherwise
on_as : (P Q : ExactSegment → Type 0) → ((s : ExactSegment) → P s → Q s) → (r : ExactPoint) → OnOne P r → OnOne Q r
on_as P Q f r h = (h.0, f h.0 h.1, h.2)

pub see_as : (start : ExactPoint) (k : ℕ) (P Q : ExactSegment → Type 0) (x : Sight) → ((s : ExactSegment) → P s → Q s) → ((s : ExactSegment) → Q s → P s) → Sees start k P x → Sees start k Q x
see_as start k P Q sight.Along f g h = (h.0, f h.0 h.1, h.2)
see_as start k P Q sight.OutOfRange f g h = ((h.0.0, f h.0.0 h.0.1, h.0.2), λ s q. h.1 s (g s q))
see_as start k P Q (sight.First v) f g h = (h.0, record { ray = h.1.ray; met = on_as P Q f v h.1.met; first = λ r ray l q. h.1.first r ray l (on_as Q P g r q) }, λ s q. h.2 s (g s q))
see_as start k P Q sight.Nothing f g h = λ r ray q. h r ray (on_as Q P g r q)
