-- What one edge adds to the rays of the vertices, and what all edges have given in the end.
use Rattle.std.proofs.Common.{◌≡◌, ◌≢◌, ℕ, ◌+◌, ◌%◌, ◌<◌, List, length, get_or, set, refl, sym, ap, subst, ◌∙◌, ◌⊎◌, inl, inr, arith}
use Rattle.std.specs.Prelude.{Some, slice_get}
use Rattle.std.proofs.lemmas.Bool.{cases_order}
use Rattle.std.proofs.lemmas.List.{get_or-set_same, get_or-set_other, get_or_default}
use Rattle.std.proofs.Math.ListN.{length-set}
use Rattle.exact.specs.Plane.{ExactPoint, DirOf}
use Rattle.sheet.specs.declared.mark.Mark.{Mark}
use Rattle.layers.specs.declared.star.Ray.{Ray}
use Rattle.geometry.proofs.Leads.{opposite_dir}
use Rattle.subdivide.specs.Subdivision.{EdgePlaces}
use Rattle.subdivide.specs.Star.{marked_kind}
use Rattle.subdivide.specs.Fans.{HasRay, IsWithRay, IsJoined, Gives, IsNoted}
use Rattle.subdivide.specs.declared.stars.Fan.{Fan}
use Rattle.subdivide.proofs.Rays.{one_marked}
use Rattle.subdivide.proofs.callers.Gets.{some_is}

abbrev pub ray : ℕ → Mark → Ray
ray k m = record { dir = k; mark = m }

ray_is : (r : Ray) (k : ℕ) (m : Mark) → r.dir ≡ k → r.mark ≡ m → r ≡ ray k m
ray_is r k m e f = made r.dir k r.mark m e f
  where
    made : (a b : ℕ) (m n : Mark) → a ≡ b → m ≡ n → ray a m ≡ ray b n
    made a b m n e f = cc

equal_or_not : (a b : ℕ) → (a ≡ b) ⊎ (a ≢ b)
equal_or_not a b = elim (cases_order a b) [
  | inl e ↦ inl e
  | inr k ↦ inr (λ e. elim k [ inl l ↦ omega (arith, e, l) | inr g ↦ omega (arith, e, g) ])
]

-- the ends of an edge, its direction, and the fans at its ends before and after
pub record AreEnds (vs : List ExactPoint) (e : EdgePlaces) (mark : Mark) (dir : ℕ) (u v : ExactPoint) : Type 0 where
  pub joined : IsJoined vs e
  pub kind : e.kind ≡ marked_kind mark
  pub from : slice_get vs e.from ≡ Some u
  pub to : slice_get vs e.to ≡ Some v
  pub leads : DirOf u v dir
  pub small : dir < 16
  pub only : (k : ℕ) → k < 16 → DirOf u v k → k ≡ dir

gives_from : (vs : List ExactPoint) (e : EdgePlaces) (mark : Mark) (dir : ℕ) (u v : ExactPoint) → AreEnds vs e mark dir u v → Gives vs e e.from (ray dir mark)
gives_from vs e mark dir u v a = record {
  small = a.small;
  kind = a.kind;
  other = e.to;
  ends = inl (refl, refl);
  leads = λ p q x y. subst (λ z. DirOf z q dir) (some_is (sym a.from ∙ x)) (subst (λ z. DirOf u z dir) (some_is (sym a.to ∙ y)) a.leads);
}

gives_to : (vs : List ExactPoint) (e : EdgePlaces) (mark : Mark) (dir : ℕ) (u v : ExactPoint) → AreEnds vs e mark dir u v → Gives vs e e.to (ray ((dir + 8) % 16) mark)
gives_to vs e mark dir u v a = record {
  small = omega arith;
  kind = a.kind;
  other = e.from;
  ends = inr (refl, refl);
  leads = λ p q x y. subst (λ z. DirOf z q ((dir + 8) % 16)) (some_is (sym a.to ∙ x)) (subst (λ z. DirOf v z ((dir + 8) % 16)) (some_is (sym a.from ∙ y)) (opposite_dir u v dir a.small a.leads));
}

-- the one ray that the edge gives to a vertex
given : (vs : List ExactPoint) (e : EdgePlaces) (mark : Mark) (dir : ℕ) (u v : ExactPoint) → AreEnds vs e mark dir u v → (i : ℕ) (r : Ray) → Gives vs e i r
    → ((i ≡ e.from) × (r ≡ ray dir mark)) ⊎ ((i ≡ e.to) × (r ≡ ray ((dir + 8) % 16) mark))
given vs e mark dir u v a i r g = elim g.ends [
  | inl h ↦ inl (sym h.0, ray_is r dir mark (a.only r.dir g.small (g.leads u v (ap (slice_get vs) (sym h.0) ∙ a.from) (ap (slice_get vs) (sym h.1) ∙ a.to))) marked)
  | inr h ↦ inr (sym h.0, ray_is r ((dir + 8) % 16) mark (back r.dir g.small (opposite_dir v u r.dir g.small (g.leads v u (ap (slice_get vs) (sym h.0) ∙ a.to) (ap (slice_get vs) (sym h.1) ∙ a.from)))) marked)
]
  where
    marked : r.mark ≡ mark
    marked = one_marked r.mark mark (sym g.kind ∙ a.kind)

    back : (k : ℕ) → k < 16 → DirOf u v ((k + 8) % 16) → k ≡ (dir + 8) % 16
    back k h d = (let q = a.only ((k + 8) % 16) (omega arith) d in omega (arith, h, q))

pub noted : (vs : List ExactPoint) (e : EdgePlaces) (mark : Mark) (dir : ℕ) (u v : ExactPoint) (old : List Fan) (f f' g g' : Fan) → AreEnds vs e mark dir u v → length old ≡ length vs
    → f ≡ get_or old e.from f → IsWithRay f (ray dir mark) f' → g ≡ get_or (set old e.from f') e.to g → IsWithRay g (ray ((dir + 8) % 16) mark) g'
    → IsNoted vs e old (set (set old e.from f') e.to g')
noted vs e mark dir u v old f f' g g' a long fo fn go gn = record {
  long = length-set (set old e.from f') e.to g' ∙ length-set old e.from f';
  gives = λ i d r h. elim (given vs e mark dir u v a i r h) [
    | inl k ↦ subst (λ z. HasRay (get_or new z d) r) (sym k.0) (subst (λ z. HasRay z r) (sym (at_from d)) (subst (HasRay f') (sym k.1) fn.here))
    | inr k ↦ subst (λ z. HasRay (get_or new z d) r) (sym k.0) (subst (λ z. HasRay z r) (sym (at_to d)) (subst (HasRay g') (sym k.1) gn.here))
  ];
  keeps = λ i d r b h. elim (equal_or_not i e.from) [
    | inl k ↦ subst (λ z. HasRay (get_or new z d) r ⊎ ((q : Ray) × (q.dir ≡ r.dir) × Gives vs e z q)) (sym k) (keeps_from d r (subst (λ z. HasRay (get_or old z d) r) k h))
    | inr n ↦ elim (equal_or_not i e.to) [
      | inl k ↦ subst (λ z. HasRay (get_or new z d) r ⊎ ((q : Ray) × (q.dir ≡ r.dir) × Gives vs e z q)) (sym k) (keeps_to d r (subst (λ z. HasRay (get_or old z d) r) k h))
      | inr m ↦ inl (subst (λ z. HasRay z r) (sym (elsewhere i d n m)) h)
    ]
  ];
  each = λ i d r b h. elim (equal_or_not i e.from) [
    | inl k ↦ subst (λ z. Gives vs e z r ⊎ HasRay (get_or old z d) r) (sym k) (each_from d r (subst (λ z. HasRay (get_or new z d) r) k h))
    | inr n ↦ elim (equal_or_not i e.to) [
      | inl k ↦ subst (λ z. Gives vs e z r ⊎ HasRay (get_or old z d) r) (sym k) (each_to d r (subst (λ z. HasRay (get_or new z d) r) k h))
      | inr m ↦ inr (subst (λ z. HasRay z r) (elsewhere i d n m) h)
    ]
  ];
}
  where
    mid : List Fan
    mid = set old e.from f'

    new : List Fan
    new = set mid e.to g'

    apart : e.from ≢ e.to
    apart q = omega (arith, a.joined.rising, q)

    from_in : e.from < length old
    from_in = omega (arith, a.joined.rising, a.joined.within, long)

    to_in : e.to < length old
    to_in = omega (arith, a.joined.within, long)

    at_from : (d : Fan) → get_or new e.from d ≡ f'
    at_from d = get_or-set_other mid e.to e.from g' d apart ∙ get_or-set_same old e.from f' d from_in

    at_to : (d : Fan) → get_or new e.to d ≡ g'
    at_to d = get_or-set_same mid e.to g' d (omega (arith, to_in, length-set old e.from f'))

    old_from : (d : Fan) → get_or old e.from d ≡ f
    old_from d = get_or_default old e.from d f from_in ∙ sym fo

    old_to : (d : Fan) → get_or old e.to d ≡ g
    old_to d = get_or_default old e.to d g to_in ∙ sym (get_or-set_other old e.from e.to f' g (λ q. apart (sym q))) ∙ sym go

    elsewhere : (i : ℕ) (d : Fan) → i ≢ e.from → i ≢ e.to → get_or new i d ≡ get_or old i d
    elsewhere i d n m = get_or-set_other mid e.to i g' d m ∙ get_or-set_other old e.from i f' d n

    keeps_from : (d : Fan) (r : Ray) → HasRay (get_or old e.from d) r → HasRay (get_or new e.from d) r ⊎ ((q : Ray) × (q.dir ≡ r.dir) × Gives vs e e.from q)
    keeps_from d r h = elim (equal_or_not r.dir dir) [
      | inl k ↦ inr (ray dir mark, sym k, gives_from vs e mark dir u v a)
      | inr n ↦ inl (subst (λ z. HasRay z r) (sym (at_from d)) ((fn.others r n).1 (subst (λ z. HasRay z r) (old_from d) h)))
    ]

    keeps_to : (d : Fan) (r : Ray) → HasRay (get_or old e.to d) r → HasRay (get_or new e.to d) r ⊎ ((q : Ray) × (q.dir ≡ r.dir) × Gives vs e e.to q)
    keeps_to d r h = elim (equal_or_not r.dir ((dir + 8) % 16)) [
      | inl k ↦ inr (ray ((dir + 8) % 16) mark, sym k, gives_to vs e mark dir u v a)
      | inr n ↦ inl (subst (λ z. HasRay z r) (sym (at_to d)) ((gn.others r n).1 (subst (λ z. HasRay z r) (old_to d) h)))
    ]

    put : (fan : Fan) (k : ℕ) (r : Ray) → HasRay fan (ray k mark) → HasRay fan r → r.dir ≡ k → r ≡ ray k mark
    put fan k r x y q = ray_is r k mark q (same r.mark mark (sym y ∙ ap (slice_get fan.marks) q ∙ x))
      where
        same : (m n : Mark) → Some (Some m) ≡ Some (Some n) → m ≡ n
        same m n w = cc

    each_from : (d : Fan) (r : Ray) → HasRay (get_or new e.from d) r → Gives vs e e.from r ⊎ HasRay (get_or old e.from d) r
    each_from d r h = (let h' = subst (λ z. HasRay z r) (at_from d) h in elim (equal_or_not r.dir dir) [
      | inl k ↦ inl (subst (Gives vs e e.from) (sym (put f' dir r fn.here h' k)) (gives_from vs e mark dir u v a))
      | inr n ↦ inr (subst (λ z. HasRay z r) (sym (old_from d)) ((fn.others r n).0 h'))
    ])

    each_to : (d : Fan) (r : Ray) → HasRay (get_or new e.to d) r → Gives vs e e.to r ⊎ HasRay (get_or old e.to d) r
    each_to d r h = (let h' = subst (λ z. HasRay z r) (at_to d) h in elim (equal_or_not r.dir ((dir + 8) % 16)) [
      | inl k ↦ inl (subst (Gives vs e e.to) (sym (put g' ((dir + 8) % 16) r gn.here h' k)) (gives_to vs e mark dir u v a))
      | inr n ↦ inr (subst (λ z. HasRay z r) (sym (old_to d)) ((gn.others r n).0 h'))
    ])
