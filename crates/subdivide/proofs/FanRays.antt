-- The rays of a fan, read off its marks one direction after another.
use Rattle.std.proofs.Common.{◌≡◌, ℕ, ◌+◌, ◌<◌, ◌≤◌, List, [], ◌∷◌, ◌++◌, length, sym, ap, subst, ◌∙◌, inl, inr, arith, length-append}
use Rattle.std.specs.Prelude.{◌↔◌, Option, Some, None, Contains, slice_get}
use Rattle.std.proofs.lemmas.Bool.{cases_lt}
use Rattle.std.proofs.lemmas.List.Elements.{Contains-append_left, Contains-push, Contains-push_cases, Contains-get_or}
use Rattle.std.proofs.lemmas.List.{get_or_append_left}
use Rattle.std.proofs.lemmas.Option.{slice_get_within}
use Rattle.std.proofs.Math.Seq.{get_or-append_seam}
use Rattle.sheet.specs.declared.mark.Mark.{Mark}
use Rattle.layers.specs.Star.{ray_at, Ascends, IsStar}
use Rattle.layers.specs.declared.star.Ray.{Ray}

-- the rays at the first n directions
pub record AreFirstRays (marks : List (Option Mark)) (n : ℕ) (rays : List Ray) : Type 0 where
  pub few : length rays ≤ n
  pub ascends : Ascends rays
  pub below : (i : ℕ) → i < length rays → (ray_at rays i).dir < n
  pub sound : (r : Ray) → Contains rays r → (r.dir < n) × (slice_get marks r.dir ≡ Some (Some r.mark))
  pub whole : (r : Ray) → r.dir < n → slice_get marks r.dir ≡ Some (Some r.mark) → Contains rays r

made : (a b : ℕ) (m n : Mark) → a ≡ b → m ≡ n → (let r : Ray = record { dir = a; mark = m } in r) ≡ record { dir = b; mark = n }
made a b m n e f = cc

-- a direction with a mark
pub one_ray : (marks : List (Option Mark)) (n : ℕ) (rays new : List Ray) (ray : Ray) → AreFirstRays marks n rays → slice_get marks n ≡ Some (Some ray.mark) → ray.dir ≡ n → new ≡ rays ++ ray ∷ [] → AreFirstRays marks (n + 1) new
one_ray marks n rays new ray a e k f = record {
  few = omega (arith, a.few, long);
  ascends = λ i h. subst (λ (z : List Ray). (ray_at z i).dir < (ray_at z (i + 1)).dir) (sym f) (rising i (omega (arith, h, long)));
  below = λ i h. subst (λ (z : List Ray). (ray_at z i).dir < n + 1) (sym f) (under i (omega (arith, h, long)));
  sound = λ r c. elim (Contains-push_cases rays ray r (subst (λ z. Contains z r) f c)) [
    | inl d ↦ (let s = a.sound r d in (omega (arith, s.0), s.1))
    | inr q ↦ subst (λ (z : Ray). (z.dir < n + 1) × (slice_get marks z.dir ≡ Some (Some z.mark))) q (omega (arith, k), subst (λ m. slice_get marks m ≡ Some (Some ray.mark)) (sym k) e)
  ];
  whole = λ r h s. subst (λ z. Contains z r) (sym f) (elim (cases_lt r.dir n) [
    | inl l ↦ Contains-append_left rays (ray ∷ []) r (a.whole r l s)
    | inr g ↦ (let q : r.dir ≡ n = omega (arith, h, g) in
        subst (Contains (rays ++ ray ∷ [])) (made ray.dir r.dir ray.mark r.mark (k ∙ sym q) (one_mark ray.mark r.mark (sym e ∙ sym (ap (slice_get marks) q) ∙ s))) (Contains-push rays ray))
  ]);
}
  where
    long : length new ≡ length rays + 1
    long = ap length f ∙ length-append rays (ray ∷ [])

    one_mark : (m m' : Mark) → Some (Some m) ≡ Some (Some m') → m ≡ m'
    one_mark m m' q = cc

    old : (i : ℕ) → i < length rays → ray_at (rays ++ ray ∷ []) i ≡ ray_at rays i
    old i h = get_or_append_left rays (ray ∷ []) _ i h

    last : (i : ℕ) → i ≡ length rays → (ray_at (rays ++ ray ∷ []) i).dir ≡ n
    last i q = ap (λ j. (ray_at (rays ++ ray ∷ []) j).dir) q ∙ ap (λ (r : Ray). r.dir) (get_or-append_seam rays ray [] _) ∙ k

    under : (i : ℕ) → i < length rays + 1 → (ray_at (rays ++ ray ∷ []) i).dir < n + 1
    under i h = elim (cases_lt i (length rays)) [
      | inl l ↦ subst (λ (r : Ray). r.dir < n + 1) (sym (old i l)) (omega (arith, a.below i l))
      | inr g ↦ omega (arith, last i (omega (arith, h, g)))
    ]

    rising : (i : ℕ) → i + 1 < length rays + 1 → (ray_at (rays ++ ray ∷ []) i).dir < (ray_at (rays ++ ray ∷ []) (i + 1)).dir
    rising i h = elim (cases_lt (i + 1) (length rays)) [
      | inl l ↦ subst (λ (r : Ray). r.dir < (ray_at (rays ++ ray ∷ []) (i + 1)).dir) (sym (old i (omega (arith, l)))) (subst (λ (r : Ray). (ray_at rays i).dir < r.dir) (sym (old (i + 1) l)) (a.ascends i l))
      | inr g ↦ (let b = a.below i (omega (arith, h)) in let q = last (i + 1) (omega (arith, h, g)) in
          subst (λ (r : Ray). r.dir < (ray_at (rays ++ ray ∷ []) (i + 1)).dir) (sym (old i (omega (arith, h)))) (omega (arith, b, q)))
    ]

-- a direction without one
pub same_rays : (marks : List (Option Mark)) (n : ℕ) (rays : List Ray) → AreFirstRays marks n rays → slice_get marks n ≡ Some None → AreFirstRays marks (n + 1) rays
same_rays marks n rays a e = record {
  few = omega (arith, a.few);
  ascends = a.ascends;
  below = λ i h. omega (arith, a.below i h);
  sound = λ r c. (let s = a.sound r c in (omega (arith, s.0), s.1));
  whole = λ r h s. elim (cases_lt r.dir n) [
    | inl l ↦ a.whole r l s
    | inr g ↦ absurd (none r.mark (sym e ∙ sym (ap (slice_get marks) (equal r.dir h g)) ∙ s))
  ];
}
  where
    equal : (i : ℕ) → i < n + 1 → n ≤ i → i ≡ n
    equal i h g = omega (arith, h, g)

    none : (m : Mark) → Some None ≡ Some (Some m) → ⊥
    none m q = cc

-- all of them
pub all_rays : (marks : List (Option Mark)) (n : ℕ) (rays : List Ray) → AreFirstRays marks n rays → length marks ≤ n → length marks ≤ 16 → IsStar rays × ((r : Ray) → Contains rays r ↔ (slice_get marks r.dir ≡ Some (Some r.mark)))
all_rays marks n rays a h f = (
  record { ascends = a.ascends; directions = λ i l. small i l },
  λ r. (λ c. (a.sound r c).1, λ s. (let w = slice_get_within marks r.dir (Some r.mark) s in a.whole r (omega (arith, w, h)) s)),
)
  where
    small : (i : ℕ) → i < length rays → (ray_at rays i).dir < 16
    small i l = (let c = a.sound (ray_at rays i) (Contains-get_or rays i _ l) in omega (arith, slice_get_within marks (ray_at rays i).dir (Some (ray_at rays i).mark) c.1, f))
