use Rattle.std.proofs.Common.{◌≡◌, ◌⊎◌, List, sym, subst, inl, inr, refl, arith}
use Rattle.std.specs.Prelude.{Contains}
use Rattle.std.proofs.lemmas.List.Elements.{All-contains}
use Rattle.exact.specs.Plane.{Overlap}
use Rattle.sheet.specs.Pattern.{ExactCrease}
use Rattle.creases.specs.Creases.{AreOverlapping}
use Rattle.creases.proofs.callers.Members.{all_of, has_or_not}
use Rattle.pattern.specs.Fitting.{IsFreeBut}
use Rattle.pattern.proofs.callers.Told.{refuted, shown, answers_no, answers_yes}
use Rattle.pattern.proofs.fits.is_free.Goals as goal
use Rattle.chains.proofs.callers.Elements.{head_has, tail_has, has_cases}

abbrev MayStand : List ExactCrease → ExactCrease → ExactCrease → Type 0
MayStand removed f g = (¬ Overlap g.seg f.seg) ⊎ Contains removed g

pub returns-then-not-is_among : goal.returns-then-not-is_among
returns-then-not-is_among c =
    let f : ExactCrease = c.in-Some.other in
    let here = c.loop-other.invariant.overlap f (subst (λ (xs : List ExactCrease). Contains xs f) (sym c.in-Some.ensures.steps) (head_has f f c.next.new.self refl)) in
    answers_no (IsFreeBut c.args.pattern.now.creases c.args.removed.now c.args.crease.now)
    (λ h. elim (All-contains (MayStand c.args.removed.now c.args.crease.now) c.args.pattern.now.creases f h here.0) [
      | inl n ↦ n here.1
      | inr r ↦ refuted c.is_among.result c.if-not-is_among.true c.is_among.ensures r
    ])

pub loop-other-preserved : goal.loop-other-preserved
loop-other-preserved c =
    let f : ExactCrease = c.in-Some.other in record {
      overlap = λ g k. c.loop-other.invariant.overlap g (subst (λ (xs : List ExactCrease). Contains xs g) (sym c.in-Some.ensures.steps) (tail_has f g c.next.new.self k));
      seen = λ g k v. elim (c.loop-other.invariant.seen g k v) [
        | inr r ↦ inr r
        | inl m ↦ elim (has_cases f g c.next.new.self (subst (λ (xs : List ExactCrease). Contains xs g) c.in-Some.ensures.steps m)) [
          | inl e ↦ inr (subst (Contains c.args.removed.now) e (shown c.is_among.result c.if-not-is_among.false c.is_among.ensures))
          | inr n ↦ inl n
        ]
      ];
    }

pub returns : goal.returns
returns c = answers_yes (IsFreeBut c.args.pattern.now.creases c.args.removed.now c.args.crease.now)
    (all_of (MayStand c.args.removed.now c.args.crease.now) c.args.pattern.now.creases (λ g k. elim (has_or_not c.args.removed.now g) [
      | inl r ↦ inr r
      | inr n ↦ inl (λ v. elim (c.loop-other.invariant.seen g k v) [
        | inl m ↦ (let none = subst (λ (xs : List ExactCrease). Contains xs g) c.in-None.ensures.steps.0 m in omega (arith, none.1))
        | inr r ↦ n r
      ])
    ]))

overlapping_at : (creases xs ys : List ExactCrease) (f g : ExactCrease) → xs ≡ ys → f ≡ g → AreOverlapping creases f.seg xs → AreOverlapping creases g.seg ys
overlapping_at creases xs ys f g e h a = subst (λ (x : ExactCrease). AreOverlapping creases x.seg ys) h (subst (λ (zs : List ExactCrease). AreOverlapping creases f.seg zs) e a)

pub loop-other-init : goal.loop-other-init
loop-other-init c =
    let found = c.into_iter-other-iterator.result in
    let same = c.into_iter-other-iterator.ensures.into_iter_gives in
    let all : AreOverlapping c.args.pattern.now.creases c.args.crease.now.seg found = overlapping_at c.args.pattern.now.creases _ found _ c.args.crease.now (sym same) c.crease.view_is c.overlapping-other-items.ensures.members in
    record { overlap = λ g k. (all g).0 k; seen = λ g k v. inl ((all g).1 (k, v)) }
