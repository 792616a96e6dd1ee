use Rattle.std.proofs.Common.{◌≡◌, Bool, List, true, false, refl, sym, ap, subst, ◌∙◌}
use Rattle.std.specs.Prelude.{IsSome, not, Contains}
use Rattle.std.specs.BTreeMap.{is_at}
use Rattle.std.proofs.lemmas.Bool.{true≢false}
use Rattle.std.proofs.lemmas.Map.Steps.{set_value_same}
use denote.Enum.Bare.{sameb}
use Rattle.exact.specs.Plane.{ExactSegment}
use Rattle.plane.specs.Order.{segment_cmp}
use Rattle.sheet.specs.Pattern.{ExactCrease}
use Rattle.sheet.specs.declared.colour.Colour.{Colour}
use Rattle.sheet.specs.contracts.Colour.{the_type}
use Rattle.creases.specs.Creases.{AreRecoloured}
use Rattle.creases.specs.Segments.{creases_of, AreFound}
use Rattle.creases.specs.Standing.{AreStanding}
use Rattle.creases.proofs.Found.{recoloured_found, recoloured_found_members}
use Rattle.creases.proofs.callers.Lookups.{colour_found, not_there}
use Rattle.creases.proofs.callers.Told.{has_told}
use Rattle.creases.proofs.map.CreaseMap.recolour.Goals as goal

same_of : (b r : Bool) → r ≡ not b → r ≡ false → b ≡ true
same_of true r e f = refl
same_of false r e f = absurd (true≢false (sym e ∙ f))

other_of : (b r : Bool) → r ≡ not b → r ≡ true → b ≡ false
other_of true r e f = absurd (true≢false (sym f ∙ e))
other_of false r e f = refl

-- the test for another colour than the one that stands at the segment
is_here : (xs : List ExactCrease) (f : ExactCrease) (s : ExactSegment) (c k : Colour) (r : Bool) → AreStanding xs → (let g : ExactCrease = record { seg = s; colour = k } in g) ≡ f → Contains xs (record { seg = s; colour = c }) → r ≡ not (sameb the_type c k) → r ≡ false → Contains xs f
is_here xs f s c k r p e h q z = (has_told xs f s c k (sameb the_type c k) p e h refl).0 (same_of (sameb the_type c k) r q z)

is_not_here : (xs : List ExactCrease) (f : ExactCrease) (s : ExactSegment) (c k : Colour) (r : Bool) → AreStanding xs → (let g : ExactCrease = record { seg = s; colour = k } in g) ≡ f → Contains xs (record { seg = s; colour = c }) → r ≡ not (sameb the_type c k) → r ≡ true → ¬ Contains xs f
is_not_here xs f s c k r p e h q z d = true≢false (sym ((has_told xs f s c k (sameb the_type c k) p e h refl).1 d) ∙ other_of (sameb the_type c k) r q z)

in_list : (xs ys : List ExactCrease) (f : ExactCrease) → xs ≡ ys → Contains xs f → Contains ys f
in_list xs ys f e d = subst (λ (zs : List ExactCrease). Contains zs f) e d

pub returns-in_default-clause-there : goal.returns-in_default-clause-there
returns-in_default-clause-there c =
    let es = c.self.inside.by_segment.entries in
    let x : ExactCrease = record { seg = c.crease.inside.seg; colour = c.crease.inside.colour } in (
      λ t. absurd (true≢false (sym t)),
      λ d. absurd (not_there es x (sym c.in_default.ensures.value) (subst (Contains (creases_of es)) (sym c.crease.view_is) (in_list c.args.self.now (creases_of es) c.args.crease.now (sym c.self.view_is) d))),
    )

pub invariant_of-self-then-ne : goal.invariant_of-self-then-ne
invariant_of-self-then-ne c =
    let es = c.self.inside.by_segment.entries in
    let k = c.in-Some.kept.now in
    let same = (c.get_mut.follows.holds k).0 ∙ set_value_same (is_at (segment_cmp c.crease.inside.seg)) es k (sym c.in-Some.ensures.value) in
    subst (λ (fs : List (ExactSegment × Colour)). AreFound fs c.self.inside.by_line) (sym same) c.self.invariant

pub returns-then-ne-clause-there : goal.returns-then-ne-clause-there
returns-then-ne-clause-there c =
    let es = c.self.inside.by_segment.entries in
    let s = c.crease.inside.seg in
    let k = c.in-Some.kept.now in (
      λ t. absurd (true≢false (sym t)),
      λ d. absurd (is_not_here (creases_of es) c.args.crease.now s k c.crease.inside.colour c.ne.result c.self.invariant.standing c.crease.view_is (colour_found es s k (sym c.in-Some.ensures.value)) c.ne.ensures c.if-ne.true
          (in_list c.args.self.now (creases_of es) c.args.crease.now (sym c.self.view_is) d)),
    )

pub returns-then-ne-clause-not_recoloured : goal.returns-then-ne-clause-not_recoloured
returns-then-ne-clause-not_recoloured c =
    let k = c.in-Some.kept.now in
    let same = (c.get_mut.follows.holds k).0 ∙ set_value_same (is_at (segment_cmp c.crease.inside.seg)) c.self.inside.by_segment.entries k (sym c.in-Some.ensures.value) in
    λ _. ap creases_of same ∙ c.self.view_is

pub returns-then-ne-clause-standing : goal.returns-then-ne-clause-standing
returns-then-ne-clause-standing c = (invariant_of-self-then-ne c).standing

pub recolour-requires : goal.recolour-requires
recolour-requires c =
    let es = c.self.inside.by_segment.entries in
    let s = c.crease.inside.seg in
    let k = c.in-Some.kept.now in
    (c.self.invariant.same c.args.crease.now).1 (is_here (creases_of es) c.args.crease.now s k c.crease.inside.colour c.ne.result c.self.invariant.standing c.crease.view_is (colour_found es s k (sym c.in-Some.ensures.value)) c.ne.ensures c.if-ne.false)

pub invariant_of-self-2 : goal.invariant_of-self-2
invariant_of-self-2 c =
    let m = c.self.inside.by_segment in
    let s = c.crease.inside.seg in
    let x : ExactCrease = record { seg = s; colour = c.crease.inside.colour } in
    let k = c.in-Some.kept.now in
    let w = c.get_mut.follows.holds c.args.colour in
    let h = is_here (creases_of m.entries) x s k x.colour c.ne.result c.self.invariant.standing refl (colour_found m.entries s k (sym c.in-Some.ensures.value)) c.ne.ensures c.if-ne.false in
    recoloured_found m (c.get_mut.follows.lender c.args.colour) x c.self.inside.by_line c.self.invariant w.4 c.args.colour h (w.3 (subst IsSome c.in-Some.ensures.value refl)).0
    c.recolour.new.self (subst (λ (y : ExactCrease). AreRecoloured c.self.inside.by_line y c.args.colour c.recolour.new.self) (sym c.crease.view_is) c.recolour.ensures)

pub returns-clause-there : goal.returns-clause-there
returns-clause-there c =
    let es = c.self.inside.by_segment.entries in
    let s = c.crease.inside.seg in
    let k = c.in-Some.kept.now in (
      λ _. in_list (creases_of es) c.args.self.now c.args.crease.now c.self.view_is
          (is_here (creases_of es) c.args.crease.now s k c.crease.inside.colour c.ne.result c.self.invariant.standing c.crease.view_is (colour_found es s k (sym c.in-Some.ensures.value)) c.ne.ensures c.if-ne.false),
      λ _. refl,
    )

pub returns-clause-recoloured : goal.returns-clause-recoloured
returns-clause-recoloured c =
    let m = c.self.inside.by_segment in
    let s = c.crease.inside.seg in
    let x : ExactCrease = record { seg = s; colour = c.crease.inside.colour } in
    let k = c.in-Some.kept.now in
    let n = c.get_mut.follows.lender c.args.colour in
    let w = c.get_mut.follows.holds c.args.colour in
    let h = is_here (creases_of m.entries) x s k x.colour c.ne.result c.self.invariant.standing refl (colour_found m.entries s k (sym c.in-Some.ensures.value)) c.ne.ensures c.if-ne.false in
    λ _. subst (λ (y : ExactCrease). AreRecoloured c.args.self.now y c.args.colour (creases_of n.entries)) c.crease.view_is
    (subst (λ (xs : List ExactCrease). AreRecoloured xs x c.args.colour (creases_of n.entries)) c.self.view_is
    (recoloured_found_members m n x c.self.inside.by_line c.self.invariant w.4 c.args.colour h (w.3 (subst IsSome c.in-Some.ensures.value refl)).0))

pub returns-clause-standing : goal.returns-clause-standing
returns-clause-standing c = (invariant_of-self-2 c).standing
