use Rattle.std.proofs.Common.{◌≡◌, List, [], ◌∷◌, ◌++◌, refl, sym, ap, subst, arith}
use Rattle.sheet.specs.Pattern.{ExactCrease, IsPattern}
use Rattle.creases.specs.Creases.{IsFree}
use Rattle.creases.proofs.callers.Standing.{put_last}
use Rattle.pattern.specs.NativeReader.{on}
use Rattle.pattern.proofs.Appending.{after_all, longer}
use Rattle.pattern.proofs.NativeSteps.{one_too_many, overlaps_one}
use Rattle.pattern.proofs.callers.Told.{refuted}
use Rattle.pattern.proofs.native.read.Reader.keep.Goals as goal

pub returns-then-is_free : goal.returns-then-is_free
returns-then-is_free c =
    let good = on c.args.self.now.sheet c.args.self.now.creases in
    let free : IsFree good.creases c.args.crease.seg = subst (IsFree good.creases) (ap (λ (f : ExactCrease). f.seg) c.crease.view_is) (c.is_free.ensures.free.0 c.if-is_free.true) in
    let k = one_too_many good c.args.crease.seg c.requires.follows free (omega (arith, c.len.ensures.count, c.if-len-ge-CREASE_LIMIT.true)) in
    (k.0, k.1, k.2, refl)

pub returns-then-len-ge-CREASE_LIMIT : goal.returns-then-len-ge-CREASE_LIMIT
returns-then-len-ge-CREASE_LIMIT c =
    let good = on c.args.self.now.sheet c.args.self.now.creases in
    let k = overlaps_one good c.args.crease.seg c.requires.follows (λ f. refuted c.is_free.result c.if-is_free.false c.is_free.ensures.free (subst (IsFree good.creases) (ap (λ (f : ExactCrease). f.seg) (sym c.crease.view_is)) f)) in
    (k.0, k.1, k.2, refl)

pub returns : goal.returns
returns c =
    let good = on c.args.self.now.sheet c.args.self.now.creases in
    let f = c.args.crease in
    let after = after_all c.args.self.now.last good.creases f.seg c.requires.reading.last c.requires.reading.pattern.ordered c.requires.follows.2.1 in
    let list : c.put_if_free_on.new.self ≡ good.creases ++ f ∷ [] = put_last f good.creases c.put_if_free_on.new.self c.len.ensures.standing c.put_if_free_on.ensures.standing after (c.in_ok-put_if_free_on.ensures.put c.if-not-branch.false) in
    let pattern = longer c.args.self.now.last good f c.requires.reading.last c.requires.reading.pattern c.requires.follows (c.in_ok-put_if_free_on.ensures.free.0 c.if-not-branch.false) (omega (arith, c.len.ensures.count, c.if-len-ge-CREASE_LIMIT.false)) in (
      ap (on good.sheet) list,
      record {
        pattern = subst (λ (xs : List ExactCrease). IsPattern (on good.sheet xs)) (sym list) pattern;
        last = (good.creases, f, list, ap (λ (x : ExactCrease). x.seg) (sym c.crease-2.view_is));
      },
    )
