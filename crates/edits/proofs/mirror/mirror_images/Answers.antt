use Rattle.std.proofs.Common.{◌≡◌, ◌≢◌, Bool, true, false, eqb, List, [], ◌∷◌, length, ℕ, Vec, Global, refl, sym, arith, inl, inr}
use Rattle.std.proofs.lemmas.Bool.Decides.{nat_tests}
use Rattle.std.specs.Prelude.{Result, Ok, Err, IfOk, IfErr}
use Rattle.exact.specs.Plane.{ExactPoint}
use Rattle.sheet.specs.Sheet.{InSheet}
use Rattle.sheet.specs.Pattern.{ExactCrease, ExactPattern}
use Rattle.ports.specs.declared.stop.Stop.{Stop}
use Rattle.ports.specs.declared.stop.Stop.TheVariants as stop
use Rattle.pattern.proofs.callers.Told.{refuted, shown}
use Rattle.ports.specs.Stops.{Refuses}
use Rattle.edits.specs.Rules.{ForEach}
use Rattle.edits.specs.Mirror.{AreConcerned, ImageOf, MirrorImages}
use Rattle.edits.specs.declared.refusal.EditBad.{EditBad}
use Rattle.edits.proofs.OnSheet.{within, out_of}
use Rattle.edits.proofs.mirror.mirror_images.Goals as goal

-- the creases concerned, of which there are some
record AreSome (pattern : ExactPattern) (a : ExactPoint) (k : ℕ) (xs : List ExactCrease) : Type 0 where
  inside : InSheet pattern.sheet a
  concerned : AreConcerned pattern.creases a k xs
  some : xs ≢ []

all_imaged : {X : Type 0} (items : X → List ExactCrease) (r : Result X (Stop EditBad)) (pattern : ExactPattern) (a : ExactPoint) (k : ℕ) (xs : List ExactCrease) → AreSome pattern a k xs
    → IfOk r (λ images. ForEach (ImageOf pattern.sheet a k) xs (Ok (items images))) → IfOk r (λ images. MirrorImages pattern a k (Ok (items images)))
all_imaged items (Ok images) pattern a k xs h f = inr (λ n. n h.inside, (xs, h.concerned, inr (h.some, f)))
all_imaged items (Err e) pattern a k xs h f = tt

one_refused : {X : Type 0} (r : Result X (Stop EditBad)) (pattern : ExactPattern) (a : ExactPoint) (k : ℕ) (xs : List ExactCrease) → AreSome pattern a k xs
    → IfErr r (λ e. Refuses (ForEach (ImageOf pattern.sheet a k) xs) e) → IfErr r (λ e. Refuses (MirrorImages pattern a k) e)
one_refused (Ok images) pattern a k xs h f = tt
one_refused (Err stop.NoMemory) pattern a k xs h f = tt
one_refused (Err (stop.Why e)) pattern a k xs h f = inr (λ n. n h.inside, inr (xs, h.concerned, inr (h.some, f)))

none_long : (b : Bool) (n : ℕ) (xs : List ExactCrease) → b ≡ eqb n 0 → length xs ≡ n → b ≡ true → xs ≡ []
none_long b n [] e l t = refl
none_long b n (x ∷ xs) e l t = absurd (grind (arith, nat_tests))

some_long : (b : Bool) (n : ℕ) (xs : List ExactCrease) → b ≡ eqb n 0 → length xs ≡ n → b ≡ false → xs ≢ []
some_long b n [] e l t = λ _. absurd (grind (arith, nat_tests))
some_long b n (x ∷ xs) e l t = λ z. cc

pub returns-then-not-in_sheet-clause-err : goal.returns-then-not-in_sheet-clause-err
returns-then-not-in_sheet-clause-err c = inl (out_of c.args.at.now c.sheet-sheet.ensures.sheet (refuted c.in_sheet.result c.if-not-in_sheet.true c.in_sheet.ensures), refl)

pub returns-then-is_empty-clause-err : goal.returns-then-is_empty-clause-err
returns-then-is_empty-clause-err c = let list = c.in_ok-concerned.concerned in inr (
  λ n. n (within c.args.at.now c.sheet-sheet.ensures.sheet (shown c.in_sheet.result c.if-not-in_sheet.false c.in_sheet.ensures)),
  inr (list.items, c.in_ok-concerned.ensures, inl (none_long c.is_empty.result list.len list.items c.is_empty.ensures (sym list.ok.0) c.if-is_empty.true, refl)),
)

pub returns-clause-ok : goal.returns-clause-ok
returns-clause-ok c =
    let list = c.in_ok-concerned.concerned in
    let some : AreSome c.args.pattern.now c.args.at.now c.args.dir list.items = record {
      inside = within c.args.at.now c.sheet-sheet.ensures.sheet (shown c.in_sheet.result c.if-not-in_sheet.false c.in_sheet.ensures);
      concerned = c.in_ok-concerned.ensures;
      some = some_long c.is_empty.result list.len list.items c.is_empty.ensures (sym list.ok.0) c.if-is_empty.false;
    } in
    all_imaged (λ (images : Vec ExactCrease Global). images.items) c.images.result c.args.pattern.now c.args.at.now c.args.dir list.items some (rw (c.deref.ensures.value, c.sheet-sheet.ensures.sheet) at c.images.ensures.ok)

pub returns-clause-err : goal.returns-clause-err
returns-clause-err c =
    let list = c.in_ok-concerned.concerned in
    let some : AreSome c.args.pattern.now c.args.at.now c.args.dir list.items = record {
      inside = within c.args.at.now c.sheet-sheet.ensures.sheet (shown c.in_sheet.result c.if-not-in_sheet.false c.in_sheet.ensures);
      concerned = c.in_ok-concerned.ensures;
      some = some_long c.is_empty.result list.len list.items c.is_empty.ensures (sym list.ok.0) c.if-is_empty.false;
    } in
    one_refused c.images.result c.args.pattern.now c.args.at.now c.args.dir list.items some (rw (c.deref.ensures.value, c.sheet-sheet.ensures.sheet) at c.images.ensures.err)

pub returns-clause-keys : goal.returns-clause-keys
returns-clause-keys c = rw c.sheet-sheet.ensures.sheet at c.images.ensures.keys
