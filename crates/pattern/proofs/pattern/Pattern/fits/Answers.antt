use Rattle.std.proofs.Common.{◌≡◌, List, sym, subst, arith}
use Rattle.std.specs.Prelude.{All}
use Rattle.sheet.specs.Sheet.{ExactSheet}
use Rattle.sheet.specs.Pattern.{ExactCrease, ExactPattern, IsKey, IsPattern}
use Rattle.pattern.specs.Deltas.{Fits}
use Rattle.pattern.specs.declared.delta.Delta.{Delta}
use Rattle.pattern.specs.Fitting.{PassesTests}
use Rattle.pattern.proofs.Fitting.{from_tests, to_tests}
use Rattle.pattern.proofs.callers.Told.{answers_no, refuted}
use Rattle.pattern.proofs.pattern.Pattern.fits.Goals as goal

keys_on : (sheet other : ExactSheet) (creases : List ExactCrease) → sheet ≡ other → All (λ f. IsKey sheet f.seg) creases → All (λ f. IsKey other f.seg) creases
keys_on sheet other creases e h = subst (λ (s : ExactSheet). All (λ (f : ExactCrease). IsKey s f.seg) creases) e h

-- at the slices of the delta's lists
tests_at : (old : ExactPattern) (delta : Delta) (r a : List ExactCrease) → r ≡ delta.removed → a ≡ delta.added → IsPattern old → Fits old delta → PassesTests old r a
tests_at old delta r a e f p t = subst (λ (x : List ExactCrease). PassesTests old x a) (sym e) (subst (λ (y : List ExactCrease). PassesTests old delta.removed y) (sym f) (to_tests old delta p t))

fits_at : (old : ExactPattern) (delta : Delta) (r a : List ExactCrease) → r ≡ delta.removed → a ≡ delta.added → IsPattern old → PassesTests old r a → Fits old delta
fits_at old delta r a e f p t = from_tests old delta p (subst (λ (x : List ExactCrease). PassesTests old x delta.added) e (subst (λ (y : List ExactCrease). PassesTests old r y) f t))

pub returns-then-not-has_all : goal.returns-then-not-has_all
returns-then-not-has_all c = answers_no (Fits c.args.self.now c.args.delta.now)
    (λ t. refuted c.has_all.result c.if-not-has_all.true c.has_all.ensures
    (tests_at c.args.self.now c.args.delta.now c.as_slice-removed.result.now c.as_slice-added.result.now c.as_slice-removed.ensures c.as_slice-added.ensures c.len-len.ensures.pattern t).there)

pub returns-then-not-are_keys : goal.returns-then-not-are_keys
returns-then-not-are_keys c = answers_no (Fits c.args.self.now c.args.delta.now)
    (λ t. refuted c.are_keys.result c.if-not-are_keys.true c.are_keys.ensures
    (keys_on c.args.self.now.sheet c.sheet-sheet.result c.as_slice-added.result.now (sym c.sheet-sheet.ensures.sheet) (tests_at c.args.self.now c.args.delta.now c.as_slice-removed.result.now c.as_slice-added.result.now c.as_slice-removed.ensures c.as_slice-added.ensures c.len-len.ensures.pattern t).keys))

pub returns-then-len-added : goal.returns-then-len-added
returns-then-len-added c = answers_no (Fits c.args.self.now c.args.delta.now)
    (λ t. (let few = (tests_at c.args.self.now c.args.delta.now c.as_slice-removed.result.now c.as_slice-added.result.now c.as_slice-removed.ensures c.as_slice-added.ensures c.len-len.ensures.pattern t).few in omega (arith, few, c.len-len.ensures.count, c.if-len-added.true)))

pub returns-then-not-are_all_apart : goal.returns-then-not-are_all_apart
returns-then-not-are_all_apart c = answers_no (Fits c.args.self.now c.args.delta.now)
    (λ t. refuted c.are_all_apart.result c.if-not-are_all_apart.true c.are_all_apart.ensures
    (tests_at c.args.self.now c.args.delta.now c.as_slice-removed.result.now c.as_slice-added.result.now c.as_slice-removed.ensures c.as_slice-added.ensures c.len-len.ensures.pattern t).apart)

pub returns : goal.returns
returns c = (
  λ e. fits_at c.args.self.now c.args.delta.now c.as_slice-removed.result.now c.as_slice-added.result.now c.as_slice-removed.ensures c.as_slice-added.ensures c.len-len.ensures.pattern (record {
    removed_ascend = c.ascend.ensures.0 c.if-not-ascend.false;
    added_ascend = c.ascend-2.ensures.0 c.if-not-ascend-2.false;
    there = c.has_all.ensures.0 c.if-not-has_all.false;
    keys = keys_on c.sheet-sheet.result c.args.self.now.sheet c.as_slice-added.result.now c.sheet-sheet.ensures.sheet (c.are_keys.ensures.0 c.if-not-are_keys.false);
    few = omega (arith, c.len-len.ensures.count, c.if-len-added.false);
    apart = c.are_all_apart.ensures.0 c.if-not-are_all_apart.false;
    free = c.are_free.ensures.0 e;
  }),
  λ t. c.are_free.ensures.1 (tests_at c.args.self.now c.args.delta.now c.as_slice-removed.result.now c.as_slice-added.result.now c.as_slice-removed.ensures c.as_slice-added.ensures c.len-len.ensures.pattern t).free,
)
