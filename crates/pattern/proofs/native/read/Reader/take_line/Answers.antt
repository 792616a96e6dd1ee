use Rattle.std.proofs.Common.{◌≡◌, refl, ap, sym, subst, ◌∙◌}
use Rattle.std.specs.Prelude.{ℕ, List, Option, Err}
use Rattle.ports.specs.declared.stop.Stop.{Stop}
use Rattle.ports.specs.declared.stop.Stop.TheVariants as stop
use Rattle.exact.specs.Plane.{ExactPoint, ExactSegment}
use Rattle.sheet.specs.Pattern.{ExactCrease, ExactPattern}
use Rattle.sheet.specs.declared.colour.Colour.{Colour}
use Rattle.pattern.specs.Splitting.{SplitsAt}
use Rattle.pattern.specs.NativeLines.{body_text}
use Rattle.pattern.specs.NativeReading.{AreHeld}
use Rattle.pattern.specs.NativeReader.{CanFollow, KeepsCrease, TakesLine, on}
use Rattle.pattern.specs.declared.native.PatternWhy.{PatternWhy}
use Rattle.pattern.proofs.NativeSteps.{ends, unended, line_refused, line_fails, line_taken, kept_fails}
use Rattle.pattern.proofs.native.read.Reader.take_line.Goals as goal

pub returns-in_default : goal.returns-in_default
returns-in_default c = (unended (on c.args.self.now.sheet c.args.self.now.creases) c.args.bytes.now (c.in_default.ensures.none refl), refl)

pub returns-in-Err : goal.returns-in-Err
returns-in-Err c = (
  line_refused (on c.args.self.now.sheet c.args.self.now.creases) c.args.bytes.now c.in-Some.text.now c.in-Some.field-0-1.now c.in-Err.why c.in-Some.ensures.some
      (λ e. c.in-Err.ensures.form (ap (λ w. Err w) e)) (λ n. c.in-Err.ensures.range (λ e. n cc)) c.in-Err.ensures.only,
  refl,
)

pub returns-in-Err-placed : goal.returns-in-Err-placed
returns-in-Err-placed c =
    let good = on c.args.self.now.sheet c.args.self.now.creases in
    let line = c.in-Ok.line in
    let placed = c.in-Err-placed.ensures good refl c.requires.last c.in-Ok.ensures.ok.1 in
    (line_fails c.in-Err-placed.why good c.args.bytes.now c.in-Some.text.now c.in-Some.field-0-1.now line.colour line.p line.q c.in-Some.ensures.some c.in-Ok.ensures.ok.0 c.in-Ok.ensures.ok.1 placed.2 placed.0 placed.1, refl)

pub keep-requires-clause-follows : goal.keep-requires-clause-follows
keep-requires-clause-follows c =
    let good = on c.args.self.now.sheet c.args.self.now.creases in
    let placed = c.in-Ok-placed.ensures good refl c.requires.last c.in-Ok.ensures.ok.1 in
    subst (CanFollow good) (sym placed.0) placed.1

pub keep-requires-clause-support : goal.keep-requires-clause-support
keep-requires-clause-support c = (c.in-Ok-placed.ensures (on c.args.self.now.sheet c.args.self.now.creases) refl c.requires.last c.in-Ok.ensures.ok.1).2

-- what keeping the crease of a line answers is what taking the line does
keep_told : (e : Stop PatternWhy) (good : ExactPattern) (bytes text rest : List ℕ) (c : Colour) (p q : ExactPoint) (s : ExactSegment) (now : ExactPattern) (last : Option ExactSegment)
    → SplitsAt bytes 10 text rest → text ≡ body_text c p q → AreHeld p q → s ≡ ends p q → KeepsCrease good (record { seg = s; colour = c }) now last (Err e) → TakesLine good bytes now last (Err e)
keep_told (stop.Why w) good bytes text rest c p q s now last t b h e k = (kept_fails w good bytes text rest c p q s t b h e (k.0, k.1, k.2), k.3)
keep_told stop.NoMemory good bytes text rest c p q s now last t b h e k = tt

pub returns-in-Err-keep : goal.returns-in-Err-keep
returns-in-Err-keep c =
    let good = on c.args.self.now.sheet c.args.self.now.creases in
    let line = c.in-Ok.line in
    let placed = c.in-Ok-placed.ensures good refl c.requires.last c.in-Ok.ensures.ok.1 in
    keep_told c.in-Err-keep.why good c.args.bytes.now c.in-Some.text.now c.in-Some.field-0-1.now line.colour line.p line.q c.in-Ok-placed.placed.0 (on c.keep.new.self.sheet c.keep.new.self.creases) c.keep.new.self.last c.in-Some.ensures.some c.in-Ok.ensures.ok.0 c.in-Ok.ensures.ok.1 placed.0 c.in-Err-keep.ensures

pub returns-in-Ok-keep : goal.returns-in-Ok-keep
returns-in-Ok-keep c =
    let good = on c.args.self.now.sheet c.args.self.now.creases in
    let line = c.in-Ok.line in
    let seg = c.in-Ok-placed.placed.0 in
    let placed = c.in-Ok-placed.ensures good refl c.requires.last c.in-Ok.ensures.ok.1 in
    let crease : ExactCrease = record { seg = seg; colour = line.colour } in (
      line_taken good c.args.bytes.now c.in-Some.text.now c.in-Some.field-0-1.now (on c.keep.new.self.sheet c.keep.new.self.creases) crease c.in-Some.ensures.some
          (c.in-Ok.ensures.ok.0 ∙ ap (λ (s : ExactSegment). body_text line.colour s.p s.q) (sym placed.0)) c.in-Ok-keep.ensures.0,
      c.in-Ok-keep.ensures.1,
    )
