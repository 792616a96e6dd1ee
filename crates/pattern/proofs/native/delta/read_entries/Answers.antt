use Rattle.std.proofs.Common.{refl, sym, ap}
use Rattle.std.proofs.lemmas.List.{take_rest}
use Rattle.sheet.specs.Pattern.{ExactCrease}
use Rattle.pattern.proofs.callers.Told.{shown}
use Rattle.pattern.proofs.callers.DeltaLines.{no_entries, entry_kept}
use Rattle.pattern.proofs.native.delta.read_entries.Goals as goal

pub returns-in_default-clause-none : goal.returns-in_default-clause-none
returns-in_default-clause-none c = λ _ others behind i.
    let first = shown c.begins_with.result c.loop-last-test.true c.begins_with.ensures in
    let read = c.loop-last.invariant in
    no_entries c.args.sign c.args.text.now _ c.loop-last.at c.loop-last.creases.items others first.0 behind (take_rest c.args.text.now c.loop-last.at) read.text read.listing first.1
    (λ f rest. c.in_default.ensures.none refl c.loop-last.creases.items f rest read.ending) i

pub loop-last-preserved : goal.loop-last-preserved
loop-last-preserved c = entry_kept c.args.sign c.args.text.now _ c.loop-last.at _ c.loop-last.creases.items c.push.new.self.items c.loop-last.last _ _ (take_rest c.args.text.now c.loop-last.at) c.loop-last.invariant
    (c.in-Some.ensures.some c.loop-last.creases.items c.loop-last.invariant.ending) c.in-Some.ensures.length.1 c.in_ok-push.ensures.items (ap (λ (g : ExactCrease). g.seg) (sym c.crease.view_is))
