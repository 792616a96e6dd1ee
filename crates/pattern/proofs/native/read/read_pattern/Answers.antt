use Rattle.std.proofs.lemmas.List.{take_rest}
use Rattle.pattern.specs.NativeReader.{on}
use Rattle.pattern.proofs.NativeSteps.{taken_more}
use Rattle.pattern.proofs.native.read.read_pattern.Goals as goal

pub loop-at-preserved : goal.loop-at-preserved
loop-at-preserved c =
    let more = taken_more c.args.bytes.now _ c.loop-at.at c.in-Ok.length (on c.loop-at.reader.sheet c.loop-at.reader.creases) (on c.take_line.new.self.sheet c.take_line.new.self.creases) c.loop-at.invariant.within (take_rest c.args.bytes.now c.loop-at.at) c.loop-at.invariant.text c.in-Ok.ensures.0 in
    record { within = more.0; reading = c.in-Ok.ensures.1; text = more.1 }
