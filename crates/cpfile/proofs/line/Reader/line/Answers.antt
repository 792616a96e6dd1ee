use Rattle.std.proofs.Common.{Ok, Err, refl, inl, inr}
use Rattle.ports.specs.Stops.{Answers}
use Rattle.cpfile.specs.CpDrawing.{DrawsLine}
use Rattle.cpfile.proofs.Ends.{ended_as}
use Rattle.cpfile.proofs.LineSteps.{some_words, no_fields, read_as, bad_ends, drawn_between}
use Rattle.cpfile.proofs.line.Reader.line.Goals as goal

pub returns-in_default-clause-draws : goal.returns-in_default-clause-draws
returns-in_default-clause-draws c =
    let line = c.args.line.now in
    let words = c.of-words.result.words in
    inr (c.if-line-gt-LINE_LIMIT.false, inr (inl (some_words line words c.is_empty.result c.of-words.ensures.all c.is_empty.ensures c.if-is_empty.false, no_fields line words c.of-words.ensures.all (c.in_default.ensures.none refl), refl)))

pub returns-in_err-p-clause-draws : goal.returns-in_err-p-clause-draws
returns-in_err-p-clause-draws c =
    let l = c.args.self.now.lattice in
    let sheet = c.args.sheet.now in
    let line = c.args.line.now in
    let s = c.in_err-p.field-0.0 in
    ended_as c.from_residual.result s (Answers (DrawsLine l sheet line)) c.from_residual.ensures.1
    (bad_ends l sheet c.args.self.now line c.in-Some.read s refl c.requires c.if-line-gt-LINE_LIMIT.false (read_as line c.of-words.result.words c.in-Some.read c.of-words.ensures.all c.in-Some.ensures.some) c.in_err-p.ensures.ends)

pub returns-in-Ok-clause-draws : goal.returns-in-Ok-clause-draws
returns-in-Ok-clause-draws c =
    let line = c.args.line.now in
    drawn_between c.args.self.now.lattice c.args.sheet.now c.args.self.now line c.in-Some.read c.in_ok-p.p c.in_ok-p.q c.between.result (Ok c.in-Ok.drawn) refl c.requires c.if-line-gt-LINE_LIMIT.false
    (read_as line c.of-words.result.words c.in-Some.read c.of-words.ensures.all c.in-Some.ensures.some) c.in_ok-p.ensures.ends c.in-Ok.is c.between.ensures

pub returns-in-Err-clause-draws : goal.returns-in-Err-clause-draws
returns-in-Err-clause-draws c =
    let line = c.args.line.now in
    drawn_between c.args.self.now.lattice c.args.sheet.now c.args.self.now line c.in-Some.read c.in_ok-p.p c.in_ok-p.q c.between.result (Err c.in-Err.why) refl c.requires c.if-line-gt-LINE_LIMIT.false
    (read_as line c.of-words.result.words c.in-Some.read c.of-words.ensures.all c.in-Some.ensures.some) c.in_ok-p.ensures.ends c.in-Err.is c.between.ensures
