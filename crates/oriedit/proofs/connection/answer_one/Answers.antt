use Rattle.std.proofs.Common.{rules, ◌≡◌, sym, subst}
use Rattle.std.specs.Prelude.{Err}
use Rattle.api.specs.Answers.{AskOf, all_of}
use Rattle.api.specs.declared.ask.AskEnd.TheVariants as end
use Rattle.oriedit.specs.Connections.{IsServed, BytesDue}
use Rattle.ports.proofs.callers.Streams.{same_beside}
use Rattle.oriedit.proofs.OneConnection.{served, text_due, text_put, refused_due, none_due}
use Rattle.oriedit.proofs.connection.answer_one.Goals as goal

pub returns-in-Ok-clause-served : goal.returns-in-Ok-clause-served
returns-in-Ok-clause-served g c =
    let reads = c.in-Ok.ensures.reads in
    let read : (g.E.Sink.faults c.read_request.new.source ≡ g.E.Sink.faults c.args.end.now) × (g.E.Sink.held c.read_request.new.source ≡ g.E.Sink.held c.args.end.now)
    = same_beside c.in-Ok.ensures.aside (search (rules, g.met.E.Wire)) (search (rules, g.met.E.Wire)) in
    let put : (g.E.Source.faults c.answer_text.new.sink ≡ g.E.Source.faults c.read_request.new.source) × (g.E.Source.left c.answer_text.new.sink ≡ g.E.Source.left c.read_request.new.source)
    = same_beside {old = g.E.Sink.aside c.read_request.new.source} c.answer_text.ensures.aside (search (rules, g.met.E.Wire)) (search (rules, g.met.E.Wire)) in
    subst (IsServed _ _ _ _ _) (sym c.ended.ensures)
    (served _ _ _ _ _ _ _ _ _ _ _ _ reads.got _ _ _ c.answer_text.result reads.gave c.in-Ok.ensures.later read.1 read.0 put.1 put.0
    c.answer_text.ensures.cause
    (text_due _ c.in-Ok.ask _ _ _ _ _ c.answer_text.result reads.answer (text_put _ _ _ _ _ _ _ c.answer_text.result c.as_slice.ensures c.answer_text.ensures.due)))

pub returns-in-Err-Why-Bad-clause-served : goal.returns-in-Err-Why-Bad-clause-served
returns-in-Err-Why-Bad-clause-served g c =
    let reads = c.in-Err-Why-Bad.ensures.reads in
    let held : g.E.Sink.held c.read_request.new.source ≡ g.E.Sink.held c.args.end.now = search rules in
    let puts : g.E.Sink.faults c.read_request.new.source ≡ g.E.Sink.faults c.args.end.now = search rules in
    let left : g.E.Source.left c.put_refused.new.sink ≡ g.E.Source.left c.read_request.new.source = search rules in
    let takes : g.E.Source.faults c.put_refused.new.sink ≡ g.E.Source.faults c.read_request.new.source = search rules in
    let asks : AskOf (all_of reads.got (g.E.Source.left c.read_request.new.source)) (Err (end.Bad c.in-Err-Why-Bad.bad)) = search rules in
    subst (IsServed _ _ _ _ _) (sym c.ended-in-Err-Why-Bad.ensures)
    (served _ _ _ _ _ _ _ _ _ _ _ _ reads.got _ _ _ c.put_refused.result reads.gave c.in-Err-Why-Bad.ensures.later held puts left takes
    c.put_refused.ensures.cause
    (refused_due _ _ _ c.in-Err-Why-Bad.bad _ _ _ _ _ c.put_refused.result asks c.put_refused.ensures.bytes (search rules) (search rules)))

pub returns-in-Err-NoMemory-clause-served : goal.returns-in-Err-NoMemory-clause-served
returns-in-Err-NoMemory-clause-served g c =
    let reads = c.in-Err-NoMemory.ensures.reads in
    let held : g.E.Sink.held c.read_request.new.source ≡ g.E.Sink.held c.args.end.now = search rules in
    let puts : g.E.Sink.faults c.read_request.new.source ≡ g.E.Sink.faults c.args.end.now = search rules in
    let left : g.E.Source.left c.put_no_memory.new.sink ≡ g.E.Source.left c.read_request.new.source = search rules in
    let takes : g.E.Source.faults c.put_no_memory.new.sink ≡ g.E.Source.faults c.read_request.new.source = search rules in
    subst (IsServed _ _ _ _ _) (sym c.ended-in-Err-NoMemory.ensures)
    (served _ _ _ _ _ _ _ _ _ _ _ _ reads.got _ _ _ c.put_no_memory.result reads.gave c.in-Err-NoMemory.ensures.later held puts left takes
    c.put_no_memory.ensures.cause
    (none_due (BytesDue (all_of reads.got (g.E.Source.left c.read_request.new.source))) _ _ _ _ _ c.put_no_memory.result c.put_no_memory.ensures.bytes))
