use Rattle.std.proofs.Common.{ap, subst, Err}
use Rattle.httparse.specs.Spans.{RequestExceeds}
use Rattle.api.proofs.Room.{fits}
use Rattle.api.proofs.look.look_at.Goals as goal

pub returns-in-Err-clause-look : goal.returns-in-Err-clause-look
returns-in-Err-clause-look c = c.in-Err.ensures.invalid (λ same. fits c.args.bytes.now c.requires.short
    (subst (λ n. RequestExceeds n c.args.bytes.now) c.requires.room (c.in-Err.ensures.too_many (ap Err same))))
