use Rattle.edits.specs.Beside.{put_all, leave_all}
use Rattle.edits.proofs.drafts.Beside.{none_beside}
use Rattle.edits.proofs.draft.Draft.of.Goals as goal

pub invariant_of-result : goal.invariant_of-result
invariant_of-result c = rw (c.new.ensures, c.new-2.ensures) (none_beside c.args.pattern.now c.len-len.ensures.pattern)

pub returns-clause-same : goal.returns-clause-same
returns-clause-same c = λ i. record { pattern = c.args.pattern.now; creases = put_all (c.new-2.ensures i) (leave_all (c.new.ensures i) c.args.pattern.now.creases) }
