use Rattle.std.proofs.Common.{arith}
use Rattle.lattice.proofs.Seen.{seen_above, seen_below}
use Rattle.lattice.proofs.search.field.Goals as goal
use Rattle.lattice.proofs.search.field.Goals.{then-at-window-via-then-at-window, then-at-window-via-else-at-window+then-window-n}

pub returns-then-at-window : goal.returns-then-at-window
returns-then-at-window c = elim c.then-at-window.branch [
  | then-at-window-via-then-at-window w ↦ seen_above c.args.window c.args.n c.args.found (omega (arith, w.if-at-window.true)) c.requires.seen
  | then-at-window-via-else-at-window+then-window-n w ↦ seen_below c.args.window c.args.n c.args.found (omega (arith, w.if-window-n.true)) c.requires.seen
]
