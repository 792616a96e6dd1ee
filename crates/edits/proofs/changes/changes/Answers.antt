use Rattle.std.proofs.Common.{refl, sym, inl, inr}
use Rattle.pattern.proofs.callers.Told.{refuted, shown}
use Rattle.pattern.proofs.callers.Leading.{between_fits, between_leads}
use Rattle.edits.specs.Drafts.{pattern_of}
use Rattle.edits.proofs.drafts.Changing.{unchanged, nothing_without}
use Rattle.edits.proofs.changes.changes.Goals as goal

pub returns-then-is_empty-clause-err : goal.returns-then-is_empty-clause-err
returns-then-is_empty-clause-err c =
    let none = shown c.is_empty.result c.if-is_empty.true c.is_empty.ensures in
    let d = c.in_ok-delta.delta in
    let b = c.in_ok-delta.ensures.lists in
    inl (unchanged c.args.draft.now.pattern.creases c.args.draft.now.creases d.removed d.added c.in_ok-delta.ensures.pattern.ordered c.requires.ordered b.removed b.added none.0 none.1, refl)

pub returns-clause-changed : goal.returns-clause-changed
returns-clause-changed c =
    let d = c.in_ok-delta.delta in
    let b = c.in_ok-delta.ensures.lists in
    inr (
      λ e. refuted c.is_empty.result c.if-is_empty.false c.is_empty.ensures (
        nothing_without c.args.draft.now.pattern.creases c.args.draft.now.creases d.removed (sym e) b.removed,
        nothing_without c.args.draft.now.creases c.args.draft.now.pattern.creases d.added e b.added,
      ),
      refl,
    )

pub returns-clause-fits : goal.returns-clause-fits
returns-clause-fits c = between_fits c.args.draft.now.pattern (pattern_of c.args.draft.now) c.in_ok-delta.delta refl c.requires c.in_ok-delta.ensures.lists

pub returns-clause-leads : goal.returns-clause-leads
returns-clause-leads c = between_leads c.args.draft.now.pattern (pattern_of c.args.draft.now) c.in_ok-delta.delta refl c.requires c.in_ok-delta.ensures.lists
