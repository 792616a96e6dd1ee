use Rattle.std.proofs.Common.{sym, subst}
use Rattle.sheet.specs.Pattern.{IsPattern}
use Rattle.edits.specs.Drafts.{ExactDraft, pattern_of}
use Rattle.edits.proofs.planning.drawn_in_turn.Goals as goal

pub draw_in_turn-requires-clause-pattern : goal.draw_in_turn-requires-clause-pattern
draw_in_turn-requires-clause-pattern c = subst (λ (d : ExactDraft). IsPattern (pattern_of d)) (sym c.of-draft.ensures.same) c.of-draft.ensures.pattern
