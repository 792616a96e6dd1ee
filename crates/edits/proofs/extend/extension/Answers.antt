use Rattle.plane.proofs.callers.Told.{fails}
use Rattle.plane.proofs.callers.Exits.{missed}
use Rattle.edits.proofs.OnSheet.{within, out_of, inwards, not_inwards}
use Rattle.edits.proofs.extensions.Extended.{says_outside, says_border, says_covered, says_range, says_first, meets_some, first_key}
use Rattle.edits.proofs.extend.extension.Goals as goal

pub returns-then-not-in_sheet-clause-is : goal.returns-then-not-in_sheet-clause-is
returns-then-not-in_sheet-clause-is c = says_outside c.args.pattern.now c.args.at.now c.args.dir (out_of c.args.at.now c.sheet-sheet.ensures.sheet (fails c.in_sheet.ensures c.if-not-in_sheet.true))

pub returns-then-not-leads_inside-clause-is : goal.returns-then-not-leads_inside-clause-is
returns-then-not-leads_inside-clause-is c =
    let h = within c.args.at.now c.sheet-sheet.ensures.sheet (c.in_sheet.ensures.0 c.if-not-in_sheet.false) in
    says_border c.args.pattern.now c.args.at.now c.args.dir h (missed c.args.pattern.now.sheet c.args.at.now c.args.dir h (not_inwards c.args.at.now c.args.dir c.sheet-sheet.ensures.sheet (fails c.leads_inside.ensures c.if-not-leads_inside.true)))

pub unreachable-requires : goal.unreachable-requires
unreachable-requires c = meets_some c.args.pattern.now c.sheet-sheet.ensures.pattern.sheet c.args.at.now c.args.dir c.all_met.ensures.small (inwards c.args.at.now c.args.dir c.sheet-sheet.ensures.sheet (c.leads_inside.ensures.0 c.if-not-leads_inside.false)) c.in-Nothing.ensures.sees

pub returns-in-Along-clause-is : goal.returns-in-Along-clause-is
returns-in-Along-clause-is c = says_covered c.args.pattern.now c.sheet-sheet.ensures.pattern.sheet c.args.at.now c.args.dir c.all_met.ensures.small (within c.args.at.now c.sheet-sheet.ensures.sheet (c.in_sheet.ensures.0 c.if-not-in_sheet.false)) (inwards c.args.at.now c.args.dir c.sheet-sheet.ensures.sheet (c.leads_inside.ensures.0 c.if-not-leads_inside.false)) c.in-Along.ensures.sees

pub returns-in-OutOfRange-clause-is : goal.returns-in-OutOfRange-clause-is
returns-in-OutOfRange-clause-is c = says_range c.args.pattern.now c.args.at.now c.args.dir c.all_met.ensures.small (within c.args.at.now c.sheet-sheet.ensures.sheet (c.in_sheet.ensures.0 c.if-not-in_sheet.false)) (inwards c.args.at.now c.args.dir c.sheet-sheet.ensures.sheet (c.leads_inside.ensures.0 c.if-not-leads_inside.false)) c.in-OutOfRange.ensures.sees

pub returns-in-First-clause-is : goal.returns-in-First-clause-is
returns-in-First-clause-is c = says_first c.args.pattern.now c.args.at.now c.in-First.end c.args.dir c.segment_to.result c.all_met.ensures.small (within c.args.at.now c.sheet-sheet.ensures.sheet (c.in_sheet.ensures.0 c.if-not-in_sheet.false)) (inwards c.args.at.now c.args.dir c.sheet-sheet.ensures.sheet (c.leads_inside.ensures.0 c.if-not-leads_inside.false)) c.in-First.ensures.sees c.segment_to.ensures.joins

pub returns-in-First-clause-key : goal.returns-in-First-clause-key
returns-in-First-clause-key c = first_key c.args.pattern.now c.sheet-sheet.ensures.pattern.sheet c.args.at.now c.in-First.end c.args.dir c.segment_to.result c.all_met.ensures.small (within c.args.at.now c.sheet-sheet.ensures.sheet (c.in_sheet.ensures.0 c.if-not-in_sheet.false)) (inwards c.args.at.now c.args.dir c.sheet-sheet.ensures.sheet (c.leads_inside.ensures.0 c.if-not-leads_inside.false)) c.in-First.ensures.sees.1 c.segment_to.ensures.joins c.segment_to.ensures.from c.segment_to.ensures.to
