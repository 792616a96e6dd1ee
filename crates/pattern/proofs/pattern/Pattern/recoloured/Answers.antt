use Rattle.std.proofs.Common.{◌≡◌, List, length, sym, ap, subst, ◌∙◌}
use Rattle.sheet.specs.Sheet.{ExactSheet}
use Rattle.sheet.specs.Pattern.{ExactCrease}
use Rattle.pattern.specs.Deltas.{Fits, Leads}
use Rattle.pattern.specs.Fitting.{AreExchanged}
use Rattle.pattern.specs.NativeReader.{on}
use Rattle.pattern.proofs.Recolouring.{leads_recoloured, fits_recoloured}
use Rattle.pattern.proofs.Parts.{creases_are, there_in}
use Rattle.pattern.proofs.callers.Told.{refuted, shown, answers_no, answers_yes}
use Rattle.pattern.proofs.pattern.Pattern.recoloured.Goals as goal

exchanged_in : (xs ys gone come now : List ExactCrease) → xs ≡ ys → AreExchanged xs gone come now → AreExchanged ys gone come now
exchanged_in xs ys gone come now e h = subst (λ (zs : List ExactCrease). AreExchanged zs gone come now) e h

pub returns-then-not-recolour_all-clause-exactly : goal.returns-then-not-recolour_all-clause-exactly
returns-then-not-recolour_all-clause-exactly c =
    let old = c.args.self in
    answers_no (Fits old (record { removed = c.args.gone.now; added = c.args.come.now })) (λ t. refuted c.recolour_all.result c.if-not-recolour_all.true c.recolour_all.ensures.all (there_in old.creases _ c.args.gone.now (sym (creases_are _ old c.self.view_is)) t.there))

pub returns-clause-some : goal.returns-clause-some
returns-clause-some c =
    let old = c.args.self in
    let gone = c.args.gone.now in
    let come = c.args.come.now in
    let now = c.recolour_all.new.creases in
    let same = creases_are _ old c.self.view_is in
    let there = there_in _ old.creases gone same (shown c.recolour_all.result c.if-not-recolour_all.false c.recolour_all.ensures.all) in
    subst (λ (s : ExactSheet). Leads old (record { removed = gone; added = come }) (on s now)) (sym c.sheet-sheet.ensures.sheet)
    (leads_recoloured gone come c.requires.same old c.sheet-sheet.ensures.pattern there now (exchanged_in _ old.creases gone come now same (c.recolour_all.ensures.exchanged c.if-not-recolour_all.false)) c.len-count.ensures.standing
    (c.recolour_all.ensures.count ∙ ap length same))

pub invariant_of-result : goal.invariant_of-result
invariant_of-result c = (returns-clause-some c).pattern

pub returns-clause-exactly : goal.returns-clause-exactly
returns-clause-exactly c =
    let old = c.args.self in
    let gone = c.args.gone.now in
    let come = c.args.come.now in
    let now = c.recolour_all.new.creases in
    let same = creases_are _ old c.self.view_is in
    let there = there_in _ old.creases gone same (shown c.recolour_all.result c.if-not-recolour_all.false c.recolour_all.ensures.all) in
    let leads = subst (λ (s : ExactSheet). Leads old (record { removed = gone; added = come }) (on s now)) c.sheet-sheet.ensures.sheet (returns-clause-some c) in
    answers_yes (Fits old (record { removed = gone; added = come })) (fits_recoloured gone come c.requires.same old c.sheet-sheet.ensures.pattern there (on old.sheet now) c.requires.gone c.requires.come leads)
