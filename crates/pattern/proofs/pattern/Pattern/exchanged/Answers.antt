use Rattle.std.proofs.Common.{◌≡◌, ◌≤◌, List, length, sym, subst, arith}
use Rattle.sheet.specs.Sheet.{ExactSheet}
use Rattle.sheet.specs.Pattern.{ExactCrease, crease_limit}
use Rattle.pattern.specs.Deltas.{Fits, Leads}
use Rattle.pattern.specs.Fitting.{CanCome}
use Rattle.pattern.specs.NativeReader.{on}
use Rattle.pattern.proofs.Stepping.{AreLeft, leads_made, fits_made, fits_comes, fits_few}
use Rattle.pattern.proofs.Parts.{creases_are, there_in}
use Rattle.pattern.proofs.callers.Told.{refuted, shown, answers_no, answers_yes}
use Rattle.pattern.proofs.pattern.Pattern.exchanged.Goals as goal

-- said of the creases and the sheet of the pattern
left_of : (xs ys gone one : List ExactCrease) → xs ≡ ys → AreLeft xs gone one → AreLeft ys gone one
left_of xs ys gone one e h = subst (λ (zs : List ExactCrease). AreLeft zs gone one) e h

come_on : (sheet other : ExactSheet) (one come : List ExactCrease) → sheet ≡ other → CanCome sheet one come → CanCome other one come
come_on sheet other one come e h = subst (λ (s : ExactSheet). CanCome s one come) e h

pub returns-then-not-take_all-clause-exactly : goal.returns-then-not-take_all-clause-exactly
returns-then-not-take_all-clause-exactly c =
    let old = c.args.self in
    answers_no (Fits old (record { removed = c.args.gone.now; added = c.args.come.now })) (λ t. refuted c.take_all.result c.if-not-take_all.true c.take_all.ensures.all (there_in old.creases _ c.args.gone.now (sym (creases_are _ old c.self.view_is)) t.there))

pub returns-then-not-branch-clause-exactly : goal.returns-then-not-branch-clause-exactly
returns-then-not-branch-clause-exactly c =
    let old = c.args.self in
    let gone = c.args.gone.now in
    let one = c.take_all.new.creases in
    let same = creases_are _ old c.self.view_is in
    let out = left_of _ old.creases gone one same (c.take_all.ensures.left c.if-not-take_all.false) in
    answers_no (Fits old (record { removed = gone; added = c.args.come.now })) (λ t. refuted c.in_ok-put_all.field-0 c.if-not-branch.true c.in_ok-put_all.ensures.all (
    come_on old.sheet c.sheet-sheet.result one c.args.come.now (sym c.sheet-sheet.ensures.sheet) (fits_comes old _ one c.sheet-sheet.ensures.pattern t out)
    ))

pub returns-then-len-gt-CREASE_LIMIT-clause-exactly : goal.returns-then-len-gt-CREASE_LIMIT-clause-exactly
returns-then-len-gt-CREASE_LIMIT-clause-exactly c =
    let old = c.args.self in
    let gone = c.args.gone.now in
    let one = c.take_all.new.creases in
    let now = c.put_all.new.creases in
    let same = creases_are _ old c.self.view_is in
    let out = left_of _ old.creases gone one same (c.take_all.ensures.left c.if-not-take_all.false) in
    answers_no (Fits old (record { removed = gone; added = c.args.come.now })) (λ t. (let few = fits_few old _ one now t out (c.in_ok-put_all.ensures.more c.if-not-branch.false) c.len.ensures.standing in omega (arith, few, c.len.ensures.count, c.if-len-gt-CREASE_LIMIT.true)))

pub returns-clause-some : goal.returns-clause-some
returns-clause-some c =
    let old = c.args.self in
    let gone = c.args.gone.now in
    let come = c.args.come.now in
    let one = c.take_all.new.creases in
    let now = c.put_all.new.creases in
    let same = creases_are _ old c.self.view_is in
    let out = left_of _ old.creases gone one same (c.take_all.ensures.left c.if-not-take_all.false) in
    let can = come_on c.sheet-sheet.result old.sheet one come c.sheet-sheet.ensures.sheet (shown c.in_ok-put_all.field-0 c.if-not-branch.false c.in_ok-put_all.ensures.all) in
    let few : length now ≤ crease_limit = omega (arith, c.len.ensures.count, c.if-len-gt-CREASE_LIMIT.false) in
    subst (λ (s : ExactSheet). Leads old (record { removed = gone; added = come }) (on s now)) (sym c.sheet-sheet.ensures.sheet)
    (leads_made old (record { removed = gone; added = come }) one now c.sheet-sheet.ensures.pattern out can (c.in_ok-put_all.ensures.more c.if-not-branch.false) c.len.ensures.standing few)

pub invariant_of-result : goal.invariant_of-result
invariant_of-result c = (returns-clause-some c).pattern

pub returns-clause-exactly : goal.returns-clause-exactly
returns-clause-exactly c =
    let old = c.args.self in
    let gone = c.args.gone.now in
    let come = c.args.come.now in
    let one = c.take_all.new.creases in
    let now = c.put_all.new.creases in
    let same = creases_are _ old c.self.view_is in
    let out = left_of _ old.creases gone one same (c.take_all.ensures.left c.if-not-take_all.false) in
    let can = come_on c.sheet-sheet.result old.sheet one come c.sheet-sheet.ensures.sheet (shown c.in_ok-put_all.field-0 c.if-not-branch.false c.in_ok-put_all.ensures.all) in
    let leads = subst (λ (s : ExactSheet). Leads old (record { removed = gone; added = come }) (on s now)) c.sheet-sheet.ensures.sheet (returns-clause-some c) in
    answers_yes (Fits old (record { removed = gone; added = come })) (fits_made old (record { removed = gone; added = come }) one now c.requires.gone c.requires.come
    (there_in _ old.creases gone same (shown c.take_all.result c.if-not-take_all.false c.take_all.ensures.all)) out can leads)
