use Rattle.std.proofs.Common.{sym, subst, arith, ◌∙◌}
use Rattle.std.proofs.lemmas.Bool.{false≢true}
use Rattle.lattice.specs.Search.{Fits}
use Rattle.lattice.proofs.Fitting.{stands}
use Rattle.lattice.proofs.search.candidate.Goals as goal
use Rattle.lattice.proofs.search.candidate.Goals.{then-i-window-via-then-i-window, then-i-window-via-else-i-window+then-have-need-2}

pub returns-then-have-need-clause-none : goal.returns-then-have-need-clause-none
returns-then-have-need-clause-none c = λ q f.
    let s = stands c.args.window c.args.n q c.args.j c.requires.window f in
    omega (arith, s.room, c.if-have-need.true)

pub returns-then-i-window-clause-none : goal.returns-then-i-window-clause-none
returns-then-i-window-clause-none c = λ q f.
    let s = stands c.args.window c.args.n q c.args.j c.requires.window f in
    elim c.then-i-window.branch [
      | then-i-window-via-then-i-window w ↦ omega (arith, s.quotient, f.i_small, w.if-i-window.true)
      | then-i-window-via-else-i-window+then-have-need-2 w ↦ omega (arith, s.rest, w.if-have-need-2.true)
    ]

pub returns-then-fits-clause-some : goal.returns-then-fits-clause-some
returns-then-fits-clause-some c = (c.fits.ensures.0 c.if-fits.true, λ q f. sym (stands c.args.window c.args.n q c.args.j c.requires.window f).quotient)

pub returns-else-fits-clause-none : goal.returns-else-fits-clause-none
returns-else-fits-clause-none c = λ q f.
    let s = stands c.args.window c.args.n q c.args.j c.requires.window f in
    false≢true (sym c.if-fits.false ∙ c.fits.ensures.1 (subst (λ i. Fits c.args.window c.args.n i c.args.j) (sym s.quotient) f))
