use Rattle.std.proofs.Common.{◌∙◌, ap, codes}
use Rattle.clap.specs.Words.{first_of}
use Rattle.words.specs.declared.argument.Argument.TheVariants as argument
use Rattle.words.proofs.Spelled.{check_spelled, check_given, some_too}
use Rattle.words.proofs.Served.{check_found}
use Rattle.words.proofs.further.for_check.Goals as goal

pub returns-clause-some : goal.returns-clause-some
returns-clause-some c =
    some_too _ _ c.check_by.result (λ s f. check_given _ _ _ _ _ _ s.0 s.1 (check_found _ argument.D _ (c.found-d.ensures ∙ ap (first_of (codes "d")) c.in-Ok.ensures.found)) (check_found _ argument.K _ (c.found-k.ensures ∙ ap (first_of (codes "k")) c.in-Ok.ensures.found)) (check_found _ argument.Tol _ (c.found-tol.ensures ∙ ap (first_of (codes "tol")) c.in-Ok.ensures.found)) (check_found _ argument.W _ (c.found-w.ensures ∙ ap (first_of (codes "w")) c.in-Ok.ensures.found)) (check_found _ argument.H _ (c.found-h.ensures ∙ ap (first_of (codes "h")) c.in-Ok.ensures.found)) (c.are_given.ensures.0 c.if-not-are_given.false) f) c.check_by.ensures.some

pub returns-clause-none : goal.returns-clause-none
returns-clause-none c = λ e lattice sheet a.
    c.check_by.ensures.none e lattice sheet (check_spelled _ _ _ _ _ _ lattice sheet (check_found _ argument.D _ (c.found-d.ensures ∙ ap (first_of (codes "d")) c.in-Ok.ensures.found)) (check_found _ argument.K _ (c.found-k.ensures ∙ ap (first_of (codes "k")) c.in-Ok.ensures.found)) (check_found _ argument.Tol _ (c.found-tol.ensures ∙ ap (first_of (codes "tol")) c.in-Ok.ensures.found)) (check_found _ argument.W _ (c.found-w.ensures ∙ ap (first_of (codes "w")) c.in-Ok.ensures.found)) (check_found _ argument.H _ (c.found-h.ensures ∙ ap (first_of (codes "h")) c.in-Ok.ensures.found)) a)
