use Rattle.std.proofs.Common.{rules, ◌∙◌, ap, codes}
use Rattle.clap.specs.Words.{first_of}
use Rattle.words.proofs.Spelled.{some_too}
use Rattle.words.proofs.Served.{generate_given, generate_spelled, generate_are_two}
use Rattle.words.proofs.further.for_generate.Goals as goal

pub returns-then-not-are_two-clause-none : goal.returns-then-not-are_two-clause-none
returns-then-not-are_two-clause-none c = λ _ s n a. let t = c.are_two.ensures.1 (generate_are_two _ s n a) in search (rules, t)

pub returns-clause-some : goal.returns-clause-some
returns-clause-some c =
    some_too _ _ c.generate_by.result (λ g f. generate_given _ _ _ g.0 g.1 (c.are_two.ensures.0 c.if-not-are_two.false) (c.found-seed.ensures ∙ ap (first_of (codes "seed")) c.in-Ok.ensures.found) (c.found-count.ensures ∙ ap (first_of (codes "count")) c.in-Ok.ensures.found) f) c.generate_by.ensures.some

pub returns-clause-none : goal.returns-clause-none
returns-clause-none c = λ e s n a.
    c.generate_by.ensures.none e s n (generate_spelled _ _ _ s n (c.found-seed.ensures ∙ ap (first_of (codes "seed")) c.in-Ok.ensures.found) (c.found-count.ensures ∙ ap (first_of (codes "count")) c.in-Ok.ensures.found) a)
