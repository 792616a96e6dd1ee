use Rattle.std.proofs.Common.{◌∙◌, ap, codes}
use Rattle.clap.specs.Words.{first_of}
use Rattle.words.specs.declared.argument.Argument.TheVariants as argument
use Rattle.words.proofs.Spelled.{script_given}
use Rattle.words.proofs.Served.{script_found}
use Rattle.words.proofs.further.for_script.Goals as goal

pub returns-clause-some : goal.returns-clause-some
returns-clause-some c =
    script_given _ _ (script_found _ argument.Keep _ (c.found.ensures ∙ ap (first_of (codes "keep")) c.in-Ok.ensures.found)) (c.are_given.ensures.0 c.if-not-are_given.false)
