use Rattle.std.proofs.Common.{string_bytes, subst}
use Rattle.words.specs.FirstGiven.{IsFirst}
use Rattle.words.proofs.Elements.{cut_list}
use Rattle.words.proofs.given.first.Goals as goal

pub returns-in-len1-up-clause-none : goal.returns-in-len1-up-clause-none
returns-in-len1-up-clause-none c = λ n g behind f.
    c.first_by.ensures.none n g behind
    (subst (λ w. IsFirst w g behind) (cut_list string_bytes c.args.words.now c.word-item.result c.as_str.result.now c.in-len1-up.len_at_least c.word-item.is c.as_str.ensures.value) f)
