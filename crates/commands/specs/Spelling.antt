-- How the words of commands are spelled.
use Rattle.std.specs.Prelude.{ℕ, ◌≤◌, List, ◌++◌, IfSome}
use Rattle.sheet.specs.declared.mark.Mark.{Mark}
use Rattle.sheet.specs.declared.mark.Mark.TheVariants as mark
use Rattle.vocabulary.specs.Names.{IsName}
use Rattle.vocabulary.specs.Revs.{last_rev, rev_text}
use Rattle.commands.specs.declared.who.Who.{Who}

-- the letter of a mark
abbrev pub mark_letter : Mark → ℕ
mark_letter mark.M = 77
mark_letter mark.V = 86

-- a project of a name, and a rev that can be, where one is given
pub record IsWho (who : Who) : Type 0 where
  pub name : IsName who.name
  pub rev : IfSome who.rev (λ rev. rev ≤ last_rev)

abbrev pub who_text : Who → List ℕ
who_text who = who.name ++ rev_text who.rev
