use Rattle.std.proofs.Common.{subst, ◌-◌, length, take}
use Rattle.std.specs.Prelude.{List, ℕ}
use Rattle.commands.specs.Lines.{IsWanted}
use Rattle.oriedit.proofs.UnitEnds.{line_ended}
use Rattle.oriedit.proofs.unfinished.Unfinished.end_line.Goals as goal

pub returns-clause-whole : goal.returns-clause-whole
returns-clause-whole c =
    let P : List ℕ → Type 0 = λ bytes. IsWanted (take (length bytes - 1) bytes) c.still_wanted-self.result in
    line_ended c.args.self.now.bytes.items c.extend_from_slice.new.self.items c.args.end.now c.args.self.now.wanted c.still_wanted-self.result
    (λ z. subst P c.deref.ensures.value (c.still_wanted-self.ensures.first z)) c.still_wanted-self.ensures.further c.requires.unfinished c.requires.line c.in_ok-extend_from_slice.ensures.items
