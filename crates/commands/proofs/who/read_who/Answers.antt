use Rattle.std.proofs.Common.{ℕ, ◌+◌, ◌-◌, List, length, take, drop, refl, sym, ◌∙◌}
use Rattle.std.proofs.lemmas.List.{take_rest}
use Rattle.commands.proofs.Whos.{whole_name, no_number, with_rev}
use Rattle.commands.proofs.who.read_who.Goals as goal

pub returns-in-None : goal.returns-in-None
returns-in-None c = whole_name c.args.bytes.now c.who_of.result (sym c.at_sign.ensures ∙ c.in-None.is) c.who_of.ensures

pub returns-in_err-rev-in-Some : goal.returns-in_err-rev-in-Some
returns-in_err-rev-in-Some c =
    let bytes : List ℕ = c.args.bytes.now in
    let at : ℕ = c.in-Some.at in
    rw c.from_residual.ensures (no_number bytes (take (length bytes - (at + 1)) (drop (at + 1) bytes)) at (sym c.at_sign.ensures ∙ c.in-Some.is) (take_rest bytes (at + 1)) c.in_err-rev-in-Some.ensures)

pub returns-in_ok-rev-in-Some : goal.returns-in_ok-rev-in-Some
returns-in_ok-rev-in-Some c =
    let bytes : List ℕ = c.args.bytes.now in
    let at : ℕ = c.in-Some.at in
    with_rev bytes (take at bytes) (take (length bytes - (at + 1)) (drop (at + 1) bytes)) at c.in_ok-rev-in-Some.rev c.who_of-in-Some.result (sym c.at_sign.ensures ∙ c.in-Some.is) refl (take_rest bytes (at + 1))
    c.in_ok-rev-in-Some.ensures.0 c.in_ok-rev-in-Some.ensures.1 c.who_of-in-Some.ensures
