use Rattle.std.proofs.Common.{arith, ◌≡◌, ◌∙◌, sym, length}
use Rattle.std.proofs.lemmas.Bool.{false≢true}
use Rattle.crimp.proofs.Pair.{base_up, base_down}
use Rattle.crimp.proofs.crimping.base.Goals as goal
use Rattle.crimp.proofs.crimping.base.Goals.{then-is_up, else-is_up}

pub returns-clause-some : goal.returns-clause-some
returns-clause-some c = λ x mark I.
    let two : length c.args.entries.now ≡ 2 = omega (arith, c.if-entries-ne2.false) in
    elim c.if-is_up.branch [
      | then-is_up w ↦ rw (w.result-is, w.pair.ensures) (base_up x mark c.args.entries.now two (λ o. false≢true (sym c.if-opposite.false ∙ c.opposite.ensures.1 o)) I (c.is_up.ensures.0 w.if-is_up.true))
      | else-is_up w ↦ rw (w.result-is, w.pair-else-is_up.ensures) (base_down x mark c.args.entries.now two (λ o. false≢true (sym c.if-opposite.false ∙ c.opposite.ensures.1 o)) I
          (λ u. false≢true (sym w.if-is_up.false ∙ c.is_up.ensures.1 u)))
    ]
