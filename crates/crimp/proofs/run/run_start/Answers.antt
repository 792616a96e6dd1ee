use Rattle.std.proofs.Common.{arith, below_more, refl, sym, ◌∙◌, inr}
use Rattle.std.proofs.lemmas.Bool.{false≢true}
use Rattle.crimp.specs.Entries.{BeginsRun}
use Rattle.crimp.proofs.run.run_start.Goals as goal

pub loop-i-preserved : goal.loop-i-preserved
loop-i-preserved c = below_more (λ j. BeginsRun c.args.entries.now j → ⊥) _ c.loop-i.invariant (λ B. false≢true (sym c.if-begins_run.false ∙ c.begins_run.ensures.1 B))

pub returns-clause-start : goal.returns-clause-start
returns-clause-start c = record { begins = inr (refl, λ j h. c.loop-i.invariant j (omega arith)); first = λ j h. absurd (omega arith) }
