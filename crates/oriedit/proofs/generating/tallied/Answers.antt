use Rattle.std.proofs.Common.{◌≤◌, ◌+◌, sym, subst, ap, ◌∙◌, refl, arith}
use Rattle.std.specs.Prelude.{Err}
use Rattle.std.proofs.lemmas.Result.{err_from_is_err_and}
use Rattle.oriedit.specs.Counting.{Tallies}
use Rattle.oriedit.proofs.Rounds.{no_turns, none_small, turn_named, turn_more, turn_broken}
use Rattle.oriedit.proofs.generating.tallied.Goals as goal

pub loop-n-init : goal.loop-n-init
loop-n-init g c = record {
  so_far = no_turns _ _ _ _ _ c.new-generator.ensures c.new-tally.ensures;
  small = none_small c.new-tally.result c.new-tally.ensures;
  keeper_faults = omega arith;
  keeper_clean = λ x. x;
  keeper_path = refl;
}

pub returns-in_err-tally-clause-turns : goal.returns-in_err-tally-clause-turns
returns-in_err-tally-clause-turns g c =
    let p = err_from_is_err_and c.from_residual.result c.from_residual.ensures.1 in
    let more : c.loop-n.n + 1 ≤ c.args.count = omega (arith, c.loop-n-test.true) in
    subst (Tallies _ _ _ _ _) (sym (p.1 ∙ ap Err p.2))
    (turn_broken _ c.loop-n.n _ _ c.command-command.new.self c.command-command.result _ _ _ _ _ _ c.in_err-tally.ensures.keeper_clean more c.loop-n.invariant.so_far
    (turn_named _ _ _ _ _ c.requires.name c.command-command.ensures) c.in_err-tally.ensures.turn)

pub loop-n-preserved : goal.loop-n-preserved
loop-n-preserved g c = record {
  so_far = turn_more _ c.loop-n.n _ c.command-command.new.self c.command-command.result _ _ _ _ _ _ _ c.in_ok-tally.ensures.keeper_clean c.loop-n.invariant.so_far
      (turn_named _ _ _ _ _ c.requires.name c.command-command.ensures) c.in_ok-tally.ensures.turn;
  small = c.in_ok-tally.ensures.small;
  keeper_faults = omega (arith, c.loop-n.invariant.keeper_faults, c.in_ok-tally.ensures.keeper_faults);
  keeper_clean = λ x. c.loop-n.invariant.keeper_clean (c.in_ok-tally.ensures.keeper_clean x);
  keeper_path = c.in_ok-tally.ensures.keeper_path ∙ c.loop-n.invariant.keeper_path;
}
