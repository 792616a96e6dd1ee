use Rattle.std.proofs.Common.{sym, subst}
use Rattle.rows.specs.Reading.{AreRowsOf}
use Rattle.projects.proofs.Callers.{some_gives}
use Rattle.rows.proofs.CreaseRows.{missing, formed_of, pattern_some, pattern_none}
use Rattle.rows.proofs.crease_rows.pattern_of.Goals as goal

pub returns-in_default-clause-none : goal.returns-in_default-clause-none
returns-in_default-clause-none c = λ _ made h. c.in_ok-creases.ensures.none (missing _ c.in_default.is) (formed_of c.args.sheet c.args.rows.now made h)

pub returns-clause-some : goal.returns-clause-some
returns-clause-some c = pattern_some c.args.sheet c.args.rows.now c.as_slice.result.now c.with_creases.result
    (subst (AreRowsOf c.args.rows.now) (sym c.as_slice.ensures) (some_gives (AreRowsOf c.args.rows.now) _ c.in-Some.creases c.in-Some.is c.in_ok-creases.ensures.some)) c.with_creases.ensures.some

pub returns-clause-none : goal.returns-clause-none
returns-clause-none c = pattern_none c.args.sheet c.args.rows.now c.as_slice.result.now c.with_creases.result
    (subst (AreRowsOf c.args.rows.now) (sym c.as_slice.ensures) (some_gives (AreRowsOf c.args.rows.now) _ c.in-Some.creases c.in-Some.is c.in_ok-creases.ensures.some)) c.with_creases.ensures.none
