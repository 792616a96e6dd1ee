use Rattle.routes.proofs.query.pair_value.Goals as goal

pub returns-in_err-high-clause-none : goal.returns-in_err-high-clause-none
returns-in_err-high-clause-none c none byte p = c.in_err-high.ensures.value p.high p.is_first

pub returns-in_err-low-clause-none : goal.returns-in_err-low-clause-none
returns-in_err-low-clause-none c none byte p = c.in_err-low.ensures.value p.low p.is_second
